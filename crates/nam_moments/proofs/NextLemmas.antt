-- What one client's step owes keeps what holds of all clients as observers of the vector.
use Rattle.std.proofs.Common.{List, None, Option, Some, arith, length-set, ℕ, ◌<◌, ◌∙◌, ◌≡◌, ◌≤◌}
use Rattle.std.proofs.lemmas.Option.{slice_get_within}
use Rattle.std.specs.Prelude.{slice_get, slice_set}
use Rattle.nam_ghost.proofs.ObserverLemmas.{all_grown, entries_rise}
use Rattle.nam_ghost.specs.Moments.{AreObservers, IsCandidate, Observer, ObserverNext, ObserverOk, PassOk}
use Rattle.nam_moments.proofs.CandidateLemmas.{moments_keep}
use Rattle.nam_store.proofs.Lists.{everyone_set}
use Rattle.nam_vector.specs.declared.snap.SnapPoint.{SnapPoint}
use Rattle.nam_vector.specs.declared.snap.SnapPoint.TheVariants.{First, Second}

module _ (start workers : ℕ) (V now : ℕ → ℕ) (rises : (a : ℕ) → a < workers → V a ≤ now a) where
  -- what a pass has found stays within the vector
  pass_rises : (snaps : List (List ℕ)) (pass : Option SnapPoint) → PassOk start workers V snaps pass
      → PassOk start workers now snaps pass
  pass_rises snaps None ok = tt
  pass_rises snaps (Some (First got)) ok = (
    ok.0,
    (λ a less. let short = ok.0 in let found = ok.1 a less in let rose = rises a (omega arith) in
        (found.0, omega arith)),
    ok.2,
  )
  pass_rises snaps (Some (Second seen at)) ok = ok

module _ (start workers : ℕ) (V : ℕ → ℕ) (observers : List Observer) (ok : AreObservers start workers V observers)
    (nth : ℕ) (before : Observer) (here : slice_get observers nth ≡ Some before) where
  pub observer_within : nth < workers
  observer_within = let all = ok.all in let within = slice_get_within observers nth before here in omega arith

  module _ (now : ℕ → ℕ) (after : Observer) (next : ObserverNext start workers V now nth before after) where
    abbrev rise : (a : ℕ) → a < workers → V a ≤ now a
    rise = entries_rise start workers V observers ok nth before here now after next

    pub observers_keep : AreObservers start workers now (slice_set observers nth after)
    observers_keep = record {
      all = length-set observers nth after ∙ ok.all;
      least = λ a less. let least = ok.least a less in let rose = rise a less in omega arith;
      each = everyone_set (ObserverOk start workers V) (ObserverOk start workers now) observers nth after ok.each
          (λ other x apart there was. record {
            entry = let within = slice_get_within observers other x there in let all = ok.all in
                next.others other (omega arith) apart ∙ was.entry;
            pass = pass_rises start workers V now rise x.snaps x.pass was.pass;
            finds_own = was.finds_own;
            wide = was.wide;
          })
          next.own;
      moments = moments_keep start workers V now (IsCandidate workers observers)
          (IsCandidate workers (slice_set observers nth after)) rise ok.moments
          (all_grown start workers V observers ok nth before here now after next);
    }
