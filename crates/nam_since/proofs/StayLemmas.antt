-- One client's step keeps what is said of publications, where each that is overtaken is in the vector afterwards.
use Rattle.std.proofs.Common.{List, Some, ap, arith, inl, inr, length, ℕ, ◌+◌, ◌<◌, ◌≡◌, ◌≤◌}
use Rattle.std.proofs.lemmas.Option.{slice_get_within}
use Rattle.std.specs.Prelude.{slice_get, slice_set, true}
use Rattle.nam_ghost.proofs.ListLemmas.{listed_got}
use Rattle.nam_ghost.proofs.ObserverLemmas.{entries_rise, grown_wide, was_or_is}
use Rattle.nam_ghost.proofs.VisibleLemmas.{sees_by}
use Rattle.nam_ghost.specs.Moments.{AreObservers, IsCandidate, IsUnpassed, Observer, ObserverNext}
use Rattle.nam_ghost.specs.Publications.{Publication, PublicationsOk}
use Rattle.nam_ghost.specs.Since.{IsOvertaken, IsSince, WasPublished}
use Rattle.nam_ghost.specs.Versions.{Chain}
use Rattle.nam_header.specs.Visible.{is_visible}
use Rattle.nam_store.proofs.Lists.{some_within}
use Rattle.nam_store.specs.Everyone.{Everyone}
use Rattle.si_model.specs.Lists.{Listed}
use Rattle.si_model.specs.declared.log.Stamp.{Stamp}

-- the vector has reached the stamp, which is a worker's; workers count from 0
pub record IsEntered (workers : ℕ) (V : ℕ → ℕ) (stamp : Stamp) : Type 0 where
  pub worker : ℕ
  pub within : worker < workers
  pub thread : stamp.thread ≡ worker + 1
  pub reached : stamp.number ≤ V worker

module _ (start workers : ℕ) (V : ℕ → ℕ) (observers : List Observer) (ok : AreObservers start workers V observers) where
  -- the vector has reached each publication
  module _ (chains : ℕ → Chain) (published : ℕ → List Publication)
      (publications : Everyone (PublicationsOk start chains published) observers)
      (inside : (nth : ℕ) (commit : Publication) → Listed commit (published nth) → nth < workers) where
    pub entered : (commit : Publication) → WasPublished published commit → IsEntered workers V commit.stamp
    entered commit (nth, listed) =
        let within = inside nth commit listed in
        let all = ok.all in
        let observer = some_within observers nth (omega arith) in
        let own = publications nth observer.0 observer.1 in
        let at = listed_got (published nth) commit listed in
        let less = slice_get_within (published nth) at.0 commit at.1 in
        let stamped = own.stamped at.0 commit at.1 in
        let entry = (ok.each nth observer.0 observer.1).entry in
        let count = own.all in
        let number = ap (λ (s : Stamp). s.number) stamped in
        record {
          worker = nth;
          within = within;
          thread = ap (λ (s : Stamp). s.thread) stamped;
          reached = omega arith;
        }

  module _ (nth : ℕ) (before : Observer) (here : slice_get observers nth ≡ Some before) (now : ℕ → ℕ)
      (after : Observer) (next : ObserverNext start workers V now nth before after) where
    pub stays_entered : (stamp : Stamp) → IsEntered workers V stamp → IsEntered workers now stamp
    stays_entered stamp is =
        let rose = entries_rise start workers V observers ok nth before here now after next is.worker is.within in
        let reached = is.reached in
        record { worker = is.worker; within = is.within; thread = is.thread; reached = omega arith }

    abbrev later : List Observer
    later = slice_set observers nth after

    -- a snapshot was one before, or has all entries as they are now, so that it sees whatever the vector has reached
    pub since_stays : (published : ℕ → List Publication) (order : List Stamp)
        → IsSince workers V observers published order
        → ((first second : Publication) → WasPublished published first → WasPublished published second
        → IsOvertaken first second → IsEntered workers now first.stamp)
        → IsSince workers now later published order
    since_stays published order since reaches = record {
      inside = since.inside;
      listed = since.listed;
      comes = since.comes;
      once = since.once;
      before = since.before;
      contained = contained;
    }
      where
        wide : (s : List ℕ) (confirmed : ℕ) → IsCandidate workers later s confirmed → length s ≡ workers
        wide s confirmed is =
            grown_wide start workers V observers ok nth before here now after next s confirmed is

        contained : (first second : Publication) → WasPublished published first → WasPublished published second
            → IsOvertaken first second → (s : List ℕ) (confirmed : ℕ) → IsCandidate workers later s confirmed
            → IsUnpassed workers now s confirmed → is_visible second.stamp s ≡ true → is_visible first.stamp s ≡ true
        contained first second a b over s confirmed is unpassed sees =
            elim (was_or_is start workers V observers ok nth before here now after next s confirmed is unpassed) [
              | inl (earlier, was, still) ↦ since.contained first second a b over s earlier was still sees
              | inr all ↦
                  let entry = reaches first second a b over in
                  let most = all entry.worker entry.within in
                  let long = wide s confirmed is in
                  let within = entry.within in
                  let reached = entry.reached in
                  sees_by first.stamp entry.worker s entry.thread (omega arith) (omega arith)
            ]
