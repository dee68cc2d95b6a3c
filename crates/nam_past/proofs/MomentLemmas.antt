-- One client's step keeps the moments of snapshots, where the order goes on with the vector.
use Rattle.std.proofs.Common.{List, None, Option, Some, [], arith, inl, inr, length, refl, slice_set, subst, sym, ℕ}
use Rattle.std.proofs.Common.{⊎_elim, ◌++◌, ◌+◌, ◌<◌, ◌∙◌, ◌∷◌, ◌≡◌, ◌≢◌, ◌≤◌, ◌⊎◌}
use Rattle.std.proofs.lemmas.Bool.{cases_eq, cases_lt}
use Rattle.std.proofs.lemmas.List.{length_push}
use Rattle.std.proofs.lemmas.Option.{slice_get_within}
use Rattle.std.specs.Prelude.{slice_get, slice_index}
use Rattle.nam_ghost.proofs.ListLemmas.{got_push}
use Rattle.nam_ghost.specs.Moments.{HasGrown, IsCandidate, IsCandidateOf, IsPassing, Observer, ObserverNext, ObserverOk}
use Rattle.nam_ghost.specs.Moments.{PassOk}
use Rattle.nam_past.proofs.CountLemmas.{after_rises, after_stays, more_other, more_own}
use Rattle.nam_past.specs.Past.{ArePast, HasMoment, IsNext, entry_after}
use Rattle.nam_store.proofs.Lists.{someone_set}
use Rattle.nam_vector.specs.declared.snap.SnapPoint.{SnapPoint}
use Rattle.nam_vector.specs.declared.snap.SnapPoint.TheVariants.{First, Second}
use Rattle.si_model.specs.declared.log.Stamp.{Stamp}

-- 1. The order

-- the stamp that a worker publishes next
abbrev pub next_stamp : ℕ → ℕ → Stamp
next_stamp worker entry = record { thread = worker + 1; number = entry + 1 }

-- neither the vector nor the order is changed; or one worker publishes its next number
pub data OrderNext (workers : ℕ) (V now : ℕ → ℕ) (order : List Stamp) : List Stamp → Type 0 where
  Stays : (same : (a : ℕ) → a < workers → now a ≡ V a) → OrderNext workers V now order order
  Adds : (worker : ℕ) (within : worker < workers) (here : now worker ≡ V worker + 1)
      (others : (a : ℕ) → a < workers → a ≢ worker → now a ≡ V a)
      → OrderNext workers V now order (order ++ next_stamp worker (V worker) ∷ [])

-- what all rely on of it
pub record OrderGoes (start workers : ℕ) (now : ℕ → ℕ) (order later : List Stamp) : Type 0 where
  pub numbered : (place : ℕ) (stamp : Stamp) → slice_get later place ≡ Some stamp
      → IsNext start workers later place stamp
  pub vector : (a : ℕ) → a < workers → now a ≡ entry_after start later (length later) a
  pub longer : length order ≤ length later
  pub stays : (count a : ℕ) → count ≤ length order → entry_after start later count a ≡ entry_after start order count a

module _ (start workers : ℕ) (V : ℕ → ℕ) (observers : List Observer) (order : List Stamp)
    (past : ArePast start workers V observers order) (now : ℕ → ℕ) where
  -- a stamp that stood there keeps its place, and its number is the one after the others
  next_stays : (later : List Stamp) (place : ℕ) (stamp : Stamp)
      → ((a : ℕ) → entry_after start later place a ≡ entry_after start order place a)
      → IsNext start workers order place stamp → IsNext start workers later place stamp
  next_stays later place stamp same is = record {
    worker = is.worker;
    inside = is.inside;
    stamp_is = is.stamp_is ∙ (λ t. record { thread = is.worker + 1; number = sym (same is.worker) t + 1 });
  }

  adds_numbered : (worker : ℕ) → worker < workers → (place : ℕ) (stamp : Stamp)
      → slice_get (order ++ next_stamp worker (V worker) ∷ []) place ≡ Some stamp
      → IsNext start workers (order ++ next_stamp worker (V worker) ∷ []) place stamp
  adds_numbered worker within place stamp at =
      let new = next_stamp worker (V worker) in
      ⊎_elim
      (λ (was : slice_get order place ≡ Some stamp).
      let short = slice_get_within order place stamp was in
      next_stays (order ++ new ∷ []) place stamp (λ a. after_stays start order new place a (omega arith))
      (past.numbered place stamp was))
      (λ (last : (place ≡ length order) × (new ≡ stamp)).
      subst (λ (x : ℕ × Stamp). IsNext start workers (order ++ new ∷ []) x.0 x.1) (λ t. (sym last.0 t, last.1 t))
      record {
        worker = worker;
        inside = within;
        stamp_is =
            let entry = past.vector worker within
            ∙ sym (after_stays start order new (length order) worker (omega arith)) in
            λ t. record { thread = worker + 1; number = entry t + 1 };
      })
      (got_push order new stamp place at)

  pub order_goes : (later : List Stamp) → OrderNext workers V now order later
      → OrderGoes start workers now order later
  order_goes _ (Stays same) = record {
    numbered = past.numbered;
    vector = λ a less. same a less ∙ past.vector a less;
    longer = omega arith;
    stays = λ count a less. refl;
  }
  order_goes _ (Adds worker within here others) =
      let new = next_stamp worker (V worker) in
      record {
        numbered = adds_numbered worker within;
        vector = λ a less. elim (cases_eq a worker) [
          | inl own ↦
              let was = past.vector worker within in
              let more = more_own start order new worker refl in
              subst (λ b. now b ≡ entry_after start (order ++ new ∷ []) (length (order ++ new ∷ [])) b) (sym own)
              (omega arith)
          | inr apart ↦
              let same = others a less apart in
              let was = past.vector a less in
              let none = more_other start order new a (λ e. apart (omega arith)) in omega arith
        ];
        longer = let one = length_push order new in omega arith;
        stays = λ count a less. after_stays start order new count a less;
      }

-- 2. One snapshot

module _ (start workers : ℕ) (now : ℕ → ℕ) (order later : List Stamp)
    (goes : OrderGoes start workers now order later) where
  moment_stays : (s : List ℕ) (confirmed : ℕ) → HasMoment start workers order s confirmed
      → HasMoment start workers later s confirmed
  moment_stays s confirmed has =
      let within = has.within in
      let longer = goes.longer in
      record {
        count = has.count;
        within = omega arith;
        found = λ a less. let found = has.found a less in let same = goes.stays has.count a has.within in omega arith;
        same = λ a less. has.same a less ∙ sym (goes.stays has.count a has.within);
      }

  -- the entries that were confirmed since then are the vector's, and were so at its moment
  confirms : (s : List ℕ) (before confirmed : ℕ) → confirmed ≤ workers
      → ((a : ℕ) → before ≤ a → a < confirmed → now a ≤ slice_index s a) → HasMoment start workers later s before
      → HasMoment start workers later s confirmed
  confirms s before confirmed few agrees has = record {
    count = has.count;
    within = has.within;
    found = has.found;
    same = λ a less. elim (cases_lt a before) [
      | inl earlier ↦ has.same a earlier
      | inr since ↦
          let found = has.found a (omega arith) in
          let rose = after_rises start later has.count (length later) a has.within in
          let entry = goes.vector a (omega arith) in
          let most = agrees a since less in omega arith
    ];
  }

  pub grown_has : (Was : List ℕ → ℕ → Type 0) → ((s : List ℕ) (j : ℕ) → Was s j → HasMoment start workers order s j)
      → (s : List ℕ) (confirmed : ℕ) → confirmed ≤ workers → HasGrown start workers now Was s confirmed
      → HasMoment start workers later s confirmed
  grown_has Was had s confirmed few (inl (before, was, agrees)) =
      confirms s before confirmed few agrees (moment_stays s before (had s before was))
  grown_has Was had s confirmed few (inr (none, found)) = record {
    count = length later;
    within = omega arith;
    found = λ a less. let most = (found a less).1 in let entry = goes.vector a less in omega arith;
    same = λ a less. absurd (omega arith);
  }

-- 3. All snapshots

-- no more entries are confirmed than there are workers
passing_few : (start workers : ℕ) (V : ℕ → ℕ) (snaps : List (List ℕ)) (pass : Option SnapPoint) (s : List ℕ)
    (confirmed : ℕ) → PassOk start workers V snaps pass → IsPassing pass s confirmed → confirmed ≤ workers
passing_few start workers V snaps None s confirmed ok is = absurd is
passing_few start workers V snaps (Some (First got)) s confirmed ok is = absurd is
passing_few start workers V snaps (Some (Second seen at)) s confirmed ok is =
    let less = ok.0 in let same = is.1 in omega arith

candidate_few : (start workers : ℕ) (V : ℕ → ℕ) (nth : ℕ) (observer : Observer)
    → ObserverOk start workers V nth observer → (s : List ℕ) (confirmed : ℕ)
    → IsCandidateOf workers observer s confirmed → confirmed ≤ workers
candidate_few start workers V nth observer ok s confirmed (inl passing) =
    passing_few start workers V observer.snaps observer.pass s confirmed ok.pass passing
candidate_few start workers V nth observer ok s confirmed (inr taken) = let all = taken.0 in omega arith

module _ (start workers : ℕ) (V : ℕ → ℕ) (observers : List Observer) (nth : ℕ) (before : Observer)
    (here : slice_get observers nth ≡ Some before) (now : ℕ → ℕ) (after : Observer)
    (next : ObserverNext start workers V now nth before after) (order later : List Stamp)
    (past : ArePast start workers V observers order) (goes : OrderNext workers V now order later) where
  moments_keep : (s : List ℕ) (confirmed : ℕ) → IsCandidate workers (slice_set observers nth after) s confirmed
      → HasMoment start workers later s confirmed
  moments_keep s confirmed is =
      by_client (someone_set (λ _ observer. IsCandidateOf workers observer s confirmed) observers nth after is)
    where
      goes_so : OrderGoes start workers now order later
      goes_so = order_goes start workers V observers order past now later goes

      by_client : (IsCandidateOf workers after s confirmed)
          ⊎ ((other : ℕ) × ((x : Observer) × ((other ≢ nth) × ((slice_get observers other ≡ Some x)
          × IsCandidateOf workers x s confirmed))))
          → HasMoment start workers later s confirmed
      by_client (inl own) =
          grown_has start workers now order later goes_so (IsCandidateOf workers before)
          (λ t j was. past.moments t j (nth, (before, (here, was)))) s confirmed
          (candidate_few start workers now nth after next.own s confirmed own) (next.grown s confirmed own)
      by_client (inr (other, (x, (apart, (there, was))))) =
          moment_stays start workers now order later goes_so s confirmed
          (past.moments s confirmed (other, (x, (there, was))))

  pub past_keeps : ArePast start workers now (slice_set observers nth after) later
  past_keeps =
      let so = order_goes start workers V observers order past now later goes in
      record { numbered = so.numbered; vector = so.vector; moments = moments_keep }
