-- which locks stand at each moment of a locking.
use Rattle.std.proofs.Common.{◌≡◌, ◌⊎◌, inl, inr, refl, sym, ◌∙◌, ap, subst, arith, add-one, true, false}
use Rattle.std.proofs.Common.{ℕ, zero, suc, ◌+◌, ◌<◌, ◌≤◌, List, [], ◌∷◌, ◌++◌, length, take}
use Rattle.std.specs.Prelude.{◌==◌, if◌then◌else◌, slice_index}
use Rattle.std.proofs.lemmas.List.{append_assoc, append-nil, length-append, map-append, take_all}
use Rattle.std.proofs.lemmas.Grind.{flat_map-append}
use Rattle.std.proofs.lemmas.Bool.Decides.{nat_tests}
use Rattle.nam_verbs.specs.declared.now.Now.{Now}
use Rattle.nam_verbs.specs.declared.now.Now.TheVariants.{At, Over}
use Rattle.nam_verbs.specs.VerbAt.{VerbAt, WriteAt}
use Rattle.nam_verbs.specs.Now.{FitsNow}
use Rattle.nam_verbs.specs.Machine.{after_words}
use Rattle.nam_verbs.specs.Running.{Running}
use Rattle.nam_verbs.specs.Steps.{Step, saw, writes_from, writes_of, verbs_of}
use Rattle.nam_verbs.specs.SoFar.{steps_from}
use Rattle.nam_verbs.proofs.HistoryLemmas as past
use Rattle.nam_verbs.proofs.TestLemmas.{by_test, by_equal}
use Rattle.nam_header.specs.Stamp.{sees, is_locked}
use Rattle.nam_layout.specs.declared.field.Place.{Place}
use Rattle.nam_calls.specs.declared.lock.LockPoint.{LockPoint}
use Rattle.nam_calls.specs.declared.lock.Locks.{Locks}
use Rattle.nam_calls.specs.declared.lock.LockPoint.TheVariants.{Peek, Seize, GiveBack}
use Rattle.nam_calls.specs.declared.lock.LockEnd.{LockEnd}
use Rattle.nam_calls.specs.declared.lock.LockEnd.TheVariants.{Held, Locked, Newer}
use Rattle.nam_calls.specs.Lock.{locks_at, of_locks, lock_verb_by, lock_next, lock_after, lock_left, loss_of, give_back}
use Rattle.nam_lock.specs.Locking.{running}
use Rattle.nam_lock.specs.LockingLaw.{header_of, form_at, IsFree, AreFree}
use Rattle.nam_lock.specs.LockingLaw.{tried_lock, locks_from, ReadsTaken, LosesExchange, MissesLock, IsLockingOf}
use Rattle.nam_lock.specs.MomentLaw.{GivenSoFar, LocksSoFar, stored_by, all_stored, locked_from, unlocked_from}
use Rattle.nam_lock.specs.MomentLaw.{IsChanged, ChangedSoFar}
use Rattle.nam_lock.proofs.LockingLemmas.{locking_ends}

-- 1. One header more

free_more : (places : List Place) (seen headers : List ℕ) (nth last header : ℕ) → nth + length headers ≡ last
    → AreFree places seen nth headers → IsFree places seen last header
    → AreFree places seen nth (headers ++ header ∷ [])
free_more places seen [] nth last header is free here =
    let same : last ≡ nth = omega arith in (subst (λ n. IsFree places seen n header) same here, tt)
free_more places seen (other ∷ headers) nth last header is free here =
    (free.0, free_more places seen headers (nth + 1) last header (omega arith) free.1 here)

locks_more : {W : Type 0} (name : Place → W) (places : List Place) (headers : List ℕ) (worker nth last header : ℕ)
    → nth + length headers ≡ last
    → locks_from name places worker nth (headers ++ header ∷ [])
    ≡ locks_from name places worker nth headers
    ++ saw (header_of name places last) header ∷ tried_lock name places worker last header header ∷ []
locks_more name places [] worker nth last header is = let same : nth ≡ last = omega arith in rw same refl
locks_more name places (other ∷ headers) worker nth last header is =
    rw (locks_more name places headers worker (nth + 1) last header (omega arith)) refl

writes_more : {W : Type 0} (at : ℕ → W) (words : List ℕ) (nth given last : ℕ) → given < length words
    → nth + given ≡ last
    → writes_from at nth (take (suc given) words)
    ≡ writes_from at nth (take given words) ++ WriteAt (at last) (slice_index words given) ∷ []
writes_more at [] nth given last within is = absurd (omega arith)
writes_more at (word ∷ words) nth zero last within is = let same : nth ≡ last = omega arith in rw same refl
writes_more at (word ∷ words) nth (suc given) last within is =
    rw (writes_more at words (nth + 1) given last (omega arith) (omega arith)) refl

-- 2. The steps that led to each point

module _ {W : Type 0} (name : Place → W) (worker : ℕ) (places : List Place) (seen : List ℕ) where
  abbrev verb : Locks → VerbAt W
  verb = of_locks (lock_verb_by name worker places)

  abbrev after : Locks → ℕ → Now Locks LockEnd
  after = of_locks (lock_after places seen)

  abbrev left : Locks → ℕ
  left = of_locks (lock_left places (length places))

  abbrev call : Now Locks LockEnd → Running W Locks LockEnd
  call state = record { address = λ w. 0; reach = 0; verb = verb; after = after; left = left; state = state }

  abbrev machine : Now Locks LockEnd → Running Place Locks LockEnd
  machine state = running (record { worker = worker; places = places; seen = seen; state = state })

  -- where it stands doesn't depend on the names of the headers
  same_state : (now : Now Locks LockEnd) (words : List ℕ)
      → (after_words (call now) words).state ≡ (after_words (machine now) words).state
  same_state now [] = refl
  same_state (Over end) (word ∷ words) = same_state (Over end) words
  same_state (At at) (word ∷ words) = same_state (after at word) words

  abbrev begins : Now Locks LockEnd
  begins = lock_next places []

  abbrev steps_so_far : List ℕ → List (Step W)
  steps_so_far words = steps_from verb after begins words

  abbrev locks : List ℕ → List (Step W)
  locks = locks_from name places worker 0

  abbrev Given : List ℕ → ℕ → ℕ → List (Step W) → Type 0
  Given = GivenSoFar name worker places seen

  abbrev Holds : Locks → List (Step W) → Type 0
  Holds = of_locks (LocksSoFar name worker places seen)

  abbrev HoldsNow : Now Locks LockEnd → List (Step W) → Type 0
  HoldsNow = past.HoldsNow verb after (λ w. 0) 0 left Holds

  abbrev step_at : Locks → ℕ → Step W
  step_at = past.step_at verb after

  -- it goes on to give back, or has given back all
  back_holds : (held : List ℕ) (given found : ℕ) (steps : List (Step W)) → length held < length places
      → given ≤ length held → Given held given found steps → HoldsNow (give_back places held given found) steps
  back_holds held given found steps within least all =
      by_equal (λ now. HoldsNow now steps) given (length held)
      (Over (loss_of (form_at places (length held)) (length held) found)) (At (locks_at held (GiveBack given found)))
      (λ last. tt) (λ more. (within, omega arith, all))

  -- a lock was missed
  missed_holds : (held : List ℕ) (found : ℕ) (last steps : List (Step W)) → length held < length places
      → AreFree places seen 0 held
      → ReadsTaken name worker places seen (length held) found last
      ⊎ LosesExchange name worker places seen (length held) found last
      → steps ≡ locks held ++ last → HoldsNow (give_back places held 0 found) steps
  missed_holds held found last steps within free missed is =
      back_holds held 0 found steps within (omega arith) (record {
        free = free;
        last = last;
        missed = missed;
        back = [];
        written = refl;
        steps_are = is ∙ sym (append-nil (locks held ++ last));
      })

  -- the next record, or the end with all
  next_holds : (held : List ℕ) (steps : List (Step W)) → length held ≤ length places → AreFree places seen 0 held
      → steps ≡ locks held → HoldsNow (lock_next places held) steps
  next_holds held steps most free is =
      by_equal (λ now. HoldsNow now steps) (length held) (length places) (Over (Held held)) (At (locks_at held Peek))
      (λ last. tt) (λ more. (omega arith, free, is))

  keeps_at : (held : List ℕ) (at : LockPoint) (before : List (Step W)) → Holds (locks_at held at) before
      → (found : ℕ)
      → HoldsNow (after (locks_at held at) found) (before ++ step_at (locks_at held at) found ∷ [])
  keeps_at held Peek before holds found =
      let n = length held in
      let step = saw (header_of name places n) found in
      let steps = before ++ step ∷ [] in
      let are : steps ≡ locks held ++ step ∷ [] = ap (λ all. all ++ step ∷ []) holds.2 in
      let form = form_at places n in
      let back = give_back places held 0 found in
      let Claim = λ (now : Now Locks LockEnd). HoldsNow now steps in
      by_test Claim (is_locked form found) back (if sees form seen found then At (locks_at held (Seize found)) else back)
      (λ taken. missed_holds held found (step ∷ []) steps holds.0 holds.1 (inl (refl, inl taken)) are)
      (λ unlocked.
      by_test Claim (sees form seen found) (At (locks_at held (Seize found))) back
      (λ visible. (holds.0, holds.1, (unlocked, visible), are))
      (λ unseen. missed_holds held found (step ∷ []) steps holds.0 holds.1 (inl (refl, inr unseen)) are))
  keeps_at held (Seize header) before holds found =
      let n = length held in
      let read = saw (header_of name places n) header in
      let step = tried_lock name places worker n header found in
      let steps = before ++ step ∷ [] in
      let more = held ++ header ∷ [] in
      let long = length-append held (header ∷ []) in
      let are : steps ≡ locks held ++ read ∷ step ∷ [] =
      ap (λ all. all ++ step ∷ []) holds.3 ∙ append_assoc (locks held) (read ∷ []) (step ∷ []) in
      by_equal (λ now. HoldsNow now steps) found header (lock_next places more) (give_back places held 0 found)
      (λ same.
      let stored : step ≡ tried_lock name places worker n header header =
      ap (tried_lock name places worker n header) same in
      next_holds more steps (omega (arith, holds.0))
      (free_more places seen held 0 n header (omega arith) holds.1 holds.2)
      (are ∙ ap (λ (s : Step W). locks held ++ read ∷ s ∷ []) stored
      ∙ sym (locks_more name places held worker 0 n header (omega arith))))
      (λ differs. missed_holds held found (read ∷ step ∷ []) steps holds.0 holds.1
      (inr (record { header = header; free = holds.2; differs = differs; steps_are = refl })) are)
  keeps_at held (GiveBack given found) before holds word =
      let step = step_at (locks_at held (GiveBack given found)) word in
      let so_far = holds.2 in
      let within = holds.1 in
      let wrote : verbs_of (so_far.back ++ step ∷ []) ≡ writes_of (header_of name places) (take (given + 1) held) =
      map-append (λ (s : Step W). s.verb) so_far.back (step ∷ [])
      ∙ ap (λ verbs. verbs ++ step.verb ∷ []) so_far.written
      ∙ sym (writes_more (header_of name places) held 0 given given within (omega arith))
      ∙ ap (λ n. writes_of (header_of name places) (take n held)) (sym (add-one given)) in
      back_holds held (given + 1) found (before ++ step ∷ []) holds.0 (omega arith) (record {
        free = so_far.free;
        last = so_far.last;
        missed = so_far.missed;
        back = so_far.back ++ step ∷ [];
        written = wrote;
        steps_are = ap (λ all. all ++ step ∷ []) so_far.steps_are
            ∙ append_assoc (locks held ++ so_far.last) so_far.back (step ∷ []);
      })

  keeps : (at : Locks) (before : List (Step W)) → Holds at before → (found : ℕ)
      → HoldsNow (after at found) (before ++ step_at at found ∷ [])
  keeps at = keeps_at at.held at.at

  fits_now : (now : Now Locks LockEnd) (steps : List (Step W)) → HoldsNow now steps
      → FitsNow (λ at. Holds at steps) now
  fits_now (At at) steps holds = holds
  fits_now (Over end) steps holds = tt

  holds_after : (words : List ℕ) → HoldsNow (after_words (call begins) words).state (steps_so_far words)
  holds_after words =
      past.history verb after (λ w. 0) 0 left Holds keeps begins [] (next_holds [] [] (omega arith) tt refl) words

  pub locks_so_far : (words : List ℕ)
      → FitsNow (λ at. Holds at (steps_so_far words)) (after_words (machine begins) words).state
  locks_so_far words =
      subst (λ now. FitsNow (λ at. Holds at (steps_so_far words)) now) (same_state begins words)
      (fits_now _ _ (holds_after words))

  -- 3. What the steps stored

  stored_locks : (nth : ℕ) (headers : List ℕ)
      → all_stored (locks_from name places worker nth headers) ≡ locked_from name worker places nth headers
  stored_locks nth [] = refl
  stored_locks nth (header ∷ headers) =
      let same : (header == header) ≡ true = grind (arith, nat_tests) in
      rw (same, stored_locks (nth + 1) headers) refl

  stored_none : (nth found : ℕ) (last : List (Step W))
      → ReadsTaken name worker places seen nth found last ⊎ LosesExchange name worker places seen nth found last
      → all_stored last ≡ []
  stored_none nth found last (inl taken) = rw taken.0 refl
  stored_none nth found last (inr lost) =
      let differs = lost.differs in
      let other : (found == lost.header) ≡ false = grind (arith, nat_tests) in rw (lost.steps_are, other) refl

  stored_back : (nth : ℕ) (headers : List ℕ) (back : List (Step W))
      → verbs_of back ≡ writes_from (header_of name places) nth headers
      → all_stored back ≡ unlocked_from name worker places nth headers
  stored_back nth [] [] written = refl
  stored_back nth [] (step ∷ back) written = absurd (cc)
  stored_back nth (header ∷ headers) [] written = absurd (cc)
  stored_back nth (header ∷ headers) (step ∷ back) written =
      let first : step.verb ≡ WriteAt (header_of name places nth) header = cc in
      let rest : verbs_of back ≡ writes_from (header_of name places) (nth + 1) headers = cc in
      rw (first, stored_back (nth + 1) headers back rest) refl

  abbrev Changed : List ℕ → ℕ → List (Step W) → Type 0
  Changed = IsChanged name worker places

  stored_both : (first rest : List (Step W)) → all_stored (first ++ rest) ≡ all_stored first ++ all_stored rest
  stored_both = flat_map-append (λ (step : Step W). stored_by step.verb step.found)

  changed_by : (held : List ℕ) (given : ℕ) (last back steps : List (Step W)) → all_stored last ≡ []
      → verbs_of back ≡ writes_of (header_of name places) (take given held) → steps ≡ (locks held ++ last) ++ back
      → Changed held given steps
  changed_by held given last back steps none written is =
      let all = stored_locks 0 held in
      let again = stored_back 0 (take given held) back written in
      rw (is, stored_both (locks held ++ last) back, stored_both (locks held) last, all, none, again, append-nil) refl

  -- nothing was written back
  changed_locks : (held : List ℕ) (last steps : List (Step W)) → all_stored last ≡ [] → steps ≡ locks held ++ last
      → Changed held 0 steps
  changed_locks held last steps none is =
      changed_by held 0 last [] steps none refl (is ∙ sym (append-nil (locks held ++ last)))

  -- all was written back
  changed_missed : (nth found : ℕ) (steps : List (Step W)) → MissesLock name worker places seen nth found steps
      → (held : List ℕ) × (length held ≡ nth) × Changed held nth steps
  changed_missed nth found steps misses =
      let held = misses.held in
      let given = misses.missed in
      let whole : take nth held ≡ held = take_all nth held (omega (arith, given.before)) in (
        held,
        given.before,
        changed_by held nth given.last given.back steps (stored_none nth found given.last given.missed)
            (given.written ∙ ap (λ headers. writes_of (header_of name places) headers) (sym whole))
            (misses.steps_are ∙ ap (λ rest. locks held ++ rest) given.steps_are
            ∙ sym (append_assoc (locks held) given.last given.back)),
      )

  changed_end : (end : LockEnd) (steps : List (Step W)) → IsLockingOf name worker places seen end steps
      → ChangedSoFar name worker places (Over end) steps
  changed_end (Held held) steps all =
      changed_locks held [] steps refl (all.steps_are ∙ sym (append-nil (locks held)))
  changed_end (Locked nth found) steps both = changed_missed nth found steps both.0
  changed_end (Newer nth found) steps both = changed_missed nth found steps both.0

  changed_at : (held : List ℕ) (at : LockPoint) (steps : List (Step W)) → Holds (locks_at held at) steps
      → ChangedSoFar name worker places (At (locks_at held at)) steps
  changed_at held Peek steps holds =
      changed_locks held [] steps refl (holds.2 ∙ sym (append-nil (locks held)))
  changed_at held (Seize header) steps holds =
      changed_locks held (saw (header_of name places (length held)) header ∷ []) steps refl holds.3
  changed_at held (GiveBack given found) steps holds =
      let so_far = holds.2 in
      changed_by held given so_far.last so_far.back steps
      (stored_none (length held) found so_far.last so_far.missed) so_far.written so_far.steps_are

  changed_now : (now : Now Locks LockEnd) (steps : List (Step W)) → HoldsNow now steps
      → past.Leads verb after begins steps now → ChangedSoFar name worker places now steps
  changed_now (At at) steps holds leads = changed_at at.held at.at steps holds
  changed_now (Over end) steps holds leads =
      changed_end end steps
      ((locking_ends name worker places seen steps end).0 (past.leads_to_end verb after begins steps end leads))

  pub changed_so_far : (words : List ℕ)
      → ChangedSoFar name worker places (after_words (machine begins) words).state (steps_so_far words)
  changed_so_far words =
      subst (λ now. ChangedSoFar name worker places now (steps_so_far words)) (same_state begins words)
      (changed_now _ _ (holds_after words) (past.leads_by verb after (λ w. 0) 0 left Holds begins words))
