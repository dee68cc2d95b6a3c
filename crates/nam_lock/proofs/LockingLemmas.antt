-- what a locking makes of the words that it finds.
use Rattle.std.proofs.Common.{◌≡◌, ◌≢◌, ◌⊎◌, inl, inr, refl, sym, ◌∙◌, ap, subst, arith, true, false}
use Rattle.std.proofs.Common.{ℕ, zero, suc, ◌+◌, ◌-◌, ◌<◌, ◌≤◌, List, [], ◌∷◌, ◌++◌, length}
use Rattle.std.specs.Prelude.{◌==◌, ◌↔◌, if◌then◌else◌}
use Rattle.std.proofs.lemmas.Bool.Decides.{nat_tests}
use Rattle.std.proofs.lemmas.List.{append_assoc, append-nil, length-append}
use Rattle.nam_verbs.specs.declared.now.Now.{Now}
use Rattle.nam_verbs.specs.declared.now.Now.TheVariants.{At, Over}
use Rattle.nam_verbs.specs.VerbAt.{VerbAt}
use Rattle.nam_verbs.specs.Steps.{Step, Ends, Does, saw, writes_of, verbs_of}
use Rattle.nam_verbs.proofs.ReadingLemmas.{step_of}
use Rattle.nam_verbs.proofs.WritingLemmas.{writes_words}
use Rattle.nam_verbs.proofs.StepsLemmas.{verbs_are, does_verbs}
use Rattle.nam_verbs.proofs.TestLemmas.{by_test, by_equal}
use Rattle.nam_header.specs.Stamp.{sees, is_locked}
use Rattle.nam_layout.specs.declared.field.Place.{Place}
use Rattle.nam_calls.specs.declared.lock.Locks.{Locks}
use Rattle.nam_calls.specs.declared.lock.LockPoint.TheVariants.{Peek, Seize, GiveBack}
use Rattle.nam_calls.specs.declared.lock.LockEnd.{LockEnd}
use Rattle.nam_calls.specs.declared.lock.LockEnd.TheVariants.{Held, Locked, Newer}
use Rattle.nam_calls.specs.Lock.{locks_at, of_locks, lock_verb_by, lock_next, lock_after, loss_of, give_back}
use Rattle.nam_lock.specs.LockingLaw.{header_of, form_at, IsLocked, IsUnlocked, IsUnseen, IsFree, AreFree}
use Rattle.nam_lock.specs.LockingLaw.{tried_lock, locks_from, ReadsTaken, LosesExchange, GivesBack, MissesLock}
use Rattle.nam_lock.specs.LockingLaw.{IsLockingOf}

module _ {W : Type 0} (name : Place → W) (worker : ℕ) (places : List Place) (seen : List ℕ) where
  abbrev verb : Locks → VerbAt W
  verb = of_locks (lock_verb_by name worker places)

  abbrev after : Locks → ℕ → Now Locks LockEnd
  after = of_locks (lock_after places seen)

  abbrev EndsFrom : Now Locks LockEnd → List (Step W) → LockEnd → Type 0
  EndsFrom now steps end = Ends verb after now steps end

  abbrev read_of : ℕ → ℕ → Step W
  read_of nth found = saw (header_of name places nth) found

  abbrev try_of : ℕ → ℕ → ℕ → Step W
  try_of = tried_lock name places worker

  abbrev locks : ℕ → List ℕ → List (Step W)
  locks = locks_from name places worker

  abbrev Free : ℕ → ℕ → Type 0
  Free = IsFree places seen

  abbrev Missed : ℕ → ℕ → List (Step W) → Type 0
  Missed = MissesLock name worker places seen

  abbrev Misses : ℕ → ℕ → List (Step W) → Type 0
  Misses nth found steps =
      ReadsTaken name worker places seen nth found steps ⊎ LosesExchange name worker places seen nth found steps

  abbrev Given : List ℕ → ℕ → ℕ → List (Step W) → Type 0
  Given = GivesBack name worker places seen

  -- where it begins to give back, what it writes then, and how it ends
  abbrev missed_by : List ℕ → ℕ → Now Locks LockEnd
  missed_by held found = give_back places held 0 found

  abbrev writes : List ℕ → List (VerbAt W)
  writes held = writes_of (header_of name places) held

  abbrev loss : List ℕ → ℕ → LockEnd
  loss held found = loss_of (form_at places (length held)) (length held) found

  -- 1. Each word that was found, and what follows it

  peek_free : (held : List ℕ) (word : ℕ) → Free (length held) word
      → after (locks_at held Peek) word ≡ At (locks_at held (Seize word))
  peek_free held word free = let unlocked = free.0 in let visible = free.1 in rw (unlocked, visible) refl

  peek_taken : (held : List ℕ) (found : ℕ)
      → IsLocked places (length held) found ⊎ IsUnseen places seen (length held) found
      → after (locks_at held Peek) found ≡ missed_by held found
  peek_taken held found (inl taken) = rw taken refl
  peek_taken held found (inr unseen) =
      let form = form_at places (length held) in
      by_test (λ now. now ≡ missed_by held found) (is_locked form found) (missed_by held found)
      (if sees form seen found then At (locks_at held (Seize found)) else missed_by held found) (λ taken. refl)
      (λ unlocked. rw unseen refl)

  seize_same : (held : List ℕ) (header : ℕ) → after (locks_at held (Seize header)) header ≡ lock_next places (held ++ header ∷ [])
  seize_same held header = let same : (header == header) ≡ true = grind (arith, nat_tests) in rw same refl

  seize_other : (held : List ℕ) (header found : ℕ) → found ≢ header
      → after (locks_at held (Seize header)) found ≡ missed_by held found
  seize_other held header found differs =
      let other : (found == header) ≡ false = grind (arith, nat_tests) in rw other refl

  next_last : (held : List ℕ) → length held ≡ length places → lock_next places held ≡ Over (Held held)
  next_last held full =
      let last : (length held == length places) ≡ true = grind (arith, nat_tests) in rw last refl

  next_more : (held : List ℕ) → length held < length places → lock_next places held ≡ At (locks_at held Peek)
  next_more held more =
      let other : (length held == length places) ≡ false = grind (arith, nat_tests) in rw other refl

  -- all that it holds is written back, whatever is found
  gives_back : (held : List ℕ) (found : ℕ) → Does verb after (missed_by held found) (writes held) (loss held found)
  gives_back [] found = refl
  gives_back (header ∷ headers) found =
      let held = header ∷ headers in
      let some : (0 == length held) ≡ false = grind (arith, nat_tests) in
      let end = loss held found in
      let all = writes_words verb after (header_of name places) held (λ given. locks_at held (GiveBack given found)) (Over end)
      (λ nth. refl) (λ nth word. refl) [] end refl (omega arith) in
      rw some (subst (λ verbs. Does verb after (At (locks_at held (GiveBack 0 found))) verbs (loss held found))
      (append-nil (writes held)) all)

  -- 2. What steps tell of the end

  -- the steps after the last lock
  abbrev Finish : List ℕ → List (Step W) → LockEnd → Type 0
  Finish held steps (Held all) = (steps ≡ []) × (all ≡ held) × (length held ≡ length places)
  Finish held steps (Locked nth found) = Given held nth found steps × IsLocked places nth found
  Finish held steps (Newer nth found) = Given held nth found steps × IsUnlocked places nth found

  -- the steps with some locks held
  record From (held : List ℕ) (nth : ℕ) (steps : List (Step W)) (end : LockEnd) : Type 0 where
    headers : List ℕ
    free : AreFree places seen nth headers
    later : List (Step W)
    steps_are : steps ≡ locks nth headers ++ later
    finish : Finish (held ++ headers) later end

  -- 3. Of a locking that ended so

  finish_of : (held : List ℕ) (found : ℕ) (last back : List (Step W)) → length held < length places
      → Misses (length held) found last → verbs_of back ≡ writes held → Finish held (last ++ back) (loss held found)
  finish_of held found last back within missed written =
      let n = length held in
      let given : Given held n found (last ++ back) = record {
        within = within;
        before = refl;
        last = last;
        missed = missed;
        back = back;
        written = written;
        steps_are = refl;
      } in
      by_test (Finish held (last ++ back)) (is_locked (form_at places n) found) (Locked n found) (Newer n found)
      (λ test. (given, test)) (λ test. (given, test))

  misses_here : (held : List ℕ) (found : ℕ) (last back : List (Step W)) (end : LockEnd) → length held < length places
      → Misses (length held) found last → EndsFrom (missed_by held found) back end
      → From held (length held) (last ++ back) end
  misses_here held found last back end within missed ends =
      let both = verbs_are verb after (missed_by held found) (writes held) (loss held found)
      (gives_back held found) back end ends in
      let finish : Finish (held ++ []) (last ++ back) (loss held found) =
      rw append-nil (finish_of held found last back within missed both.0) in
      record {
        headers = [];
        free = tt;
        later = last ++ back;
        steps_are = refl;
        finish = subst (λ e. Finish (held ++ []) (last ++ back) e) (sym both.1) finish;
      }

  one_more : (held : List ℕ) (header : ℕ) (steps : List (Step W)) (end : LockEnd) → Free (length held) header
      → From (held ++ header ∷ []) (length (held ++ header ∷ [])) steps end
      → From held (length held) (read_of (length held) header ∷ try_of (length held) header header ∷ steps) end
  one_more held header steps end free from =
      let more = held ++ header ∷ [] in
      let later = subst (λ n. From more n steps end) (length-append held (header ∷ [])) from in
      record {
        headers = header ∷ later.headers;
        free = (free, later.free);
        later = later.later;
        steps_are = rw (later.steps_are) refl;
        finish = rw (append_assoc held (header ∷ []) later.headers) at later.finish;
      }

  -- what follows from the steps after a lock
  abbrev Continues : List ℕ → Type 0
  Continues held =
      (rest : List (Step W)) (end : LockEnd) → EndsFrom (lock_next places held) rest end
      → From held (length held) rest end

  from_seize : (held : List ℕ) (header : ℕ) (steps : List (Step W)) (end : LockEnd) → length held < length places
      → Free (length held) header → Continues (held ++ header ∷ []) → EndsFrom (At (locks_at held (Seize header))) steps end
      → From held (length held) (read_of (length held) header ∷ steps) end
  from_seize held header [] end within free continues ends = absurd ends
  from_seize held header (step ∷ steps) end within free continues ends =
      let n = length held in
      let found = step.found in
      let is : step ≡ try_of n header found = step_of _ step ends.0 in
      let Claim = λ (now : Now Locks LockEnd). EndsFrom now steps end
      → From held n (read_of n header ∷ step ∷ steps) end in
      by_equal Claim found header (lock_next places (held ++ header ∷ [])) (missed_by held found)
      (λ same goes.
      let locked : step ≡ try_of n header header = is ∙ ap (try_of n header) same in
      rw locked (one_more held header steps end free (continues steps end goes)))
      (λ differs goes.
      let loses : LosesExchange name worker places seen n found (read_of n header ∷ step ∷ []) =
      record { header = header; free = free; differs = differs; steps_are = rw (← is) refl } in
      misses_here held found (read_of n header ∷ step ∷ []) steps end within (inr loses) goes)
      ends.1

  from_peek : (held : List ℕ) → length held < length places → ((header : ℕ) → Continues (held ++ header ∷ []))
      → (steps : List (Step W)) (end : LockEnd) → EndsFrom (At (locks_at held Peek)) steps end
      → From held (length held) steps end
  from_peek held within continues [] end ends = absurd ends
  from_peek held within continues (step ∷ steps) end ends =
      let n = length held in
      let found = step.found in
      let is : step ≡ read_of n found = step_of _ step ends.0 in
      let Claim = λ (now : Now Locks LockEnd). EndsFrom now steps end → From held n (step ∷ steps) end in
      let misses : IsLocked places n found ⊎ IsUnseen places seen n found → Claim (missed_by held found) =
      λ why goes. misses_here held found (step ∷ []) steps end within (inl (rw (← is) refl, why)) goes in
      by_test Claim (is_locked (form_at places n) found) (missed_by held found)
      (if sees (form_at places n) seen found then At (locks_at held (Seize found)) else missed_by held found)
      (λ taken. misses (inl taken))
      (λ unlocked.
      by_test Claim (sees (form_at places n) seen found) (At (locks_at held (Seize found))) (missed_by held found)
      (λ visible goes. rw is (from_seize held found steps end within (unlocked, visible) (continues found) goes))
      (λ unseen. misses (inr unseen)))
      ends.1

  all_held : (held : List ℕ) (steps : List (Step W)) (end : LockEnd) → length held ≡ length places
      → EndsFrom (Over (Held held)) steps end → From held (length held) steps end
  all_held held (step ∷ steps) end full ends = absurd ends
  all_held held [] end full ends =
      let finish : Finish (held ++ []) [] (Held held) = (refl, sym (append-nil held), rw append-nil full) in
      subst (λ e. From held (length held) [] e) ends
      (record { headers = []; free = tt; later = []; steps_are = refl; finish = finish })

  from_more : (more : ℕ) (held : List ℕ) → length held + suc more ≡ length places
      → (steps : List (Step W)) (end : LockEnd)
      → EndsFrom (At (locks_at held Peek)) steps end → From held (length held) steps end
  from_more zero held count =
      from_peek held (omega arith) (λ header rest end goes.
      let all = held ++ header ∷ [] in
      let full : length all ≡ length places = omega (arith, length-append held (header ∷ [])) in
      all_held all rest end full (subst (λ now. EndsFrom now rest end) (next_last all full) goes))
  from_more (suc more) held count =
      from_peek held (omega arith) (λ header rest end goes.
      let all = held ++ header ∷ [] in
      let long = length-append held (header ∷ []) in
      from_more more all (omega arith) rest end
      (subst (λ now. EndsFrom now rest end) (next_more all (omega arith)) goes))

  from_start : (steps : List (Step W)) (end : LockEnd) → EndsFrom (lock_next places []) steps end → From [] 0 steps end
  from_start steps end =
      by_equal (λ now. EndsFrom now steps end → From [] 0 steps end) (length {A = ℕ} []) (length places)
      (Over (Held [])) (At (locks_at [] Peek)) (λ none goes. all_held [] steps end none goes)
      (λ some goes. from_more (length places - 1) [] (omega arith) steps end goes)

  -- 4. By steps it ends so

  ends_missed : (held : List ℕ) (found : ℕ) (last back : List (Step W)) (end : LockEnd)
      → Misses (length held) found last
      → verbs_of back ≡ writes held → end ≡ loss held found → EndsFrom (At (locks_at held Peek)) (last ++ back) end
  ends_missed held found last back end missed written ending =
      let ends = does_verbs verb after (missed_by held found) (writes held) (loss held found) (gives_back held found)
      back end written ending in
      elim missed [
        | inl taken ↦
            rw taken.0 (refl, subst (λ now. EndsFrom now back end) (sym (peek_taken held found taken.1)) ends)
        | inr lost ↦
            let tries = try_of (length held) lost.header found ∷ back in
            let lose = seize_other held lost.header found lost.differs in
            let seizes = subst (λ now. EndsFrom now back end) (sym lose) ends in
            rw lost.steps_are (
              refl,
              subst (λ now. EndsFrom now tries end) (sym (peek_free held lost.header lost.free))
                  (refl, seizes),
            )
      ]

  ends_given : (held : List ℕ) (nth found : ℕ) (steps : List (Step W)) (end : LockEnd) → Given held nth found steps
      → end ≡ loss_of (form_at places nth) nth found → EndsFrom (At (locks_at held Peek)) steps end
  ends_given held nth found steps end given ending =
      let missed = subst (λ n. Misses n found given.last) (sym given.before) given.missed in
      rw given.steps_are (ends_missed held found given.last given.back end missed given.written
      (rw given.before ending))

  -- no more are locked than there are
  few : (held : List ℕ) (later : List (Step W)) (end : LockEnd) → Finish held later end → length held ≤ length places
  few held later (Held all) finish = omega (arith, finish.2)
  few held later (Locked nth found) finish = let given = finish.0 in omega (arith, given.before, given.within)
  few held later (Newer nth found) finish = let given = finish.0 in omega (arith, given.before, given.within)

  -- the last lock was taken
  ends_over : (headers held : List ℕ) (later : List (Step W)) (end : LockEnd) → length held ≡ length places
      → Finish (held ++ headers) later end → EndsFrom (Over (Held held)) (locks (length held) headers ++ later) end
  ends_over [] held later (Held all) full finish =
      let none = finish.0 in rw none (ap Held (sym (finish.1 ∙ append-nil held)))
  ends_over (header ∷ headers) held later (Held all) full finish =
      absurd (omega (arith, finish.2, length-append held (header ∷ headers)))
  ends_over headers held later (Locked nth found) full finish =
      let given = finish.0 in absurd (omega (arith, given.before, given.within, length-append held headers))
  ends_over headers held later (Newer nth found) full finish =
      let given = finish.0 in absurd (omega (arith, given.before, given.within, length-append held headers))

  ends_peek : (held : List ℕ) (later : List (Step W)) (end : LockEnd) → length held < length places
      → Finish held later end
      → EndsFrom (At (locks_at held Peek)) later end
  ends_peek held later (Held all) within finish = absurd (omega (arith, finish.2))
  ends_peek held later (Locked nth found) within finish =
      let taken = finish.1 in ends_given held nth found later (Locked nth found) finish.0 (rw taken refl)
  ends_peek held later (Newer nth found) within finish =
      let unlocked = finish.1 in ends_given held nth found later (Newer nth found) finish.0 (rw unlocked refl)

  ends_more : (headers held : List ℕ) (later : List (Step W)) (end : LockEnd) → length held < length places
      → AreFree places seen (length held) headers → Finish (held ++ headers) later end
      → EndsFrom (At (locks_at held Peek)) (locks (length held) headers ++ later) end
  ends_more [] held later end within free finish = ends_peek held later end within (rw append-nil at finish)
  ends_more (header ∷ headers) held later end within free finish =
      let n = length held in
      let more = held ++ header ∷ [] in
      let rest = λ (m : ℕ). locks m headers ++ later in
      let long : length more ≡ n + 1 = length-append held (header ∷ []) in
      let all : Finish (more ++ headers) later end = rw (append_assoc held (header ∷ []) headers) finish in
      let most = few (more ++ headers) later end all in
      let both = length-append more headers in
      let goes = by_equal (λ now. EndsFrom now (rest (length more)) end) (length more) (length places)
      (Over (Held more)) (At (locks_at more Peek)) (λ full. ends_over headers more later end full all)
      (λ further. ends_more headers more later end (omega arith)
      (subst (λ m. AreFree places seen m headers) (sym long) free.1) all) in
      let ends = subst (λ m. EndsFrom (lock_next places more) (rest m) end) long goes in
      let seizes = subst (λ now. EndsFrom now (rest (n + 1)) end) (sym (seize_same held header)) ends in
      let tries = try_of n header header ∷ rest (n + 1) in
      (refl, subst (λ now. EndsFrom now tries end) (sym (peek_free held header free.0)) (refl, seizes))

  ends_start : (steps : List (Step W)) (end : LockEnd) → From [] 0 steps end → EndsFrom (lock_next places []) steps end
  ends_start steps end from =
      rw from.steps_are (by_equal (λ now. EndsFrom now (locks 0 from.headers ++ from.later) end)
      (length {A = ℕ} []) (length places) (Over (Held [])) (At (locks_at [] Peek))
      (λ none. ends_over from.headers [] from.later end none from.finish)
      (λ some. ends_more from.headers [] from.later end (omega arith) from.free from.finish))

  -- 5. Both

  law_of : (steps : List (Step W)) (end : LockEnd) (headers : List ℕ) (later : List (Step W))
      → AreFree places seen 0 headers
      → steps ≡ locks 0 headers ++ later → Finish headers later end → IsLockingOf name worker places seen end steps
  law_of steps (Held held) headers later free steps_are finish =
      let none = finish.0 in
      let same = finish.1 in
      record {
        whole = rw same finish.2;
        free = rw same free;
        steps_are = steps_are ∙ rw (none, same) (append-nil (locks 0 headers));
      }
  law_of steps (Locked nth found) headers later free steps_are finish = (
    record { held = headers; free = free; rest = later; missed = finish.0; steps_are = steps_are },
    finish.1,
  )
  law_of steps (Newer nth found) headers later free steps_are finish = (
    record { held = headers; free = free; rest = later; missed = finish.0; steps_are = steps_are },
    finish.1,
  )

  from_missed : (nth found : ℕ) (steps : List (Step W)) (end : LockEnd) (missed : Missed nth found steps)
      → Finish missed.held missed.rest end → From [] 0 steps end
  from_missed nth found steps end missed finish = record {
    headers = missed.held;
    free = missed.free;
    later = missed.rest;
    steps_are = missed.steps_are;
    finish = finish;
  }

  from_law : (steps : List (Step W)) (end : LockEnd) → IsLockingOf name worker places seen end steps
      → From [] 0 steps end
  from_law steps (Held held) all = record {
    headers = held;
    free = all.free;
    later = [];
    steps_are = all.steps_are ∙ sym (append-nil (locks 0 held));
    finish = (refl, refl, all.whole);
  }
  from_law steps (Locked nth found) both =
      from_missed nth found steps (Locked nth found) both.0 (both.0.missed, both.1)
  from_law steps (Newer nth found) both =
      from_missed nth found steps (Newer nth found) both.0 (both.0.missed, both.1)

  pub locking_ends : (steps : List (Step W)) (end : LockEnd)
      → EndsFrom (lock_next places []) steps end ↔ IsLockingOf name worker places seen end steps
  locking_ends steps end = (
    λ ends.
        let from = from_start steps end ends in
        law_of steps end from.headers from.later from.free from.steps_are from.finish,
    λ law. ends_start steps end (from_law steps end law),
  )
