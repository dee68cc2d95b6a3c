-- what a snapshot makes of the words that its verbs find
use Rattle.std.proofs.Common.{◌≡◌, ◌≢◌, ℕ, ◌+◌, ◌<◌, ◌≤◌, List, [], ◌∷◌, ◌++◌, length, drop}
use Rattle.std.proofs.Common.{refl, sym, ◌∙◌, ap, subst, arith}
use Rattle.std.specs.Prelude.{◌==◌, if◌then◌else◌, slice_index}
use Rattle.std.proofs.lemmas.List.{append_assoc, append-nil, length-append, drop_more, drop_all, get_or_at}
use Rattle.nam_verbs.specs.declared.now.Now.{Now}
use Rattle.nam_verbs.specs.declared.now.Now.TheVariants.{At, Over}
use Rattle.nam_verbs.specs.Steps.{Step, Ends, saw, saw_from, words_of}
use Rattle.nam_verbs.proofs.TestLemmas.{by_equal, if_in}
use Rattle.nam_verbs.proofs.ReadingLemmas.{step_of, words_read, reads_words, length_saw, words_of_saw}
use Rattle.nam_layout.specs.declared.field.Field.{Field}
use Rattle.nam_vector.specs.declared.snap.SnapPoint.{SnapPoint}
use Rattle.nam_vector.specs.declared.snap.SnapPoint.TheVariants.{First, Second}
use Rattle.nam_vector.specs.declared.snap.SnapEnd.{SnapEnd}
use Rattle.nam_vector.specs.declared.snap.SnapEnd.TheVariants.{Done, Again}
use Rattle.nam_vector.specs.Snap.{nth_entry, snap_begin, snap_verb, snap_after}
use Rattle.nam_vector.specs.SnapLaw.{pass, BothPassesFound, EntryDiffers, NeverFall}

-- the second pass found some of the entries again that it had yet to find, and then another
pub record Differs (at : ℕ) (entries : List ℕ) (steps : List (Step Field)) (worker first second : ℕ) : Type 0 where
  pub same : List ℕ
  pub later : List ℕ
  pub before : entries ≡ same ++ first ∷ later
  pub passed : steps ≡ saw_from nth_entry at (same ++ second ∷ [])
  pub place : worker ≡ at + length same + 1
  pub differs : first ≢ second

-- what the second pass, which has yet to find these entries again, makes of words
abbrev SecondEnds : List ℕ → List ℕ → ℕ → List (Step Field) → SnapEnd → Type 0
SecondEnds seen entries at steps (Done result) = (result ≡ seen) × (steps ≡ saw_from nth_entry at entries)
SecondEnds seen entries at steps (Again worker first second) = Differs at entries steps worker first second

-- what a snapshot makes of words
abbrev Says : ℕ → List (Step Field) → SnapEnd → Type 0
Says workers steps (Done seen) = BothPassesFound workers steps seen
Says workers steps (Again worker first second) = EntryDiffers workers steps worker first second

-- the read of an entry
abbrev saw_entry : ℕ → ℕ → Step Field
saw_entry at word = saw (nth_entry at) word

same_word : (at word other : ℕ) → saw_entry at word ≡ saw_entry at other → word ≡ other
same_word at word other same = ap (λ (step : Step Field). step.found) same

-- one more entry is found again before the rest
one_more : (seen entries : List ℕ) (at entry word : ℕ) (steps : List (Step Field)) (end : SnapEnd) → word ≡ entry
    → SecondEnds seen entries (at + 1) steps end → SecondEnds seen (entry ∷ entries) at (saw_entry at word ∷ steps) end
one_more seen entries at entry word steps (Done result) same later = (later.0, rw (same, later.1) refl)
one_more seen entries at entry word steps (Again worker first second) same later = record {
  same = entry ∷ later.same;
  later = later.later;
  before = ap (λ es. entry ∷ es) later.before;
  passed = rw (same, later.passed) refl;
  place = omega arith;
  differs = later.differs;
}

-- the rest, after an entry that is found again
one_less : (seen entries : List ℕ) (at entry word : ℕ) (steps : List (Step Field)) (end : SnapEnd) → word ≡ entry
    → SecondEnds seen (entry ∷ entries) at (saw_entry at word ∷ steps) end → SecondEnds seen entries (at + 1) steps end
one_less seen entries at entry word steps (Done result) same ends = (ends.0, cc (ends.1))
one_less seen entries at entry word steps (Again worker first second) same ends =
    let fewer : (front : List ℕ) → entry ∷ entries ≡ front ++ first ∷ ends.later
    → saw_entry at word ∷ steps ≡ saw_from nth_entry at (front ++ second ∷ []) → worker ≡ at + length front + 1
    → Differs (at + 1) entries steps worker first second =
    elim [
      | [] ↦ λ before passed place.
          let found : saw_entry at word ≡ saw_entry at second = cc in
          let is = same_word at word second found in absurd (ends.differs (cc))
      | x ∷ front ↦ λ before passed place. record {
        same = front;
        later = ends.later;
        before = cc;
        passed = cc;
        place = omega arith;
        differs = ends.differs;
      }
    ] in
    fewer ends.same ends.before ends.passed ends.place

-- the second pass finds at least one word where it has an entry to find
nothing_ends : (seen : List ℕ) (entry : ℕ) (entries : List ℕ) (at : ℕ) (end : SnapEnd)
    → SecondEnds seen (entry ∷ entries) at [] end → ⊥
nothing_ends seen entry entries at (Done result) ends = let none = ends.1 in cc
nothing_ends seen entry entries at (Again worker first second) ends =
    omega (
      arith,
      ap length ends.passed ∙ length_saw nth_entry at (ends.same ++ second ∷ []),
      length-append ends.same (second ∷ []),
    )

-- all entries are found again
all_found : (seen : List ℕ) (at : ℕ) (steps : List (Step Field)) (end : SnapEnd) → SecondEnds seen [] at steps end
    → (Done seen ≡ end) × (steps ≡ [])
all_found seen at steps (Done result) ends = (ap Done (sym ends.0), ends.1)
all_found seen at steps (Again worker first second) ends =
    absurd (omega (arith, ap length ends.before ∙ length-append ends.same (first ∷ ends.later)))

-- another word is found
other_found : (seen entries : List ℕ) (at entry word : ℕ) (steps : List (Step Field)) (end : SnapEnd) → word ≢ entry
    → SecondEnds seen (entry ∷ entries) at (saw_entry at word ∷ steps) end
    → (Again (at + 1) entry word ≡ end) × (steps ≡ [])
other_found seen entries at entry word steps (Done result) other ends =
    let is = ends.1 in let found : saw_entry at word ≡ saw_entry at entry = cc in
    absurd (other (same_word at word entry found))
other_found seen entries at entry word steps (Again worker first second) other ends =
    let none : (front : List ℕ) → entry ∷ entries ≡ front ++ first ∷ ends.later
    → saw_entry at word ∷ steps ≡ saw_from nth_entry at (front ++ second ∷ []) → worker ≡ at + length front + 1
    → (Again (at + 1) entry word ≡ Again worker first second) × (steps ≡ []) =
    elim [
      | [] ↦ λ before passed place.
          let here : worker ≡ at + 1 = omega arith in
          let found : saw_entry at word ≡ saw_entry at second = cc in
          let is = same_word at word second found in (cc, cc)
      | x ∷ front ↦ λ before passed place.
          let found : saw_entry at word ≡ saw_entry at x = cc in
          let is = same_word at word x found in absurd (other (cc))
    ] in
    none ends.same ends.before ends.passed ends.place

-- its first step reads the entry that it has to find
reads_entry : (seen : List ℕ) (entry : ℕ) (entries : List ℕ) (at : ℕ) (step : Step Field) (steps : List (Step Field))
    (end : SnapEnd) → SecondEnds seen (entry ∷ entries) at (step ∷ steps) end → step ≡ saw_entry at step.found
reads_entry seen entry entries at step steps (Done result) ends =
    let all = ends.1 in let is : step ≡ saw_entry at entry = cc in
    is ∙ ap (saw_entry at) (sym (ap (λ (s : Step Field). s.found) is))
reads_entry seen entry entries at step steps (Again worker first second) ends =
    let first_is : (front : List ℕ) → step ∷ steps ≡ saw_from nth_entry at (front ++ second ∷ [])
    → step ≡ saw_entry at step.found =
    elim [
      | [] ↦ λ all.
          let is : step ≡ saw_entry at second = cc in
          is ∙ ap (saw_entry at) (sym (ap (λ (s : Step Field). s.found) is))
      | x ∷ front ↦ λ all.
          let is : step ≡ saw_entry at x = cc in
          is ∙ ap (saw_entry at) (sym (ap (λ (s : Step Field). s.found) is))
    ] in
    first_is ends.same ends.passed

-- the words of a pass
words_of_pass : (entries : List ℕ) → words_of (pass entries) ≡ entries
words_of_pass entries = simp append-nil at (words_of_saw nth_entry 0 entries [])

module _ (workers : ℕ) where
  -- a snapshot that stands here does these steps, and ends so with the last of them
  abbrev EndsFrom : Now SnapPoint SnapEnd → List (Step Field) → SnapEnd → Type 0
  EndsFrom now steps end = Ends snap_verb (snap_after workers) now steps end

  over_is : (over : SnapEnd) (steps : List (Step Field)) (end : SnapEnd) → EndsFrom (Over over) steps end
      → (over ≡ end) × (steps ≡ [])
  over_is over [] end ends = (ends, refl)
  over_is over (step ∷ steps) end ends = absurd ends

  is_over : (over : SnapEnd) (steps : List (Step Field)) (end : SnapEnd) → over ≡ end → steps ≡ []
      → EndsFrom (Over over) steps end
  is_over over [] end is none = is
  is_over over (step ∷ steps) end is none = absurd (cc)

  -- what the second pass makes of words
  second_ends : (seen : List ℕ) (at : ℕ) (steps : List (Step Field)) (end : SnapEnd) → length seen ≡ workers
      → at < workers → EndsFrom (At (Second seen at)) steps end → SecondEnds seen (drop at seen) at steps end
  second_ends seen at [] end long within ends = absurd ends
  second_ends seen at (step ∷ steps) end long within ends =
      let entry = slice_index seen at in let entries = drop (at + 1) seen in let word = step.found in
      let is : step ≡ saw_entry at word = step_of _ step ends.0 in
      let before : drop at seen ≡ entry ∷ entries = drop_more seen at 0 (omega arith) in
      let Claim = λ (now : Now SnapPoint SnapEnd).
      EndsFrom now steps end → SecondEnds seen (entry ∷ entries) at (saw_entry at word ∷ steps) end in
      rw before (subst (λ first. SecondEnds seen (entry ∷ entries) at (first ∷ steps) end) (sym is)
      (by_equal Claim word entry (if at + 1 == workers then Over (Done seen) else At (Second seen (at + 1)))
      (Over (Again (at + 1) entry word))
      (λ same. by_equal Claim (at + 1) workers (Over (Done seen)) (At (Second seen (at + 1)))
      (λ last over. let o = over_is (Done seen) steps end over in
      one_more seen entries at entry word steps end same
      (subst (SecondEnds seen entries (at + 1) steps) o.0
      (refl, o.1 ∙ sym (ap (saw_from nth_entry (at + 1)) (drop_all (at + 1) seen (omega arith))))))
      (λ more goes. one_more seen entries at entry word steps end same
      (second_ends seen (at + 1) steps end long (omega arith) goes)))
      (λ other over. let o = over_is (Again (at + 1) entry word) steps end over in
      subst (SecondEnds seen (entry ∷ entries) at (saw_entry at word ∷ steps)) o.0 (record {
        same = [];
        later = entries;
        before = refl;
        passed = ap (λ rest. saw_entry at word ∷ rest) o.1;
        place = omega arith;
        differs = λ eq. other (sym eq);
      }))
      ends.1))

  -- the steps by which the second pass ends so
  second_ends_by : (seen : List ℕ) (at : ℕ) (steps : List (Step Field)) (end : SnapEnd) → length seen ≡ workers
      → at < workers → SecondEnds seen (drop at seen) at steps end → EndsFrom (At (Second seen at)) steps end
  second_ends_by seen at [] end long within ends =
      absurd (nothing_ends seen (slice_index seen at) (drop (at + 1) seen) at end
      (rw (drop_more seen at 0 (omega arith)) at ends))
  second_ends_by seen at (step ∷ steps) end long within ends =
      let entry = slice_index seen at in let entries = drop (at + 1) seen in let word = step.found in
      let all : SecondEnds seen (entry ∷ entries) at (step ∷ steps) end =
      rw (drop_more seen at 0 (omega arith)) at ends in
      let is = reads_entry seen entry entries at step steps end all in
      let found : SecondEnds seen (entry ∷ entries) at (saw_entry at word ∷ steps) end =
      subst (λ first. SecondEnds seen (entry ∷ entries) at (first ∷ steps) end) is all in
      let Claim = λ (now : Now SnapPoint SnapEnd). EndsFrom now steps end in (
        sym (ap (λ (s : Step Field). s.verb) is),
        by_equal Claim word entry (if at + 1 == workers then Over (Done seen) else At (Second seen (at + 1)))
            (Over (Again (at + 1) entry word))
            (λ same. let later = one_less seen entries at entry word steps end same found in
            by_equal Claim (at + 1) workers (Over (Done seen)) (At (Second seen (at + 1)))
            (λ last. let o = all_found seen (at + 1) steps end (rw (drop_all (at + 1) seen (omega arith)) at later) in
            is_over (Done seen) steps end o.0 o.1)
            (λ more. second_ends_by seen (at + 1) steps end long (omega arith) later))
            (λ other. let o = other_found seen entries at entry word steps end other found in
            is_over (Again (at + 1) entry word) steps end o.0 o.1),
      )

  -- 1. What a whole snapshot makes of words

  whole_pass : (seen : List ℕ) (steps : List (Step Field)) (end : SnapEnd) → length seen ≡ workers
      → SecondEnds seen seen 0 steps end → Says workers (pass seen ++ steps) end
  whole_pass seen steps (Done result) long ends =
      record { whole = rw ends.0 long; passes = rw (ends.0, ends.1) refl }
  whole_pass seen steps (Again worker first second) long ends = record {
    same = ends.same;
    later = ends.later;
    whole = ap length (sym ends.before) ∙ long;
    passes = rw (ends.passed, ← ends.before) refl;
    place = omega (arith, ends.place);
    differs = ends.differs;
  }

  pub snap_ends : 1 ≤ workers → (steps : List (Step Field)) (end : SnapEnd) → EndsFrom (At snap_begin) steps end
      → Says workers steps end
  snap_ends least steps end ends =
      let all = words_read snap_verb (snap_after workers) nth_entry workers First (λ seen. At (Second seen 0))
      (λ got. refl) (λ got word. if_in At _ _ _) least steps end ends in
      rw all.2 (whole_pass all.0 all.1 end all.3 (second_ends all.0 0 all.1 end all.3 least all.4))

  -- 2. By these steps it ends so

  first_pass : 1 ≤ workers → (seen : List ℕ) (steps : List (Step Field)) (end : SnapEnd) → length seen ≡ workers
      → SecondEnds seen seen 0 steps end → EndsFrom (At snap_begin) (pass seen ++ steps) end
  first_pass least seen steps end long ends =
      reads_words snap_verb (snap_after workers) nth_entry workers First (λ seen. At (Second seen 0))
      (λ got. refl) (λ got word. if_in At _ _ _) seen least long steps end
      (second_ends_by seen 0 steps end long least ends)

  pub ends_snap : 1 ≤ workers → (steps : List (Step Field)) (end : SnapEnd) → Says workers steps end
      → EndsFrom (At snap_begin) steps end
  ends_snap least steps (Done seen) says =
      rw says.passes (first_pass least seen (pass seen) (Done seen) says.whole (refl, refl))
  ends_snap least steps (Again worker first second) says =
      rw says.passes (first_pass least (says.same ++ first ∷ says.later) (pass (says.same ++ second ∷ []))
      (Again worker first second) says.whole (record {
        same = says.same;
        later = says.later;
        before = refl;
        passed = refl;
        place = omega (arith, says.place);
        differs = says.differs;
      }))

  -- 3. An entry that differs is above what it was, where no entry falls

  rises_in : (same later words : List ℕ) (first second : ℕ) → length (same ++ first ∷ later) ≡ workers
      → words ≡ (same ++ first ∷ later) ++ (same ++ second ∷ []) → first ≢ second → NeverFall workers words
      → first < second
  rises_in same later words first second whole passes differs never =
      let entries = same ++ first ∷ later in
      let k = length same in
      let all = ap length passes ∙ length-append entries (same ++ second ∷ []) in
      let again = length-append same (second ∷ []) in
      let once = length-append same (first ∷ later) in
      let rises : slice_index words k ≤ slice_index words (k + workers) = never k (omega arith) in
      let before : slice_index words k ≡ first =
      rw (passes, append_assoc) (get_or_at same first (later ++ (same ++ second ∷ [])) 0 k refl) in
      let after : slice_index words (k + workers) ≡ second =
      rw passes (rw (← append_assoc) (get_or_at (entries ++ same) second [] 0 (k + workers)
      (length-append entries same ∙ omega arith))) in
      omega arith

  pub entry_rises : (steps : List (Step Field)) (worker first second : ℕ) → NeverFall workers (words_of steps)
      → EntryDiffers workers steps worker first second → first < second
  entry_rises steps worker first second never says =
      let front = says.same ++ first ∷ says.later in let back = says.same ++ second ∷ [] in
      let words : words_of steps ≡ front ++ back =
      ap words_of says.passes ∙ words_of_saw nth_entry 0 front (pass back)
      ∙ ap (λ ws. front ++ ws) (words_of_pass back) in
      rises_in says.same says.later (words_of steps) first second says.whole words says.differs never
