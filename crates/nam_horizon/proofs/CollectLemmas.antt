-- What a collection makes of the words that it finds.
use Rattle.std.proofs.Common.{◌≡◌, ◌≢◌, ◌⊎◌, inl, inr, ℕ, zero, suc, ◌+◌, ◌<◌, ◌≤◌, List, [], ◌∷◌, ◌++◌, length, refl}
use Rattle.std.proofs.Common.{sym, ◌∙◌, ap, subst, arith, true, false}
use Rattle.std.specs.Prelude.{◌==◌, nat_lt, slice_index}
use Rattle.std.proofs.lemmas.Bool.{cases_lt, cases_eq, cases_Bool}
use Rattle.std.proofs.lemmas.Bool.Decides.{nat_tests}
use Rattle.std.proofs.lemmas.List.{append_assoc, append-nil, length-append}
use Rattle.nam_verbs.specs.declared.now.Now.{Now}
use Rattle.nam_verbs.specs.declared.now.Now.TheVariants.{At, Over}
use Rattle.nam_verbs.specs.Steps.{Step, Ends, saw, tried, Stretches}
use Rattle.nam_verbs.proofs.SearchLemmas.{search_ends, search_misses}
use Rattle.nam_verbs.proofs.ReadingLemmas.{step_of}
use Rattle.nam_verbs.specs.VerbAt.{VerbAt}
use Rattle.nam_header.specs.Stamp.{stamp_in, is_within}
use Rattle.nam_header.specs.Tag.{is_full, has_next, freed}
use Rattle.nam_layout.specs.declared.field.Cells.{Cells}
use Rattle.nam_layout.specs.declared.field.Field.{Field}
use Rattle.nam_layout.specs.declared.field.Field.TheVariants as field
use Rattle.nam_calls.specs.declared.horizon.CollectPoint.{CollectPoint}
use Rattle.nam_calls.specs.declared.horizon.CollectPoint.TheVariants.{HorizonLook, HorizonRaise, CollectTag}
use Rattle.nam_calls.specs.declared.horizon.CollectPoint.TheVariants.{CollectEnding, CollectFree}
use Rattle.nam_calls.specs.Horizon.{collect_verb, collect_after, entry_known, collect_next}
use Rattle.nam_horizon.specs.CollectLaw.{EntryKnown, was_reached, is_raised, was_lost, EntriesKnown}
use Rattle.nam_horizon.specs.CollectLaw.{MayBeFreed, look_steps, CellCollected, not_full, is_kept, is_freed, CollectedBy}

-- steps in parts
regrouped : (first raising freeing rest steps : List (Step Field)) → steps ≡ first ++ rest → rest ≡ raising ++ freeing
    → steps ≡ (first ++ raising) ++ freeing
regrouped first raising freeing rest steps is parts = rw (is, parts) (sym (append_assoc first raising freeing))

regrouped_here : (first before here after rest steps : List (Step Field)) → steps ≡ first ++ rest
    → rest ≡ (before ++ here) ++ after
    → steps ≡ ((first ++ before) ++ here) ++ after
regrouped_here first before here after rest steps is parts =
    regrouped first (before ++ here) after rest steps is parts
    ∙ ap (λ front. front ++ after) (sym (append_assoc first before here))

regrouped_after : (before here after freeing raising steps : List (Step Field)) → steps ≡ raising ++ freeing
    → raising ≡ (before ++ here) ++ after
    → steps ≡ (before ++ here) ++ (after ++ freeing)
regrouped_after before here after freeing raising steps is parts = rw (is, parts)
    (append_assoc (before ++ here) after freeing)

module _ (cells : Cells) (some_cells : 1 ≤ cells.cells) (workers : ℕ) (some : 1 ≤ workers) (seen : List ℕ) where
  abbrev verb : CollectPoint → VerbAt Field
  verb = collect_verb cells seen

  abbrev after : CollectPoint → ℕ → Now CollectPoint (List ℕ)
  after = collect_after cells workers seen

  abbrev EndsFrom : Now CollectPoint (List ℕ) → List (Step Field) → List ℕ → Type 0
  EndsFrom now steps end = Ends verb after now steps end

  ends_as : (now new : Now CollectPoint (List ℕ)) (steps : List (Step Field)) (end : List ℕ) → now ≡ new
      → EndsFrom now steps end → EndsFrom new steps end
  ends_as now new steps end same ends = subst (λ now. EndsFrom now steps end) same ends

  -- 1. The cells, under a known horizon

  module _ (known : List ℕ) where
    -- what follows a word, by what it is
    full_goes : (cell tag : ℕ) → is_full tag ≡ true
        → after (CollectTag known cell) tag ≡ At (CollectEnding known cell tag)
    full_goes cell tag full = rw full refl

    other_goes : (cell tag : ℕ) → is_full tag ≡ false
        → after (CollectTag known cell) tag ≡ collect_next cells known cell
    other_goes cell tag full = rw full refl

    frees_goes : (cell tag ending : ℕ) → MayBeFreed cells known tag ending
        → after (CollectEnding known cell tag) ending ≡ At (CollectFree known cell tag)
    frees_goes cell tag ending may = rw (may.passed, may.next) refl

    keeps_goes : (cell tag ending : ℕ) → (is_within (stamp_in cells.form ending) known ≡ false) ⊎ (has_next tag ≡ false)
        → after (CollectEnding known cell tag) ending ≡ collect_next cells known cell
    keeps_goes cell tag ending (inl not_within) = rw not_within refl
    keeps_goes cell tag ending (inr last) = elim (cases_Bool (is_within (stamp_in cells.form ending) known)) [
      | inl within ↦ rw (within, last) refl
      | inr not_within ↦ rw not_within refl
    ]

    abbrev Parts : ℕ → List (Step Field) → List ℕ → Type 0
    Parts cell steps end =
        (first rest : List (Step Field)) × (steps ≡ first ++ rest) × CellCollected cells known cell first
        × EndsFrom (collect_next cells known cell) rest end

    part_free : (cell tag ending : ℕ) → MayBeFreed cells known tag ending → (steps : List (Step Field)) (end : List ℕ)
        → EndsFrom (At (CollectFree known cell tag)) steps end
        → Parts cell (look_steps cells known cell tag ending ++ steps) end
    part_free cell tag ending may [] end ends = absurd ends
    part_free cell tag ending may (step ∷ steps) end ends =
        let is : step ≡ tried (field.Tag cells.bucket cell) tag (freed tag) step.found = step_of _ step ends.0 in (
          look_steps cells known cell tag ending ++ step ∷ [],
          steps,
          refl,
          is_freed tag ending step.found may
              (rw (← is) refl),
          ends.1,
        )

    part_end : (cell tag : ℕ) → is_full tag ≡ true → (steps : List (Step Field)) (end : List ℕ)
        → EndsFrom (At (CollectEnding known cell tag)) steps end
        → Parts cell (saw (field.Tag cells.bucket cell) tag ∷ steps) end
    part_end cell tag full [] end ends = absurd ends
    part_end cell tag full (step ∷ steps) end ends =
        let ending = step.found in
        let is : step ≡ saw (field.End cells.bucket cell) ending = step_of _ step ends.0 in
        let kept : (is_within (stamp_in cells.form ending) known ≡ false) ⊎ (has_next tag ≡ false)
        → Parts cell (saw (field.Tag cells.bucket cell) tag ∷ step ∷ steps) end =
        λ why. (
          saw (field.Tag cells.bucket cell) tag ∷ step ∷ [],
          steps,
          refl,
          is_kept tag ending full why (rw (← is) refl),
          ends_as _ _ steps end (keeps_goes cell tag ending why) ends.1,
        ) in
        elim (cases_Bool (is_within (stamp_in cells.form ending) known)) [
          | inl within ↦ elim (cases_Bool (has_next tag)) [
            | inl next ↦
                let may : MayBeFreed cells known tag ending = record { full = full; passed = within; next = next } in
                rw is (part_free cell tag ending may steps end
                (ends_as _ _ steps end (frees_goes cell tag ending may) ends.1))
            | inr last ↦ kept (inr last)
          ]
          | inr not_within ↦ kept (inl not_within)
        ]

    part_cell : (cell : ℕ) (steps : List (Step Field)) (end : List ℕ) → EndsFrom (At (CollectTag known cell)) steps end
        → Parts cell steps end
    part_cell cell [] end ends = absurd ends
    part_cell cell (step ∷ steps) end ends =
        let tag = step.found in
        let is : step ≡ saw (field.Tag cells.bucket cell) tag = step_of _ step ends.0 in
        elim (cases_Bool (is_full tag)) [
          | inl full ↦ rw is (part_end cell tag full steps end (ends_as _ _ steps end (full_goes cell tag full) ends.1))
          | inr other ↦ (
            step ∷ [],
            steps,
            refl,
            not_full tag other (rw (← is) refl),
            ends_as _ _ steps end
                (other_goes cell tag other) ends.1,
          )
        ]

    -- the other way round
    passed_cell : (cell : ℕ) (first rest : List (Step Field)) (end : List ℕ) → CellCollected cells known cell first
        → EndsFrom (collect_next cells known cell) rest end
        → EndsFrom (At (CollectTag known cell)) (first ++ rest) end
    passed_cell cell first rest end (not_full tag other is) ends =
        rw is (refl, ends_as _ _ rest end (sym (other_goes cell tag other)) ends)
    passed_cell cell first rest end (is_kept tag ending full why is) ends =
        rw is (
          refl,
          ends_as _ _ (saw (field.End cells.bucket cell) ending ∷ rest) end (sym (full_goes cell tag full))
              (refl, ends_as _ _ rest end (sym (keeps_goes cell tag ending why)) ends),
        )
    passed_cell cell first rest end (is_freed tag ending word may is) ends =
        let free = tried (field.Tag cells.bucket cell) tag (freed tag) word in
        rw is (
          refl,
          ends_as _ _ (saw (field.End cells.bucket cell) ending ∷ free ∷ rest) end (sym (full_goes cell tag may.full))
              (refl, ends_as _ _ (free ∷ rest) end (sym (frees_goes cell tag ending may)) (refl, ends)),
        )

    -- cell after cell
    goes_on : (cell : ℕ) → cell + 1 < cells.cells → collect_next cells known cell ≡ At (CollectTag known (cell + 1))
    goes_on cell more = let test : (cell + 1 == cells.cells) ≡ false = grind (arith, nat_tests) in rw test refl

    misses : (cell : ℕ) → cell + 1 ≡ cells.cells → collect_next cells known cell ≡ Over known
    misses cell last = let test : (cell + 1 == cells.cells) ≡ true = grind (arith, nat_tests) in rw test refl

    -- no cell ends the collection before the last
    abbrev None : List ℕ → ℕ → List (Step Field) → Type 0
    None end cell steps = ⊥

    all_cells : (steps : List (Step Field)) (end : List ℕ) → EndsFrom (At (CollectTag known 0)) steps end
        → Stretches (CellCollected cells known) 0 cells.cells steps × (known ≡ end)
    all_cells steps end ends =
        elim (search_ends verb after (CollectTag known) (collect_next cells known) cells.cells known goes_on misses
        (CellCollected cells known) None
        (λ cell within steps end ends. inr (part_cell cell steps end ends)) some_cells steps end ends) [
          | inl stop ↦ absurd stop.stops
          | inr missed ↦ missed
        ]

    by_cells : (steps : List (Step Field)) → Stretches (CellCollected cells known) 0 cells.cells steps
        → EndsFrom (At (CollectTag known 0)) steps known
    by_cells =
        search_misses verb after (CollectTag known) (collect_next cells known) cells.cells known goes_on misses
        (CellCollected cells known) None
        (λ cell within. passed_cell cell) some_cells

  -- 2. The horizon

  module _ (known : List ℕ) where
    abbrev own : ℕ
    own = slice_index seen (length known)

    abbrev at : Field
    at = field.Horizon (length known + 1)

    -- what follows a word, by what it is
    lower_goes : (found : ℕ) → found < own → after (HorizonLook known) found ≡ At (HorizonRaise known found)
    lower_goes found lower = let test : nat_lt found own ≡ true = grind (arith, nat_tests) in rw test refl

    reached_goes : (found : ℕ) → own ≤ found
        → after (HorizonLook known) found ≡ entry_known workers (known ++ found ∷ [])
    reached_goes found least = let test : nat_lt found own ≡ false = grind (arith, nat_tests) in rw test refl

    done_goes : (entry found : ℕ) → found ≡ entry
        → after (HorizonRaise known entry) found ≡ entry_known workers (known ++ own ∷ [])
    done_goes entry found same = let test : (found == entry) ≡ true = grind (arith, nat_tests) in rw test refl

    lost_goes : (entry found : ℕ) → found ≢ entry
        → after (HorizonRaise known entry) found ≡ entry_known workers (known ++ found ∷ [])
    lost_goes entry found other = let test : (found == entry) ≡ false = grind (arith, nat_tests) in rw test refl

    abbrev Known : List (Step Field) → List ℕ → Type 0
    Known steps end =
        (entry : ℕ) × (first rest : List (Step Field)) × (steps ≡ first ++ rest)
        × EntryKnown seen (length known) entry first
        × EndsFrom (entry_known workers (known ++ entry ∷ [])) rest end

    part_raise : (entry : ℕ) → entry < own → (steps : List (Step Field)) (end : List ℕ)
        → EndsFrom (At (HorizonRaise known entry)) steps end
        → Known (saw at entry ∷ steps) end
    part_raise entry lower [] end ends = absurd ends
    part_raise entry lower (step ∷ steps) end ends =
        let found = step.found in
        let is : step ≡ tried at entry own found = step_of _ step ends.0 in
        elim (cases_eq found entry) [
          | inl same ↦ (
            own,
            saw at entry ∷ step ∷ [],
            steps,
            refl,
            is_raised entry lower refl (ap (λ s. saw at entry ∷ s ∷ []) (is ∙ ap (tried at entry own) same)),
            ends_as _ _ steps end (done_goes entry found same) ends.1,
          )
          | inr other ↦ (
            found,
            saw at entry ∷ step ∷ [],
            steps,
            refl,
            was_lost entry lower other (ap (λ s. saw at entry ∷ s ∷ []) is),
            ends_as _ _ steps end (lost_goes entry found other) ends.1,
          )
        ]

    part_look : (steps : List (Step Field)) (end : List ℕ) → EndsFrom (At (HorizonLook known)) steps end
        → Known steps end
    part_look [] end ends = absurd ends
    part_look (step ∷ steps) end ends =
        let found = step.found in
        let is : step ≡ saw at found = step_of _ step ends.0 in
        elim (cases_lt found own) [
          | inl lower ↦ rw is (part_raise found lower steps end (ends_as _ _ steps end (lower_goes found lower) ends.1))
          | inr least ↦ (
            found,
            step ∷ [],
            steps,
            refl,
            was_reached least (ap (λ s. s ∷ []) is),
            ends_as _ _ steps end
                (reached_goes found least) ends.1,
          )
        ]

    -- the other way round
    passed_entry : (entry : ℕ) (first rest : List (Step Field)) (end : List ℕ)
        → EntryKnown seen (length known) entry first
        → EndsFrom (entry_known workers (known ++ entry ∷ [])) rest end
        → EndsFrom (At (HorizonLook known)) (first ++ rest) end
    passed_entry entry first rest end (was_reached least is) ends =
        rw is (refl, ends_as _ _ rest end (sym (reached_goes entry least)) ends)
    passed_entry entry first rest end (is_raised found lower same is) ends =
        rw is (
          refl,
          ends_as _ _ (tried at found own found ∷ rest) end (sym (lower_goes found lower)) (
            refl,
            ends_as _ _ rest end (sym (done_goes found found refl))
                (subst (λ e. EndsFrom (entry_known workers (known ++ e ∷ [])) rest end) same ends),
          ),
        )
    passed_entry entry first rest end (was_lost found lower other is) ends =
        rw is (
          refl,
          ends_as _ _ (tried at found own entry ∷ rest) end (sym (lower_goes found lower))
              (refl, ends_as _ _ rest end (sym (lost_goes found entry other)) ends),
        )

  -- the next entry, or the cells
  next_entry : (known : List ℕ) → length known < workers → entry_known workers known ≡ At (HorizonLook known)
  next_entry known less = let test : (length known == workers) ≡ false = grind (arith, nat_tests) in rw test refl

  last_entry : (known : List ℕ) → length known ≡ workers → entry_known workers known ≡ At (CollectTag known 0)
  last_entry known same = let test : (length known == workers) ≡ true = grind (arith, nat_tests) in rw test refl

  -- the entries from here on, and then the cells
  abbrev AllKnown : List ℕ → ℕ → List (Step Field) → List ℕ → Type 0
  AllKnown known more steps end =
      (entries : List ℕ) × (raising freeing : List (Step Field)) × (steps ≡ raising ++ freeing)
      × (length entries ≡ more)
      × EntriesKnown seen (length known) entries raising
      × EndsFrom (At (CollectTag (known ++ entries) 0)) freeing end

  known_from : (more : ℕ) (known : List ℕ) → length known + suc more ≡ workers
      → (steps : List (Step Field)) (end : List ℕ)
      → EndsFrom (At (HorizonLook known)) steps end → AllKnown known (suc more) steps end
  known_from zero known all steps end ends =
      let part = part_look known steps end ends in
      let entry = part.0 in
      let long = length-append known (entry ∷ []) in (
        entry ∷ [],
        part.1,
        part.2,
        part.3,
        refl,
        (part.1, [], sym (append-nil part.1), part.4, refl),
        ends_as _ _ part.2 end (last_entry (known ++ entry ∷ []) (omega arith)) part.5,
      )
  known_from (suc more) known all steps end ends =
      let part = part_look known steps end ends in
      let entry = part.0 in
      let long = length-append known (entry ∷ []) in
      let later = known_from more (known ++ entry ∷ []) (omega arith) part.2 end
      (ends_as _ _ part.2 end (next_entry (known ++ entry ∷ []) (omega arith)) part.5) in (
        entry ∷ later.0,
        part.1 ++ later.1,
        later.2,
        regrouped part.1 later.1 later.2 part.2 steps part.3 later.3,
        ap suc later.4,
        (part.1, later.1, refl, part.4, subst (λ nth. EntriesKnown seen nth later.0 later.1) long later.5),
        subst (λ all. EndsFrom (At (CollectTag all 0)) later.2 end) (append_assoc known (entry ∷ []) later.0) later.6,
      )

  all_from : (n : ℕ) → n ≡ workers → 0 < n → (steps : List (Step Field)) (end : List ℕ)
      → EndsFrom (At (HorizonLook [])) steps end → AllKnown [] n steps end
  all_from zero same none steps end ends = absurd (omega arith)
  all_from (suc more) same none steps end ends = known_from more [] (omega arith) steps end ends

  -- the other way round
  by_entries : (entries known : List ℕ) → 0 < length entries → length known + length entries ≡ workers
      → (raising freeing : List (Step Field)) (end : List ℕ)
      → EntriesKnown seen (length known) entries raising
      → EndsFrom (At (CollectTag (known ++ entries) 0)) freeing end
      → EndsFrom (At (HorizonLook known)) (raising ++ freeing) end
  by_entries [] known none all raising freeing end are ends = absurd (omega arith)
  by_entries (entry ∷ []) known none all raising freeing end are ends =
      let long = length-append known (entry ∷ []) in
      let rest = are.4 in
      rw (are.2, append_assoc are.0 are.1 freeing) (passed_entry known entry are.0 (are.1 ++ freeing) end are.3
      (ends_as _ _ (are.1 ++ freeing) end (sym (last_entry (known ++ entry ∷ []) (omega arith))) (rw rest ends)))
  by_entries (entry ∷ next ∷ entries) known none all raising freeing end are ends =
      let long = length-append known (entry ∷ []) in
      let later = by_entries (next ∷ entries) (known ++ entry ∷ []) (omega arith) (omega arith) are.1 freeing end
      (subst (λ nth. EntriesKnown seen nth (next ∷ entries) are.1) (sym long) are.4)
      (subst (λ all. EndsFrom (At (CollectTag all 0)) freeing end)
      (sym (append_assoc known (entry ∷ []) (next ∷ entries))) ends) in
      rw (are.2, append_assoc are.0 are.1 freeing) (passed_entry known entry are.0 (are.1 ++ freeing) end are.3
      (ends_as _ _ (are.1 ++ freeing) end (sym (next_entry (known ++ entry ∷ []) (omega arith))) later))

  -- 3. A whole collection

  pub collected_by : (steps : List (Step Field)) (known : List ℕ) → EndsFrom (At (HorizonLook [])) steps known
      → CollectedBy cells workers seen known steps
  collected_by steps known ends =
      let all = all_from workers refl some steps known ends in
      let bucket = all_cells all.0 all.2 known all.6 in
      subst (λ known. CollectedBy cells workers seen known steps) bucket.1 (record {
        all = all.4;
        raising = all.1;
        freeing = all.2;
        steps_are = all.3;
        entries = all.5;
        bucket = bucket.0;
      })

  pub collects_by : (steps : List (Step Field)) (known : List ℕ) → CollectedBy cells workers seen known steps
      → EndsFrom (At (HorizonLook [])) steps known
  collects_by steps known by =
      let all = by.all in
      rw by.steps_are
      (by_entries known [] (omega arith) (omega arith) by.raising by.freeing known by.entries
      (by_cells known by.freeing by.bucket))

-- the steps by which an entry became known
module _ (workers : ℕ) (seen : List ℕ) where
  abbrev KnownAt : ℕ → ℕ → List (Step Field) → Type 0
  KnownAt nth known steps =
      (before here after : List (Step Field)) × (steps ≡ before ++ here ++ after) × EntryKnown seen nth known here

  entry_at : (known : List ℕ) (from : ℕ) (steps : List (Step Field)) → EntriesKnown seen from known steps → (nth : ℕ)
      → nth < length known
      → KnownAt (from + nth) (slice_index known nth) steps
  entry_at [] from steps are nth less = absurd (omega arith)
  entry_at (entry ∷ known) from steps are zero less =
      let here : from ≡ from + 0 = omega arith in
      ([], are.0, are.1, are.2, subst (λ n. EntryKnown seen n entry are.0) here are.3)
  entry_at (entry ∷ known) from steps are (suc nth) less =
      let later = entry_at known (from + 1) are.1 are.4 nth (omega arith) in
      let here : from + 1 + nth ≡ from + suc nth = omega arith in (
        are.0 ++ later.0,
        later.1,
        later.2,
        regrouped_here are.0 later.0 later.1 later.2 are.1 steps are.2 later.3,
        subst (λ n. EntryKnown seen n (slice_index known nth) later.1) here later.4,
      )

  pub known_at : (cells : Cells) (known : List ℕ) (steps : List (Step Field))
      → CollectedBy cells workers seen known steps
      → (nth : ℕ) → nth < workers
      → KnownAt nth (slice_index known nth) steps
  known_at cells known steps by nth less =
      let all = by.all in
      let found = entry_at known 0 by.raising by.entries nth (omega arith) in
      let here : 0 + nth ≡ nth = omega arith in (
        found.0,
        found.1,
        found.2 ++ by.freeing,
        regrouped_after found.0 found.1 found.2 by.freeing by.raising steps by.steps_are found.3,
        subst (λ n. EntryKnown seen n (slice_index known nth) found.1) here found.4,
      )
