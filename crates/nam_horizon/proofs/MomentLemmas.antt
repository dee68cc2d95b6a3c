-- What a collection has done at each moment, whatever words it found.
use Rattle.std.proofs.Common.{◌≡◌, ◌⊎◌, inl, inr, refl, sym, ◌∙◌, ap, subst, arith, Bool, true, false, Some}
use Rattle.std.proofs.Common.{ℕ, zero, suc, ◌+◌, ◌*◌, ◌<◌, ◌≤◌, List, [], ◌∷◌, ◌++◌, length, add-one}
use Rattle.std.specs.Prelude.{◌&&◌, nat_lt, if◌then◌else◌, slice_index}
use Rattle.std.proofs.lemmas.Bool.Decides.{nat_tests}
use Rattle.std.proofs.lemmas.List.{append_assoc, append-nil, length-append}
use Rattle.nam_verbs.specs.declared.now.Now.{Now}
use Rattle.nam_verbs.specs.declared.now.Now.TheVariants.{At, Over}
use Rattle.nam_verbs.specs.Now.{FitsNow}
use Rattle.nam_verbs.specs.Machine.{after_words}
use Rattle.nam_verbs.specs.Running.{Running}
use Rattle.nam_verbs.specs.Steps.{Step, saw, tried, Stretches}
use Rattle.nam_verbs.specs.SoFar.{steps_from, steps_by, next_at, verb_at}
use Rattle.nam_verbs.specs.VerbAt.{WriteAt, ExchangeAt}
use Rattle.nam_verbs.proofs.HistoryLemmas as past
use Rattle.nam_verbs.proofs.TestLemmas.{by_test, by_equal}
use Rattle.nam_header.specs.Stamp.{stamp_in, is_within}
use Rattle.nam_header.specs.Tag.{is_full, has_next, freed}
use Rattle.nam_layout.specs.declared.field.Cells.{Cells}
use Rattle.nam_layout.specs.Place.{cells_end, later}
use Rattle.nam_layout.specs.declared.field.Field.{Field}
use Rattle.nam_layout.specs.declared.field.Field.TheVariants as field
use Rattle.nam_calls.specs.declared.horizon.CollectPoint.{CollectPoint}
use Rattle.nam_calls.specs.declared.horizon.CollectPoint.TheVariants.{HorizonLook, HorizonRaise, CollectTag}
use Rattle.nam_calls.specs.declared.horizon.CollectPoint.TheVariants.{CollectEnding, CollectFree}
use Rattle.nam_calls.specs.Horizon.{collect_verb, collect_after, collect_left, entry_known, collect_next}
use Rattle.nam_horizon.specs.Collect.{collect_address, collecting, running}
use Rattle.nam_horizon.specs.CollectLaw.{EntryKnown, was_reached, is_raised, was_lost, EntriesKnown}
use Rattle.nam_horizon.specs.CollectLaw.{look_steps, CellCollected, not_full, is_kept, is_freed}
use Rattle.nam_horizon.specs.CollectLaw.{RaisesEntry}
use Rattle.nam_horizon.specs.MomentLaw.{CellsSoFar, CollectedSoFar, FreesWithin}

-- 1. One more

-- either way of a test of two
by_both : {A : Type 0} (P : A → Type 0) (first second : Bool) (a b : A)
    → (first ≡ true → second ≡ true → P a) → ((first ≡ false) ⊎ (second ≡ false) → P b)
    → P (if first && second then a else b)
by_both P true true a b both other = both refl refl
by_both P true false a b both other = other (inr refl)
by_both P false second a b both other = other (inl refl)

entries_more : (seen known : List ℕ) (nth last entry : ℕ) (steps more : List (Step Field)) → nth + length known ≡ last
    → EntriesKnown seen nth known steps → EntryKnown seen last entry more
    → EntriesKnown seen nth (known ++ entry ∷ []) (steps ++ more)
entries_more seen [] nth last entry steps more is are here =
    let same : last ≡ nth = omega arith in
    rw are (more, [], sym (append-nil more), subst (λ n. EntryKnown seen n entry more) same here, refl)
entries_more seen (other ∷ known) nth last entry steps more is are here = (
  are.0,
  are.1 ++ more,
  ap (λ all. all ++ more) are.2 ∙ append_assoc are.0 are.1 more,
  are.3,
  entries_more seen known (nth + 1) last entry are.1 more (omega arith) are.4 here,
)

stretches_more : (Passed : ℕ → List (Step Field) → Type 0) (count from last : ℕ) (steps more : List (Step Field))
    → from + count ≡ last → Stretches Passed from count steps → Passed last more
    → Stretches Passed from (suc count) (steps ++ more)
stretches_more Passed zero from last steps more is are here =
    let same : last ≡ from = omega arith in
    rw are (more, [], sym (append-nil more), subst (λ n. Passed n more) same here, refl)
stretches_more Passed (suc count) from last steps more is are here = (
  are.0,
  are.1 ++ more,
  ap (λ all. all ++ more) are.2 ∙ append_assoc are.0 are.1 more,
  are.3,
  stretches_more Passed count (from + 1) last are.1 more (omega arith) are.4 here,
)

module _ (cells : Cells) (some_cells : 1 ≤ cells.cells) (workers : ℕ) (some : 1 ≤ workers) (seen : List ℕ) where
  abbrev Holds : CollectPoint → List (Step Field) → Type 0
  Holds = CollectedSoFar cells workers seen

  abbrev HoldsNow : Now CollectPoint (List ℕ) → List (Step Field) → Type 0
  HoldsNow = past.HoldsNow (collect_verb cells seen) (collect_after cells workers seen) (collect_address cells workers)
      (later (2 * workers) (cells_end cells)) (collect_left cells workers) Holds

  abbrev call : Now CollectPoint (List ℕ) → Running Field CollectPoint (List ℕ)
  call state = running (record { cells = cells; workers = workers; seen = seen; state = state })

  abbrev step_at : CollectPoint → ℕ → Step Field
  step_at = past.step_at (collect_verb cells seen) (collect_after cells workers seen)

  abbrev CellsDone : List ℕ → ℕ → List (Step Field) → List (Step Field) → Type 0
  CellsDone = CellsSoFar cells workers seen

  -- 2. Entries

  entry_holds : (known : List ℕ) (steps : List (Step Field)) → length known ≤ workers → EntriesKnown seen 0 known steps
      → HoldsNow (entry_known workers known) steps
  entry_holds known steps most are =
      by_equal (λ at. Holds at steps) (length known) workers (CollectTag known 0) (HorizonLook known)
      (λ last. (
        omega arith,
        record {
          all = last;
          raising = steps;
          freeing = [];
          entries = are;
          bucket = refl;
          steps_are = sym (append-nil (steps ++ []) ∙ append-nil steps);
        },
      ))
      (λ more. (omega arith, are))

  more_holds : (known : List ℕ) (entry : ℕ) (before more : List (Step Field)) → length known < workers
      → EntriesKnown seen 0 known before → EntryKnown seen (length known) entry more
      → HoldsNow (entry_known workers (known ++ entry ∷ [])) (before ++ more)
  more_holds known entry before more within are here =
      entry_holds (known ++ entry ∷ []) (before ++ more) (omega (arith, length-append known (entry ∷ [])))
      (entries_more seen known 0 (length known) entry before more (omega arith) are here)

  -- 3. Cells

  cells_longer : (known : List ℕ) (cell : ℕ) (last more steps : List (Step Field)) → CellsDone known cell last steps
      → CellsDone known cell (last ++ more) (steps ++ more)
  cells_longer known cell last more steps so_far = record {
    all = so_far.all;
    raising = so_far.raising;
    freeing = so_far.freeing;
    entries = so_far.entries;
    bucket = so_far.bucket;
    steps_are = ap (λ all. all ++ more) so_far.steps_are
        ∙ append_assoc (so_far.raising ++ so_far.freeing) last more;
  }

  cell_holds : (known : List ℕ) (cell : ℕ) (last steps : List (Step Field)) → cell < cells.cells
      → CellsDone known cell last steps → CellCollected cells known cell last
      → HoldsNow (collect_next cells known cell) steps
  cell_holds known cell last steps within so_far here =
      by_equal (λ now. HoldsNow now steps) (cell + 1) cells.cells (Over known) (At (CollectTag known (cell + 1)))
      (λ all. tt)
      (λ more. (
        omega arith,
        record {
          all = so_far.all;
          raising = so_far.raising;
          freeing = so_far.freeing ++ last;
          entries = so_far.entries;
          bucket = subst (λ n. Stretches (CellCollected cells known) 0 n (so_far.freeing ++ last)) (sym (add-one cell))
              (stretches_more (CellCollected cells known) cell 0 cell so_far.freeing last (omega arith) so_far.bucket
              here);
          steps_are = so_far.steps_are ∙ append_assoc so_far.raising so_far.freeing last
              ∙ sym (append-nil (so_far.raising ++ (so_far.freeing ++ last)));
        },
      ))

  -- 4. Each word

  keeps : (at : CollectPoint) (before : List (Step Field)) → Holds at before → (found : ℕ)
      → HoldsNow (collect_after cells workers seen at found) (before ++ step_at at found ∷ [])
  keeps (HorizonLook known) before holds found =
      let own = slice_index seen (length known) in
      let step = saw (field.Horizon (length known + 1)) found in
      by_test (λ now. HoldsNow now (before ++ step ∷ [])) (nat_lt found own) (At (HorizonRaise known found))
      (entry_known workers (known ++ found ∷ []))
      (λ lower. (holds.0, grind (arith, nat_tests), before, holds.1, refl))
      (λ reached. more_holds known found before (step ∷ []) holds.0 holds.1
      (was_reached (grind (arith, nat_tests)) refl))
  keeps (HorizonRaise known entry) before holds found =
      let own = slice_index seen (length known) in
      let entry_at = field.Horizon (length known + 1) in
      let read = saw entry_at entry in
      let step = tried entry_at entry own found in
      let are : before ++ step ∷ [] ≡ holds.2 ++ read ∷ step ∷ [] =
      ap (λ all. all ++ step ∷ []) holds.4 ∙ append_assoc holds.2 (read ∷ []) (step ∷ []) in
      rw are (by_equal
      (λ new. HoldsNow (entry_known workers (known ++ new ∷ [])) (holds.2 ++ read ∷ step ∷ [])) found entry own found
      (λ same. more_holds known own holds.2 (read ∷ step ∷ []) holds.0 holds.3
      (is_raised entry holds.1 refl (ap (λ word. read ∷ tried entry_at entry own word ∷ []) same)))
      (λ differs. more_holds known found holds.2 (read ∷ step ∷ []) holds.0 holds.3
      (was_lost entry holds.1 differs refl)))
  keeps (CollectTag known cell) before holds found =
      let step = saw (field.Tag cells.bucket cell) found in
      let steps = before ++ step ∷ [] in
      let so_far = cells_longer known cell [] (step ∷ []) before holds.1 in
      by_test (λ now. HoldsNow now steps) (is_full found) (At (CollectEnding known cell found))
      (collect_next cells known cell)
      (λ full. (holds.0, full, so_far))
      (λ other. cell_holds known cell (step ∷ []) steps holds.0 so_far (not_full found other refl))
  keeps (CollectEnding known cell tag) before holds found =
      let read = saw (field.Tag cells.bucket cell) tag in
      let step = saw (field.End cells.bucket cell) found in
      let steps = before ++ step ∷ [] in
      let so_far = cells_longer known cell (read ∷ []) (step ∷ []) before holds.2 in
      by_both (λ now. HoldsNow now steps) (is_within (stamp_in cells.form found) known) (has_next tag)
      (At (CollectFree known cell tag)) (collect_next cells known cell)
      (λ within next. (holds.0, found, record { full = holds.1; passed = within; next = next }, so_far))
      (λ why. cell_holds known cell (read ∷ step ∷ []) steps holds.0 so_far (is_kept tag found holds.1 why refl))
  keeps (CollectFree known cell tag) before holds found =
      let step = tried (field.Tag cells.bucket cell) tag (freed tag) found in
      let all = look_steps cells known cell tag holds.1 in
      cell_holds known cell (all ++ step ∷ []) (before ++ step ∷ []) holds.0
      (cells_longer known cell all (step ∷ []) before holds.3) (is_freed tag holds.1 found holds.2 refl)

  -- 5. After any words

  fits_now : (now : Now CollectPoint (List ℕ)) (steps : List (Step Field)) → HoldsNow now steps
      → FitsNow (λ at. Holds at steps) now
  fits_now (At at) steps holds = holds
  fits_now (Over end) steps holds = tt

  holds_after : (words : List ℕ) → HoldsNow (after_words (running (collecting cells workers seen)) words).state
      (steps_by (running (collecting cells workers seen)) words)
  holds_after words =
      past.history (collect_verb cells seen) (collect_after cells workers seen) (collect_address cells workers)
      (later (2 * workers) (cells_end cells)) (collect_left cells workers) Holds keeps (At (HorizonLook [])) []
      (omega arith, refl) words

  pub collected_so_far : (words : List ℕ)
      → FitsNow (λ at. Holds at (steps_by (running (collecting cells workers seen)) words))
      (after_words (running (collecting cells workers seen)) words).state
  collected_so_far words = fits_now _ _ (holds_after words)

  exchange_at : (now : Now CollectPoint (List ℕ)) (steps : List (Step Field)) → HoldsNow now steps
      → (at : Field) (expected new : ℕ) → verb_at (collect_verb cells seen) now ≡ Some (ExchangeAt at expected new)
      → RaisesEntry workers seen steps at expected new ⊎ FreesWithin cells workers seen steps at expected new
  exchange_at (Over end) steps holds at expected new is = absurd (cc)
  exchange_at (At (HorizonLook known)) steps holds at expected new is = absurd (cc)
  exchange_at (At (HorizonRaise known found)) steps holds at expected new is =
      let at_is : at ≡ field.Horizon (length known + 1) = cc in
      let expected_is : expected ≡ found = cc in
      let new_is : new ≡ slice_index seen (length known) = cc in
      rw (at_is, expected_is, new_is) (inl (record {
        nth = length known;
        within = holds.0;
        at_is = refl;
        new_is = refl;
        rises = holds.1;
        earlier = holds.2;
        before_is = holds.4;
      }))
  exchange_at (At (CollectTag known cell)) steps holds at expected new is = absurd (cc)
  exchange_at (At (CollectEnding known cell tag)) steps holds at expected new is = absurd (cc)
  exchange_at (At (CollectFree known cell tag)) steps holds at expected new is =
      let at_is : at ≡ field.Tag cells.bucket cell = cc in
      let expected_is : expected ≡ tag = cc in
      let new_is : new ≡ freed tag = cc in
      let so_far = holds.3 in
      let all = look_steps cells known cell tag holds.1 in
      rw (at_is, expected_is, new_is) (inr (record {
        known = known;
        all = so_far.all;
        raising = so_far.raising;
        later = so_far.freeing ++ all;
        entries = so_far.entries;
        steps_are = so_far.steps_are ∙ append_assoc so_far.raising so_far.freeing all;
        frees = record {
          cell = cell;
          within = holds.0;
          at_is = refl;
          new_is = refl;
          ending = holds.1;
          may = holds.2;
          earlier = so_far.raising ++ so_far.freeing;
          before_is = so_far.steps_are;
        };
      }))

  pub next_exchange : (words : List ℕ) (at : Field) (expected new : ℕ)
      → next_at (after_words (running (collecting cells workers seen)) words) ≡ Some (ExchangeAt at expected new)
      → RaisesEntry workers seen (steps_by (running (collecting cells workers seen)) words) at expected new
      ⊎ FreesWithin cells workers seen (steps_by (running (collecting cells workers seen)) words) at expected new
  next_exchange words at expected new is =
      exchange_at _ _ (holds_after words) at expected new
      (sym (past.next_after (running (collecting cells workers seen)) words) ∙ is)

  -- a step stood once the steps before it were done
  abbrev StoodAfter : Now CollectPoint (List ℕ) → List (Step Field) → Step Field → Type 0
  StoodAfter now before step =
      (words : List ℕ) × (steps_from (collect_verb cells seen) (collect_after cells workers seen) now words ≡ before)
      × (verb_at (collect_verb cells seen) (after_words (call now) words).state ≡ Some step.verb)

  stood_after : (words : List ℕ) (now : Now CollectPoint (List ℕ)) (before after : List (Step Field))
      (step : Step Field)
      → steps_from (collect_verb cells seen) (collect_after cells workers seen) now words ≡ before ++ step ∷ after
      → StoodAfter now before step
  stood_after [] now [] after step is = absurd (cc)
  stood_after [] now (one ∷ before) after step is = absurd (cc)
  stood_after (word ∷ words) (Over end) [] after step is = absurd (cc)
  stood_after (word ∷ words) (Over end) (one ∷ before) after step is = absurd (cc)
  stood_after (word ∷ words) (At at) [] after step is =
      let same : step_at at word ≡ step = cc in ([], refl, ap (λ (s : Step Field). Some s.verb) same)
  stood_after (word ∷ words) (At at) (one ∷ before) after step is =
      let goes = collect_after cells workers seen at word in
      let same : step_at at word ≡ one = cc in
      let rest : steps_from (collect_verb cells seen) (collect_after cells workers seen) goes words
      ≡ before ++ step ∷ after = cc in
      let later = stood_after words goes before after step rest in
      (word ∷ later.0, rw (same, later.1) refl, later.2)

  pub done_exchange : (words : List ℕ) (before after : List (Step Field)) (at : Field) (expected new found : ℕ)
      → steps_by (running (collecting cells workers seen)) words ≡ before ++ tried at expected new found ∷ after
      → RaisesEntry workers seen before at expected new ⊎ FreesWithin cells workers seen before at expected new
  done_exchange words before after at expected new found is =
      let stood = stood_after words (At (HorizonLook [])) before after (tried at expected new found) is in
      subst (λ steps. RaisesEntry workers seen steps at expected new
      ⊎ FreesWithin cells workers seen steps at expected new) stood.1
      (exchange_at _ _ (holds_after stood.0) at expected new stood.2)

-- 6. No verb writes

no_write_at : (cells : Cells) (seen : List ℕ) (now : Now CollectPoint (List ℕ)) (at : Field) (word : ℕ)
    → verb_at (collect_verb cells seen) now ≡ Some (WriteAt at word) → ⊥
no_write_at cells seen (Over end) at word is = cc
no_write_at cells seen (At (HorizonLook known)) at word is = cc
no_write_at cells seen (At (HorizonRaise known found)) at word is = cc
no_write_at cells seen (At (CollectTag known cell)) at word is = cc
no_write_at cells seen (At (CollectEnding known cell tag)) at word is = cc
no_write_at cells seen (At (CollectFree known cell tag)) at word is = cc

pub no_write : (cells : Cells) (workers : ℕ) (seen words : List ℕ) (at : Field) (word : ℕ)
    → next_at (after_words (running (collecting cells workers seen)) words) ≡ Some (WriteAt at word) → ⊥
no_write cells workers seen words at word is =
    no_write_at cells seen _ at word (sym (past.next_after (running (collecting cells workers seen)) words) ∙ is)
