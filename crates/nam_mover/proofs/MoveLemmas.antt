-- What a move makes of the words that it finds.
use Rattle.std.proofs.Common.{◌≡◌, ◌≢◌, ℕ, List, [], ◌∷◌, ◌++◌, length, refl, sym, subst, arith, Bool}
use Rattle.std.proofs.Common.{true, false}
use Rattle.std.specs.Prelude.{◌==◌, if◌then◌else◌}
use Rattle.std.proofs.lemmas.Bool.Decides.{nat_tests}
use Rattle.std.proofs.lemmas.List.{append_assoc, append-nil}
use Rattle.nam_verbs.specs.declared.now.Now.{Now}
use Rattle.nam_verbs.specs.declared.now.Now.TheVariants.{At, Over}
use Rattle.nam_verbs.specs.Steps.{Step, Ends, saw, saw_words, verbs_of, StopsAt}
use Rattle.nam_verbs.proofs.TestLemmas.{by_test, by_equal, if_in}
use Rattle.nam_verbs.proofs.StepsLemmas.{verbs_are, does_verbs}
use Rattle.nam_verbs.proofs.PartLemmas.{part_ends, ends_with_part}
use Rattle.nam_verbs.proofs.ReadingLemmas.{step_of, words_read, reads_words}
use Rattle.nam_verbs.specs.VerbAt.{WriteAt, ExchangeAt}
use Rattle.nam_header.specs.Stamp.{stamp_in, is_moved, with_moved, without_moved}
use Rattle.nam_header.specs.Tag.{full, freed}
use Rattle.nam_layout.specs.declared.field.Place.{Place}
use Rattle.nam_layout.specs.declared.field.Cells.{Cells}
use Rattle.nam_layout.specs.PlaceFits.{FitsPlace, FitsCells}
use Rattle.nam_layout.specs.Place.{slot_of}
use Rattle.nam_layout.specs.declared.field.Field.{Field}
use Rattle.nam_layout.specs.declared.field.Field.TheVariants as field
use Rattle.nam_calls.specs.declared.overflow.ClaimEnd.{ClaimEnd}
use Rattle.nam_calls.specs.declared.overflow.ClaimPoint.TheVariants.{ClaimLook}
use Rattle.nam_calls.specs.declared.overflow.FillPoint.TheVariants.{FillOwner}
use Rattle.nam_calls.specs.declared.overflow.Version.{Version}
use Rattle.nam_calls.specs.declared.mover.MovePoint.{MovePoint}
use Rattle.nam_calls.specs.declared.mover.MovePoint.TheVariants.{MoveCount, MoveEnding, MoveClaim}
use Rattle.nam_calls.specs.declared.mover.MovePoint.TheVariants.{MoveWords, MoveFill, MoveAgain, MoveFull}
use Rattle.nam_calls.specs.declared.mover.MovePoint.TheVariants.{MoveBack}
use Rattle.nam_calls.specs.declared.mover.MoveAnswer.{MoveAnswer}
use Rattle.nam_calls.specs.declared.mover.MoveAnswer.TheVariants.{Moved, Back, Nothing, NoRoom}
use Rattle.nam_calls.specs.Overflow.{claim_verb, claim_after, fill_verb, fill_after, fill_begin}
use Rattle.nam_calls.specs.Mover.{move_verb, move_after, on_claim, on_fill}
use Rattle.nam_calls.specs.declared.overflow.ClaimEnd.TheVariants as claim
use Rattle.nam_overflow.proofs.ClaimLemmas.{claimed_by, claims_by, lost_by, loses_by}
use Rattle.nam_overflow.proofs.FillLemmas.{fills}
use Rattle.nam_overflow.specs.ClaimLaw.{CellLost, CellTaken}
use Rattle.nam_overflow.specs.FillLaw.{fill_verbs}
use Rattle.nam_mover.specs.MoveLaw.{look_steps, end_steps, copy_steps, WasMoved, NoCell, Copied, WasCopied, WasGivenBack}

module _ (place : Place) (cells : Cells) (fits : FitsPlace place) (room : FitsCells cells) where
  abbrev EndsFrom : Now MovePoint MoveAnswer → List (Step Field) → MoveAnswer → Type 0
  EndsFrom now steps end = Ends (move_verb place cells) (move_after place cells) now steps end

  -- what the steps of a move say of its end
  abbrev pub Did : MoveAnswer → List (Step Field) → Type 0
  Did Nothing steps = WasMoved place cells steps
  Did (NoRoom bucket) steps = (bucket ≡ cells.bucket) × NoCell place cells steps
  Did (Moved stamp) steps = WasCopied place cells stamp steps
  Did (Back stamp) steps = WasGivenBack place cells stamp steps

  abbrev version_of : ℕ → ℕ → List ℕ → Version
  version_of header ending words = record { begin = without_moved place.form header; «end» = ending; value = words }

  -- 1. What was done, from the last steps on

  part_full : (count header cell tag : ℕ) (copy : List (Step Field))
      → Copied place cells count header cell tag header copy
      → (steps : List (Step Field))
      (end : MoveAnswer) → EndsFrom (At (MoveFull (slot_of place count) header cell tag)) steps end
      → Did end (copy ++ steps)
  part_full count header cell tag copy copied [] end ends = absurd ends
  part_full count header cell tag copy copied (shown ∷ []) end ends = absurd ends.1
  part_full count header cell tag copy copied (shown ∷ flagged ∷ step ∷ steps) end ends = absurd ends.1.1
  part_full count header cell tag copy copied (shown ∷ flagged ∷ []) (Moved stamp) ends =
      let first = ends.0 in let second = ends.1.0 in let over = ends.1.1 in record {
        count = count;
        header = header;
        cell = cell;
        tag = tag;
        copy = copy;
        last = shown ∷ flagged ∷ [];
        copied = copied;
        shown = cc;
        stamp_is = cc;
        steps_are = refl;
      }
  part_full count header cell tag copy copied (shown ∷ flagged ∷ []) Nothing ends = let over = ends.1.1 in absurd (cc)
  part_full count header cell tag copy copied (shown ∷ flagged ∷ []) (NoRoom bucket) ends =
      let over = ends.1.1 in absurd (cc)
  part_full count header cell tag copy copied (shown ∷ flagged ∷ []) (Back stamp) ends =
      let over = ends.1.1 in absurd (cc)

  part_back : (count header cell tag again : ℕ) (copy : List (Step Field))
      → Copied place cells count header cell tag again copy → again ≢ header
      → (steps : List (Step Field)) (end : MoveAnswer) → EndsFrom (At (MoveBack header cell tag)) steps end
      → Did end (copy ++ steps)
  part_back count header cell tag again copy copied changed [] end ends = absurd ends
  part_back count header cell tag again copy copied changed (freed_by ∷ step ∷ steps) end ends = absurd ends.1
  part_back count header cell tag again copy copied changed (freed_by ∷ []) (Back stamp) ends =
      let first = ends.0 in let over = ends.1 in record {
        count = count;
        header = header;
        cell = cell;
        tag = tag;
        again = again;
        copy = copy;
        last = freed_by ∷ [];
        copied = copied;
        changed = changed;
        freed_by = cc;
        stamp_is = cc;
        steps_are = refl;
      }
  part_back count header cell tag again copy copied changed (freed_by ∷ []) Nothing ends =
      let over = ends.1 in absurd (cc)
  part_back count header cell tag again copy copied changed (freed_by ∷ []) (NoRoom bucket) ends =
      let over = ends.1 in absurd (cc)
  part_back count header cell tag again copy copied changed (freed_by ∷ []) (Moved stamp) ends =
      let over = ends.1 in absurd (cc)

  -- the slot's header read again, after the cell was filled
  part_again : (count header ending cell tag : ℕ) (claims : List (Step Field)) (words : List ℕ)
      (writes : List (Step Field))
      → is_moved place.form header ≡ false
      → StopsAt (CellLost cells) (CellTaken cells cell tag) cells.cells claims → length words ≡ place.width
      → verbs_of writes ≡ fill_verbs cells cell place.row (without_moved place.form header) ending words
      → (steps : List (Step Field)) (end : MoveAnswer)
      → EndsFrom (At (MoveAgain (slot_of place count) header cell tag)) steps end
      → Did end (copy_steps place cells count header ending claims words writes ++ steps)
  part_again count header ending cell tag claims words writes unmoved claimed whole filled [] end ends = absurd ends
  part_again count header ending cell tag claims words writes unmoved claimed whole filled (step ∷ steps) end ends =
      let again = step.found in
      let is : step ≡ saw (field.SlotHeader place.row (slot_of place count)) again = step_of _ step ends.0 in
      let before = copy_steps place cells count header ending claims words writes in
      let copied : Copied place cells count header cell tag again (before ++ step ∷ []) = record {
        ending = ending;
        claims = claims;
        words = words;
        writes = writes;
        unmoved = unmoved;
        claimed = claimed;
        whole = whole;
        filled = filled;
        steps_are = rw (← is) refl;
      } in
      let regroup = append_assoc before (step ∷ []) steps in
      by_equal (λ now. EndsFrom now steps end → Did end (before ++ step ∷ steps)) again header
      (At (MoveFull (slot_of place count) header cell tag)) (At (MoveBack header cell tag))
      (λ same goes. subst (Did end) regroup (part_full count header cell tag (before ++ step ∷ [])
      (subst (λ found. Copied place cells count header cell tag found (before ++ step ∷ [])) same copied) steps end
      goes))
      (λ other goes. subst (Did end) regroup (part_back count header cell tag again (before ++ step ∷ []) copied other
      steps end goes))
      ends.1

  -- the filling of the claimed cell
  part_fill : (count header ending cell tag : ℕ) (claims : List (Step Field)) (words : List ℕ)
      → is_moved place.form header ≡ false
      → StopsAt (CellLost cells) (CellTaken cells cell tag) cells.cells claims → length words ≡ place.width
      → (steps : List (Step Field)) (end : MoveAnswer)
      → EndsFrom (At (MoveFill (slot_of place count) header cell tag (version_of header ending words) fill_begin))
      steps end
      → Did end (end_steps place cells count header ending ++ claims ++ saw_words
      (field.SlotWord place.row (slot_of place count)) words ++ steps)
  part_fill count header ending cell tag claims words unmoved claimed whole steps end ends =
      let slot = slot_of place count in
      let version = version_of header ending words in
      let parts = part_ends (move_verb place cells) (move_after place cells) (fill_verb cells cell place.row version)
      (λ at found. fill_after place.width at) (MoveFill slot header cell tag version)
      (on_fill slot header cell tag version) (λ at. refl) (λ at. refl)
      (λ at found. refl) (At FillOwner) steps end ends in
      let filled = (verbs_are (fill_verb cells cell place.row version) (λ at found. fill_after place.width at)
      (At FillOwner)
      (fill_verbs cells cell place.row (without_moved place.form header) ending words) tt
      (fills cells cell place.row version place.width whole fits.least_width) parts.0 parts.2 parts.4).0 in
      let all = part_again count header ending cell tag claims words parts.0 unmoved claimed whole filled parts.1 end
      parts.5 in
      let before = end_steps place cells count header ending ++ claims ++ saw_words (field.SlotWord place.row slot) words in
      rw parts.3 (subst (Did end) (append_assoc before parts.0 parts.1) all)

  -- the slot's words, for the claimed cell
  part_words : (count header ending cell tag : ℕ) (claims : List (Step Field)) → is_moved place.form header ≡ false
      → StopsAt (CellLost cells) (CellTaken cells cell tag) cells.cells claims
      → (steps : List (Step Field)) (end : MoveAnswer)
      → EndsFrom (At (MoveWords (slot_of place count) header ending cell tag [])) steps end
      → Did end (end_steps place cells count header ending ++ claims ++ steps)
  part_words count header ending cell tag claims unmoved claimed steps end ends =
      let slot = slot_of place count in
      let all = words_read (move_verb place cells) (move_after place cells) (field.SlotWord place.row slot) place.width
      (MoveWords slot header ending cell tag)
      (λ words. At (MoveFill slot header cell tag (version_of header ending words) fill_begin)) (λ got. refl)
      (λ got word. if_in At _ _ _) fits.least_width steps end ends in
      let before = end_steps place cells count header ending ++ claims in
      rw all.2 (subst (Did end) (append_assoc before (saw_words (field.SlotWord place.row slot) all.0) all.1)
      (part_fill count header ending cell tag claims all.0 unmoved claimed all.3 all.1 end all.4))

  -- what follows the end of a claim
  claim_over : (count header ending : ℕ) (claims : List (Step Field)) (over : ClaimEnd)
      → is_moved place.form header ≡ false
      → Ends (claim_verb cells) (claim_after cells) (At (ClaimLook 0)) claims over
      → (steps : List (Step Field)) (end : MoveAnswer)
      → EndsFrom (on_claim cells (slot_of place count) header ending (Over over)) steps end
      → Did end (end_steps place cells count header ending ++ claims ++ steps)
  claim_over count header ending claims (claim.Claimed cell tag) unmoved claimed steps end ends =
      part_words count header ending cell tag claims unmoved
      (claimed_by cells room.least_cells claims cell tag claimed) steps end ends
  claim_over count header ending claims claim.NoRoom unmoved lost (step ∷ steps) end ends = absurd ends
  claim_over count header ending claims claim.NoRoom unmoved lost [] (NoRoom bucket) ends = (
    cc,
    record {
      count = count;
      header = header;
      ending = ending;
      claims = claims;
      unmoved = unmoved;
      lost = lost_by cells room.least_cells claims lost;
      steps_are = rw append-nil refl;
    },
  )
  claim_over count header ending claims claim.NoRoom unmoved lost [] Nothing ends = absurd (cc)
  claim_over count header ending claims claim.NoRoom unmoved lost [] (Moved stamp) ends = absurd (cc)
  claim_over count header ending claims claim.NoRoom unmoved lost [] (Back stamp) ends = absurd (cc)

  -- the claim of a cell
  part_claim : (count header ending : ℕ) → is_moved place.form header ≡ false
      → (steps : List (Step Field)) (end : MoveAnswer)
      → EndsFrom (At (MoveClaim (slot_of place count) header ending (ClaimLook 0))) steps end
      → Did end (end_steps place cells count header ending ++ steps)
  part_claim count header ending unmoved steps end ends =
      let slot = slot_of place count in
      let parts = part_ends (move_verb place cells) (move_after place cells) (claim_verb cells) (claim_after cells)
      (MoveClaim slot header ending)
      (on_claim cells slot header ending) (λ at. refl) (λ at. refl) (λ at found. refl) (At (ClaimLook 0)) steps end
      ends in
      let before = end_steps place cells count header ending in
      rw parts.3 (subst (Did end) (append_assoc before parts.0 parts.1)
      (claim_over count header ending parts.0 parts.2 unmoved parts.4 parts.1 end parts.5))

  -- the slot's end, where its version wasn't moved
  part_end : (count header : ℕ) → is_moved place.form header ≡ false → (steps : List (Step Field)) (end : MoveAnswer)
      → EndsFrom (At (MoveEnding (slot_of place count) header)) steps end
      → Did end (look_steps place cells count header ++ steps)
  part_end count header unmoved [] end ends = absurd ends
  part_end count header unmoved (step ∷ steps) end ends =
      let is : step ≡ saw (field.SlotEnd place.row (slot_of place count)) step.found = step_of _ step ends.0 in
      rw is (part_claim count header step.found unmoved steps end ends.1)

  -- where it was moved
  moved_before : (count header : ℕ) → is_moved place.form header ≡ true → (steps : List (Step Field)) (end : MoveAnswer)
      → EndsFrom (Over Nothing) steps end
      → Did end (look_steps place cells count header ++ steps)
  moved_before count header moved (step ∷ steps) end ends = absurd ends
  moved_before count header moved [] Nothing ends =
      record { count = count; header = header; moved = moved; steps_are = refl }
  moved_before count header moved [] (NoRoom bucket) ends = absurd (cc)
  moved_before count header moved [] (Moved stamp) ends = absurd (cc)
  moved_before count header moved [] (Back stamp) ends = absurd (cc)

  pub did_by : (steps : List (Step Field)) (end : MoveAnswer) → EndsFrom (At MoveCount) steps end → Did end steps
  did_by [] end ends = absurd ends
  did_by (first ∷ []) end ends = absurd ends.1
  did_by (first ∷ second ∷ steps) end ends =
      let count = first.found in
      let header = second.found in
      let is : first ≡ saw (field.Count place.row) count = step_of _ first ends.0 in
      let same : second ≡ saw (field.SlotHeader place.row (slot_of place count)) header = step_of _ second ends.1.0 in
      by_test (λ now. EndsFrom now steps end → Did end (first ∷ second ∷ steps)) (is_moved place.form header)
      (Over Nothing)
      (At (MoveEnding (slot_of place count) header))
      (λ test goes. rw (is, same) (moved_before count header test steps end goes))
      (λ test goes. rw (is, same) (part_end count header test steps end goes))
      ends.1.1

  -- 2. The other way round: from what was done to the steps

  chosen : (test is : Bool) (a b : Now MovePoint MoveAnswer) (steps : List (Step Field)) (end : MoveAnswer) → test ≡ is
      → EndsFrom (if is then a else b) steps end
      → EndsFrom (if test then a else b) steps end
  chosen test is a b steps end same ends = rw same ends

  from_end : (count header ending : ℕ) (steps : List (Step Field)) (end : MoveAnswer)
      → is_moved place.form header ≡ false
      → EndsFrom (At (MoveClaim (slot_of place count) header ending (ClaimLook 0))) steps end
      → EndsFrom (At MoveCount) (end_steps place cells count header ending ++ steps) end
  from_end count header ending steps end unmoved ends = (
    refl,
    (
      refl,
      chosen (is_moved place.form header) false (Over Nothing) (At (MoveEnding (slot_of place count) header))
          (saw (field.SlotEnd place.row (slot_of place count)) ending ∷ steps) end unmoved (refl, ends),
    ),
  )

  from_claim : (count header ending : ℕ) (claims rest : List (Step Field)) (over : ClaimEnd) (end : MoveAnswer)
      → Ends (claim_verb cells) (claim_after cells) (At (ClaimLook 0)) claims over
      → EndsFrom (on_claim cells (slot_of place count) header ending (Over over)) rest end
      → EndsFrom (At (MoveClaim (slot_of place count) header ending (ClaimLook 0))) (claims ++ rest) end
  from_claim count header ending claims rest over end =
      ends_with_part (move_verb place cells) (move_after place cells) (claim_verb cells) (claim_after cells)
      (MoveClaim (slot_of place count) header ending) (on_claim cells (slot_of place count) header ending)
      (λ at. refl) (λ at. refl) (λ at found. refl)
      (At (ClaimLook 0)) claims rest over end

  from_words : (count header ending cell tag : ℕ) (words : List ℕ) (writes rest : List (Step Field)) (end : MoveAnswer)
      → length words ≡ place.width
      → verbs_of writes ≡ fill_verbs cells cell place.row (without_moved place.form header) ending words
      → EndsFrom (At (MoveAgain (slot_of place count) header cell tag)) rest end
      → EndsFrom (At (MoveWords (slot_of place count) header ending cell tag []))
      (saw_words (field.SlotWord place.row (slot_of place count)) words ++ (writes ++ rest)) end
  from_words count header ending cell tag words writes rest end whole filled ends =
      let slot = slot_of place count in
      let version = version_of header ending words in
      reads_words (move_verb place cells) (move_after place cells) (field.SlotWord place.row slot) place.width
      (MoveWords slot header ending cell tag)
      (λ words. At (MoveFill slot header cell tag (version_of header ending words) fill_begin)) (λ got. refl)
      (λ got word. if_in At _ _ _) words fits.least_width whole (writes ++ rest) end
      (ends_with_part (move_verb place cells) (move_after place cells) (fill_verb cells cell place.row version)
      (λ at found. fill_after place.width at) (MoveFill slot header cell tag version)
      (on_fill slot header cell tag version) (λ at. refl) (λ at. refl)
      (λ at found. refl) (At FillOwner) writes rest tt end
      (does_verbs (fill_verb cells cell place.row version) (λ at found. fill_after place.width at) (At FillOwner)
      (fill_verbs cells cell place.row (without_moved place.form header) ending words) tt
      (fills cells cell place.row version place.width whole fits.least_width) writes tt filled refl) ends)

  from_copy : (count header cell tag again : ℕ) (copy rest : List (Step Field)) (end : MoveAnswer)
      → Copied place cells count header cell tag again copy
      → EndsFrom
      (if again == header then At (MoveFull (slot_of place count) header cell tag) else At (MoveBack header cell tag))
      rest end
      → EndsFrom (At MoveCount) (copy ++ rest) end
  from_copy count header cell tag again copy rest end c ends =
      let slot = slot_of place count in
      let first = end_steps place cells count header c.ending in
      let words = saw_words (field.SlotWord place.row slot) c.words in
      let last = saw (field.SlotHeader place.row slot) again in
      let grouped : copy ++ rest ≡ first ++ (c.claims ++ (words ++ (c.writes ++ last ∷ rest))) = rw (c.steps_are)
      (simp append_assoc) in
      subst (λ steps. EndsFrom (At MoveCount) steps end) (sym grouped)
      (from_end count header c.ending (c.claims ++ (words ++ (c.writes ++ last ∷ rest))) end c.unmoved
      (from_claim count header c.ending c.claims (words ++ (c.writes ++ last ∷ rest)) (claim.Claimed cell tag) end
      (claims_by cells room.least_cells c.claims cell tag c.claimed)
      (from_words count header c.ending cell tag c.words c.writes (last ∷ rest) end c.whole c.filled (refl, ends))))

  from_full : (slot header cell tag : ℕ) (last : List (Step Field)) → verbs_of last
      ≡ WriteAt (field.Tag cells.bucket cell) (full tag) ∷ ExchangeAt (field.SlotHeader place.row slot) header
      (with_moved place.form header) ∷ []
      → EndsFrom (At (MoveFull slot header cell tag)) last (Moved (stamp_in place.form header))
  from_full slot header cell tag [] verbs = absurd (cc)
  from_full slot header cell tag (shown ∷ []) verbs = absurd (cc)
  from_full slot header cell tag (shown ∷ flagged ∷ step ∷ steps) verbs = absurd (cc)
  from_full slot header cell tag (shown ∷ flagged ∷ []) verbs = (cc, (cc, refl))

  from_back : (header cell tag : ℕ) (last : List (Step Field))
      → verbs_of last ≡ WriteAt (field.Tag cells.bucket cell) (freed tag) ∷ []
      → EndsFrom (At (MoveBack header cell tag)) last (Back (stamp_in place.form header))
  from_back header cell tag [] verbs = absurd (cc)
  from_back header cell tag (freed_by ∷ step ∷ steps) verbs = absurd (cc)
  from_back header cell tag (freed_by ∷ []) verbs = (cc, refl)

  pub by_did : (steps : List (Step Field)) (end : MoveAnswer) → Did end steps → EndsFrom (At MoveCount) steps end
  by_did steps Nothing w =
      rw w.steps_are (
        refl,
        (
          refl,
          chosen (is_moved place.form w.header) true (Over Nothing)
              (At (MoveEnding (slot_of place w.count) w.header)) [] Nothing w.moved refl,
        ),
      )
  by_did steps (NoRoom bucket) both =
      let w = both.1 in
      let claims = from_claim w.count w.header w.ending w.claims [] claim.NoRoom (NoRoom cells.bucket)
      (loses_by cells room.least_cells w.claims w.lost) refl in
      rw (w.steps_are, both.0) (from_end w.count w.header w.ending w.claims (NoRoom cells.bucket) w.unmoved
      (rw append-nil at claims))
  by_did steps (Moved stamp) w =
      rw (w.steps_are, w.stamp_is) (from_copy w.count w.header w.cell w.tag w.header w.copy w.last
      (Moved (stamp_in place.form w.header)) w.copied
      (chosen (w.header == w.header) true (At (MoveFull (slot_of place w.count) w.header w.cell w.tag))
      (At (MoveBack w.header w.cell w.tag)) w.last
      (Moved (stamp_in place.form w.header)) (grind (arith, nat_tests))
      (from_full (slot_of place w.count) w.header w.cell w.tag w.last w.shown)))
  by_did steps (Back stamp) w =
      let changed = w.changed in
      rw (w.steps_are, w.stamp_is) (from_copy w.count w.header w.cell w.tag w.again w.copy w.last
      (Back (stamp_in place.form w.header)) w.copied
      (chosen (w.again == w.header) false (At (MoveFull (slot_of place w.count) w.header w.cell w.tag))
      (At (MoveBack w.header w.cell w.tag)) w.last
      (Back (stamp_in place.form w.header)) (grind (arith, nat_tests))
      (from_back w.header w.cell w.tag w.last w.freed_by)))
