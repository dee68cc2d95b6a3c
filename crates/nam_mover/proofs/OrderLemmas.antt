-- What a move has done before a write and before an exchange, whatever words it found.
use Rattle.std.proofs.Common.{◌≡◌, ◌⊎◌, inl, inr, ℕ, List, [], ◌∷◌, ◌++◌, refl, sym, ◌∙◌}
use Rattle.std.proofs.Common.{subst, arith, Some}
use Rattle.std.proofs.lemmas.List.{append_assoc}
use Rattle.nam_verbs.specs.declared.now.Now.{Now}
use Rattle.nam_verbs.specs.declared.now.Now.TheVariants.{At, Over}
use Rattle.nam_verbs.specs.Now.{FitsNow}
use Rattle.nam_verbs.specs.Machine.{after_words}
use Rattle.nam_verbs.specs.Steps.{Step, verbs_of}
use Rattle.nam_verbs.proofs.TakenLemmas.{holds_always}
use Rattle.nam_verbs.specs.Falls.{Any}
use Rattle.nam_verbs.specs.SoFar.{steps_by, next_at, verb_at}
use Rattle.nam_verbs.specs.VerbAt.{VerbAt, WriteAt, ExchangeAt}
use Rattle.nam_verbs.proofs.HistoryLemmas as past
use Rattle.nam_header.specs.Stamp.{stamp_in, with_moved}
use Rattle.nam_layout.specs.declared.field.Place.{Place}
use Rattle.nam_layout.specs.declared.field.Cells.{Cells}
use Rattle.nam_layout.specs.PlaceFits.{FitsPlace, FitsCells}
use Rattle.nam_layout.specs.Place.{known_address, place_end, cells_end, later}
use Rattle.nam_layout.specs.declared.field.Field.{Field}
use Rattle.nam_layout.specs.declared.field.Field.TheVariants as field
use Rattle.nam_calls.specs.declared.overflow.ClaimPoint.TheVariants.{ClaimLook, ClaimTake}
use Rattle.nam_calls.specs.declared.overflow.FillPoint.TheVariants.{FillOwner, FillBegin, FillEnding, FillWord}
use Rattle.nam_calls.specs.declared.mover.MovePoint.{MovePoint}
use Rattle.nam_calls.specs.declared.mover.MovePoint.TheVariants.{MoveCount, MoveHead, MoveEnding, MoveClaim}
use Rattle.nam_calls.specs.declared.mover.MovePoint.TheVariants.{MoveWords, MoveFill, MoveAgain, MoveFull, MoveFlag}
use Rattle.nam_calls.specs.declared.mover.MovePoint.TheVariants.{MoveBack}
use Rattle.nam_calls.specs.declared.mover.MoveAnswer.{MoveAnswer}
use Rattle.nam_calls.specs.declared.mover.MoveAnswer.TheVariants.{Moved}
use Rattle.nam_calls.specs.Fits.{MoveFits}
use Rattle.nam_calls.specs.Mover.{move_verb, move_after, move_left}
use Rattle.nam_calls.proofs.FallsCells.{move_falls}
use Rattle.nam_mover.specs.Move.{moving, running}
use Rattle.nam_mover.specs.OrderLaw.{IsOfCell, IsInTaken, TriesCell, TriesFlag}
use Rattle.nam_mover.proofs.MoveLemmas.{did_by}
use Rattle.nam_mover.proofs.ClaimedLemmas.{Took, HoldsNow, holds_after}

-- lists that are equal with one more element are equal
same_front : (xs ys : List (Step Field)) (x y : Step Field) → xs ++ x ∷ [] ≡ ys ++ y ∷ [] → (xs ≡ ys) × (x ≡ y)
same_front [] [] x y same = (refl, cc)
same_front [] (b ∷ []) x y same = absurd (cc)
same_front [] (b ∷ c ∷ ys) x y same = absurd (cc)
same_front (a ∷ []) [] x y same = absurd (cc)
same_front (a ∷ c ∷ xs) [] x y same = absurd (cc)
same_front (a ∷ xs) (b ∷ ys) x y same =
    let rest : xs ++ x ∷ [] ≡ ys ++ y ∷ [] = cc in let here : a ≡ b = cc in let further = same_front xs ys x y rest in
    let front = further.0 in (cc, further.1)

-- the last of steps that end with two verbs
split_last : (copy last steps : List (Step Field)) (step : Step Field) (first second : VerbAt Field)
    → verbs_of last ≡ first ∷ second ∷ []
    → steps ++ step ∷ [] ≡ copy ++ last → (shown : Step Field) × (steps ≡ copy ++ shown ∷ []) × (shown.verb ≡ first)
    × (step.verb ≡ second)
split_last copy [] steps step first second verbs same = absurd (cc)
split_last copy (a ∷ []) steps step first second verbs same = absurd (cc)
split_last copy (a ∷ b ∷ c ∷ rest) steps step first second verbs same = absurd (cc)
split_last copy (a ∷ b ∷ []) steps step first second verbs same =
    let both = same_front steps (copy ++ a ∷ []) step b (same ∙ sym (append_assoc copy (a ∷ []) (b ∷ []))) in
    let is = both.1 in (a, both.0, cc, cc)

module _ (place : Place) (cells : Cells) (fits : FitsPlace place) (room : FitsCells cells) where
  in_taken : (header cell : ℕ) (at : Field) (steps : List (Step Field)) → Took place cells room header cell steps
      → IsOfCell cells cell at → IsInTaken place cells at steps
  in_taken header cell at steps took is = record {
    stamp = stamp_in place.form header;
    taken = took.0;
    within = subst (λ c. IsOfCell cells c at) (sym took.1) is;
  }

  write_at : (now : Now MovePoint MoveAnswer) (steps : List (Step Field)) → FitsNow (MoveFits place cells) now
      → HoldsNow place cells room now steps
      → (at : Field) (word : ℕ) → verb_at (move_verb place cells) now ≡ Some (WriteAt at word)
      → IsInTaken place cells at steps
  write_at (Over end) steps here holds at word is = absurd (cc)
  write_at (At MoveCount) steps here holds at word is = absurd (cc)
  write_at (At (MoveHead slot)) steps here holds at word is = absurd (cc)
  write_at (At (MoveEnding slot header)) steps here holds at word is = absurd (cc)
  write_at (At (MoveClaim slot header ending (ClaimLook cell))) steps here holds at word is = absurd (cc)
  write_at (At (MoveClaim slot header ending (ClaimTake cell tag))) steps here holds at word is = absurd (cc)
  write_at (At (MoveWords slot header ending cell tag got)) steps here holds at word is = absurd (cc)
  write_at (At (MoveFill slot header cell tag version FillOwner)) steps here holds at word is =
      let same : at ≡ field.Owner cells.bucket cell = cc in
      rw same (in_taken header cell (field.Owner cells.bucket cell) steps holds (refl, refl))
  write_at (At (MoveFill slot header cell tag version FillBegin)) steps here holds at word is =
      let same : at ≡ field.Begin cells.bucket cell = cc in
      rw same (in_taken header cell (field.Begin cells.bucket cell) steps holds (refl, refl))
  write_at (At (MoveFill slot header cell tag version FillEnding)) steps here holds at word is =
      let same : at ≡ field.End cells.bucket cell = cc in
      rw same (in_taken header cell (field.End cells.bucket cell) steps holds (refl, refl))
  write_at (At (MoveFill slot header cell tag version (FillWord nth))) steps here holds at word is =
      let most = fits.most_width in let within = here.3 in
      let same : at ≡ field.CellWord cells.bucket cell nth = cc in
      rw same (in_taken header cell (field.CellWord cells.bucket cell nth) steps holds (refl, refl, omega arith))
  write_at (At (MoveAgain slot header cell tag)) steps here holds at word is = absurd (cc)
  write_at (At (MoveFull slot header cell tag)) steps here holds at word is =
      let same : at ≡ field.Tag cells.bucket cell = cc in
      rw same (in_taken header cell (field.Tag cells.bucket cell) steps holds (refl, refl))
  write_at (At (MoveFlag slot header)) steps here holds at word is = absurd (cc)
  write_at (At (MoveBack header cell tag)) steps here holds at word is =
      let same : at ≡ field.Tag cells.bucket cell = cc in
      rw same (in_taken header cell (field.Tag cells.bucket cell) steps holds (refl, refl))

  abbrev MoveLeads : Now MovePoint MoveAnswer → List (Step Field) → Now MovePoint MoveAnswer → Type 0
  MoveLeads = past.Leads (move_verb place cells) (move_after place cells)

  -- any word that the exchange of the flag finds ends the move
  flag_at : (slot header : ℕ) (steps : List (Step Field)) → MoveLeads (At MoveCount) steps (At (MoveFlag slot header))
      → TriesFlag place cells (field.SlotHeader place.row slot) header (with_moved place.form header) steps
  flag_at slot header steps leads =
      let step = past.step_at (move_verb place cells) (move_after place cells) (MoveFlag slot header) 0 in
      let moved = Moved (stamp_in place.form header) in
      let did = did_by place cells fits room (steps ++ step ∷ []) moved
      (past.leads_to_end (move_verb place cells) (move_after place cells) (At MoveCount) (steps ++ step ∷ []) moved
      (past.one_more (move_verb place cells) (move_after place cells) (At MoveCount) steps (MoveFlag slot header) 0
      leads)) in
      let parts = split_last did.copy did.last steps step _ _ did.shown did.steps_are in
      let flag = parts.3 in record {
        count = did.count;
        header = did.header;
        cell = did.cell;
        tag = did.tag;
        copy = did.copy;
        last = parts.0;
        copied = did.copied;
        shown = parts.2;
        steps_are = parts.1;
        slot_is = cc;
        header_is = cc;
        flag_is = cc;
      }

  exchange_at : (now : Now MovePoint MoveAnswer) (steps : List (Step Field)) → FitsNow (MoveFits place cells) now
      → MoveLeads (At MoveCount) steps now
      → (at : Field) (expected new : ℕ) → verb_at (move_verb place cells) now ≡ Some (ExchangeAt at expected new)
      → TriesCell place cells at expected new ⊎ TriesFlag place cells at expected new steps
  exchange_at (Over end) steps here leads at expected new is = absurd (cc)
  exchange_at (At MoveCount) steps here leads at expected new is = absurd (cc)
  exchange_at (At (MoveHead slot)) steps here leads at expected new is = absurd (cc)
  exchange_at (At (MoveEnding slot header)) steps here leads at expected new is = absurd (cc)
  exchange_at (At (MoveClaim slot header ending (ClaimLook cell))) steps here leads at expected new is =
      absurd (cc)
  exchange_at (At (MoveClaim slot header ending (ClaimTake cell tag))) steps here leads at expected new is =
      inl (record { cell = cell; within = here.1; tag_is = cc; written_is = cc })
  exchange_at (At (MoveWords slot header ending cell tag got)) steps here leads at expected new is = absurd (cc)
  exchange_at (At (MoveFill slot header cell tag version FillOwner)) steps here leads at expected new is =
      absurd (cc)
  exchange_at (At (MoveFill slot header cell tag version FillBegin)) steps here leads at expected new is =
      absurd (cc)
  exchange_at (At (MoveFill slot header cell tag version FillEnding)) steps here leads at expected new is =
      absurd (cc)
  exchange_at (At (MoveFill slot header cell tag version (FillWord nth))) steps here leads at expected new is =
      absurd (cc)
  exchange_at (At (MoveAgain slot header cell tag)) steps here leads at expected new is = absurd (cc)
  exchange_at (At (MoveFull slot header cell tag)) steps here leads at expected new is = absurd (cc)
  exchange_at (At (MoveFlag slot header)) steps here leads at expected new is =
      let there : at ≡ field.SlotHeader place.row slot = cc in let old : expected ≡ header = cc in
      let flag : new ≡ with_moved place.form header = cc in
      inr (rw (there, old, flag) (flag_at slot header steps leads))
  exchange_at (At (MoveBack header cell tag)) steps here leads at expected new is = absurd (cc)

  fits_after : (words : List ℕ) → FitsNow (MoveFits place cells)
      (after_words (running (moving place cells)) words).state
  fits_after =
      holds_always (MoveFits place cells) Any (running (moving place cells))
      (λ at here found. move_falls place cells fits room at found here)
      (MoveFits place cells) tt (λ at here. here)

  pub writes_into_taken : (words : List ℕ) (at : Field) (word : ℕ)
      → next_at (after_words (running (moving place cells)) words) ≡ Some (WriteAt at word)
      → IsInTaken place cells at (steps_by (running (moving place cells)) words)
  writes_into_taken words at word is =
      write_at _ _ (fits_after words) (holds_after place cells room words) at word
      (sym (past.next_after (running (moving place cells)) words) ∙ is)

  pub exchanges_in_order : (words : List ℕ) (at : Field) (expected new : ℕ)
      → next_at (after_words (running (moving place cells)) words) ≡ Some (ExchangeAt at expected new)
      → TriesCell place cells at expected new
      ⊎ TriesFlag place cells at expected new (steps_by (running (moving place cells)) words)
  exchanges_in_order words at expected new is =
      exchange_at _ _ (fits_after words)
      (past.leads_by (move_verb place cells) (move_after place cells) (known_address place cells 0)
      (later (place_end place) (cells_end cells)) (move_left place cells) (λ place steps. Unit {0})
      (At MoveCount) words)
      at expected new (sym (past.next_after (running (moving place cells)) words) ∙ is)
