-- What a mover's words owe while it reads the version and claims a cell.
use Rattle.std.proofs.Common.{List, Some, [], ap, arith, eqb, false, length, refl, subst, sym, true, ℕ, ◌++◌, ◌+◌, ◌<◌}
use Rattle.std.proofs.Common.{◌∙◌, ◌∷◌, ◌≡◌}
use Rattle.std.proofs.lemmas.Bool.{eqb-true}
use Rattle.std.proofs.lemmas.Option.{same_Some}
use Rattle.std.specs.Prelude.{Bool, None, if◌then◌else◌, ◌==◌}
use Rattle.nam_calls.specs.Mover.{move_after, on_claim}
use Rattle.nam_calls.specs.Overflow.{claim_next}
use Rattle.nam_calls.specs.declared.mover.MoveAnswer.{MoveAnswer}
use Rattle.nam_calls.specs.declared.mover.MovePoint.{MovePoint}
use Rattle.nam_calls.specs.declared.mover.MovePoint.TheVariants.{MoveClaim, MoveCount, MoveEnding, MoveFill, MoveHead}
use Rattle.nam_calls.specs.declared.mover.MovePoint.TheVariants.{MoveWords}
use Rattle.nam_calls.specs.declared.overflow.ClaimEnd.{ClaimEnd}
use Rattle.nam_calls.specs.declared.overflow.ClaimEnd.TheVariants.{Claimed, NoRoom}
use Rattle.nam_calls.specs.declared.overflow.ClaimPoint.{ClaimPoint}
use Rattle.nam_calls.specs.declared.overflow.ClaimPoint.TheVariants.{ClaimLook, ClaimTake}
use Rattle.nam_calls.specs.declared.overflow.FillPoint.TheVariants.{FillOwner}
use Rattle.nam_catalog.specs.declared.shape.Shape.{Shape}
use Rattle.nam_cells.proofs.SlotLemmas.{head_begins, kept_there, next_is}
use Rattle.nam_cells.proofs.StayLemmas.{begun_on, end_on, words_on}
use Rattle.nam_cells.proofs.WriteLemmas.{put_here, quiet, tag_spares, tag_turns, written_same}
use Rattle.nam_cells.specs.Turn.{TurnOk}
use Rattle.nam_cells.specs.Views.{mover_now}
use Rattle.nam_cells.specs.Words.{SameUpkeep}
use Rattle.nam_ghost.proofs.CellLemmas.{bucket_within}
use Rattle.nam_ghost.proofs.ValueLemmas.{got_more, got_none, old_says}
use Rattle.nam_ghost.specs.Cells.{Cell, CellIs, CellMap, ClaimedBy, Stores, end_at, put_cell}
use Rattle.nam_ghost.specs.Slots.{Kept}
use Rattle.nam_ghost.specs.Turn.{Turn}
use Rattle.nam_ghost.specs.Upkeep.{EndWas, MoveBegun, Mover, MoverAt, Owns, UpkeepOk}
use Rattle.nam_ghost.specs.Versions.{HasData, IsNth, Version, cell_image}
use Rattle.nam_header.specs.Header.{header_of, word_of}
use Rattle.nam_header.specs.Stamp.{is_moved, stamp_word, without_moved}
use Rattle.nam_header.specs.Tag.{is_free, state_of, written}
use Rattle.nam_header.specs.declared.header.Header.{Header}
use Rattle.nam_layout.specs.Address.{IsCell, IsRow}
use Rattle.nam_layout.specs.Place.{bucket_of, cells_of, place_at}
use Rattle.nam_layout.specs.Rows.{ring_at, width_at}
use Rattle.nam_layout.specs.declared.field.Cells.{Cells}
use Rattle.nam_layout.specs.declared.field.Field.TheVariants.{SlotEnd, SlotHeader, SlotWord, Tag}
use Rattle.nam_layout.specs.declared.field.Place.{Place}
use Rattle.nam_store.specs.Changed.{Changed}
use Rattle.nam_verbs.proofs.TestLemmas.{by_equal, by_test}
use Rattle.nam_verbs.specs.declared.now.Now.{Now}
use Rattle.nam_verbs.specs.declared.now.Now.TheVariants.{At, Over}
use Rattle.nam_calls.specs.declared.mover.MoveAnswer.TheVariants as answer
use Rattle.nam_calls.specs.declared.overflow.Version as filled

-- which version, before it has read a header
pub no_version : Version
no_version = record { stamp = record { thread = 0; number = 0 }; value = None; seen = [] }

module _ (shape : Shape) (turn : Turn shape) (row : ℕ) (is : IsRow shape row) where
  abbrev bucket : ℕ
  bucket = bucket_of shape row

  abbrev place : Place
  place = place_at shape row

  abbrev cells : Cells
  cells = cells_of shape (bucket_of shape row)

  abbrev Own : CellMap → Now MovePoint MoveAnswer → Type 0
  Own after now = UpkeepOk shape turn.later turn.next turn.now after turn.nth (mover_now row now)

  abbrev Turns : CellMap → Now MovePoint MoveAnswer → Type 0
  Turns after now = TurnOk shape turn after (mover_now row now)

  is_cell : (cell : ℕ) → cell < shape.cells → IsCell shape bucket cell
  is_cell cell less = (bucket_within shape turn.limits row, less)

  -- 1. The count, the header, the end

  pub count_turn : SameUpkeep shape turn.m turn.now → (found : ℕ)
      → Turns turn.cells (move_after place cells MoveCount found)
  count_turn same found =
      quiet shape turn same (mover_now row (move_after place cells MoveCount found)) (is, (0, no_version, tt))

  pub head_turn : (slot : ℕ) → slot < ring_at shape.tables row → SameUpkeep shape turn.m turn.now
      → Turns turn.cells (move_after place cells (MoveHead slot) (turn.m (SlotHeader row slot)))
  head_turn slot less same =
      let header = turn.m (SlotHeader row slot) in
      quiet shape turn same (mover_now row (move_after place cells (MoveHead slot) header))
      (by_test (Own turn.cells) (is_moved shape.form header) (Over answer.Nothing) (At (MoveEnding slot header))
      (λ moved. tt)
      (λ unmoved.
      let there = head_begins shape turn.limits turn.m turn.chains turn.rings row is (turn.images row is) slot less
      unmoved in
      let kept = there.0 in (
        is,
        (
          kept.number,
          kept.version,
          begun_on shape turn turn.cells row slot header kept.number kept.version is there.2,
        ),
      )))

  module _ (slot header number : ℕ) (version : Version) (less : slot < ring_at shape.tables row)
      (begun : MoveBegun shape turn.chains turn.rings row slot header number version) where
    abbrev IsEnd : ℕ → Type 0
    IsEnd ending = EndWas shape turn.chains turn.rings turn.m turn.cells turn.nth row slot number ending

    begun_now : MoveBegun shape turn.later turn.next row slot header number version
    begun_now = begun_on shape turn turn.cells row slot header number version is begun

    end_now : (after : CellMap) (ending : ℕ) → IsEnd ending
        → EndWas shape turn.later turn.next turn.now after turn.nth row slot number ending
    end_now after ending e = end_on shape turn after turn.nth row slot number (is, less) begun.was_copied ending e

    pub end_turn : SameUpkeep shape turn.m turn.now
        → Turns turn.cells (move_after place cells (MoveEnding slot header) (turn.m (SlotEnd row slot)))
    end_turn same =
        let ending = turn.m (SlotEnd row slot) in
        quiet shape turn same (mover_now row (move_after place cells (MoveEnding slot header) ending)) (
          is,
          (
            number,
            version,
            (
              begun_now,
              end_now turn.cells ending (λ kept at same_number.
                  (kept_there shape turn.limits turn.m turn.chains turn.rings row is (turn.images row is) slot less kept
                  at).ending_is
                  ∙ ap (stamp_word shape.form)
                  (next_is shape turn.limits turn.m turn.chains turn.rings row is (turn.images row is) slot less kept at
                  ∙ ap (end_at shape turn.chains turn.rings row) same_number)),
              tt,
            ),
          ),
        )

    -- 2. The claim

    module _ (ending : ℕ) (is_end : IsEnd ending) where
      claims_on : (after : CellMap) (cell : ℕ)
          → Own after (on_claim cells slot header ending (claim_next cells cell))
      claims_on after cell =
          by_equal (λ (claim : Now ClaimPoint ClaimEnd). Own after (on_claim cells slot header ending claim))
          (cell + 1) shape.cells (Over NoRoom) (At (ClaimLook (cell + 1))) (λ last. tt)
          (λ on. (is, (number, version, (begun_now, end_now after ending is_end, tt))))

      pub look_turn : (cell found : ℕ) → SameUpkeep shape turn.m turn.now
          → Turns turn.cells (move_after place cells (MoveClaim slot header ending (ClaimLook cell)) found)
      look_turn cell found same =
          quiet shape turn same
          (mover_now row (move_after place cells (MoveClaim slot header ending (ClaimLook cell)) found))
          (by_test
          (λ (claim : Now ClaimPoint ClaimEnd). Own turn.cells (on_claim cells slot header ending claim))
          (is_free found) (At (ClaimTake cell found)) (claim_next cells cell)
          (λ free. (is, (number, version, (begun_now, end_now turn.cells ending is_end, eqb-true _ _ free))))
          (λ taken. claims_on turn.cells cell))

      won_turn : (cell tag : ℕ) → cell < shape.cells → state_of tag ≡ 0 → turn.m (Tag bucket cell) ≡ tag
          → Changed shape turn.m turn.now (Tag bucket cell) (written tag)
          → Turns (put_cell turn.cells bucket cell (ClaimedBy (turn.nth + 1)))
          (on_claim cells slot header ending (Over (Claimed cell (written tag))))
      won_turn cell tag short free is_tag changed =
          let claimed = ClaimedBy (turn.nth + 1) in
          let after = put_cell turn.cells bucket cell claimed in
          let up : turn.m (Tag bucket cell) < written tag = omega arith in
          let was : (x : Cell) → turn.cells bucket cell ≡ x
          → CellIs shape turn.chains turn.rings bucket (cell_image turn.m bucket cell) x = λ x e.
          subst (CellIs shape turn.chains turn.rings bucket (cell_image turn.m bucket cell)) e
          (turn.are bucket cell (is_cell cell short)) in
          tag_turns shape turn bucket cell (written tag) claimed changed up
          (Mover row (MoveWords slot header ending cell (written tag) []))
          (tag_spares shape turn bucket cell (written tag) claimed changed up
          (λ other e. let one : state_of (turn.m (Tag bucket cell)) ≡ 1 = was (ClaimedBy (other + 1)) e in
          absurd (omega arith))
          (λ r n e. let two : state_of (turn.m (Tag bucket cell)) ≡ 2 = (was (Stores r n) e).0 in absurd (omega arith)))
          (let here = changed.here in omega arith) (
            is,
            (
              number,
              version,
              (
                begun_now,
                end_now after ending is_end,
                (λ kept at same. got_none version.value),
                (changed.here, put_here turn.cells bucket cell claimed),
              ),
            ),
          )

      by_found : (cell tag : ℕ) → cell < shape.cells → state_of tag ≡ 0 → (won : Bool)
          → eqb (turn.m (Tag bucket cell)) tag ≡ won
          → Changed shape turn.m turn.now (Tag bucket cell) (if won then written tag else turn.m (Tag bucket cell))
          → Turns (if won then put_cell turn.cells bucket cell (ClaimedBy (turn.nth + 1)) else turn.cells)
          (on_claim cells slot header ending
          (if won then Over (Claimed cell (written tag)) else claim_next cells cell))
      by_found cell tag short free false e changed =
          quiet shape turn (written_same shape turn.m turn.now (Tag bucket cell) (is_cell cell short) changed)
          (mover_now row (on_claim cells slot header ending (claim_next cells cell))) (claims_on turn.cells cell)
      by_found cell tag short free true e changed =
          won_turn cell tag short free (eqb-true (turn.m (Tag bucket cell)) tag e) changed

      pub take_turn : (cell tag : ℕ) → cell < shape.cells → state_of tag ≡ 0
          → let found = turn.m (Tag bucket cell) in
          Changed shape turn.m turn.now (Tag bucket cell) (if found == tag then written tag else found)
          → Turns (if found == tag then put_cell turn.cells bucket cell (ClaimedBy (turn.nth + 1)) else turn.cells)
          (move_after place cells (MoveClaim slot header ending (ClaimTake cell tag)) found)
      take_turn cell tag short free changed =
          by_found cell tag short free (eqb (turn.m (Tag bucket cell)) tag) refl changed

  -- 3. The words

  pub words_turn : (slot header ending cell tag : ℕ) (got : List ℕ) (number : ℕ) (version : Version)
      → slot < ring_at shape.tables row → cell < shape.cells → length got < width_at shape.tables row
      → SameUpkeep shape turn.m turn.now
      → MoverAt shape turn.chains turn.rings turn.m turn.cells turn.nth row number version
      (MoveWords slot header ending cell tag got)
      → Turns turn.cells
      (move_after place cells (MoveWords slot header ending cell tag got) (turn.m (SlotWord row slot (length got))))
  words_turn slot header ending cell tag got number version less short narrow same o =
      let more = got ++ turn.m (SlotWord row slot (length got)) ∷ [] in
      let copy : filled.Version =
      record { begin = without_moved shape.form header; «end» = ending; value = more } in
      let begun = begun_on shape turn turn.cells row slot header number version is o.0 in
      let copied = o.0.was_copied in
      let is_end = end_on shape turn turn.cells turn.nth row slot number (is, less) copied ending o.1 in
      let words = words_on shape turn turn.cells turn.nth row slot number (is, less) copied version more
      (λ kept at same_number.
      got_more (width_at shape.tables row) got (λ nth. turn.m (SlotWord row slot nth)) version.value narrow
      (o.2 kept at same_number) (body kept at same_number)) in
      let owns : Owns shape turn.later turn.next turn.now turn.cells turn.nth bucket cell tag =
      (same (Tag bucket cell) (is_cell cell short) tt ∙ o.3.0, o.3.1) in
      let fill = MoveFill slot header cell tag copy FillOwner in
      let on = MoveWords slot header ending cell tag more in
      quiet shape turn same (Mover row (if length more == width_at shape.tables row then fill else on))
      (by_test (λ (at : MovePoint). UpkeepOk shape turn.later turn.next turn.now turn.cells turn.nth (Mover row at))
      (length more == width_at shape.tables row) fill on
      (λ whole. (is, (number, version, (begun, is_end, words, owns, begin_is, tt))))
      (λ part. (is, (number, version, (begun, is_end, words, owns)))))
    where
      body : (kept : Kept) → (turn.rings row).kept slot ≡ Some kept → kept.number ≡ number
          → HasData (width_at shape.tables row) (λ nth. turn.m (SlotWord row slot nth)) version.value
      body kept at same_number =
          let ok =
          kept_there shape turn.limits turn.m turn.chains turn.rings row is (turn.images row is) slot less kept at in
          subst (λ (v : Version). HasData (width_at shape.tables row) (λ nth. turn.m (SlotWord row slot nth)) v.value)
          (same_Some kept.version version
          (sym (subst (λ n. IsNth (turn.chains row) n kept.version) same_number ok.version_is) ∙ o.0.version_is))
          ok.data_is

      -- the header was unmoved
      begin_is : without_moved shape.form header ≡ header
      begin_is =
          ap (λ (h : Header). word_of shape.form (record h { moved = false }))
          (ap (header_of shape.form) o.0.header_is ∙ old_says shape.form false version o.0.fits)
          ∙ sym o.0.header_is
