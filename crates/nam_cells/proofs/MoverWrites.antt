-- What a mover's words owe once it has read the version: the cell's words, the slot's header again, the tags, the flag.
use Rattle.std.proofs.Common.{List, None, Option, Some, ap, arith, false, inl, length, refl, subst, sym, true, ℕ}
use Rattle.std.proofs.Common.{⊎_elim, ◌*◌, ◌+◌, ◌<◌, ◌∙◌, ◌≡◌, ◌≢◌, ◌≤◌}
use Rattle.std.proofs.lemmas.Bool.{cases_lt}
use Rattle.std.specs.Prelude.{Bool, if◌then◌else◌, slice_index, ◌==◌}
use Rattle.nam_calls.specs.Mover.{move_after, on_fill}
use Rattle.nam_calls.specs.declared.mover.MoveAnswer.{MoveAnswer}
use Rattle.nam_calls.specs.declared.mover.MovePoint.{MovePoint}
use Rattle.nam_calls.specs.declared.mover.MovePoint.TheVariants.{MoveAgain, MoveBack, MoveFill, MoveFlag, MoveFull}
use Rattle.nam_calls.specs.declared.overflow.FillPoint.{FillPoint}
use Rattle.nam_calls.specs.declared.overflow.FillPoint.TheVariants.{FillBegin, FillEnding, FillOwner, FillWord}
use Rattle.nam_catalog.specs.declared.shape.Shape.{Shape}
use Rattle.nam_cells.proofs.RowLemmas.{was_there}
use Rattle.nam_cells.proofs.SlotLemmas.{again_there, kept_there, next_is}
use Rattle.nam_cells.proofs.StayLemmas.{begun_on, cell_whole, claimer_one, end_on, words_on}
use Rattle.nam_cells.proofs.ValueLemmas.{number_found}
use Rattle.nam_cells.proofs.WriteLemmas.{cell_same, inside_turns, put_here, quiet, tag_cell, tag_spares, tag_turns}
use Rattle.nam_cells.proofs.WriteLemmas.{written_same}
use Rattle.nam_cells.specs.Turn.{TurnOk}
use Rattle.nam_cells.specs.Views.{mover_now}
use Rattle.nam_cells.specs.Words.{SameUpkeep, inside_of}
use Rattle.nam_ghost.proofs.CellLemmas.{bucket_within}
use Rattle.nam_ghost.proofs.ValueLemmas.{old_says}
use Rattle.nam_ghost.specs.Cells.{Cell, CellIs, CellMap, ClaimedBy, FreeCell, IsWhole, Stores, end_at, put_cell}
use Rattle.nam_ghost.specs.Steps.{header_number}
use Rattle.nam_ghost.specs.Turn.{Turn}
use Rattle.nam_ghost.specs.Upkeep.{EndWas, HasWritten, MoveBegun, Mover, NoUpkeep, Owns, SameCell, UpkeepOk, While}
use Rattle.nam_ghost.specs.Upkeep.{WordsWere}
use Rattle.nam_ghost.specs.Versions.{HasData, HasGot, Version, cell_image, versions}
use Rattle.nam_header.specs.Header.{header_of}
use Rattle.nam_header.specs.Stamp.{FitsStamp, stamp_in, stamp_word}
use Rattle.nam_header.specs.Tag.{freed, full, generation_of, has_next, state_of}
use Rattle.nam_header.specs.declared.header.Header.{Header}
use Rattle.nam_layout.proofs.LimitLemmas.{place_within_limits}
use Rattle.nam_layout.specs.Address.{IsCell, IsRow}
use Rattle.nam_layout.specs.Place.{bucket_of, cells_of, place_at}
use Rattle.nam_layout.specs.Rows.{ring_at, width_at}
use Rattle.nam_layout.specs.declared.field.Cells.{Cells}
use Rattle.nam_layout.specs.declared.field.Field.{Field}
use Rattle.nam_layout.specs.declared.field.Field.TheVariants.{Begin, CellWord, End, Owner, SlotHeader, Tag}
use Rattle.nam_layout.specs.declared.field.Place.{Place}
use Rattle.nam_store.specs.Changed.{Changed}
use Rattle.nam_verbs.proofs.TestLemmas.{by_equal}
use Rattle.nam_verbs.specs.declared.now.Now.{Now}
use Rattle.nam_verbs.specs.declared.now.Now.TheVariants.{At, Over}
use Rattle.nam_calls.specs.declared.overflow.Version as filled

word_in : Field → ℕ
word_in (CellWord bucket cell word) = word
word_in _ = 0

word_one : {bucket cell a b : ℕ} → CellWord bucket cell a ≡ CellWord bucket cell b → a ≡ b
unfolding word_in
word_one same = ap word_in same

pub not_claimed : {row number worker : ℕ} → Stores row number ≡ ClaimedBy worker → ⊥
not_claimed e = cc

module _ (shape : Shape) (turn : Turn shape) (row : ℕ) (is : IsRow shape row) where
  abbrev bucket : ℕ
  bucket = bucket_of shape row

  abbrev place : Place
  place = place_at shape row

  abbrev cells : Cells
  cells = cells_of shape (bucket_of shape row)

  abbrev width : ℕ
  width = width_at shape.tables row

  abbrev Turns : CellMap → Now MovePoint MoveAnswer → Type 0
  Turns after now = TurnOk shape turn after (mover_now row now)

  abbrev OwnsNow : ℕ → ℕ → Type 0
  OwnsNow = Owns shape turn.later turn.next turn.now turn.cells turn.nth (bucket_of shape row)

  abbrev WholeNow : ℕ → ℕ → Type 0
  WholeNow number cell =
      IsWhole shape turn.later turn.next row number (cell_image turn.now (bucket_of shape row) cell)

  is_cell : (cell : ℕ) → cell < shape.cells → IsCell shape bucket cell
  is_cell cell less = (bucket_within shape turn.limits row, less)

  -- 1. A word of the cell

  module _ (slot header cell tag : ℕ) (copy : filled.Version) (number : ℕ) (version : Version)
      (less : slot < ring_at shape.tables row) (short : cell < shape.cells)
      (long : length copy.value ≡ width_at shape.tables row)
      (begun : MoveBegun shape turn.chains turn.rings row slot header number version)
      (is_end : EndWas shape turn.chains turn.rings turn.m turn.cells turn.nth row slot number copy.«end»)
      (words : WordsWere shape turn.chains turn.rings turn.m turn.cells turn.nth row slot number version copy.value)
      (owns : Owns shape turn.chains turn.rings turn.m turn.cells turn.nth (bucket_of shape row) cell tag)
      (begin_is : copy.begin ≡ header) where
    abbrev Written : FillPoint → Type 0
    Written =
        HasWritten shape turn.chains turn.rings turn.m turn.cells turn.nth (bucket_of shape row) cell row copy

    abbrev WrittenNow : FillPoint → Type 0
    WrittenNow =
        HasWritten shape turn.later turn.next turn.now turn.cells turn.nth (bucket_of shape row) cell row copy

    -- what comes next is known by what was written
    fills : (field : Field) (word : ℕ) → Changed shape turn.m turn.now field word
        → inside_of field ≡ Some (bucket, cell) → field ≢ Tag bucket cell → (now : Now MovePoint MoveAnswer)
        → (OwnsNow cell tag
        → UpkeepOk shape turn.later turn.next turn.now turn.cells turn.nth (mover_now row now))
        → Turns turn.cells now
    fills field word changed inside apart now goes =
        inside_turns shape turn bucket cell field word changed inside owns.1 (mover_now row now)
        (goes (changed.others (Tag bucket cell) (is_cell cell short) (λ e. apart (sym e)) ∙ owns.0, owns.1))

    begun_now : MoveBegun shape turn.later turn.next row slot header number version
    begun_now = begun_on shape turn turn.cells row slot header number version is begun

    fill_at : (at : FillPoint) → OwnsNow cell tag → WrittenNow at
        → UpkeepOk shape turn.later turn.next turn.now turn.cells turn.nth
        (Mover row (MoveFill slot header cell tag copy at))
    fill_at at owns_now written = (
      is,
      (
        number,
        version,
        (
          begun_now,
          end_on shape turn turn.cells turn.nth row slot number (is, less) begun.was_copied copy.«end» is_end,
          words_on shape turn turn.cells turn.nth row slot number (is, less) begun.was_copied version copy.value words,
          owns_now,
          begin_is,
          written,
        ),
      ),
    )

    pub owner_turn : Changed shape turn.m turn.now (Owner bucket cell) row
        → Turns turn.cells (move_after place cells (MoveFill slot header cell tag copy FillOwner) 0)
    owner_turn changed =
        fills (Owner bucket cell) row changed refl (λ e. cc) (At (MoveFill slot header cell tag copy FillBegin))
        (λ o. fill_at FillBegin o changed.here)

    pub begin_turn : Written FillBegin → Changed shape turn.m turn.now (Begin bucket cell) copy.begin
        → Turns turn.cells (move_after place cells (MoveFill slot header cell tag copy FillBegin) 0)
    begin_turn written changed =
        fills (Begin bucket cell) copy.begin changed refl (λ e. cc)
        (At (MoveFill slot header cell tag copy FillEnding))
        (λ o. fill_at FillEnding o
        (changed.others (Owner bucket cell) (is_cell cell short) (λ e. cc) ∙ written, changed.here))

    pub ending_turn : Written FillEnding → Changed shape turn.m turn.now (End bucket cell) copy.«end»
        → Turns turn.cells (move_after place cells (MoveFill slot header cell tag copy FillEnding) 0)
    ending_turn written changed =
        fills (End bucket cell) copy.«end» changed refl (λ e. cc)
        (At (MoveFill slot header cell tag copy (FillWord 0)))
        (λ o. fill_at (FillWord 0) o (
          changed.others (Owner bucket cell) (is_cell cell short) (λ e. cc) ∙ written.0,
          changed.others (Begin bucket cell) (is_cell cell short) (λ e. cc) ∙ written.1,
          changed.here,
          λ nth none. absurd (omega arith),
        ))

    -- the cell has all its words
    filled_whole : WrittenNow (FillWord width)
        → While shape turn.later turn.next turn.now turn.cells turn.nth row slot number (WholeNow number cell)
    filled_whole written kept at same =
        let up = turn.rows.counts row is in
        let copied = begun.was_copied in
        let before = was_there shape turn.chains turn.later turn.rings turn.next turn.rows row slot (is, less) kept at
        (omega arith) in
        let old = before.0 in
        let number_is : old.number ≡ number = before.2 ∙ same in
        let ok =
        kept_there shape turn.limits turn.m turn.chains turn.rings row is (turn.images row is) slot less old before.1
        in
        let ends = turn.rows.ends row number is copied in
        let next : old.next ≡ end_at shape turn.later turn.next row number =
        next_is shape turn.limits turn.m turn.chains turn.rings row is (turn.images row is) slot less old before.1
        ∙ ap (end_at shape turn.chains turn.rings row) number_is ∙ sym ends in
        record {
          inside = is;
          was_copied = omega arith;
          version = version;
          version_is = begun_now.version_is;
          fits = begun.fits;
          end_fits = subst (FitsStamp shape.form) next ok.next_fits;
          owner_is = written.0;
          begin_is = written.1 ∙ begin_is ∙ begun.header_is;
          ending_is = written.2 ∙ is_end old before.1 number_is ∙ ap (stamp_word shape.form) (sym ends);
          data_is = whole version.value (words old before.1 number_is);
        }
      where
        whole : (value : Option (List ℕ)) → HasGot copy.value value
            → HasData width (λ nth. turn.now (CellWord bucket cell nth)) value
        whole None has = tt
        whole (Some value) has = λ nth few. written.3 nth few ∙ has nth (omega arith)

    pub word_turn : (word : ℕ) → word < width → Written (FillWord word)
        → Changed shape turn.m turn.now (CellWord bucket cell word) (slice_index copy.value word)
        → Turns turn.cells (move_after place cells (MoveFill slot header cell tag copy (FillWord word)) 0)
    word_turn word few written changed =
        fills (CellWord bucket cell word) (slice_index copy.value word) changed refl (λ e. cc)
        (on_fill slot header cell tag copy (if word + 1 == width then Over tt else At (FillWord (word + 1))))
        (λ o.
        let more : WrittenNow (FillWord (word + 1)) = (
          changed.others (Owner bucket cell) (is_cell cell short) (λ e. cc) ∙ written.0,
          changed.others (Begin bucket cell) (is_cell cell short) (λ e. cc) ∙ written.1,
          changed.others (End bucket cell) (is_cell cell short) (λ e. cc) ∙ written.2,
          each,
        ) in
        by_equal
        (λ (now : Now FillPoint (Unit {0})). UpkeepOk shape turn.later turn.next turn.now turn.cells turn.nth
        (mover_now row (on_fill slot header cell tag copy now)))
        (word + 1) width (Over tt) (At (FillWord (word + 1)))
        (λ last. (
          is,
          (
            number,
            version,
            (begun_now, filled_whole (subst (λ n. WrittenNow (FillWord n)) last more), o),
          ),
        ))
        (λ on. fill_at (FillWord (word + 1)) o more))
      where
        each : (nth : ℕ) → nth < word + 1 → turn.now (CellWord bucket cell nth) ≡ slice_index copy.value nth
        each nth small =
            let most = (place_within_limits shape row turn.limits is).most_width in
            ⊎_elim (λ (before : nth < word).
            changed.others (CellWord bucket cell nth) (is_cell cell short, omega arith)
            (λ e. let same = word_one e in omega arith) ∙ written.3 nth before)
            (λ (least : word ≤ nth).
            let same : nth ≡ word = omega arith in
            subst (λ n. turn.now (CellWord bucket cell n) ≡ slice_index copy.value n) (sym same) changed.here)
            (cases_lt nth word)

  module _ (slot header cell tag number : ℕ) (version : Version) (less : slot < ring_at shape.tables row)
      (short : cell < shape.cells)
      (begun : MoveBegun shape turn.chains turn.rings row slot header number version)
      (owns : Owns shape turn.chains turn.rings turn.m turn.cells turn.nth (bucket_of shape row) cell tag) where
    -- 2. The slot's header again

    pub again_turn : While shape turn.chains turn.rings turn.m turn.cells turn.nth row slot number
        (IsWhole shape turn.chains turn.rings row number (cell_image turn.m bucket cell))
        → SameUpkeep shape turn.m turn.now
        → Turns turn.cells (move_after place cells (MoveAgain slot header cell tag) (turn.m (SlotHeader row slot)))
    again_turn whole same =
        let found = turn.m (SlotHeader row slot) in
        let full_next : Now MovePoint MoveAnswer = At (MoveFull slot header cell tag) in
        let back_next : Now MovePoint MoveAnswer = At (MoveBack header cell tag) in
        let owns_now : OwnsNow cell tag = (same (Tag bucket cell) (is_cell cell short) tt ∙ owns.0, owns.1) in
        quiet shape turn same (mover_now row (if found == header then full_next else back_next))
        (by_equal
        (λ (now : Now MovePoint MoveAnswer).
        UpkeepOk shape turn.later turn.next turn.now turn.cells turn.nth (mover_now row now))
        found header full_next back_next
        (λ here.
        let there =
        again_there shape turn.limits turn.m turn.chains turn.rings row is (turn.images row is) slot less
        (λ a b u v. turn.once row a b u v is) header number version begun here in (
          is,
          (
            number,
            version,
            (
              begun_on shape turn turn.cells row slot header number version is begun,
              cell_whole shape turn turn.cells row number bucket cell
                  (cell_same shape turn same bucket cell (is_cell cell short)) (whole there.0 there.1 there.2),
              owns_now,
            ),
          ),
        ))
        (λ gone. (is, (number, version, owns_now))))

    -- 3. The tag that says that the cell is full

    abbrev stored : Cell
    stored = Stores row (header_number shape.form (turn.chains row) header)

    number_is : header_number shape.form (turn.chains row) header ≡ number
    number_is =
        let stamp : version.stamp ≡ stamp_in shape.form header =
        sym (ap (λ (h : Header). h.stamp)
        (ap (header_of shape.form) begun.header_is ∙ old_says shape.form false version begun.fits)) in
        let found =
        number_found (versions (turn.chains row)) (stamp_in shape.form header) number version begun.version_is stamp
        in
        turn.once row (header_number shape.form (turn.chains row) header) number found.0 version is found.1
        begun.version_is (found.2 ∙ sym stamp)

    pub full_turn : IsWhole shape turn.chains turn.rings row number (cell_image turn.m bucket cell)
        → Changed shape turn.m turn.now (Tag bucket cell) (full tag)
        → Turns
        (put_cell turn.cells bucket cell (Stores row (header_number shape.form (turn.chains row) header)))
        (move_after place cells (MoveFull slot header cell tag) 0)
    full_turn whole changed =
        let one : state_of (turn.m (Tag bucket cell)) ≡ 1 =
        subst (CellIs shape turn.chains turn.rings bucket (cell_image turn.m bucket cell)) owns.1
        (turn.are bucket cell (is_cell cell short)) in
        let tag_is = owns.0 in
        let here = changed.here in
        let up : turn.m (Tag bucket cell) < full tag = omega arith in
        let same : SameCell shape turn.m turn.now bucket cell =
        tag_cell shape turn bucket cell (full tag) stored changed up bucket cell (is_cell cell short) in
        let done : CellIs shape turn.later turn.next bucket (cell_image turn.now bucket cell) (Stores row number) =
        (omega arith, refl, cell_whole shape turn turn.cells row number bucket cell same whole) in
        tag_turns shape turn bucket cell (full tag) stored changed up (Mover row (MoveFlag slot header))
        (tag_spares shape turn bucket cell (full tag) stored changed up (λ other e. claimer_one (sym e ∙ owns.1))
        (λ r n e. absurd (not_claimed (sym e ∙ owns.1))))
        (subst (λ n. CellIs shape turn.later turn.next bucket (cell_image turn.now bucket cell) (Stores row n))
        (sym number_is) done) (
          is,
          (
            number,
            version,
            (
              begun_on shape turn turn.cells row slot header number version is begun,
              inl (cell, omega arith, short, put_here turn.cells bucket cell stored ∙ ap (λ n. Stores row n) number_is),
            ),
          ),
        )

  -- 4. The flag, and the cell given back

  pub flag_turn : (slot header found : ℕ) → SameUpkeep shape turn.m turn.now
      → Turns turn.cells (move_after place cells (MoveFlag slot header) found)
  flag_turn slot header found same = quiet shape turn same NoUpkeep tt

  module _ (header cell tag : ℕ) (short : cell < shape.cells)
      (owns : Owns shape turn.chains turn.rings turn.m turn.cells turn.nth (bucket_of shape row) cell tag) where
    by_next : (on : Bool) → has_next tag ≡ on
        → Changed shape turn.m turn.now (Tag bucket cell) (if on then (generation_of tag + 1) * 4 else tag)
        → TurnOk shape turn (if on then put_cell turn.cells bucket cell FreeCell else turn.cells) NoUpkeep
    by_next false e changed =
        quiet shape turn
        (written_same shape turn.m turn.now (Tag bucket cell) (is_cell cell short)
        (subst (Changed shape turn.m turn.now (Tag bucket cell)) (sym owns.0) changed)) NoUpkeep tt
    by_next true e changed =
        let tag_is = owns.0 in
        let here = changed.here in
        let word = (generation_of tag + 1) * 4 in
        let up : turn.m (Tag bucket cell) < word = omega arith in
        tag_turns shape turn bucket cell word FreeCell changed up NoUpkeep
        (tag_spares shape turn bucket cell word FreeCell changed up (λ other e. claimer_one (sym e ∙ owns.1))
        (λ r n e. absurd (not_claimed (sym e ∙ owns.1))))
        (omega arith) tt

    pub back_turn : (found : ℕ) → Changed shape turn.m turn.now (Tag bucket cell) (freed tag)
        → Turns (if has_next tag then put_cell turn.cells bucket cell FreeCell else turn.cells)
        (move_after place cells (MoveBack header cell tag) found)
    back_turn found changed = by_next (has_next tag) refl changed
