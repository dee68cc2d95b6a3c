-- What a reader may rely on stays under each step, its own too: by rows, cells and the horizon going on as they may.
use Rattle.std.proofs.Common.{List, [], ap, arith, inl, inr, subst, true, ℕ, ◌+◌, ◌-◌, ◌<◌, ◌∙◌, ◌≡◌, ◌≤◌}
use Rattle.std.specs.Prelude.{Bool, false}
use Rattle.nam_calls.specs.Fits.{CellFits, ReadFits}
use Rattle.nam_calls.specs.declared.overflow.CellPoint.{CellPoint}
use Rattle.nam_calls.specs.declared.overflow.CellPoint.TheVariants.{CellAgain, CellBegin, CellEnding, CellOwner}
use Rattle.nam_calls.specs.declared.overflow.CellPoint.TheVariants.{CellTag, CellWords}
use Rattle.nam_calls.specs.declared.reading.ReadPoint.{ReadPoint}
use Rattle.nam_calls.specs.declared.reading.ReadPoint.TheVariants.{ReadCells, ReadCurrent, ReadHorizon, ReadRecheck}
use Rattle.nam_calls.specs.declared.reading.ReadPoint.TheVariants.{ReadRing, ReadUnsure}
use Rattle.nam_calls.specs.declared.record.CurrentPoint.{CurrentPoint}
use Rattle.nam_calls.specs.declared.record.CurrentPoint.TheVariants.{CurrentAgain, CurrentHead, CurrentWords}
use Rattle.nam_catalog.specs.declared.shape.Shape.{Shape}
use Rattle.nam_ghost.proofs.CellLemmas.{bucket_within, elsewhere_stays, ended_stays, overflow_stays, tagged_stays}
use Rattle.nam_ghost.specs.Cells.{CellMap, IsElsewhere, OldOk, Stores, copied_at}
use Rattle.nam_ghost.specs.Reads.{CellTest, CellsAt, CurrentAt, HorizonAt, IsAheadOf, ReadOkAt, UnderTag}
use Rattle.nam_ghost.specs.Slots.{RowNext}
use Rattle.nam_ghost.specs.Turn.{Turn}
use Rattle.nam_ghost.specs.Upkeep.{CellsNext}
use Rattle.nam_ghost.specs.Versions.{Version}
use Rattle.nam_header.specs.Visible.{is_visible}
use Rattle.nam_layout.specs.Address.{IsCell, IsRow}
use Rattle.nam_layout.specs.Place.{bucket_of, cells_of, place_at}
use Rattle.nam_layout.specs.declared.field.Cells.{Cells}
use Rattle.nam_layout.specs.declared.field.Field.TheVariants.{Horizon}
use Rattle.nam_layout.specs.declared.field.Place.{Place}
use Rattle.nam_reads.proofs.RowStays.{old_ring_stays, old_stays, recheck_stays, unsure_at_stays, wanted_stays}
use Rattle.nam_reads.proofs.RowStays.{with_stays}
use Rattle.nam_reads.specs.Comes.{row_sight}
use Rattle.si_model.specs.declared.log.Stamp.{Stamp}

module _ (shape : Shape) (turn : Turn shape) (after : CellMap) (nth : ℕ)
    (spares : CellsNext shape turn.m turn.now turn.later turn.next turn.cells after nth) (seen : List ℕ) (row : ℕ)
    (inside : IsRow shape row) where
  abbrev bucket : ℕ
  bucket = bucket_of shape row

  abbrev there : Cells
  there = cells_of shape (bucket_of shape row)

  -- 1. A cell

  module _ (cell : ℕ) (less : cell < shape.cells) where
    is_cell : IsCell shape bucket cell
    is_cell = (bucket_within shape turn.limits row, less)

    abbrev Test : ℕ → List ℕ → Bool → Type 0
    Test head got ended = CellTest shape turn.chains turn.rings turn.m turn.cells seen row cell head got ended

    abbrev TestNow : ℕ → List ℕ → Bool → Type 0
    TestNow head got ended = CellTest shape turn.later turn.next turn.now after seen row cell head got ended

    test_stays : (head : ℕ) (got : List ℕ) (ended : Bool) → after bucket cell ≡ turn.cells bucket cell
        → Test head got ended → TestNow head got ended
    test_stays head got ended same test = record {
      number = test.number;
      version = test.version;
      stored = same ∙ test.stored;
      was_copied = let up = turn.rows.counts row inside in let short = test.was_copied in omega arith;
      is = turn.rows.numbers row test.number test.version inside test.is;
      fits = test.fits;
      header_is = test.header_is;
      sees = test.sees;
      hidden = λ is.
          ap (λ (s : Stamp). is_visible s seen) (turn.rows.ends row test.number inside test.was_copied)
          ∙ test.hidden is;
      words = test.words;
    }

    under_stays : (tag : ℕ) (P Q : Type 0) → (after bucket cell ≡ turn.cells bucket cell → P → Q)
        → UnderTag shape turn.chains turn.rings turn.m turn.cells seen row cell tag P
        → UnderTag shape turn.later turn.next turn.now after seen row cell tag Q
    under_stays tag P Q go under =
        tagged_stays shape turn after nth spares nth bucket cell tag P Q is_cell
        (λ same. go (spares.same bucket cell is_cell same)) under

    tests_stay : (tag head : ℕ) (got : List ℕ) (ended : Bool)
        → UnderTag shape turn.chains turn.rings turn.m turn.cells seen row cell tag (Test head got ended)
        → UnderTag shape turn.later turn.next turn.now after seen row cell tag (TestNow head got ended)
    tests_stay tag head got ended =
        under_stays tag (Test head got ended) (TestNow head got ended) (test_stays head got ended)

    module _ (number : ℕ) (copied : number < copied_at shape turn.chains turn.rings row) where
      ahead_stays : (tag : ℕ) → IsAheadOf shape turn.chains turn.rings turn.m turn.cells seen row number cell tag
          → IsAheadOf shape turn.later turn.next turn.now after seen row number cell tag
      ahead_stays tag (inl stands) =
          inl (overflow_stays shape turn after nth spares (cell + 1) row number inside copied stands)
      ahead_stays tag (inr (same, stored)) = elim (spares.stored bucket cell row number is_cell stored) [
        | inl kept ↦ inr (kept.1 ∙ same, kept.0)
        | inr ended ↦ inl (inr ended)
      ]

  -- 2. A search of the cells, and the look at the horizon

  module _ (number : ℕ) (copied : number < copied_at shape turn.chains turn.rings row) where
    abbrev At : CellPoint → Type 0
    At at = CellsAt shape turn.chains turn.rings turn.m turn.cells seen row number at

    abbrev AtNow : CellPoint → Type 0
    AtNow at = CellsAt shape turn.later turn.next turn.now after seen row number at

    cells_at_stays : (at : CellPoint) → CellFits there (place_at shape row) at → At at → AtNow at
    cells_at_stays (CellTag cell) fits o = overflow_stays shape turn after nth spares cell row number inside copied o
    cells_at_stays (CellOwner cell tag) fits o = (
      ahead_stays cell fits number copied tag o.0,
      under_stays cell fits tag ((r : ℕ) × (n : ℕ) × (turn.cells bucket cell ≡ Stores r n))
          ((r : ℕ) × (n : ℕ) × (after bucket cell ≡ Stores r n)) (λ same is. (is.0, is.1, same ∙ is.2)) o.1,
    )
    cells_at_stays (CellBegin cell tag) fits o = (
      ahead_stays cell fits number copied tag o.0,
      under_stays cell fits tag ((n : ℕ) × (turn.cells bucket cell ≡ Stores row n))
          ((n : ℕ) × (after bucket cell ≡ Stores row n)) (λ same is. (is.0, same ∙ is.1)) o.1,
    )
    cells_at_stays (CellEnding cell tag head) fits o =
        (ahead_stays cell fits number copied tag o.0, tests_stay cell fits tag head [] false o.1)
    cells_at_stays (CellWords cell tag head got) fits o =
        (ahead_stays cell fits.0 number copied tag o.0, tests_stay cell fits.0 tag head got true o.1)
    cells_at_stays (CellAgain cell tag head value) fits o =
        (ahead_stays cell fits.0 number copied tag o.0, tests_stay cell fits.0 tag head value true o.1)

    horizon_at_stays : (worker : ℕ) → HorizonAt shape turn.chains turn.rings turn.m turn.cells seen row number worker
        → HorizonAt shape turn.later turn.next turn.now after seen row number worker
    horizon_at_stays worker (ended, (at, from, least, most, past)) =
        let up = rises at least most in
        (ended_stays shape turn after nth spares row number inside copied ended, (at, from, least, most, omega arith))
      where
        rises : (at : ℕ) → 1 ≤ at → at ≤ shape.workers → turn.m (Horizon at) ≤ turn.now (Horizon at)
        rises at least most =
            let same : (at - 1) + 1 ≡ at = omega arith in
            subst (λ w. turn.m (Horizon w) ≤ turn.now (Horizon w)) same (spares.horizon (at - 1) (omega arith))

  -- 3. The whole read

  abbrev Elsewhere : ℕ → Type 0
  Elsewhere = IsElsewhere shape turn.chains turn.rings turn.m turn.cells row

  abbrev ElsewhereNow : ℕ → Type 0
  ElsewhereNow = IsElsewhere shape turn.later turn.next turn.now after row

  module _ (New : Version → Type 0)
      (hidden : (version : Version) → New version → is_visible version.stamp seen ≡ false)
      (goes : RowNext (place_at shape row) Elsewhere New (turn.chains row) (turn.rings row) (turn.later row)
      (turn.next row)) (old : OldOk (place_at shape row) Elsewhere (turn.chains row) (turn.rings row)) where
    abbrev place : Place
    place = place_at shape row

    current_stays : (at : CurrentPoint) → CurrentAt place seen (turn.chains row) (turn.rings row) Elsewhere at
        → CurrentAt place seen (turn.later row) (turn.next row) ElsewhereNow at
    current_stays CurrentHead o = tt
    current_stays (CurrentWords head got) o =
        with_stays shape turn row inside Elsewhere New seen hidden goes ElsewhereNow head got o
    current_stays (CurrentAgain head value) o =
        with_stays shape turn row inside Elsewhere New seen hidden goes ElsewhereNow head value o

    pub read_stays : (at : ReadPoint) → ReadFits (row_sight shape row) at
        → ReadOkAt shape turn.chains turn.rings turn.m turn.cells seen row place at
        → ReadOkAt shape turn.later turn.next turn.now after seen row place at
    read_stays (ReadCurrent at) fits o = current_stays at o
    read_stays (ReadUnsure value head at) fits o =
        unsure_at_stays shape turn row inside Elsewhere New seen hidden goes ElsewhereNow value head at fits.1 o
    read_stays (ReadRecheck value head) fits o =
        recheck_stays shape turn row inside Elsewhere New seen hidden goes ElsewhereNow value head o
    read_stays (ReadRing at) fits o =
        old_ring_stays shape turn row inside Elsewhere New seen hidden goes ElsewhereNow
        (elsewhere_stays shape turn after nth spares row) old at fits o
    read_stays (ReadCells at) fits (number, version, (wanted, less), o) = (
      number,
      version,
      (
        wanted_stays shape turn row inside Elsewhere New seen hidden goes number version wanted,
        old_stays shape turn row inside Elsewhere New seen hidden goes number less,
      ),
      cells_at_stays number (omega arith) at fits o,
    )
    read_stays (ReadHorizon worker) fits (number, version, (wanted, less), o) = (
      number,
      version,
      (
        wanted_stays shape turn row inside Elsewhere New seen hidden goes number version wanted,
        old_stays shape turn row inside Elsewhere New seen hidden goes number less,
      ),
      horizon_at_stays number (omega arith) worker o,
    )
