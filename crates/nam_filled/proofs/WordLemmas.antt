-- Each word that a client takes, by the point of its call.
use Rattle.std.proofs.Common.{List, None, Option, ap, arith, false, length, refl, subst, sym}
use Rattle.std.proofs.Common.{true, ℕ, ◌+◌, ◌<◌, ◌∙◌, ◌≡◌, ◌⊎◌}
use Rattle.std.specs.Prelude.{Bool, if◌then◌else◌, ◌==◌}
use Rattle.std.proofs.lemmas.Bool.{eqb-false, eqb-true}
use Rattle.nam_verbs.specs.VerbAt.{VerbAt, found_at, left_at, target}
use Rattle.nam_verbs.specs.declared.now.Now.TheVariants.{Over}
use Rattle.nam_calls.specs.Fits.{CollectFits, IsTableOf, MoveFits}
use Rattle.nam_calls.specs.Horizon.{collect_after, collect_next, collect_verb}
use Rattle.nam_calls.specs.Mover.{move_after, move_verb, on_claim}
use Rattle.nam_calls.specs.Overflow.{claim_next}
use Rattle.nam_calls.specs.Words.{capacity_of}
use Rattle.nam_calls.specs.Writes.{collect_writes, move_writes}
use Rattle.nam_calls.specs.declared.horizon.CollectPoint.TheVariants.{CollectEnding, CollectFree, CollectTag}
use Rattle.nam_calls.specs.declared.horizon.CollectPoint.TheVariants.{HorizonLook, HorizonRaise}
use Rattle.nam_calls.specs.declared.horizon.CollectPoint.{CollectPoint}
use Rattle.nam_calls.specs.declared.mover.MovePoint.TheVariants.{MoveAgain, MoveBack, MoveClaim, MoveCount}
use Rattle.nam_calls.specs.declared.mover.MovePoint.TheVariants.{MoveEnding, MoveFill, MoveFlag, MoveFull, MoveHead}
use Rattle.nam_calls.specs.declared.mover.MovePoint.TheVariants.{MoveWords}
use Rattle.nam_calls.specs.declared.mover.MovePoint.{MovePoint}
use Rattle.nam_calls.specs.declared.overflow.ClaimEnd.TheVariants.{Claimed}
use Rattle.nam_calls.specs.declared.overflow.ClaimPoint.TheVariants.{ClaimLook, ClaimTake}
use Rattle.nam_calls.specs.declared.overflow.FillPoint.TheVariants.{FillBegin, FillEnding, FillOwner, FillWord}
use Rattle.nam_catalog.specs.Fits.{FitsLimits}
use Rattle.nam_catalog.specs.declared.shape.Shape.{Shape}
use Rattle.nam_filled.proofs.CallLemmas.{bucket_within}
use Rattle.nam_filled.proofs.TurnLemmas.{HorizonStays, IsElse, TagsStay, horizon_else, tags_else, tags_unchanged}
use Rattle.nam_filled.proofs.VersionLemmas.{header_stamp}
use Rattle.nam_filled.specs.Filled.{CollectorAt, IsFilled, OthersCollected}
use Rattle.nam_filled.specs.Holders.{add_holder, move_holders, mover_of}
use Rattle.nam_filled.specs.Turn.{Word}
use Rattle.nam_ghost.specs.Cells.{CellIs, CellsAre, ClaimedBy, FreeCell, put_cell}
use Rattle.nam_ghost.specs.Keys.{Bears}
use Rattle.nam_ghost.specs.Steps.{collect_cells, move_cells}
use Rattle.nam_ghost.specs.Upkeep.{Owns}
use Rattle.nam_ghost.specs.Versions.{Version, cell_image}
use Rattle.nam_header.specs.Tag.{freed, has_next, state_of, written}
use Rattle.nam_layout.specs.Address.{IsCell, IsRow}
use Rattle.nam_layout.specs.Place.{bucket_of, cells_of, place_at}
use Rattle.nam_layout.specs.Rows.{row_of}
use Rattle.nam_layout.specs.declared.field.Cells.{Cells}
use Rattle.nam_layout.specs.declared.field.Place.{Place}
use Rattle.nam_layout.specs.declared.field.Field.TheVariants.{Horizon, SlotHeader, Tag}
use Rattle.nam_layout.specs.declared.field.Field.{Field}
use Rattle.nam_store.specs.Changed.{Changed, OthersStay}
use Rattle.nam_filled.proofs.CollectorLemmas as collector
use Rattle.nam_filled.proofs.MoverLemmas as mover
use Rattle.nam_filled.proofs.MoverWrites as writer
use Rattle.nam_ghost.specs.Upkeep as upkeep

-- where a tag is written no horizon entry is
tag_horizon : (shape : Shape) (m now : Field → ℕ) (bucket cell word : ℕ) → Changed shape m now (Tag bucket cell) word
    → HorizonStays shape m now
tag_horizon shape m now bucket cell word changed a less =
    changed.others (Horizon (a + 1)) (omega arith, omega arith) (λ e. cc)

module _ (shape : Shape) (limits : FitsLimits shape) (word : Word shape)
    (are : CellsAre shape word.before.chains word.before.rings word.before.m word.before.cells)
    (filled : IsFilled shape word.before) where
  abbrev Does : VerbAt Field → Option Field → Type 0
  Does verb changed =
      Changed shape word.before.m word.m (target verb) (left_at word.before.m verb)
      × OthersStay shape word.before.m word.m changed

  tags_by : (changed : Option Field) → OthersStay shape word.before.m word.m changed → IsElse changed
      → TagsStay shape word.before.m word.m
  tags_by changed stays other = tags_else shape word.before.m word.m changed stays other

  horizon_by : (changed : Option Field) → OthersStay shape word.before.m word.m changed → IsElse changed
      → HorizonStays shape word.before.m word.m
  horizon_by changed stays other = horizon_else shape word.before.m word.m changed stays other

  -- 1. A mover

  module _ (table key position : ℕ) (of_table : IsTableOf shape table) (short : position < capacity_of shape table)
      (bears : Bears shape word.before.m table key position)
      (inside : IsRow shape (row_of shape.tables table position)) where
    abbrev row : ℕ
    row = row_of shape.tables table position

    abbrev b : ℕ
    b = bucket_of shape (row_of shape.tables table position)

    abbrev place_now : Place
    place_now = place_at shape (row_of shape.tables table position)

    abbrev cells_now : Cells
    cells_now = cells_of shape (bucket_of shape (row_of shape.tables table position))

    abbrev pub Moved : MovePoint → Type 0
    Moved at =
        let place = place_at shape (row_of shape.tables table position) in
        let cells = cells_of shape (bucket_of shape (row_of shape.tables table position)) in
        let found = found_at word.before.m (move_verb place cells at) in
        mover.Turns shape word table key position at
        (move_cells shape (word.nth + 1) (row_of shape.tables table position) at found word.before.chains
        word.before.cells)
        (move_holders shape (mover_of word.nth word.client) (row_of shape.tables table position) at found
        word.before.holders)
        (mover.next shape word table key position at (move_after place cells at found))

    abbrev Here : MovePoint → Type 0
    Here at = mover.Here shape word table key position at

    is_cell : (cell : ℕ) → cell < shape.cells → IsCell shape b cell
    is_cell cell less = (bucket_within shape limits row, less)

    -- a cell that the client owns is one that is written
    is_written : (cell tag : ℕ) → cell < shape.cells
        → Owns shape word.before.chains word.before.rings word.before.m word.before.cells word.nth b cell tag
        → state_of tag ≡ 1
    is_written cell tag less owns =
        ap state_of (sym owns.0)
        ∙ subst (CellIs shape word.before.chains word.before.rings b (cell_image word.before.m b cell)) owns.1
        (are b cell (is_cell cell less))

    take_turn : (slot header ending cell tag number : ℕ) (version : Version) → cell < shape.cells
        → upkeep.MoveBegun shape word.before.chains word.before.rings row slot header number version
        → state_of tag ≡ 0 → let at = MoveClaim slot header ending (ClaimTake cell tag) in Here at
        → Does (move_verb place_now cells_now at) (move_writes place_now cells_now at) → Moved at
    take_turn slot header ending cell tag number version less begun free here does =
        by (word.before.m (Tag b cell) == tag) refl does.0
      where
        by : (won : Bool) → (word.before.m (Tag b cell) == tag) ≡ won
            → Changed shape word.before.m word.m (Tag b cell)
            (if won then written tag else word.before.m (Tag b cell))
            → mover.Turns shape word table key position (MoveClaim slot header ending (ClaimTake cell tag))
            (if won then put_cell word.before.cells b cell (ClaimedBy (word.nth + 1)) else word.before.cells)
            (if won then add_holder word.before.holders b cell (mover_of word.nth word.client) else word.before.holders)
            (mover.next shape word table key position (MoveClaim slot header ending (ClaimTake cell tag))
            (on_claim cells_now slot header ending
            (if won then Over (Claimed cell (written tag)) else claim_next cells_now cell)))
        by true e changed =
            mover.won_turn shape word table key position of_table short inside bears header number version
            begun.version_is (header_stamp shape.form version header begun.fits begun.header_is) slot ending cell tag
            (is_cell cell less) free (eqb-true (word.before.m (Tag b cell)) tag e) changed
            (tag_horizon shape word.before.m word.m b cell (written tag) changed) here
        by false e changed =
            mover.lost_turn shape word table key position
            (tags_unchanged shape word.before.m word.m b cell changed)
            (tag_horizon shape word.before.m word.m b cell (word.before.m (Tag b cell)) changed) slot header ending cell
            tag here

    pub mover_turn : (at : MovePoint) → MoveFits place_now cells_now at → Here at
        → Does (move_verb place_now cells_now at) (move_writes place_now cells_now at) → (number : ℕ)
        (version : Version)
        → upkeep.MoverAt shape word.before.chains word.before.rings word.before.m word.before.cells word.nth row number
        version at → Moved at
    mover_turn MoveCount fits here does number version o =
        mover.count_turn shape word table key position (tags_by None does.1 tt) (horizon_by None does.1 tt) here _
    mover_turn (MoveHead slot) fits here does number version o =
        mover.head_turn shape word table key position (tags_by None does.1 tt) (horizon_by None does.1 tt) slot _ here
    mover_turn (MoveEnding slot header) fits here does number version o =
        mover.ending_turn shape word table key position (tags_by None does.1 tt) (horizon_by None does.1 tt) slot
        header _ here
    mover_turn (MoveClaim slot header ending (ClaimLook cell)) fits here does number version o =
        mover.look_turn shape word table key position (tags_by None does.1 tt) (horizon_by None does.1 tt) slot header
        ending cell (is_cell cell fits.1) here
    mover_turn (MoveClaim slot header ending (ClaimTake cell tag)) fits here does number version o =
        take_turn slot header ending cell tag number version fits.1 o.0 o.2 here does
    mover_turn (MoveWords slot header ending cell tag got) fits here does number version o =
        writer.words_turn shape word table key position (tags_by None does.1 tt) (horizon_by None does.1 tt) slot header
        ending cell tag got _ here
    mover_turn (MoveFill slot header cell tag copy FillOwner) fits here does number version o =
        writer.fill_turn shape word table key position (tags_by _ does.1 tt) (horizon_by _ does.1 tt) slot header
        cell tag copy FillOwner 0 here
    mover_turn (MoveFill slot header cell tag copy FillBegin) fits here does number version o =
        writer.fill_turn shape word table key position (tags_by _ does.1 tt) (horizon_by _ does.1 tt) slot header
        cell tag copy FillBegin 0 here
    mover_turn (MoveFill slot header cell tag copy FillEnding) fits here does number version o =
        writer.fill_turn shape word table key position (tags_by _ does.1 tt) (horizon_by _ does.1 tt) slot header
        cell tag copy FillEnding 0 here
    mover_turn (MoveFill slot header cell tag copy (FillWord nth)) fits here does number version o =
        writer.fill_turn shape word table key position (tags_by _ does.1 tt) (horizon_by _ does.1 tt) slot header
        cell tag copy (FillWord nth) 0 here
    mover_turn (MoveAgain slot header cell tag) fits here does number version o =
        writer.again_turn shape word table key position (tags_by None does.1 tt) (horizon_by None does.1 tt) slot header
        cell tag _ here
    mover_turn (MoveFull slot header cell tag) fits here does number version o =
        writer.full_turn shape word table key position of_table short inside bears slot header cell tag number version
        o.0.version_is (header_stamp shape.form version header o.0.fits o.0.header_is) (is_cell cell fits.1) o.2.0 o.2.1
        (is_written cell tag fits.1 o.2) does.0 (tag_horizon shape word.before.m word.m b cell _ does.0) here
    mover_turn (MoveFlag slot header) fits here does number version o =
        writer.flag_turn shape word table key position slot header (word.before.m (SlotHeader row slot))
        (tags_by _ does.1 tt) (horizon_by _ does.1 tt) here
    mover_turn (MoveBack header cell tag) fits here does number version o =
        writer.back_turn shape word table key position header cell tag (is_cell cell fits) o.0 o.1
        (is_written cell tag fits o) does.0 (tag_horizon shape word.before.m word.m b cell _ does.0) here
        (has_next tag) refl

  -- 2. A collector

  module _ (bucket prefix : ℕ) (seen : List ℕ) (within : bucket < shape.buckets)
      (long : length seen ≡ shape.workers) where
    abbrev cells_there : Cells
    cells_there = cells_of shape bucket

    abbrev At_point : CollectPoint → Type 0
    At_point at = collector.Here shape word bucket prefix seen within long filled at

    abbrev pub Collects : CollectPoint → Type 0
    Collects at =
        let found = found_at word.before.m (collect_verb (cells_of shape bucket) seen at) in
        collector.Turns shape word bucket prefix seen within long filled at
        (collect_cells shape bucket at found word.before.cells)
        (collector.next shape word bucket prefix seen within long filled at
        (collect_after (cells_of shape bucket) shape.workers seen at found))

    free_turn : (known : List ℕ) (cell tag : ℕ) → cell < shape.cells → let at = CollectFree known cell tag in
        At_point at → Does (collect_verb cells_there seen at) (collect_writes cells_there at)
        → upkeep.CollectorAt shape word.before.chains word.before.rings word.before.m word.before.cells word.nth bucket
        seen at → OthersCollected shape word.before word.nth ⊎ CollectorAt shape word.before word.nth bucket seen at
        → Collects at
    free_turn known cell tag less here does o ok = by (word.before.m (Tag bucket cell) == tag) refl does.0
      where
        by : (won : Bool) → (word.before.m (Tag bucket cell) == tag) ≡ won
            → Changed shape word.before.m word.m (Tag bucket cell)
            (if won then freed tag else word.before.m (Tag bucket cell))
            → collector.Turns shape word bucket prefix seen within long filled (CollectFree known cell tag)
            (if won then put_cell word.before.cells bucket cell FreeCell else word.before.cells)
            (collector.next shape word bucket prefix seen within long filled (CollectFree known cell tag)
            (collect_next cells_there known cell))
        by true e changed =
            let same = eqb-true (word.before.m (Tag bucket cell)) tag e in
            let stored = o.3.1 same in
            let full = (subst (CellIs shape word.before.chains word.before.rings bucket
            (cell_image word.before.m bucket cell)) stored.2 (are bucket cell (within, less))).0 in
            collector.won_turn shape word bucket prefix seen within long filled known cell tag less here ok same
            (ap state_of (sym same) ∙ full) o.2 changed
        by false e changed =
            collector.lost_turn shape word bucket prefix seen within long filled known cell tag less here ok
            (eqb-false (word.before.m (Tag bucket cell)) tag e)
            (tags_unchanged shape word.before.m word.m bucket cell changed)

    pub collector_turn : (at : CollectPoint) → CollectFits cells_there shape.workers at → At_point at
        → Does (collect_verb cells_there seen at) (collect_writes cells_there at)
        → upkeep.CollectorAt shape word.before.chains word.before.rings word.before.m word.before.cells word.nth bucket
        seen at → OthersCollected shape word.before word.nth ⊎ CollectorAt shape word.before word.nth bucket seen at
        → Collects at
    collector_turn (HorizonLook known) fits here does o ok =
        collector.look_turn shape word bucket prefix seen within long filled known here (tags_by None does.1 tt)
        (horizon_by None does.1 tt (length known) fits) ok
    collector_turn (HorizonRaise known found) fits here does o ok =
        collector.raise_turn shape word bucket prefix seen within long filled known found here
        (λ b c is. does.0.others (Tag b c) is (λ e. cc)) ok
    collector_turn (CollectTag known cell) fits here does o ok =
        collector.tag_turn shape word bucket prefix seen within long filled are known cell fits.1 here
        (tags_by None does.1 tt) ok
    collector_turn (CollectEnding known cell tag) fits here does o ok =
        collector.ending_turn shape word bucket prefix seen within long filled are known cell tag fits.0 fits.1 here
        (tags_by None does.1 tt) ok
    collector_turn (CollectFree known cell tag) fits here does o ok =
        free_turn known cell tag fits.1 here does o ok
