-- What is known of a mover or a collector stays under each step of another client, by what that step owes and by rows
-- going on as they may.
use Rattle.std.proofs.Common.{List, ap, arith, length, subst, sym, true, ℕ, ◌+◌, ◌<◌, ◌∙◌, ◌≡◌, ◌≢◌, ◌≤◌}
use Rattle.nam_calls.specs.Fits.{CollectFits, FillFits, MoveFits}
use Rattle.nam_calls.specs.declared.horizon.CollectPoint.{CollectPoint}
use Rattle.nam_calls.specs.declared.horizon.CollectPoint.TheVariants.{CollectEnding, CollectFree, CollectTag}
use Rattle.nam_calls.specs.declared.horizon.CollectPoint.TheVariants.{HorizonLook, HorizonRaise}
use Rattle.nam_calls.specs.declared.mover.MovePoint.{MovePoint}
use Rattle.nam_calls.specs.declared.mover.MovePoint.TheVariants.{MoveAgain, MoveBack, MoveClaim, MoveCount, MoveEnding}
use Rattle.nam_calls.specs.declared.mover.MovePoint.TheVariants.{MoveFill, MoveFlag, MoveFull, MoveHead, MoveWords}
use Rattle.nam_calls.specs.declared.overflow.ClaimPoint.{ClaimPoint}
use Rattle.nam_calls.specs.declared.overflow.ClaimPoint.TheVariants.{ClaimLook, ClaimTake}
use Rattle.nam_calls.specs.declared.overflow.FillPoint.{FillPoint}
use Rattle.nam_calls.specs.declared.overflow.FillPoint.TheVariants.{FillBegin, FillEnding, FillOwner, FillWord}
use Rattle.nam_catalog.specs.declared.bounds.TheConstants.{MOST_WIDTH}
use Rattle.nam_catalog.specs.declared.shape.Shape.{Shape}
use Rattle.nam_cells.proofs.RowLemmas.{begun_stays, while_stays, whole_stays}
use Rattle.nam_cells.specs.Views.{UpkeepFits}
use Rattle.nam_ghost.proofs.CellLemmas.{bucket_within, overflow_stays, tagged_stays}
use Rattle.nam_ghost.specs.Cells.{Cell, CellIs, CellMap, ClaimedBy, IsWhole, Stores, copied_at, end_at}
use Rattle.nam_ghost.specs.Turn.{Turn}
use Rattle.nam_ghost.specs.Upkeep.{CellsNext, ClaimAt, Collector, CollectorAt, EndWas, HasWritten, IsPublished, Knows}
use Rattle.nam_ghost.specs.Upkeep.{MoveBegun, Mover, MoverAt, NoUpkeep, Owns, SameCell, Upkeep, UpkeepOk, While}
use Rattle.nam_ghost.specs.Upkeep.{WordsWere}
use Rattle.nam_ghost.specs.Versions.{HasGot, Version, cell_image}
use Rattle.nam_header.specs.Stamp.{is_within, stamp_word}
use Rattle.nam_layout.proofs.LimitLemmas.{place_within_limits}
use Rattle.nam_layout.specs.Address.{IsCell, IsRow, IsSlot}
use Rattle.nam_layout.specs.Place.{bucket_of, cells_of, place_at}
use Rattle.si_model.specs.declared.log.Stamp.{Stamp}
use Rattle.nam_calls.specs.declared.overflow.Version as filled

claimer_in : Cell → ℕ
claimer_in (ClaimedBy worker) = worker
claimer_in _ = 0

pub claimer_one : {a b : ℕ} → ClaimedBy (a + 1) ≡ ClaimedBy (b + 1) → a ≡ b
unfolding claimer_in
claimer_one same = let e = ap claimer_in same in omega arith

module _ (shape : Shape) (turn : Turn shape) (after : CellMap) where
  -- 1. What a mover has begun, and has read of its version: through each step, its own too

  pub begun_on : (row slot header number : ℕ) (version : Version) → IsRow shape row
      → MoveBegun shape turn.chains turn.rings row slot header number version
      → MoveBegun shape turn.later turn.next row slot header number version
  begun_on row slot header number version is begun =
      begun_stays shape turn.chains turn.later turn.rings turn.next turn.rows row slot header number version is begun

  module _ (j row slot number : ℕ) (is : IsSlot shape row slot)
      (less : number < copied_at shape turn.chains turn.rings row) where
    pub while_on : (P Q : Type 0) → (P → Q)
        → While shape turn.chains turn.rings turn.m turn.cells j row slot number P
        → While shape turn.later turn.next turn.now after j row slot number Q
    while_on P Q goes was =
        while_stays shape turn.chains turn.later turn.rings turn.next turn.rows row slot number P Q is less goes was

    pub end_on : (ending : ℕ) → EndWas shape turn.chains turn.rings turn.m turn.cells j row slot number ending
        → EndWas shape turn.later turn.next turn.now after j row slot number ending
    end_on ending =
        while_on (ending ≡ stamp_word shape.form (end_at shape turn.chains turn.rings row number))
        (ending ≡ stamp_word shape.form (end_at shape turn.later turn.next row number))
        (λ e. e ∙ ap (stamp_word shape.form) (sym (turn.rows.ends row number is.0 less)))

    pub words_on : (version : Version) (got : List ℕ)
        → WordsWere shape turn.chains turn.rings turn.m turn.cells j row slot number version got
        → WordsWere shape turn.later turn.next turn.now after j row slot number version got
    words_on version got = while_on (HasGot got version.value) (HasGot got version.value) (λ e. e)

  pub cell_whole : (row number bucket cell : ℕ) → SameCell shape turn.m turn.now bucket cell
      → IsWhole shape turn.chains turn.rings row number (cell_image turn.m bucket cell)
      → IsWhole shape turn.later turn.next row number (cell_image turn.now bucket cell)
  cell_whole row number bucket cell same whole =
      whole_stays shape turn.chains turn.later turn.rings turn.next turn.rows turn.limits
      (cell_image turn.m bucket cell) (cell_image turn.now bucket cell) same.owner same.begin same.ending same.body row
      number whole

  module _ (i : ℕ) (spares : CellsNext shape turn.m turn.now turn.later turn.next turn.cells after i) where
    -- 2. A mover

    module _ (j : ℕ) (apart : j ≢ i) where
      abbrev OwnsNow : ℕ → ℕ → ℕ → Type 0
      OwnsNow = Owns shape turn.later turn.next turn.now after j

      abbrev Owned : ℕ → ℕ → ℕ → Type 0
      Owned = Owns shape turn.chains turn.rings turn.m turn.cells j

      pub owns_stays : (bucket cell tag : ℕ) → IsCell shape bucket cell → Owned bucket cell tag
          → OwnsNow bucket cell tag
      owns_stays bucket cell tag is owns =
          let kept = spares.claimed bucket cell j is apart owns.1 in (kept.1 ∙ owns.0, kept.0)

      owned_cell : (bucket cell tag : ℕ) → IsCell shape bucket cell → Owned bucket cell tag
          → SameCell shape turn.m turn.now bucket cell
      owned_cell bucket cell tag is owns =
          spares.words bucket cell is (λ e. apart (claimer_one (sym owns.1 ∙ e)))

      written_stays : (bucket cell row width : ℕ) (version : filled.Version) (at : FillPoint)
          → SameCell shape turn.m turn.now bucket cell → width ≤ MOST_WIDTH → FillFits width at
          → HasWritten shape turn.chains turn.rings turn.m turn.cells j bucket cell row version at
          → HasWritten shape turn.later turn.next turn.now after j bucket cell row version at
      written_stays bucket cell row width version FillOwner same narrow fits has = tt
      written_stays bucket cell row width version FillBegin same narrow fits has = same.owner ∙ has
      written_stays bucket cell row width version FillEnding same narrow fits has =
          (same.owner ∙ has.0, same.begin ∙ has.1)
      written_stays bucket cell row width version (FillWord word) same narrow fits has = (
        same.owner ∙ has.0,
        same.begin ∙ has.1,
        same.ending ∙ has.2,
        λ nth less. same.body nth (omega arith) ∙ has.3 nth less,
      )

      pub mover_stays : (row number : ℕ) (version : Version) (at : MovePoint) → IsRow shape row
          → MoveFits (place_at shape row) (cells_of shape (bucket_of shape row)) at
          → MoverAt shape turn.chains turn.rings turn.m turn.cells j row number version at
          → MoverAt shape turn.later turn.next turn.now after j row number version at
      mover_stays row number version MoveCount is fits o = tt
      mover_stays row number version (MoveHead slot) is fits o = tt
      mover_stays row number version (MoveEnding slot header) is fits o =
          begun_on row slot header number version is o
      mover_stays row number version (MoveClaim slot header ending at) is fits o = (
        begun_on row slot header number version is o.0,
        end_on j row slot number (is, fits.0) o.0.was_copied ending o.1,
        claim_stays at o.2,
      )
        where
          claim_stays : (at : ClaimPoint) → ClaimAt shape turn.chains turn.rings turn.m turn.cells j at
              → ClaimAt shape turn.later turn.next turn.now after j at
          claim_stays (ClaimLook cell) o = tt
          claim_stays (ClaimTake cell tag) o = o
      mover_stays row number version (MoveWords slot header ending cell tag got) is fits o =
          let at : IsCell shape (bucket_of shape row) cell = (bucket_within shape turn.limits row, fits.1) in
          let less = o.0.was_copied in (
            begun_on row slot header number version is o.0,
            end_on j row slot number (is, fits.0) less ending o.1,
            words_on j row slot number (is, fits.0) less version got o.2,
            owns_stays (bucket_of shape row) cell tag at o.3,
          )
      mover_stays row number version (MoveFill slot header cell tag copy point) is fits o =
          let at : IsCell shape (bucket_of shape row) cell = (bucket_within shape turn.limits row, fits.1) in
          let less = o.0.was_copied in
          let narrow = (place_within_limits shape row turn.limits is).most_width in (
            begun_on row slot header number version is o.0,
            end_on j row slot number (is, fits.0) less copy.«end» o.1,
            words_on j row slot number (is, fits.0) less version copy.value o.2,
            owns_stays (bucket_of shape row) cell tag at o.3,
            o.4,
            written_stays (bucket_of shape row) cell row (place_at shape row).width copy point
                (owned_cell (bucket_of shape row) cell tag at o.3) narrow fits.3 o.5,
          )
      mover_stays row number version (MoveAgain slot header cell tag) is fits o =
          let bucket = bucket_of shape row in
          let at : IsCell shape bucket cell = (bucket_within shape turn.limits row, fits.1) in (
            begun_on row slot header number version is o.0,
            while_on j row slot number (is, fits.0) o.0.was_copied
                (IsWhole shape turn.chains turn.rings row number (cell_image turn.m bucket cell))
                (IsWhole shape turn.later turn.next row number (cell_image turn.now bucket cell))
                (cell_whole row number bucket cell (owned_cell bucket cell tag at o.2)) o.1,
            owns_stays bucket cell tag at o.2,
          )
      mover_stays row number version (MoveFull slot header cell tag) is fits o =
          let bucket = bucket_of shape row in
          let at : IsCell shape bucket cell = (bucket_within shape turn.limits row, fits.1) in (
            begun_on row slot header number version is o.0,
            cell_whole row number bucket cell (owned_cell bucket cell tag at o.2) o.1,
            owns_stays bucket cell tag at o.2,
          )
      mover_stays row number version (MoveFlag slot header) is fits o = (
        begun_on row slot header number version is o.0,
        overflow_stays shape turn after i spares 0 row number is o.0.was_copied o.1,
      )
      mover_stays row number version (MoveBack header cell tag) is fits o =
          owns_stays (bucket_of shape row) cell tag (bucket_within shape turn.limits row, fits) o

    -- 3. A collector

    module _ (j : ℕ) where
      pub knows_stays : (known : List ℕ) → length known ≤ shape.workers
          → Knows shape turn.chains turn.rings turn.m turn.cells j known
          → Knows shape turn.later turn.next turn.now after j known
      knows_stays known short knows =
          λ a less. let was = knows a less in let up = spares.horizon a (omega arith) in omega arith

      pub published_stays : (seen : List ℕ) → IsPublished shape turn.chains turn.rings turn.m turn.cells j seen
          → IsPublished shape turn.later turn.next turn.now after j seen
      published_stays seen published =
          λ a less. let was = published a less in let up = turn.vector a less in omega arith

      pub collector_stays : (bucket : ℕ) (seen : List ℕ) (at : CollectPoint) → bucket < shape.buckets
          → CollectFits (cells_of shape bucket) shape.workers at
          → CollectorAt shape turn.chains turn.rings turn.m turn.cells j bucket seen at
          → CollectorAt shape turn.later turn.next turn.now after j bucket seen at
      collector_stays bucket seen (HorizonLook known) less fits o =
          (published_stays seen o.0, knows_stays known (omega arith) o.1)
      collector_stays bucket seen (HorizonRaise known found) less fits o =
          (published_stays seen o.0, knows_stays known (omega arith) o.1, o.2)
      collector_stays bucket seen (CollectTag known cell) less fits o =
          let long = fits.0 in (published_stays seen o.0, knows_stays known (omega arith) o.1)
      collector_stays bucket seen (CollectEnding known cell tag) less fits o =
          let long = fits.0 in
          let at : IsCell shape bucket cell = (less, fits.1) in (
            published_stays seen o.0,
            knows_stays known (omega arith) o.1,
            tagged_stays shape turn after i spares j bucket cell tag
                ((row : ℕ) × (number : ℕ) × (turn.cells bucket cell ≡ Stores row number))
                ((row : ℕ) × (number : ℕ) × (after bucket cell ≡ Stores row number)) at
                (λ same is. (is.0, is.1, spares.same bucket cell at same ∙ is.2)) o.2,
          )
      collector_stays bucket seen (CollectFree known cell tag) less fits o =
          let long = fits.0 in
          let at : IsCell shape bucket cell = (less, fits.1) in (
            published_stays seen o.0,
            knows_stays known (omega arith) o.1,
            o.2,
            tagged_stays shape turn after i spares j bucket cell tag
                ((row : ℕ) × (number : ℕ) × (turn.cells bucket cell ≡ Stores row number)
                × (is_within (end_at shape turn.chains turn.rings row number) known ≡ true))
                ((row : ℕ) × (number : ℕ) × (after bucket cell ≡ Stores row number)
                × (is_within (end_at shape turn.later turn.next row number) known ≡ true)) at
                (λ same is.
                let whole = (stored_is bucket cell is.0 is.1 at is.2).2 in (
                  is.0,
                  is.1,
                  spares.same bucket cell at same ∙ is.2,
                  subst (λ (s : Stamp). is_within s known ≡ true)
                      (sym (turn.rows.ends is.0 is.1 whole.inside whole.was_copied)) is.3,
                )) o.3,
          )
        where
          stored_is : (bucket cell row number : ℕ) → IsCell shape bucket cell
              → turn.cells bucket cell ≡ Stores row number
              → CellIs shape turn.chains turn.rings bucket (cell_image turn.m bucket cell) (Stores row number)
          stored_is bucket cell row number at e =
              subst (CellIs shape turn.chains turn.rings bucket (cell_image turn.m bucket cell)) e
              (turn.are bucket cell at)

    -- 4. Either, or neither

    pub upkeep_stays : (j : ℕ) → j ≢ i → (view : Upkeep) → UpkeepFits shape view
        → UpkeepOk shape turn.chains turn.rings turn.m turn.cells j view
        → UpkeepOk shape turn.later turn.next turn.now after j view
    upkeep_stays j apart NoUpkeep fits o = tt
    upkeep_stays j apart (Mover row at) fits o =
        (o.0, (o.1.0, o.1.1, mover_stays j apart row o.1.0 o.1.1 at o.0 fits.1 o.1.2))
    upkeep_stays j apart (Collector bucket seen at) fits o = collector_stays j bucket seen at fits.0 fits.1 o
