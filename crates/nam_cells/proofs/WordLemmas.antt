-- What each word that a client takes owes.
use Rattle.std.proofs.Common.{List, None, Option, [], arith, inl, refl, subst, sym, ℕ, ◌+◌, ◌<◌, ◌∷◌, ◌≡◌, ◌≤◌}
use Rattle.std.proofs.lemmas.Option.{none-some}
use Rattle.std.specs.Prelude.{slice_index}
use Rattle.nam_calls.specs.Fits.{CollectFits, MoveFits}
use Rattle.nam_calls.specs.Horizon.{collect_after, collect_verb}
use Rattle.nam_calls.specs.Mover.{move_after, move_verb}
use Rattle.nam_calls.specs.Writes.{collect_writes, move_writes}
use Rattle.nam_calls.specs.declared.horizon.CollectPoint.{CollectPoint}
use Rattle.nam_calls.specs.declared.horizon.CollectPoint.TheVariants.{CollectEnding, CollectFree, CollectTag}
use Rattle.nam_calls.specs.declared.horizon.CollectPoint.TheVariants.{HorizonLook, HorizonRaise}
use Rattle.nam_calls.specs.declared.mover.MovePoint.{MovePoint}
use Rattle.nam_calls.specs.declared.mover.MovePoint.TheVariants.{MoveAgain, MoveBack, MoveClaim, MoveCount, MoveEnding}
use Rattle.nam_calls.specs.declared.mover.MovePoint.TheVariants.{MoveFill, MoveFlag, MoveFull, MoveHead, MoveWords}
use Rattle.nam_calls.specs.declared.overflow.ClaimPoint.TheVariants.{ClaimLook, ClaimTake}
use Rattle.nam_calls.specs.declared.overflow.FillPoint.TheVariants.{FillBegin, FillEnding, FillOwner, FillWord}
use Rattle.nam_catalog.specs.declared.shape.Shape.{Shape}
use Rattle.nam_cells.proofs.MoverReads.{count_turn, end_turn, head_turn, look_turn, no_version, take_turn, words_turn}
use Rattle.nam_cells.proofs.MoverWrites.{again_turn, back_turn, begin_turn, ending_turn, flag_turn, full_turn}
use Rattle.nam_cells.proofs.MoverWrites.{owner_turn, word_turn}
use Rattle.nam_cells.proofs.ViewLemmas.{collect_view, move_view, scan_view, seek_view, txn_view}
use Rattle.nam_cells.proofs.WriteLemmas.{quiet, written_else}
use Rattle.nam_cells.specs.Turn.{TurnOk}
use Rattle.nam_cells.specs.Views.{IsStarting, UpkeepFits, collector_now, mover_now}
use Rattle.nam_cells.specs.Words.{IsUpkeepField, SameUpkeep}
use Rattle.nam_ghost.specs.Steps.{cells_after, collect_cells, move_cells}
use Rattle.nam_ghost.specs.Turn.{Turn}
use Rattle.nam_ghost.specs.Upkeep.{CollectorAt, Mover, MoverAt, NoUpkeep, Upkeep, UpkeepOk, upkeep_at, upkeep_of}
use Rattle.nam_ghost.specs.Versions.{Version}
use Rattle.nam_layout.specs.Address.{IsField, IsRow}
use Rattle.nam_layout.specs.Place.{bucket_of, cells_of, place_at}
use Rattle.nam_layout.specs.Rows.{row_of}
use Rattle.nam_layout.specs.declared.field.Cells.{Cells}
use Rattle.nam_layout.specs.declared.field.Field.{Field}
use Rattle.nam_layout.specs.declared.field.Field.TheVariants.{Begin, CellWord, End, Entry, Horizon, Owner, SlotHeader}
use Rattle.nam_layout.specs.declared.field.Field.TheVariants.{Tag}
use Rattle.nam_layout.specs.declared.field.Place.{Place}
use Rattle.nam_protocol.proofs.GoesClient.{begin_goes, snap_goes}
use Rattle.nam_protocol.specs.CallWrites.{call_writes}
use Rattle.nam_protocol.specs.Client.{call_after, call_verb}
use Rattle.nam_protocol.specs.Telling.{go}
use Rattle.nam_protocol.specs.declared.client.CallPoint.{CallPoint}
use Rattle.nam_protocol.specs.declared.client.CallPoint.TheVariants.{Beginning, Collecting, InTxn, Moving, Scanning}
use Rattle.nam_protocol.specs.declared.client.CallPoint.TheVariants.{Seeking, Snapping}
use Rattle.nam_protocol.specs.declared.client.ClientState.{ClientState}
use Rattle.nam_protocol.specs.declared.txn.TxnPoint.TheVariants.{Claiming, Committing, Finding, Reading}
use Rattle.nam_store.specs.Changed.{Changed, OthersStay}
use Rattle.nam_store.specs.Kinds.{IsCommitField, IsKeyField, MayWrite}
use Rattle.nam_vector.specs.Snap.{snap_after}
use Rattle.nam_verbs.specs.VerbAt.{VerbAt, found_at, left_at, target}
use Rattle.si_model.proofs.ListLemmas.{listed_append_right}
use Rattle.si_model.specs.Lists.{Listed}
use Rattle.nam_cells.proofs.CollectorLemmas as collector

-- 1. Which words of cells and horizon a verb writes

unwritten : (shape : Shape) (m now : Field → ℕ) → OthersStay shape m now None → SameUpkeep shape m now
unwritten shape m now stays field of_shape upkeep = stays field of_shape (λ e. none-some field e)

key_apart : (field : Field) → IsUpkeepField field → IsKeyField field → ⊥
key_apart (Horizon worker) upkeep is = is
key_apart (Tag bucket cell) upkeep is = is
key_apart (Owner bucket cell) upkeep is = is
key_apart (Begin bucket cell) upkeep is = is
key_apart (End bucket cell) upkeep is = is
key_apart (CellWord bucket cell nth) upkeep is = is
key_apart _ upkeep is = absurd upkeep

commit_apart : (worker : ℕ) (field : Field) → IsUpkeepField field → IsCommitField worker field → ⊥
commit_apart worker (Horizon own) upkeep is = is
commit_apart worker (Tag bucket cell) upkeep is = is
commit_apart worker (Owner bucket cell) upkeep is = is
commit_apart worker (Begin bucket cell) upkeep is = is
commit_apart worker (End bucket cell) upkeep is = is
commit_apart worker (CellWord bucket cell nth) upkeep is = is
commit_apart worker _ upkeep is = absurd upkeep

module _ (shape : Shape) (turn : Turn shape) where
  -- what the verb does, and which field it may change
  abbrev Does : VerbAt Field → Option Field → Type 0
  Does verb written =
      Changed shape turn.m turn.now (target verb) (left_at turn.m verb) × OthersStay shape turn.m turn.now written

  -- 2. A mover

  module _ (row : ℕ) (is : IsRow shape row) where
    abbrev place : Place
    place = place_at shape row

    abbrev cells : Cells
    cells = cells_of shape (bucket_of shape row)

    abbrev Moved : MovePoint → Type 0
    Moved at =
        let found = found_at turn.m (move_verb (place_at shape row) (cells_of shape (bucket_of shape row)) at) in
        TurnOk shape turn (move_cells shape (turn.nth + 1) row at found turn.chains turn.cells)
        (mover_now row (move_after (place_at shape row) (cells_of shape (bucket_of shape row)) at found))

    same : OthersStay shape turn.m turn.now None → SameUpkeep shape turn.m turn.now
    same stays = unwritten shape turn.m turn.now stays

    pub mover_turn : (at : MovePoint) → MoveFits place cells at
        → Does (move_verb place cells at) (move_writes place cells at) → (number : ℕ) (version : Version)
        → MoverAt shape turn.chains turn.rings turn.m turn.cells turn.nth row number version at → Moved at
    mover_turn MoveCount fits does number version o = count_turn shape turn row is (same does.1) _
    mover_turn (MoveHead slot) fits does number version o = head_turn shape turn row is slot fits (same does.1)
    mover_turn (MoveEnding slot header) fits does number version o =
        end_turn shape turn row is slot header number version fits o (same does.1)
    mover_turn (MoveClaim slot header ending (ClaimLook cell)) fits does number version o =
        look_turn shape turn row is slot header number version fits.0 o.0 ending o.1 cell _ (same does.1)
    mover_turn (MoveClaim slot header ending (ClaimTake cell tag)) fits does number version o =
        take_turn shape turn row is slot header number version fits.0 o.0 ending o.1 cell tag fits.1 o.2 does.0
    mover_turn (MoveWords slot header ending cell tag got) fits does number version o =
        words_turn shape turn row is slot header ending cell tag got number version fits.0 fits.1 fits.2 (same does.1)
        o
    mover_turn (MoveFill slot header cell tag copy FillOwner) fits does number version o =
        owner_turn shape turn row is slot header cell tag copy number version fits.0 fits.1 fits.2 o.0 o.1 o.2 o.3 o.4
        does.0
    mover_turn (MoveFill slot header cell tag copy FillBegin) fits does number version o =
        begin_turn shape turn row is slot header cell tag copy number version fits.0 fits.1 fits.2 o.0 o.1 o.2 o.3 o.4
        o.5 does.0
    mover_turn (MoveFill slot header cell tag copy FillEnding) fits does number version o =
        ending_turn shape turn row is slot header cell tag copy number version fits.0 fits.1 fits.2 o.0 o.1 o.2 o.3
        o.4 o.5 does.0
    mover_turn (MoveFill slot header cell tag copy (FillWord word)) fits does number version o =
        word_turn shape turn row is slot header cell tag copy number version fits.0 fits.1 fits.2 o.0 o.1 o.2 o.3 o.4
        word fits.3 o.5 does.0
    mover_turn (MoveAgain slot header cell tag) fits does number version o =
        again_turn shape turn row is slot header cell tag number version fits.0 fits.1 o.0 o.2 o.1 (same does.1)
    mover_turn (MoveFull slot header cell tag) fits does number version o =
        full_turn shape turn row is slot header cell tag number version fits.0 fits.1 o.0 o.2 o.1 does.0
    mover_turn (MoveFlag slot header) fits does number version o =
        flag_turn shape turn row is slot header (turn.m (SlotHeader row slot))
        (written_else shape turn.m turn.now (SlotHeader row slot) _ does.0 (λ e. e))
    mover_turn (MoveBack header cell tag) fits does number version o =
        back_turn shape turn row is header cell tag fits o 0 does.0

  -- 3. A collector

  module _ (bucket : ℕ) (within : bucket < shape.buckets) (seen : List ℕ) where
    abbrev Collected : CollectPoint → Type 0
    Collected at =
        let found = found_at turn.m (collect_verb (cells_of shape bucket) seen at) in
        TurnOk shape turn (collect_cells shape bucket at found turn.cells)
        (collector_now bucket seen (collect_after (cells_of shape bucket) shape.workers seen at found))

    pub collector_turn : (at : CollectPoint) → CollectFits (cells_of shape bucket) shape.workers at
        → Does (collect_verb (cells_of shape bucket) seen at) (collect_writes (cells_of shape bucket) at)
        → CollectorAt shape turn.chains turn.rings turn.m turn.cells turn.nth bucket seen at → Collected at
    collector_turn (HorizonLook known) fits does o =
        collector.look_turn shape turn bucket within seen known (omega arith) o.0 o.1 fits
        (unwritten shape turn.m turn.now does.1)
    collector_turn (HorizonRaise known expected) fits does o =
        collector.raise_turn shape turn bucket within seen known (omega arith) o.0 o.1 fits expected o.2 does.0
    collector_turn (CollectTag known cell) fits does o =
        collector.tag_turn shape turn bucket within seen known cell fits.0 fits.1 o.0 o.1
        (unwritten shape turn.m turn.now does.1)
    collector_turn (CollectEnding known cell tag) fits does o =
        collector.ending_turn shape turn bucket within seen known cell fits.0 fits.1 o.0 o.1 tag o.2
        (unwritten shape turn.m turn.now does.1)
    collector_turn (CollectFree known cell tag) fits does o =
        collector.free_turn shape turn bucket within seen known cell fits.0 fits.1 o.0 o.1 tag o.2 o.3 does.0

  -- 4. Any client

  module _ (client : ClientState) where
    abbrev found_by : CallPoint → ℕ
    found_by place = found_at turn.m (call_verb shape (go client place) place)

    abbrev after_at : CallPoint → ClientState
    after_at place = call_after shape (go client place) place (found_by place)

    abbrev Comes : CallPoint → Upkeep → Type 0
    Comes place view =
        TurnOk shape turn (cells_after shape (turn.nth + 1) place (found_by place) turn.chains turn.cells) view

    abbrev OwnNow : Upkeep → Type 0
    OwnNow view = UpkeepOk shape turn.later turn.next turn.now turn.cells turn.nth view

    -- what is known at its point
    pub record Known (place : CallPoint) : Type 0 where
      pub does : Does (call_verb shape (go client place) place) (call_writes shape (go client place) place)
      pub kinds : (field : Field) → IsField shape field → (MayWrite (turn.nth + 1) place field → ⊥)
          → turn.now field ≡ turn.m field
      pub fits : UpkeepFits shape (upkeep_at shape place)
      pub upkeep : UpkeepOk shape turn.chains turn.rings turn.m turn.cells turn.nth (upkeep_at shape place)
      pub later_fits : UpkeepFits shape (upkeep_of shape (after_at place))
      -- the snapshots that the client lists then are at most the vector
      pub listed : (seen : List ℕ) → Listed seen (after_at place).log.snaps → (a : ℕ) → a < shape.workers
          → slice_index seen a ≤ turn.now (Entry (a + 1))

    -- one that begins knows nothing yet
    starts : (view : Upkeep) → IsStarting view → UpkeepFits shape view → OwnNow view
    starts NoUpkeep starting fits = tt
    starts (Mover row MoveCount) starting fits = (fits.0, (0, no_version, tt))
    starts _ starting fits = absurd starting

    none : SameUpkeep shape turn.m turn.now → (view : Upkeep) → view ≡ NoUpkeep
        → TurnOk shape turn turn.cells view
    none stays view e = subst (TurnOk shape turn turn.cells) (sym e) (quiet shape turn stays NoUpkeep tt)

    pub word_taken : (place : CallPoint) → Known place → Comes place (upkeep_of shape (after_at place))
    word_taken (Beginning txn nth at) known =
        let place = Beginning txn nth at in
        none (unwritten shape turn.m turn.now known.does.1) (upkeep_of shape (after_at place))
        (begin_goes (λ c. upkeep_of shape c ≡ NoUpkeep) shape (go client place) txn nth
        (snap_after shape.workers at (found_by place)) (λ next e. refl) (λ seen e. refl)
        (λ worker first second e. refl))
    word_taken (InTxn (Claiming op at)) known =
        none (λ field of_shape upkeep. known.kinds field of_shape (λ may. key_apart field upkeep may)) _
        (txn_view shape client (Claiming op at) client.txn _)
    word_taken (InTxn (Committing at)) known =
        none (λ field of_shape upkeep.
        known.kinds field of_shape (λ may. commit_apart (turn.nth + 1) field upkeep may)) _
        (txn_view shape client (Committing at) client.txn _)
    word_taken (InTxn (Finding op passed)) known =
        none (λ field of_shape upkeep. known.kinds field of_shape (λ may. may)) _
        (txn_view shape client (Finding op passed) client.txn _)
    word_taken (InTxn (Reading op position at)) known =
        none (λ field of_shape upkeep. known.kinds field of_shape (λ may. may)) _
        (txn_view shape client (Reading op position at) client.txn _)
    word_taken (Scanning table low high at) known =
        none (unwritten shape turn.m turn.now known.does.1) _ (scan_view shape client table low high at client.txn _)
    word_taken (Seeking table key passed) known =
        let view = upkeep_of shape (after_at (Seeking table key passed)) in
        quiet shape turn (unwritten shape turn.m turn.now known.does.1) view
        (starts view (seek_view shape client table key passed _) known.later_fits)
    word_taken (Moving table key position at) known =
        let row = row_of shape.tables table position in
        let place = Moving table key position at in
        let o = known.upkeep in
        subst (Comes place)
        (sym (move_view shape (go client place) table key position (bucket_of shape row)
        (move_after (place_at shape row) (cells_of shape (bucket_of shape row)) at (found_by place))))
        (mover_turn row known.fits.0 at known.fits.1 known.does o.1.0 o.1.1 o.1.2)
    word_taken (Snapping bucket at) known =
        let place = Snapping bucket at in
        quiet shape turn (unwritten shape turn.m turn.now known.does.1) (upkeep_of shape (after_at place))
        (snap_goes
        (λ (c : ClientState). ((seen : List ℕ) → Listed seen c.log.snaps → (a : ℕ) → a < shape.workers
        → slice_index seen a ≤ turn.now (Entry (a + 1))) → OwnNow (upkeep_of shape c)) shape (go client place) bucket
        (snap_after shape.workers at (found_by place)) (λ next e all. tt)
        (λ seen e all. (
          all seen (listed_append_right client.log.snaps (seen ∷ []) seen (inl refl)),
          λ a less. absurd (omega arith),
        ))
        (λ worker first second e all. tt) known.listed)
    word_taken (Collecting bucket prefix seen at) known =
        let place = Collecting bucket prefix seen at in
        subst (Comes place)
        (sym (collect_view shape (go client place) bucket prefix seen
        (collect_after (cells_of shape bucket) shape.workers seen at (found_by place))))
        (collector_turn bucket known.fits.0 seen at known.fits.1 known.does known.upkeep)
