-- Each step of a store keeps what is claimed of cells and the moves that fill them, and the opening has it.
use Rattle.std.proofs.Common.{List, None, Option, Some, ap, arith, inl, inr, map, refl, slice_get}
use Rattle.std.proofs.Common.{subst, sym, ℕ, ⊎_elim, ◌+◌, ◌∙◌, ◌≡◌}
use Rattle.std.specs.Prelude.{slice_set}
use Rattle.nam_verbs.specs.declared.now.Now.TheVariants.{At, Over}
use Rattle.nam_verbs.specs.declared.now.Now.{Now}
use Rattle.nam_calls.specs.Memory.{memory}
use Rattle.nam_catalog.specs.declared.shape.Shape.{Shape}
use Rattle.nam_filled.proofs.KeepLemmas.{filled_stays}
use Rattle.nam_filled.proofs.QuietLemmas.{IsQuiet, Quiet, abandon_quiet, ask_quiet, quiet_calm, rests_calm, starts}
use Rattle.nam_filled.proofs.QuietLemmas.{word_quiet}
use Rattle.nam_filled.proofs.TurnLemmas.{calm_turn, still_turn}
use Rattle.nam_filled.proofs.WordLemmas.{collector_turn, mover_turn}
use Rattle.nam_filled.specs.Filled.{FilledOk, NowOk, OthersCollected, Scene, scene_of}
use Rattle.nam_filled.specs.FilledLaw.{KeepsLaw, RestsOn}
use Rattle.nam_filled.specs.Holders.{Mover}
use Rattle.nam_ghost.specs.Keys.{KeysOk}
use Rattle.nam_ghost.specs.Upkeep.{CellsOk}
use Rattle.nam_filled.specs.Holders.{Holders, call_holders, mover_of}
use Rattle.nam_filled.specs.Turn.{Frame, NoneMore, Turn, Word}
use Rattle.nam_ghost.proofs.RowLemmas.{ends_stay, numbers_stay}
use Rattle.nam_ghost.specs.Cells.{CellIs, CellMap, IsElsewhere}
use Rattle.nam_ghost.specs.Chains.{IsNew}
use Rattle.nam_ghost.specs.Ghost.{Ghost, ghost_after, ghost_step}
use Rattle.nam_ghost.specs.Moments.{observer_of}
use Rattle.nam_ghost.specs.Steps.{cells_after}
use Rattle.nam_ghost.specs.Versions.{Chain, Version, cell_image, slot_image}
use Rattle.nam_layout.proofs.LimitLemmas.{place_within_limits}
use Rattle.nam_layout.specs.Place.{place_at}
use Rattle.nam_layout.specs.Rows.{width_at}
use Rattle.nam_layout.specs.declared.field.Field.TheVariants.{Horizon, Tag}
use Rattle.nam_protocol.specs.Client.{client_abandon, client_after, client_ask}
use Rattle.nam_protocol.specs.CutClient.{client_cut}
use Rattle.nam_protocol.specs.ClientFits.{NowFits}
use Rattle.nam_protocol.specs.Own.{Rests}
use Rattle.nam_protocol.specs.Telling.{go}
use Rattle.nam_calls.specs.declared.horizon.CollectPoint.{CollectPoint}
use Rattle.nam_calls.specs.declared.mover.MovePoint.{MovePoint}
use Rattle.nam_protocol.specs.declared.client.Answer.{Answer}
use Rattle.nam_protocol.specs.declared.client.CallPoint.TheVariants.{Beginning, Collecting, InTxn, Moving, Scanning}
use Rattle.nam_protocol.specs.declared.client.CallPoint.TheVariants.{Seeking, Snapping}
use Rattle.nam_protocol.specs.declared.client.CallPoint.{CallPoint}
use Rattle.nam_protocol.specs.declared.client.ClientState.{ClientState}
use Rattle.nam_protocol.specs.declared.txn.TxnPoint.TheVariants.{Claiming, Committing, Finding, Reading}
use Rattle.nam_protocol.specs.declared.txn.TxnPoint.{TxnPoint}
use Rattle.nam_store.proofs.BaseLemmas.{does_law}
use Rattle.nam_store.proofs.Lists.{get_beside}
use Rattle.nam_store.specs.Base.{BaseOk}
use Rattle.nam_store.specs.Kinds.{MayWrite}
use Rattle.nam_store.specs.Store.{Abandons, Asks, Cuts, StepsTo, Store, Takes, client_at, found_word, step, with_client}

-- 1. What the step makes of versions

module _ (shape : Shape) (before after : Store) (goes : StepsTo shape before after) (ghost : Ghost)
    (holders : Holders) (rests : RestsOn shape before after goes ghost) where
  abbrev later : Ghost
  later = ghost_step shape before after goes ghost

  abbrev Flagged : ℕ → ℕ → Type 0
  Flagged row = IsElsewhere shape ghost.chains ghost.rings (memory shape before.words) ghost.cells row

  abbrev New : ℕ → Version → Type 0
  New row = IsNew (width_at shape.tables row) (map observer_of before.clients)

  frame_of : Frame shape (scene_of shape before ghost holders) (memory shape after.words) later.chains later.rings
  frame_of = record {
    numbers = λ row number version is.
        numbers_stay (place_at shape row) (Flagged row) (New row) (ghost.chains row) (later.chains row)
        (ghost.rings row) (later.rings row) (rests.rows row is) number version;
    ends = λ bucket cell row number is stored.
        let whole = (subst (CellIs shape ghost.chains ghost.rings bucket
        (cell_image (memory shape before.words) bucket cell)) stored (rests.cells.are bucket cell is)).2 in
        ends_stay (place_at shape row) (place_within_limits shape row rests.base.limits whole.inside).least_ring
        (slot_image (memory shape before.words) row) (ghost.chains row) (ghost.rings row)
        (rests.slots.rows row whole.inside) (Flagged row) (New row) (later.chains row) (later.rings row)
        (rests.rows row whole.inside) number whole.was_copied;
    keys = rests.bears;
  }

-- 2. Words that are quiet

quiet_cells : (shape : Shape) (worker : ℕ) (place : CallPoint) (found : ℕ) (chains : ℕ → Chain) (cells : CellMap)
    → IsQuiet place → cells_after shape worker place found chains cells ≡ cells
quiet_cells shape worker (Beginning txn nth at) found chains cells quiet = refl
quiet_cells shape worker (InTxn at) found chains cells quiet = refl
quiet_cells shape worker (Scanning table low high at) found chains cells quiet = refl
quiet_cells shape worker (Seeking table key passed) found chains cells quiet = refl
quiet_cells shape worker (Snapping bucket at) found chains cells quiet = refl
quiet_cells shape worker (Moving table key position at) found chains cells quiet = absurd quiet
quiet_cells shape worker (Collecting bucket prefix seen at) found chains cells quiet = absurd quiet

quiet_holders : (shape : Shape) (mover : Mover) (place : CallPoint) (found : ℕ) (holders : Holders)
    → IsQuiet place → call_holders shape mover place found holders ≡ holders
quiet_holders shape mover (Beginning txn nth at) found holders quiet = refl
quiet_holders shape mover (InTxn at) found holders quiet = refl
quiet_holders shape mover (Scanning table low high at) found holders quiet = refl
quiet_holders shape mover (Seeking table key passed) found holders quiet = refl
quiet_holders shape mover (Snapping bucket at) found holders quiet = refl
quiet_holders shape mover (Moving table key position at) found holders quiet = absurd quiet
quiet_holders shape mover (Collecting bucket prefix seen at) found holders quiet = absurd quiet

txn_spares : (worker : ℕ) (at : TxnPoint) (bucket cell a : ℕ)
    → (MayWrite worker (InTxn at) (Tag bucket cell) → ⊥) × (MayWrite worker (InTxn at) (Horizon a) → ⊥)
txn_spares worker (Finding op passed) bucket cell a = (λ f. f, λ f. f)
txn_spares worker (Reading op position at) bucket cell a = (λ f. f, λ f. f)
txn_spares worker (Claiming op at) bucket cell a = (λ f. f, λ f. f)
txn_spares worker (Committing at) bucket cell a = (λ f. f, λ f. f)

-- no tag is written, nor a horizon entry
quiet_spares : (worker : ℕ) (place : CallPoint) (bucket cell a : ℕ) → IsQuiet place
    → (MayWrite worker place (Tag bucket cell) → ⊥) × (MayWrite worker place (Horizon a) → ⊥)
quiet_spares worker (InTxn at) bucket cell a quiet = txn_spares worker at bucket cell a
quiet_spares worker (Beginning txn nth at) bucket cell a quiet = (λ f. f, λ f. f)
quiet_spares worker (Scanning table low high at) bucket cell a quiet = (λ f. f, λ f. f)
quiet_spares worker (Seeking table key passed) bucket cell a quiet = (λ f. f, λ f. f)
quiet_spares worker (Snapping bucket at) b cell a quiet = (λ f. f, λ f. f)
quiet_spares worker (Moving table key position at) bucket cell a quiet = absurd quiet
quiet_spares worker (Collecting bucket prefix seen at) b cell a quiet = absurd quiet

-- 3. A word is taken

module _ (shape : Shape) (store : Store) (ghost : Ghost) (holders : Holders) (base : BaseOk shape store)
    (cells_ok : CellsOk shape store ghost.chains ghost.rings ghost.cells) (keys_ok : KeysOk shape store ghost.chains)
    (filled : FilledOk shape store ghost holders) (nth : ℕ) where
  abbrev before : Scene
  before = scene_of shape store ghost holders

  abbrev ghost_then : CallPoint → ClientState → Ghost
  ghost_then place c = ghost_after shape nth c place (found_word shape store c) ghost

  abbrev holders_then : CallPoint → ClientState → Holders
  holders_then place c = call_holders shape (mover_of nth c) place (found_word shape store c) holders

  abbrev FrameAt : CallPoint → ClientState → Type 0
  FrameAt place c = Frame shape (scene_of shape store ghost holders) (memory shape (step shape store nth c).words)
      (ghost_then place c).chains (ghost_then place c).rings

  abbrev TurnAt : CallPoint → ClientState → Type 0
  TurnAt place c = Turn shape (scene_of shape store ghost holders)
      (scene_of shape (step shape store nth c) (ghost_then place c) (holders_then place c)) nth c
      (client_after shape c (found_word shape store c))

  -- of each client before the step its point fits
  abbrev Keeps : CallPoint → ClientState → Type 0
  Keeps place c = client_at store nth ≡ Some c → FrameAt place c
      → FilledOk shape (step shape store nth c) (ghost_then place c) (holders_then place c)

  quiet_word : (client : ClientState) (place : CallPoint) → IsQuiet place → let c = go client place in
      client_at store nth ≡ Some c → FrameAt place c → TurnAt place c
  quiet_word client place quiet here frame =
      let c = go client place in
      let found = found_word shape store c in
      let does = does_law shape store base nth c place here refl in
      let later = client_after shape c found in
      let after = scene_of shape (step shape store nth c) (ghost_then place c) (holders_then place c) in
      let steps = word_quiet shape client place found quiet in
      calm_turn shape before after nth c later here refl frame
      (quiet_cells shape client.worker place found ghost.chains ghost.cells quiet)
      (quiet_holders shape (mover_of nth c) place found holders quiet)
      (λ bucket cell is. does.kinds (Tag bucket cell) is (quiet_spares (nth + 1) place bucket cell 0 quiet).0)
      (λ a less. does.kinds (Horizon (a + 1)) (omega arith, omega arith)
      (quiet_spares (nth + 1) place 0 0 (a + 1) quiet).1)
      (quiet_calm shape place quiet) steps.0 (starts shape after nth later.call steps.1)

  abbrev word_of : (client : ClientState) (place : CallPoint) → FrameAt place (go client place) → Word shape
  word_of client place frame = let c = go client place in record {
    before = before;
    m = memory shape (step shape store nth c).words;
    chains = (ghost_then place c).chains;
    rings = (ghost_then place c).rings;
    frame = frame;
    nth = nth;
    client = client;
  }

  move_word : (client : ClientState) (table key position : ℕ) (at : MovePoint)
      → let place = Moving table key position at in let c = go client place in client_at store nth ≡ Some c
      → FrameAt place c → TurnAt place c
  move_word client table key position at here frame =
      let place = Moving table key position at in
      let c = go client place in
      let ok = base.clients nth c here in
      let fits = ok.fits.2 in
      let o = cells_ok.upkeep nth c here in
      let does = does_law shape store base nth c place here refl in
      let found = found_word shape store c in
      let later = client_after shape c found in
      subst (λ (worker : ℕ). Turn shape before
      record {
        m = memory shape (step shape store nth c).words;
        chains = (ghost_then place c).chains;
        rings = (ghost_then place c).rings;
        cells = cells_after shape worker place found ghost.chains ghost.cells;
        holders = holders_then place c;
        clients = slice_set store.clients nth later;
      } nth c later) (sym ok.own.worker_is)
      (mover_turn shape base.limits (word_of client place frame) cells_ok.are filled table key position fits.0 fits.1
      (keys_ok.clients nth c here).at o.0 at fits.2 here (does.changes, does.leaves) o.1.0 o.1.1 o.1.2)

  collect_word : (client : ClientState) (bucket prefix : ℕ) (seen : List ℕ) (at : CollectPoint)
      → let place = Collecting bucket prefix seen at in let c = go client place in client_at store nth ≡ Some c
      → FrameAt place c → TurnAt place c
  collect_word client bucket prefix seen at here frame =
      let place = Collecting bucket prefix seen at in
      let c = go client place in
      let fits = (base.clients nth c here).fits.2 in
      let does = does_law shape store base nth c place here refl in
      collector_turn shape base.limits (word_of client place frame) cells_ok.are filled bucket prefix seen fits.0 fits.1
      at fits.2 here (does.changes, does.leaves) (cells_ok.upkeep nth c here) (filled.calls nth c here)

  word_at : (client : ClientState) (place : CallPoint) → let c = go client place in client_at store nth ≡ Some c
      → FrameAt place c → TurnAt place c
  word_at client (Moving table key position at) here frame =
      move_word client table key position at here frame
  word_at client (Collecting bucket prefix seen at) here frame =
      collect_word client bucket prefix seen at here frame
  word_at client (Beginning txn n at) here frame = quiet_word client (Beginning txn n at) tt here frame
  word_at client (InTxn at) here frame = quiet_word client (InTxn at) tt here frame
  word_at client (Scanning table low high at) here frame = quiet_word client (Scanning table low high at) tt here frame
  word_at client (Seeking table key passed) here frame = quiet_word client (Seeking table key passed) tt here frame
  word_at client (Snapping bucket at) here frame = quiet_word client (Snapping bucket at) tt here frame

  fits_here : (j : ℕ) (c : ClientState) → slice_get store.clients j ≡ Some c → NowFits shape c.txn c.call
  fits_here j c here = (base.clients j c here).fits.2

  pub taken : (client : ClientState) (place : CallPoint) → client.call ≡ Some (At place) → Keeps place client
  taken client place at =
      subst (Keeps place) (sym is_at) (λ here frame.
      filled_stays shape base.limits before
      (scene_of shape (step shape store nth (go client place)) (ghost_then place (go client place))
      (holders_then place (go client place))) nth (go client place)
      (client_after shape (go client place) (found_word shape store (go client place)))
      (word_at client place here frame) filled fits_here)
    where
      is_at : client ≡ go client place
      is_at = ap (λ (call : Option (Now CallPoint Answer)). record client { call = call }) at

  -- 4. A call is asked, a transaction is given up, or the client is stopped

  abbrev Beside : ClientState → Type 0
  Beside later = FilledOk shape (with_client store nth later) ghost holders

  abbrev scene_with : ClientState → Scene
  scene_with later = scene_of shape (with_client store nth later) ghost holders

  beside : (client later : ClientState) → Turn shape before (scene_with later) nth client later → Beside later
  beside client later turn =
      filled_stays shape base.limits before (scene_with later) nth client later turn filled fits_here

  still_frame : Frame shape (scene_of shape store ghost holders) (memory shape store.words) ghost.chains ghost.rings
  still_frame = record {
    numbers = λ row number version is there. there;
    ends = λ bucket cell row number is stored. refl;
    keys = λ row is stands. refl;
  }

  pub rested : (client later : ClientState) → client_at store nth ≡ Some client → Rests client.call
      → Quiet client later → Beside later
  rested client later here rests quiet =
      beside client later
      (calm_turn shape before (scene_with later) nth client later here refl still_frame refl refl
      (λ bucket cell is. refl) (λ a less. refl) (rests_calm shape client.call rests) quiet.0
      (starts shape (scene_with later) nth later.call quiet.1))

  -- a client that is stopped stays at its point
  cut_call : (client : ClientState) → client_at store nth ≡ Some client → (call : Option (Now CallPoint Answer))
      → NowOk shape before nth call → NowOk shape (scene_with (client_cut client)) nth call
  cut_call client here None ok = tt
  cut_call client here (Some (Over answer)) ok = tt
  cut_call client here (Some (At (Moving table key position at))) ok = ok
  cut_call client here (Some (At (Collecting bucket prefix seen at))) ok =
      ⊎_elim (λ ((other, (c, (there, (apart, has)))) : OthersCollected shape before nth).
      inl (other, (c, (get_beside store.clients nth other (client_cut client) apart ∙ there, (apart, has)))))
      (λ own. inr own) ok
  cut_call client here (Some (At (Beginning txn n at))) ok = tt
  cut_call client here (Some (At (InTxn at))) ok = tt
  cut_call client here (Some (At (Scanning table low high at))) ok = tt
  cut_call client here (Some (At (Seeking table key passed))) ok = tt
  cut_call client here (Some (At (Snapping bucket at))) ok = tt

  pub stopped : (client : ClientState) → client_at store nth ≡ Some client → Beside (client_cut client)
  stopped client here =
      beside client (client_cut client)
      (still_turn shape before (scene_with (client_cut client)) nth client (client_cut client) here refl still_frame
      refl refl (λ bucket cell is. refl) (λ bucket cell fills. (fills, refl))
      record {
        moves = λ place move is. is;
        collected = λ has. has;
        collections = NoneMore (λ n bucket prefix entries is. is);
      } (inr (λ a less. refl)) (cut_call client here client.call (filled.calls nth client here)))

-- 5. Each step

pub filled_keeps : KeepsLaw
filled_keeps shape before _ (Takes nth client place here runs at) ghost holders rests filled =
    taken shape before ghost holders rests.base rests.cells rests.keys filled nth client place at here
    (frame_of shape before (step shape before nth client) (Takes nth client place here runs at) ghost holders rests)
filled_keeps shape before _ (Asks nth client asked here may words) ghost holders rests filled =
    rested shape before ghost holders rests.base rests.cells rests.keys filled nth client
    (client_ask shape client asked) here may.rests (ask_quiet shape client asked may.rests)
filled_keeps shape before _ (Abandons nth client here idle) ghost holders rests filled =
    rested shape before ghost holders rests.base rests.cells rests.keys filled nth client (client_abandon client) here
    idle (abandon_quiet client idle)
filled_keeps shape before _ (Cuts nth client here) ghost holders rests filled =
    stopped shape before ghost holders rests.base rests.cells rests.keys filled nth client here
