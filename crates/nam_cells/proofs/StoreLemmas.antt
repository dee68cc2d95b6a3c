-- Each step of a store keeps what is said of cells and the horizon, and owes so much to all others.
use Rattle.std.proofs.Common.{List, Option, Some, ap, map, refl, subst, sym, ℕ, ◌+◌, ◌<◌, ◌≡◌, ◌≤◌}
use Rattle.std.specs.Prelude.{false, slice_index, slice_set}
use Rattle.nam_calls.specs.Memory.{memory}
use Rattle.nam_catalog.specs.declared.shape.Shape.{Shape}
use Rattle.nam_cells.proofs.OldLemmas.{old_next, old_rises}
use Rattle.nam_cells.proofs.StayLemmas.{upkeep_stays}
use Rattle.nam_cells.proofs.ViewLemmas.{abandoned_view, asked_view, upkeep_fits}
use Rattle.nam_cells.proofs.WordLemmas.{Known, word_taken}
use Rattle.nam_cells.proofs.WriteLemmas.{quiet}
use Rattle.nam_cells.specs.CellsLaw.{CellsAfter, KeepsLaw, NextLaw, Ready}
use Rattle.nam_cells.specs.Turn.{TurnOk}
use Rattle.nam_cells.specs.Views.{UpkeepFits}
use Rattle.nam_ghost.proofs.CellLemmas.{elsewhere_stays}
use Rattle.nam_ghost.proofs.ChainLemmas.{once}
use Rattle.nam_ghost.proofs.RowLemmas.{rows_go}
use Rattle.nam_ghost.proofs.SnapshotLemmas.{taken_found}
use Rattle.nam_ghost.specs.Cells.{IsElsewhere}
use Rattle.nam_ghost.specs.Ghost.{Ghost, ghost_step}
use Rattle.nam_ghost.specs.Moments.{observer_of}
use Rattle.nam_ghost.specs.Stepping.{stepping}
use Rattle.nam_ghost.specs.Steps.{cells_after}
use Rattle.nam_ghost.specs.Turn.{Turn}
use Rattle.nam_ghost.specs.Upkeep.{NoUpkeep, UpkeepOk, upkeep_in, upkeep_of}
use Rattle.nam_layout.proofs.LimitLemmas.{place_within_limits}
use Rattle.nam_layout.specs.Place.{place_at}
use Rattle.nam_layout.specs.Rows.{width_at}
use Rattle.nam_layout.specs.declared.field.Field.TheVariants.{Entry}
use Rattle.nam_protocol.specs.Client.{client_abandon, client_after, client_ask}
use Rattle.nam_protocol.specs.CutClient.{client_cut}
use Rattle.nam_protocol.specs.Telling.{go}
use Rattle.nam_protocol.specs.declared.client.Answer.{Answer}
use Rattle.nam_protocol.specs.declared.client.CallPoint.{CallPoint}
use Rattle.nam_protocol.specs.declared.client.ClientState.{ClientState}
use Rattle.nam_store.proofs.BaseLemmas.{base_keeps, does_law}
use Rattle.nam_store.proofs.Lists.{everyone_set, get_set}
use Rattle.nam_store.specs.Base.{BaseOk}
use Rattle.nam_store.specs.Changed.{Changed, Does, OthersStay, written_of}
use Rattle.nam_store.specs.Everyone.{Everyone}
use Rattle.nam_store.specs.Kinds.{MayWriteAt}
use Rattle.nam_store.specs.Store.{Abandons, Asks, Cuts, StepsTo, Store, Takes, client_at, found_word, next_verb, step}
use Rattle.nam_verbs.specs.VerbAt.{left_at, target}
use Rattle.nam_verbs.specs.declared.now.Now.{Now}
use Rattle.nam_verbs.specs.declared.now.Now.TheVariants.{At}
use Rattle.si_model.specs.Lists.{Listed}

-- 1. The step as cells see it

module _ (shape : Shape) (before after : Store) (goes : StepsTo shape before after) (ghost : Ghost)
    (ready : Ready shape before after goes ghost) where
  abbrev later : Ghost
  later = ghost_step shape before after goes ghost

  abbrev turn : Turn shape
  turn = record {
    limits = ready.base.limits;
    chains = ghost.chains;
    later = (ghost_step shape before after goes ghost).chains;
    rings = ghost.rings;
    next = (ghost_step shape before after goes ghost).rings;
    m = memory shape before.words;
    now = memory shape after.words;
    cells = ghost.cells;
    nth = stepping shape before after goes;
    images = ready.slots.rows;
    once = λ row a b u v is.
        once (width_at shape.tables row) (map observer_of before.clients) (ghost.chains row) (ready.chains row is) a b
        u v;
    rows = rows_go shape ready.base.limits (memory shape before.words) ghost.chains
        (ghost_step shape before after goes ghost).chains ghost.rings (ghost_step shape before after goes ghost).rings
        ready.slots.rows
        (λ row. IsElsewhere shape ghost.chains ghost.rings (memory shape before.words) ghost.cells row)
        (λ row version. Unit {0}) ready.rows;
    vector = ready.vector;
    are = ready.cells.are;
    behind = ready.cells.behind;
  }

  -- what it owes, and whose client goes on as which
  pub record StepNext : Type 0 where
    pub client : ClientState
    pub clients : after.clients ≡ slice_set before.clients (stepping shape before after goes) client
    pub turns : TurnOk shape turn later.cells (upkeep_of shape client)

  -- so what is said of cells stays
  keeps : StepNext → CellsAfter shape before after goes ghost
  keeps next =
      let nth = stepping shape before after goes in
      let m = memory shape before.words in
      let now = memory shape after.words in
      record {
        are = next.turns.are;
        old = λ row is.
            let place = place_at shape row in
            let Elsewhere = IsElsewhere shape ghost.chains ghost.rings m ghost.cells row in
            old_rises place Elsewhere (IsElsewhere shape later.chains later.rings now later.cells row)
            (later.chains row) (later.rings row)
            (elsewhere_stays shape turn later.cells nth next.turns.spares row)
            (old_next place (place_within_limits shape row ready.base.limits is).least_ring Elsewhere
            (λ version. Unit {0}) (ghost.chains row) (later.chains row) (ghost.rings row) (later.rings row)
            (ready.rows row is) (ready.cells.old row is));
        behind = next.turns.behind;
        upkeep = subst (Everyone (λ j client.
            UpkeepOk shape later.chains later.rings now later.cells j (upkeep_of shape client))) (sym next.clients)
            (everyone_set
            (λ j client. UpkeepOk shape ghost.chains ghost.rings m ghost.cells j (upkeep_of shape client))
            (λ j client. UpkeepOk shape later.chains later.rings now later.cells j (upkeep_of shape client))
            before.clients nth next.client ready.cells.upkeep
            (λ j client apart here o.
            upkeep_stays shape turn later.cells nth next.turns.spares j apart (upkeep_of shape client)
            (upkeep_fits shape client (ready.base.clients j client here).fits) o)
            next.turns.own);
      }

-- 2. A word is taken

module _ (shape : Shape) (store : Store) (nth : ℕ) (client : ClientState) (place : CallPoint)
    (here : client_at store nth ≡ Some client) (runs : client.cut ≡ false) (at : client.call ≡ Some (At place))
    (ghost : Ghost)
    (ready : Ready shape store (step shape store nth client) (Takes nth client place here runs at) ghost) where
  abbrev goes : StepsTo shape store (step shape store nth client)
  goes = Takes nth client place here runs at

  abbrev taken : Turn shape
  taken = turn shape store (step shape store nth client) (Takes nth client place here runs at) ghost ready

  abbrev words : List ℕ
  words = (step shape store nth client).words

  -- the client after its word
  abbrev after_word : ClientState → ClientState
  after_word c = client_after shape c (found_word shape store c)

  is_at : client ≡ go client place
  is_at = ap (λ (call : Option (Now CallPoint Answer)). record client { call = call }) at

  does : Does shape store nth client
  does = does_law shape store ready.base nth client place here at

  base_after : BaseOk shape (step shape store nth client)
  base_after = base_keeps shape store (step shape store nth client) goes ready.base

  here_after : client_at (step shape store nth client) nth ≡ Some (after_word client)
  here_after = get_set store.clients nth client (after_word client) here

  listed : (seen : List ℕ) → Listed seen (after_word client).log.snaps → (a : ℕ) → a < shape.workers
      → slice_index seen a ≤ memory shape words (Entry (a + 1))
  listed seen is a less =
      (taken_found shape (step shape store nth client) ready.moments seen
      (nth, (after_word client, (here_after, is))) a less).1

  known : Known shape taken client place
  known = record {
    does = subst
        (λ (c : ClientState). Changed shape taken.m taken.now (target (next_verb shape c))
        (left_at taken.m (next_verb shape c)) × OthersStay shape taken.m taken.now (written_of shape c)) is_at
        (does.changes, does.leaves);
    kinds = λ field of_shape unwritten.
        does.kinds field of_shape (λ may. unwritten
        (subst (λ (call : Option (Now CallPoint Answer)). MayWriteAt (nth + 1) call field) at may));
    fits = subst (λ (call : Option (Now CallPoint Answer)). UpkeepFits shape (upkeep_in shape call)) at
        (upkeep_fits shape client (ready.base.clients nth client here).fits);
    upkeep = subst
        (λ (call : Option (Now CallPoint Answer)).
        UpkeepOk shape taken.chains taken.rings taken.m taken.cells nth (upkeep_in shape call)) at
        (ready.cells.upkeep nth client here);
    later_fits = subst (λ (c : ClientState). UpkeepFits shape (upkeep_of shape (after_word c))) is_at
        (upkeep_fits shape (after_word client) (base_after.clients nth (after_word client) here_after).fits);
    listed = subst
        (λ (c : ClientState). (seen : List ℕ) → Listed seen (after_word c).log.snaps → (a : ℕ) → a < shape.workers
        → slice_index seen a ≤ taken.now (Entry (a + 1))) is_at listed;
  }

  takes : StepNext shape store (step shape store nth client) goes ghost ready
  takes = record {
    client = after_word client;
    clients = refl;
    turns = subst
        (λ (c : ClientState). TurnOk shape taken
        (cells_after shape client.worker place (found_word shape store c) ghost.chains ghost.cells)
        (upkeep_of shape (after_word c))) (sym is_at)
        (subst
        (λ (worker : ℕ). TurnOk shape taken
        (cells_after shape worker place (found_word shape store (go client place)) ghost.chains ghost.cells)
        (upkeep_of shape (after_word (go client place)))) (sym (ready.base.clients nth client here).own.worker_is)
        (word_taken shape taken client place known));
  }

-- 3. Each step

pub step_next : (shape : Shape) (before after : Store) (goes : StepsTo shape before after) (ghost : Ghost)
    (ready : Ready shape before after goes ghost) → StepNext shape before after goes ghost ready
step_next shape before _ (Takes nth client place here runs at) ghost ready =
    takes shape before nth client place here runs at ghost ready
step_next shape before _ (Asks nth client asked here may words) ghost ready =
    let turn_is = turn shape before _ (Asks nth client asked here may words) ghost ready in
    record {
      client = client_ask shape client asked;
      clients = refl;
      turns = subst (TurnOk shape turn_is ghost.cells) (sym (asked_view shape client may.rests asked))
          (quiet shape turn_is (λ field is upkeep. refl) NoUpkeep tt);
    }
step_next shape before _ (Abandons nth client here rests) ghost ready =
    let turn_is = turn shape before _ (Abandons nth client here rests) ghost ready in
    record {
      client = client_abandon client;
      clients = refl;
      turns = subst (TurnOk shape turn_is ghost.cells) (sym (abandoned_view shape client rests))
          (quiet shape turn_is (λ field is upkeep. refl) NoUpkeep tt);
    }
step_next shape before _ (Cuts nth client here) ghost ready =
    let turn_is = turn shape before _ (Cuts nth client here) ghost ready in
    record {
      client = client_cut client;
      clients = refl;
      turns = quiet shape turn_is (λ field is upkeep. refl) (upkeep_of shape client)
          (ready.cells.upkeep nth client here);
    }

pub cells_keep : KeepsLaw
cells_keep shape before after goes ghost ready =
    keeps shape before after goes ghost ready (step_next shape before after goes ghost ready)

pub cells_next : NextLaw
cells_next shape before after goes ghost ready = (step_next shape before after goes ghost ready).turns.spares
