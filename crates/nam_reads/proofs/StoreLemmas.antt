-- Each step of a store keeps what readers may rely on.
use Rattle.std.proofs.Common.{List, None, Option, Some, inl, inr, map, refl, subst, sym, ℕ, ◌≡◌}
use Rattle.std.specs.Prelude.{false, slice_get, slice_set}
use Rattle.nam_calls.specs.Fits.{ReadFits}
use Rattle.nam_calls.specs.Memory.{memory}
use Rattle.nam_calls.specs.Reading.{read_after}
use Rattle.nam_calls.specs.declared.reading.ReadPoint.{ReadPoint}
use Rattle.nam_calls.specs.declared.reading.ReadingEnd.{ReadingEnd}
use Rattle.nam_calls.specs.declared.reading.Sight.{Sight}
use Rattle.nam_catalog.specs.declared.shape.Shape.{Shape}
use Rattle.nam_ghost.proofs.ChainLemmas.{once}
use Rattle.nam_ghost.proofs.RowLemmas.{rows_go}
use Rattle.nam_ghost.proofs.SnapshotLemmas.{taken_snap}
use Rattle.nam_ghost.specs.Cells.{IsElsewhere}
use Rattle.nam_ghost.specs.Chains.{IsNew}
use Rattle.nam_ghost.specs.Ghost.{Ghost, ghost_step}
use Rattle.nam_ghost.specs.Moments.{IsTaken, observer_of}
use Rattle.nam_ghost.specs.Reads.{ReadOkAt, ReaderOk, ReadsOk}
use Rattle.nam_ghost.specs.Stepping.{stepping}
use Rattle.nam_ghost.specs.Turn.{Turn}
use Rattle.nam_layout.specs.Address.{IsRow}
use Rattle.nam_layout.specs.Place.{place_at}
use Rattle.nam_layout.specs.Rows.{width_at}
use Rattle.nam_protocol.specs.Client.{client_abandon, client_after, client_ask}
use Rattle.nam_protocol.specs.CutClient.{client_cut}
use Rattle.nam_protocol.specs.Reader.{Reader, ReadsAnew, ReadsOn, reader_of, reads_at}
use Rattle.nam_protocol.specs.declared.client.CallPoint.{CallPoint}
use Rattle.nam_protocol.specs.declared.client.ClientState.{ClientState}
use Rattle.nam_reads.proofs.FoundLemmas.{relies, word_leads}
use Rattle.nam_reads.proofs.ReadStays.{read_stays}
use Rattle.nam_reads.proofs.ReaderLemmas.{GoesOn, abandoned_anew, asked_anew, goes_on, reading, reading_taken}
use Rattle.nam_reads.specs.Comes.{Comes, row_sight}
use Rattle.nam_reads.specs.ReadsLaw.{KeepsLaw, Ready}
use Rattle.nam_store.proofs.BaseLemmas.{asked_sort, base_keeps, step_sort}
use Rattle.nam_store.proofs.Lists.{everyone_set, get_set}
use Rattle.nam_store.specs.Store.{Abandons, Asks, Cuts, StepsTo, Store, Takes, client_at, found_word}
use Rattle.nam_verbs.specs.declared.now.Now.{Now}
use Rattle.nam_verbs.specs.declared.now.Now.TheVariants.{At, Over}

-- 1. The step as readers see it

module _ (shape : Shape) (before after : Store) (goes : StepsTo shape before after) (ghost : Ghost)
    (ready : Ready shape before after goes ghost) where
  abbrev later : Ghost
  later = ghost_step shape before after goes ghost

  abbrev turn : Turn shape
  turn = record {
    limits = ready.stands.base.limits;
    chains = ghost.chains;
    later = (ghost_step shape before after goes ghost).chains;
    rings = ghost.rings;
    next = (ghost_step shape before after goes ghost).rings;
    m = memory shape before.words;
    now = memory shape after.words;
    cells = ghost.cells;
    nth = stepping shape before after goes;
    images = ready.stands.slots.rows;
    once = λ row a b u v is.
        once (width_at shape.tables row) (map observer_of before.clients) (ghost.chains row)
        (ready.stands.chains row is) a b u v;
    rows = rows_go shape ready.stands.base.limits (memory shape before.words) ghost.chains
        (ghost_step shape before after goes ghost).chains ghost.rings (ghost_step shape before after goes ghost).rings
        ready.stands.slots.rows
        (λ row. IsElsewhere shape ghost.chains ghost.rings (memory shape before.words) ghost.cells row)
        (λ row. IsNew (width_at shape.tables row) (map observer_of before.clients)) ready.rows;
    vector = ready.vector;
    are = ready.stands.cells.are;
    behind = ready.stands.cells.behind;
  }

  -- what a reader may rely on at a point, before the step and after it
  abbrev OkAt : Reader → ReadPoint → Type 0
  OkAt reader at = ReadOkAt shape ghost.chains ghost.rings (memory shape before.words) ghost.cells reader.seen
      reader.sight.place.row reader.sight.place at

  abbrev OkNow : Option Reader → Type 0
  OkNow o = ReaderOk shape later.chains later.rings (memory shape after.words) later.cells o

  at_row : (seen : List ℕ) → IsTaken before seen → (row : ℕ) → IsRow shape row → (at : ReadPoint)
      → ReadFits (row_sight shape row) at
      → ReadOkAt shape ghost.chains ghost.rings (memory shape before.words) ghost.cells seen row
      (place_at shape row) at
      → ReadOkAt shape later.chains later.rings (memory shape after.words) later.cells seen row (place_at shape row) at
  at_row seen taken row inside at fits o =
      read_stays shape turn later.cells (stepping shape before after goes) ready.next seen row inside
      (IsNew (width_at shape.tables row) (map observer_of before.clients))
      (λ version new. new.hidden seen (taken_snap before seen taken)) (ready.rows row inside)
      (ready.stands.cells.old row inside) at fits o

  -- 2. What is known of a reader at any point stays

  module _ (nth : ℕ) (client : ClientState) (here : client_at before nth ≡ Some client) (reader : Reader)
      (reads : reader_of shape client ≡ Some reader) where
    point_stays : (at : ReadPoint) → ReadFits reader.sight at → OkAt reader at → OkNow (Some (reads_at reader at))
    point_stays at fits o =
        let row = reader.sight.place.row in
        let is = reading shape before ready.stands.base nth client here reader reads in
        let taken = reading_taken shape before ready.stands.base nth client here reader reads in
        subst (λ (s : Sight). ReadOkAt shape later.chains later.rings (memory shape after.words) later.cells
        reader.seen row s.place at) (sym is.sight_is)
        (at_row reader.seen taken row is.inside at (subst (λ (s : Sight). ReadFits s at) is.sight_is fits)
        (subst (λ (s : Sight). ReadOkAt shape ghost.chains ghost.rings (memory shape before.words) ghost.cells
        reader.seen row s.place at) is.sight_is o))

    -- of another client
    reader_stays : OkNow (Some reader)
    reader_stays =
        point_stays reader.at (reading shape before ready.stands.base nth client here reader reads).fits
        (relies shape before ghost ready.stands nth client here reader reads)

    -- of the client itself, where its word leads its read on
    read_on : (client_now : ClientState) → client_at after nth ≡ Some client_now → (now : Now ReadPoint ReadingEnd)
        → Comes shape ghost.chains ghost.rings (memory shape before.words) ghost.cells reader.seen
        reader.sight.place.row now
        → ReadsOn reader (reader_of shape client_now) now → OkNow (reader_of shape client_now)
    read_on client_now there (At next) comes on =
        let is = reading shape before ready.stands.base nth client here reader reads in
        let base_now = base_keeps shape before after goes ready.stands.base in
        let fits = (reading shape after base_now nth client_now there (reads_at reader next) on).fits in
        subst OkNow (sym on)
        (point_stays next fits
        (subst (λ (s : Sight). ReadOkAt shape ghost.chains ghost.rings (memory shape before.words) ghost.cells
        reader.seen reader.sight.place.row s.place next) (sym is.sight_is) comes))
    read_on client_now there (Over end) comes on = subst OkNow (sym on) tt

  client_stays : (nth : ℕ) (client : ClientState) → client_at before nth ≡ Some client
      → OkNow (reader_of shape client)
  client_stays nth client here = by_reader (reader_of shape client) refl
    where
      by_reader : (o : Option Reader) → reader_of shape client ≡ o → OkNow o
      by_reader None e = tt
      by_reader (Some reader) e = reader_stays nth client here reader e

  -- at a read's begin nothing is known yet
  begins : (o : Option Reader) → ReadsAnew o → OkNow o
  begins None anew = tt
  begins (Some reader) anew =
      subst (λ (at : ReadPoint). ReadOkAt shape later.chains later.rings (memory shape after.words) later.cells
      reader.seen reader.sight.place.row reader.sight.place at) (sym anew) tt

  -- 3. The store after the step

  -- whose client goes on as which
  pub record StepReads : Type 0 where
    pub client : ClientState
    pub clients : after.clients ≡ slice_set before.clients (stepping shape before after goes) client
    pub own : OkNow (reader_of shape client)

  keeps : StepReads → ReadsOk shape after later.chains later.rings later.cells
  keeps step =
      subst (λ clients. (nth : ℕ) (client : ClientState) → slice_get clients nth ≡ Some client
      → OkNow (reader_of shape client)) (sym step.clients)
      (everyone_set (λ j client. client_at before j ≡ Some client) (λ j client. OkNow (reader_of shape client))
      before.clients (stepping shape before after goes) step.client (λ j client here. here)
      (λ j client apart here o. client_stays j client here) step.own)

-- 4. Each step

-- a word is taken
takes : (shape : Shape) (before : Store) (nth : ℕ) (client : ClientState) (place : CallPoint)
    (here : client_at before nth ≡ Some client) (runs : client.cut ≡ false) (at : client.call ≡ Some (At place))
    (ghost : Ghost) (ready : Ready shape before _ (Takes nth client place here runs at) ghost)
    → StepReads shape before _ (Takes nth client place here runs at) ghost ready
takes shape before nth client place here runs at ghost ready = record {
  client = client_after shape client found;
  clients = refl;
  own = by_sort (goes_on shape found client (client_after shape client found)
      (step_sort shape before ready.stands.base nth client here place at));
}
  where
    found : ℕ
    found = found_word shape before client

    by_sort : GoesOn shape found client (client_after shape client found)
        → OkNow shape before _ (Takes nth client place here runs at) ghost ready
        (reader_of shape (client_after shape client found))
    by_sort (inl anew) = begins shape before _ (Takes nth client place here runs at) ghost ready _ anew
    by_sort (inr (reader, reads, on)) =
        read_on shape before _ (Takes nth client place here runs at) ghost ready nth client here reader reads
        (client_after shape client found) (get_set before.clients nth client (client_after shape client found) here)
        (read_after reader.sight reader.seen reader.at found)
        (word_leads shape before ghost ready.stands nth client here reader reads) on

step_reads : (shape : Shape) (before after : Store) (goes : StepsTo shape before after) (ghost : Ghost)
    (ready : Ready shape before after goes ghost) → StepReads shape before after goes ghost ready
step_reads shape before _ (Takes nth client place here runs at) ghost ready =
    takes shape before nth client place here runs at ghost ready
step_reads shape before _ (Asks nth client asked here may words) ghost ready = record {
  client = client_ask shape client asked;
  clients = refl;
  own = begins shape before _ (Asks nth client asked here may words) ghost ready _
      (asked_anew shape client (client_ask shape client asked)
      (asked_sort shape before ready.stands.base nth client here asked may));
}
step_reads shape before _ (Abandons nth client here rests) ghost ready = record {
  client = client_abandon client;
  clients = refl;
  own = begins shape before _ (Abandons nth client here rests) ghost ready _ (abandoned_anew shape client rests);
}
step_reads shape before _ (Cuts nth client here) ghost ready = record {
  client = client_cut client;
  clients = refl;
  own = client_stays shape before _ (Cuts nth client here) ghost ready nth client here;
}

pub reads_keep : KeepsLaw
reads_keep shape before after goes ghost ready =
    keeps shape before after goes ghost ready (step_reads shape before after goes ghost ready)
