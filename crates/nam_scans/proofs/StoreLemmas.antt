-- At the opening no scan runs, and each step of a store keeps what is said of scans.
use Rattle.std.proofs.Common.{List, None, Option, Some, ap, false, map, refl, subst, sym, ℕ, ◌∙◌, ◌≡◌}
use Rattle.std.proofs.lemmas.Option.{none-some, slice_get-map}
use Rattle.std.specs.Prelude.{option_map}
use Rattle.nam_calls.specs.Fits.{IsTableOf}
use Rattle.nam_calls.specs.Memory.{memory}
use Rattle.nam_catalog.specs.declared.shape.Shape.{Shape}
use Rattle.nam_ghost.proofs.KeyLemmas.{view_fits, view_stays}
use Rattle.nam_ghost.specs.Cells.{IsElsewhere}
use Rattle.nam_ghost.specs.Chains.{IsNew}
use Rattle.nam_ghost.specs.Ghost.{Ghost, ghost_step, opening_ghost}
use Rattle.nam_ghost.specs.Keys.{AreAtKeys, ClaimsOk, key_view}
use Rattle.nam_ghost.specs.Moments.{observer_of}
use Rattle.nam_ghost.specs.Steps.{chains_after}
use Rattle.nam_ghost.specs.Versions.{Chain}
use Rattle.nam_ghost.specs.Wanted.{IsNewest}
use Rattle.nam_layout.specs.Address.{IsRow}
use Rattle.nam_layout.specs.Place.{place_at}
use Rattle.nam_layout.specs.Rows.{width_at}
use Rattle.nam_layout.specs.declared.field.Field.{Field}
use Rattle.nam_protocol.specs.Client.{client_abandon, client_after, client_ask}
use Rattle.nam_protocol.specs.ClientFits.{NowFits, OpenFits}
use Rattle.nam_protocol.specs.CutClient.{client_cut}
use Rattle.nam_protocol.specs.Own.{OwnOpen, OwnsOpen, Rests}
use Rattle.nam_protocol.specs.Reader.{Reader, reader_at, reader_in, reader_of}
use Rattle.nam_protocol.specs.TxnFits.{StateFits}
use Rattle.nam_protocol.specs.declared.client.Answer.{Answer}
use Rattle.nam_protocol.specs.declared.client.CallPoint.{CallPoint}
use Rattle.nam_protocol.specs.declared.client.CallPoint.TheVariants.{InTxn, Scanning}
use Rattle.nam_protocol.specs.declared.client.ClientState.{ClientState}
use Rattle.nam_protocol.specs.declared.client.Open.{Open}
use Rattle.nam_protocol.specs.declared.client.Scanned.{Scanned}
use Rattle.nam_protocol.specs.declared.txn.TxnPoint.TheVariants.{Committing}
use Rattle.nam_scans.proofs.ClientLemmas.{ReadsNewest, ask_keeps, client_keeps}
use Rattle.nam_scans.proofs.NewestLemmas.{SameNewest, newest_stays}
use Rattle.nam_scans.proofs.OwnLemmas.{own_stands}
use Rattle.nam_scans.proofs.StayLemmas.{TableNext, scan_stays}
use Rattle.nam_scans.specs.Gathered.{ScanClientOk, ScansOk}
use Rattle.nam_scans.specs.ScansLaw.{KeepsLaw, OpensLaw, RestsOn}
use Rattle.nam_store.proofs.BaseLemmas.{does_law}
use Rattle.nam_store.proofs.Lists.{everyone_put, everyone_set}
use Rattle.nam_store.proofs.OpeningLemmas.{opening_client}
use Rattle.nam_store.specs.Base.{ClientOk}
use Rattle.nam_store.specs.Opening.{opening_store}
use Rattle.nam_store.specs.Store.{Abandons, Asks, Cuts, StepsTo, Store, Takes, client_at, found_word, step}
use Rattle.nam_verbs.specs.declared.now.Now.{Now}
use Rattle.nam_verbs.specs.declared.now.Now.TheVariants.{At, Over}
use Rattle.si_model.specs.Lists.{Listed}

-- 1. The opening

pub scans_open : OpensLaw
scans_open shape limits rows loaded nth client e =
    subst (λ (c : ClientState). ScanClientOk shape (memory shape (opening_store shape rows).words)
    (opening_ghost shape rows).chains c.call c.txn c.scanned) (sym (opening_client shape rows nth client e).1) tt

-- 2. What is known of a client's scan stays

module _ (shape : Shape) (before after : Store) (goes : StepsTo shape before after) (ghost : Ghost)
    (rests : RestsOn shape before after goes ghost) where
  abbrev m : Field → ℕ
  m = memory shape before.words

  abbrev now : Field → ℕ
  now = memory shape after.words

  abbrev later : Ghost
  later = ghost_step shape before after goes ghost

  module _ (nth : ℕ) (client : ClientState) (here : client_at before nth ≡ Some client) where
    own : ClientOk shape nth client
    own = rests.stands.base.clients nth client here

    -- what a step installs is in no snapshot of a client
    rows_same : (seen : List ℕ) → Listed seen client.log.snaps → (row : ℕ) → IsRow shape row
        → SameNewest seen (ghost.chains row) (later.chains row)
    rows_same seen listed row is =
        newest_stays (place_at shape row) (IsElsewhere shape ghost.chains ghost.rings m ghost.cells row)
        (IsNew (width_at shape.tables row) (map observer_of before.clients)) seen
        (λ version new. new.hidden seen (
          nth,
          (
            observer_of client,
            (slice_get-map observer_of before.clients nth ∙ ap (option_map observer_of) here, listed),
          ),
        ))
        (ghost.chains row) (later.chains row) (ghost.rings row) (later.rings row) (rests.rows row is)

    -- what the step does to a table, as the open transaction relies on it
    pub table_next : (attempt : Open) → StateFits shape attempt.state → AreAtKeys shape m attempt.state.claims
        → OwnsOpen client.worker client.last client.log.snaps attempt → (table : ℕ) → IsTableOf shape table
        → TableNext shape m now ghost.chains later.chains attempt.state table
    table_next attempt fits claims owns table is = record {
      next = rests.next;
      unused = rests.stands.keys.unused;
      newest = rows_same attempt.state.seen owns.listed;
      own = λ position key less writes.
          own_stands shape m attempt.state fits claims table key writes after.words rests.keys.paths rests.next is
          position less;
    }

    stays_at : (call : Option (Now CallPoint Answer)) (opened : Option Open) (rows : List Scanned)
        → NowFits shape opened call → OpenFits shape opened → ClaimsOk shape m opened
        → OwnOpen client.worker client.last client.log.snaps opened
        → ScanClientOk shape m ghost.chains call opened rows → ScanClientOk shape now later.chains call opened rows
    stays_at (Some (At (Scanning table low high at))) (Some attempt) rows fits placed claims owns ok =
        scan_stays shape m now ghost.chains later.chains attempt.state table fits.1
        (table_next attempt placed claims owns table fits.1) low high at rows fits.2 ok
    stays_at _ _ rows fits placed claims owns ok = tt

    pub client_stays : ScanClientOk shape m ghost.chains client.call client.txn client.scanned
        → ScanClientOk shape now later.chains client.call client.txn client.scanned
    client_stays =
        stays_at client.call client.txn client.scanned own.fits.2 own.fits.1
        (rests.stands.keys.clients nth client here).claims own.own.opened

-- 3. A word is taken

-- a client that reads changes no chain
reader_idles : (shape : Shape) (opened : Option Open) (place : CallPoint) (reader : Reader)
    → reader_at shape opened place ≡ Some reader → (found : ℕ) (chains : ℕ → Chain)
    → chains_after opened place found chains ≡ chains
reader_idles shape None place reader is found chains = refl
reader_idles shape (Some attempt) (InTxn (Committing at)) reader is found chains = absurd (none-some reader is)
reader_idles shape (Some attempt) (InTxn _) reader is found chains = refl
reader_idles shape (Some attempt) _ reader is found chains = refl

module _ (shape : Shape) (before : Store) (nth : ℕ) (client : ClientState) (place : CallPoint)
    (here : client_at before nth ≡ Some client) (runs : client.cut ≡ false) (at : client.call ≡ Some (At place))
    (ghost : Ghost) where
  abbrev taken : StepsTo shape before (step shape before nth client)
  taken = Takes nth client place here runs at

  module _ (rests : RestsOn shape before (step shape before nth client) taken ghost) where
    reads_newest : ReadsNewest shape (memory shape (step shape before nth client).words)
        (later shape before (step shape before nth client) taken ghost rests).chains (memory shape before.words)
        (found_word shape before client) (reader_of shape client)
    reads_newest reader is value e =
        subst (λ (chains : ℕ → Chain). IsNewest reader.seen (chains reader.sight.place.row) value)
        (sym (reader_idles shape client.txn place reader
        (subst (λ (call : Option (Now CallPoint Answer)). reader_in shape client.txn call ≡ Some reader) at is)
        (found_word shape before client) ghost.chains))
        (rests.stands.reads nth client here reader is value e)

    pub scans_taken : ScansOk shape before ghost.chains
        → ScansOk shape (step shape before nth client)
        (later shape before (step shape before nth client) taken ghost rests).chains
    scans_taken ok =
        let after = step shape before nth client in
        let found = found_word shape before client in
        let base = rests.stands.base in
        let m : Field → ℕ = memory shape before.words in
        let now : Field → ℕ = memory shape after.words in
        let chains = (later shape before after taken ghost rests).chains in
        let own = base.clients nth client here in
        let knows = view_stays shape m now rests.next (key_view client.call)
        (view_fits shape base.limits client.txn client.call own.fits.2)
        (rests.stands.keys.clients nth client here).at in
        everyone_set (λ k (c : ClientState). ScanClientOk shape m ghost.chains c.call c.txn c.scanned)
        (λ k (c : ClientState). ScanClientOk shape now chains c.call c.txn c.scanned) before.clients nth
        (client_after shape client found) ok
        (λ other c apart e o. client_stays shape before after taken ghost rests other c e o)
        (client_keeps shape now chains m found client place at knows
        (client_stays shape before after taken ghost rests nth client here (ok nth client here))
        (refl, (does_law shape before base nth client place here at).changes) reads_newest)

-- 4. One step: a client that is asked, gives its transaction up or is stopped changes no word and no chain

module _ (shape : Shape) (m : Field → ℕ) (chains : ℕ → Chain) (client : ClientState) where
  abbrev Knows : ClientState → Type 0
  Knows c = ScanClientOk shape m chains c.call c.txn c.scanned

  given_up : (call : Option (Now CallPoint Answer)) (opened : Option Open) → Rests call
      → Knows (client_abandon (record client { call = call; txn = opened }))
  given_up (Some (At place)) opened rests = absurd rests
  given_up (Some (Over answer)) None rests = tt
  given_up (Some (Over answer)) (Some attempt) rests = tt
  given_up None None rests = tt
  given_up None (Some attempt) rests = tt

pub scans_keep : KeepsLaw
scans_keep shape before _ (Takes nth client place here runs at) ghost rests ok =
    scans_taken shape before nth client place here runs at ghost rests ok
scans_keep shape before _ (Asks nth client asked here may words) ghost rests ok =
    everyone_put (λ k c. Knows shape (memory shape before.words) ghost.chains client c) before.clients nth
    (client_ask shape client asked) ok
    (ask_keeps shape (memory shape before.words) ghost.chains client asked (ok nth client here))
scans_keep shape before _ (Abandons nth client here resting) ghost rests ok =
    everyone_put (λ k c. Knows shape (memory shape before.words) ghost.chains client c) before.clients nth
    (client_abandon client) ok
    (given_up shape (memory shape before.words) ghost.chains client client.call client.txn resting)
scans_keep shape before _ (Cuts nth client here) ghost rests ok =
    everyone_put (λ k c. Knows shape (memory shape before.words) ghost.chains client c) before.clients nth
    (client_cut client) ok (ok nth client here)
