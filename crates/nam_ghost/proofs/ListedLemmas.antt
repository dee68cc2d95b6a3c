-- A locked header is listed by its holder: locks in words of clients and headers.
use Rattle.std.proofs.Common.{None, Option, Some, ap, arith, option_map, refl, subst, sym, true, ℕ, ◌+◌, ◌<◌, ◌∙◌, ◌≡◌}
use Rattle.std.proofs.lemmas.Bool.{lt-ltb, ltb-true}
use Rattle.std.proofs.lemmas.Option.{slice_get-map}
use Rattle.std.specs.Prelude.{nat_lt, ◌-◌}
use Rattle.nam_calls.specs.Memory.{memory}
use Rattle.nam_catalog.specs.declared.shape.Shape.{Shape}
use Rattle.nam_ghost.proofs.RecordLemmas.{header_says, locked_says}
use Rattle.nam_ghost.specs.Holders.{HoldsRow, holder_in, holder_of, no_holder}
use Rattle.nam_ghost.specs.Locks.{HolderOk, Lists, LocksOk, RowOk, header_at}
use Rattle.nam_ghost.specs.Versions.{Chain, record_image}
use Rattle.nam_header.specs.Flag.{holder_named}
use Rattle.nam_header.specs.Header.{header_of}
use Rattle.nam_header.specs.Stamp.{is_locked}
use Rattle.nam_header.specs.declared.header.Header.{Header}
use Rattle.nam_layout.specs.Address.{IsRow}
use Rattle.nam_layout.specs.Rows.{width_at}
use Rattle.nam_layout.specs.declared.field.Field.{Field}
use Rattle.nam_protocol.specs.declared.client.Answer.{Answer}
use Rattle.nam_protocol.specs.declared.client.CallPoint.{CallPoint}
use Rattle.nam_protocol.specs.declared.client.CallPoint.TheVariants.{InTxn}
use Rattle.nam_protocol.specs.declared.client.ClientState.{ClientState}
use Rattle.nam_protocol.specs.declared.client.Open.{Open}
use Rattle.nam_protocol.specs.declared.txn.TxnPoint.TheVariants.{Committing}
use Rattle.nam_store.proofs.BaseLemmas.{client_of}
use Rattle.nam_store.specs.Base.{BaseOk}
use Rattle.nam_store.specs.Everyone.{Someone}
use Rattle.nam_store.specs.Store.{Store, client_at}
use Rattle.nam_verbs.specs.declared.now.Now.{Now}
use Rattle.nam_verbs.specs.declared.now.Now.TheVariants.{At, Over}

-- 1. What a client lists is what it holds

-- with the call and the transaction as they are
abbrev ListsIn : ℕ → ClientState → Option (Now CallPoint Answer) → Option Open → Type 0
ListsIn row client call opened = Lists row (record client { call = call; txn = opened })

nothing_listed : (worker row : ℕ) → HoldsRow (no_holder worker) row → ⊥
nothing_listed worker row holds = let e = holds.1.ends in omega arith

holds_lists : (row : ℕ) (client : ClientState) (call : Option (Now CallPoint Answer)) (opened : Option Open)
    → HoldsRow (holder_in client.worker call opened) row → ListsIn row client call opened
holds_lists row client None opened holds = absurd (nothing_listed client.worker row holds)
holds_lists row client (Some (Over answer)) opened holds = absurd (nothing_listed client.worker row holds)
holds_lists row client (Some (At (InTxn (Committing at)))) (Some attempt) holds = record {
  at = at;
  attempt = attempt;
  runs = refl;
  opened = refl;
  number = holds.0;
  begins = holds.1.begins;
  ends = holds.1.ends;
  row_is = holds.2;
}
holds_lists row client (Some (At (InTxn (Committing at)))) None holds = absurd (nothing_listed client.worker row holds)
holds_lists row client (Some (At (InTxn _))) opened holds = absurd (nothing_listed client.worker row holds)
holds_lists row client (Some (At _)) opened holds = absurd (nothing_listed client.worker row holds)

lists_holds : (row : ℕ) (client : ClientState) → Lists row client → HoldsRow (holder_of client) row
lists_holds row client lists =
    subst (λ (call : Option (Now CallPoint Answer)). HoldsRow (holder_in client.worker call client.txn) row)
    (sym lists.runs)
    (subst (λ (opened : Option Open).
    HoldsRow (holder_in client.worker (Some (At (InTxn (Committing lists.at)))) opened) row) (sym lists.opened)
    (lists.number, record { begins = lists.begins; ends = lists.ends }, lists.row_is))

-- 2. A store with its chains

module _ (shape : Shape) (store : Store) (base : BaseOk shape store) (chains : ℕ → Chain)
    (ok : LocksOk shape store chains) (row : ℕ) where
  abbrev m : Field → ℕ
  m = memory shape store.words

  view : (nth : ℕ) (client : ClientState) → client_at store nth ≡ Some client
      → HolderOk shape m chains nth (holder_of client)
  view nth client here =
      ok.each nth (holder_of client) (slice_get-map holder_of store.clients nth ∙ ap (option_map holder_of) here)

  pub holder_is : (nth : ℕ) (client : ClientState) → client_at store nth ≡ Some client → Lists row client
      → IsRow shape row × ((chains row).holder ≡ nth + 1)
  holder_is nth client here lists =
      let own = view nth client here in
      let holds = lists_holds row client lists in (
        subst (IsRow shape) holds.2 (own.inside holds.0 holds.1),
        ap (λ r. (chains r).holder) (sym holds.2) ∙ (own.held holds.0 holds.1).holder_is ∙ own.worker,
      )

  module _ (is : IsRow shape row) where
    abbrev width : ℕ
    width = width_at shape.tables row

    row_ok : RowOk shape m chains row
    row_ok = ok.rows row is

    locked_is : is_locked shape.form (header_at shape store row) ≡ nat_lt 0 (chains row).holder
    locked_is =
        locked_says shape.form shape.workers width (record_image m row) (chains row) base.limits.most_workers row_ok

    pub locked_of : (nth : ℕ) → (chains row).holder ≡ nth + 1
        → is_locked shape.form (header_at shape store row) ≡ true
    locked_of nth e = locked_is ∙ lt-ltb 0 (chains row).holder (omega arith)

    named : (nth : ℕ) → (chains row).holder ≡ nth + 1
        → (header_of shape.form (header_at shape store row)).holder ≡ holder_named shape.form (nth + 1)
    named nth e =
        ap (λ (h : Header). h.holder)
        (header_says shape.form shape.workers width (record_image m row) (chains row) base.limits.most_workers row_ok)
        ∙ ap (holder_named shape.form) e

    pub someone_lists : is_locked shape.form (header_at shape store row) ≡ true
        → Someone (λ nth client. Lists row client
        × ((header_of shape.form (header_at shape store row)).holder ≡ holder_named shape.form (nth + 1)))
        store.clients
    someone_lists locked =
        let some : 0 < (chains row).holder = ltb-true 0 (chains row).holder (sym locked_is ∙ locked) in
        let most = row_ok.worker in
        let nth = (chains row).holder - 1 in
        let e : (chains row).holder ≡ nth + 1 = omega arith in
        let client = client_of shape store base nth (omega arith) in
        let own = view nth client.0 client.1 in
        let lists = holds_lists row client.0 client.0.call client.0.txn (own.owns row is e) in
        (nth, (client.0, (client.1, (lists, named nth e))))
