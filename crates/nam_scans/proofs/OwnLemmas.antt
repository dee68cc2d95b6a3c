-- A key that a transaction writes has been claimed, so no other position comes to bear it.
use Rattle.std.proofs.Common.{List, [], ap, arith, inl, inr, refl, subst, sym, true, ℕ, ◌<◌, ◌∙◌, ◌∷◌, ◌≡◌, ◌≢◌}
use Rattle.std.proofs.lemmas.Bool.{cases_Bool, false≢true}
use Rattle.nam_calls.specs.Fits.{IsTableOf}
use Rattle.nam_calls.specs.Memory.{memory}
use Rattle.nam_calls.specs.Words.{capacity_of, key_word}
use Rattle.nam_catalog.specs.declared.shape.Shape.{Shape}
use Rattle.nam_ghost.proofs.KeyLemmas.{bears_stays}
use Rattle.nam_ghost.specs.Keys.{AreAtKeys, Bears, KeysNext}
use Rattle.nam_layout.specs.Rows.{row_of}
use Rattle.nam_layout.specs.declared.field.Field.{Field}
use Rattle.nam_layout.specs.declared.field.Field.TheVariants.{Key}
use Rattle.nam_layout.specs.declared.field.Place.{Place}
use Rattle.nam_protocol.specs.TxnFits.{IsPlaced, StateFits, is_claimed}
use Rattle.nam_protocol.specs.declared.txn.Record.{Record}
use Rattle.nam_protocol.specs.declared.txn.TxnState.{TxnState}
use Rattle.nam_store.proofs.RowsStand.{key_once}
use Rattle.nam_store.specs.LoadedLaw.{KeysStand}
use Rattle.si_model.proofs.EvaluationLemmas.{same_key_says}
use Rattle.si_model.proofs.ListLemmas.{All-listed}
use Rattle.si_model.specs.Lists.{Listed}
use Rattle.si_model.specs.Rows.{item_key, key_at, same_key, writes_key}
use Rattle.si_model.specs.declared.row.Item.{Item}
use Rattle.si_model.specs.declared.row.Key as row_key

-- a written key is one of the write set's items
written_item : (writes : List Item) (key : row_key.Key) → writes_key writes key ≡ true
    → (item : Item) × Listed item writes × (item_key item ≡ key)
written_item [] key is = absurd (false≢true is)
written_item (w ∷ ws) key is = elim (cases_Bool (same_key (item_key w) key)) [
  | inl same ↦ (w, inl refl, same_key_says (item_key w) key same)
  | inr other ↦ let later = written_item ws key (rw other at is) in (later.0, inr later.1, later.2)
]

claimed_record : (claims : List Record) (key : row_key.Key) → is_claimed claims key ≡ true
    → (claim : Record) × Listed claim claims × (claim.key ≡ key)
claimed_record [] key is = absurd (false≢true is)
claimed_record (c ∷ cs) key is = elim (cases_Bool (same_key c.key key)) [
  | inl same ↦ (c, inl refl, same_key_says c.key key same)
  | inr other ↦ let later = claimed_record cs key (rw other at is) in (later.0, inr later.1, later.2)
]

module _ (shape : Shape) (m : Field → ℕ) (state : TxnState) (fits : StateFits shape state)
    (claims : AreAtKeys shape m state.claims) (table key : ℕ)
    (writes : writes_key state.writes (key_at table key) ≡ true) where
  -- so it has a position
  pub own_position : (position : ℕ) × (position < capacity_of shape table) × Bears shape m table key position
  own_position =
      let item = written_item state.writes (key_at table key) writes in
      let named = All-listed (λ i. is_claimed state.claims (item_key i) ≡ true) state.writes item.0 fits.written
      item.1 in
      let claim = claimed_record state.claims (key_at table key)
      (subst (λ k. is_claimed state.claims k ≡ true) item.2 named) in
      let placed = All-listed (IsPlaced shape) state.claims claim.0 fits.placed claim.1 in
      let table_is : claim.0.key.table ≡ table = ap (λ (k : row_key.Key). k.table) claim.2 in
      let key_is : claim.0.key.key ≡ key = ap (λ (k : row_key.Key). k.key) claim.2 in (
        placed.0,
        subst (λ t. placed.0 < capacity_of shape t) table_is placed.1.1,
        ap (λ t. m (Key (row_of shape.tables t placed.0))) (sym table_is)
            ∙ ap (λ (p : Place). m (Key p.row)) (sym placed.2)
            ∙ claims claim.0 claim.1
            ∙ ap key_word key_is,
      )

  -- no position that bore no key comes to bear it
  pub own_stands : (words : List ℕ) → KeysStand shape words → KeysNext shape m (memory shape words)
      → IsTableOf shape table → (position : ℕ) → position < capacity_of shape table
      → Bears shape (memory shape words) table key position → m (Key (row_of shape.tables table position)) ≢ 0
  own_stands words stand next is position less here none =
      let own = own_position in
      let there = bears_stays shape m (memory shape words) next table key own.0 is own.1 own.2 in
      let same : own.0 ≡ position = key_once shape words stand table is key own.0 position own.1 less there here in
      let was : m (Key (row_of shape.tables table position)) ≡ key_word key =
      subst (λ p. m (Key (row_of shape.tables table p)) ≡ key_word key) same own.2 in
      let word = sym was ∙ none in omega arith
