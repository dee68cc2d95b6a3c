-- Two rows that bear one key are one; what two commits write in common.
use Rattle.std.proofs.Common.{List, Some, ap, arith, subst, sym, true, ℕ, ◌∙◌, ◌<◌, ◌≡◌}
use Rattle.std.specs.Prelude.{slice_get, slice_index}
use Rattle.std.proofs.lemmas.Bool.Decides.{nat_tests}
use Rattle.std.proofs.lemmas.Option.{same_Some}
use Rattle.si_model.specs.Consistency.{share_key}
use Rattle.si_model.specs.Commits.{Published}
use Rattle.si_model.specs.Lists.{Listed}
use Rattle.si_model.specs.Rows.{item_key, writes_key}
use Rattle.si_model.specs.declared.row.Item.{Item}
use Rattle.si_model.specs.declared.row.Key.{Key}
use Rattle.si_model.proofs.EvaluationLemmas.{same_key_says}
use Rattle.si_model.proofs.ListLemmas.{any_listed, listed_any}
use Rattle.si_model.proofs.WriteLemmas.{is_of, writes_key_is}
use Rattle.nam_catalog.specs.Tables.{capacities_of}
use Rattle.nam_catalog.specs.declared.shape.Shape.{Shape}
use Rattle.nam_layout.specs.Address.{IsRow}
use Rattle.nam_layout.specs.Rows.{position_of, row_of, table_of}
use Rattle.nam_layout.specs.declared.field.Field.{Field}
use Rattle.nam_layout.specs.declared.field.Field.TheVariants as field
use Rattle.nam_layout.proofs.PositionLemmas.{row_is_position}
use Rattle.nam_calls.specs.Memory.{memory}
use Rattle.nam_store.specs.LoadedLaw.{KeysStand}
use Rattle.nam_claimed.specs.Home.{home_of}
use Rattle.nam_claimed.proofs.HomeLemmas.{home_at}
use Rattle.nam_order.specs.OrderLaw.{RowBears}
use Rattle.nam_order.proofs.FoundLemmas.{listed_got}

-- 1. Rows

module _ (shape : Shape) (words : List ℕ) (stand : KeysStand shape words) (key : Key) where
  abbrev m : Field → ℕ
  m = memory shape words

  -- the position of the row in the key's table
  at_table : (row : ℕ) → IsRow shape row → table_of shape.tables row ≡ key.table
      → (row_of shape.tables key.table (position_of shape.tables row) ≡ row)
      × (position_of shape.tables row < slice_index (capacities_of shape.tables) key.table)
  at_table row is table =
      let at = row_is_position shape.tables row is in (
        ap (λ t. row_of shape.tables t (position_of shape.tables row)) (sym table) ∙ at.row_is,
        subst (λ t. position_of shape.tables row < slice_index (capacities_of shape.tables) t) table at.place.1,
      )

  bearing_home : (row : ℕ) → IsRow shape row → RowBears shape m row key
      → home_of shape m key ≡ Some (position_of shape.tables row)
  bearing_home row is bears =
      let at = at_table row is bears.0 in
      home_at shape words stand key (position_of shape.tables row) at.1
      (ap (λ r. m (field.Key r)) at.0 ∙ bears.1)

  pub row_once : (a b : ℕ) → IsRow shape a → IsRow shape b → RowBears shape m a key → RowBears shape m b key → a ≡ b
  row_once a b first second here there =
      let same = same_Some (position_of shape.tables a) (position_of shape.tables b)
      (sym (bearing_home a first here) ∙ bearing_home b second there) in
      sym (at_table a first here.0).0 ∙ ap (row_of shape.tables key.table) same ∙ (at_table b second there.0).0

-- 2. Writes

-- the item by which a write set writes a key
pub item_of : (writes : List Item) (key : Key) → writes_key writes key ≡ true
    → (p : ℕ) × ((item : Item) × ((slice_get writes p ≡ Some item) × (item_key item ≡ key)))
item_of writes key is =
    let one = any_listed (is_of key) writes (writes_key_is writes key ∙ is) in
    let at = listed_got writes one.0 one.1 in
    (at.0, (one.0, (at.1, same_key_says (item_key one.0) key one.2)))

writes_own : (writes : List Item) (item : Item) → Listed item writes → writes_key writes (item_key item) ≡ true
writes_own writes item listed =
    sym (writes_key_is writes (item_key item))
    ∙ listed_any (is_of (item_key item)) writes item listed (grind (arith, nat_tests))

-- a key that both write
pub key_shared : (c d : Published) → share_key c d ≡ true
    → (key : Key) × ((writes_key c.line.writes key ≡ true) × (writes_key d.line.writes key ≡ true))
key_shared c d is =
    let one = any_listed (λ i. writes_key d.line.writes (item_key i)) c.line.writes is in
    (item_key one.0, (writes_own c.line.writes one.0 one.1, one.2))
