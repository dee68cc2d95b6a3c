-- The rows that were gathered up to a table's end, sorted by key, are the items of the range.
use Rattle.std.proofs.Common.{List, Option, Some, [], ap, arith, inl, inr, refl, subst, sym, ℕ, ◌+◌, ◌-◌, ◌<◌, ◌∙◌, ◌≡◌}
use Rattle.std.proofs.Common.{◌≢◌}
use Rattle.std.proofs.lemmas.Option.{none-some}
use Rattle.nam_calls.specs.Fits.{IsTableOf}
use Rattle.nam_calls.specs.Memory.{memory}
use Rattle.nam_calls.specs.Words.{capacity_of}
use Rattle.nam_catalog.specs.declared.shape.Shape.{Shape}
use Rattle.nam_ghost.specs.Versions.{Chain}
use Rattle.nam_layout.specs.Rows.{row_of}
use Rattle.nam_layout.specs.declared.field.Field.{Field}
use Rattle.nam_protocol.specs.Carries.{IsBetween}
use Rattle.nam_protocol.specs.ScanCall.{item_of, scanned_items, sorted_onto}
use Rattle.nam_protocol.specs.declared.client.Scanned.{Scanned}
use Rattle.nam_protocol.specs.declared.txn.TxnState.{TxnState}
use Rattle.nam_scans.proofs.ItemsLemmas.{range_from, range_has, range_rises}
use Rattle.nam_scans.proofs.RangeLemmas.{finds_once}
use Rattle.nam_scans.proofs.SortLemmas.{rising_same, sort_from, sort_has, sort_rises}
use Rattle.nam_scans.specs.Gathered.{Finds, HasGathered, IsOfRange}
use Rattle.nam_scans.specs.ScannedLaw.{FindsAt, FindsKey, ListsRange}
use Rattle.nam_store.proofs.RowsStand.{key_once}
use Rattle.nam_store.specs.LoadedLaw.{KeysStand}
use Rattle.nam_store.specs.Store.{Store}
use Rattle.si_model.proofs.ListLemmas.{Pairwise-map, Pairwise-weaker, listed_map, map_listed}
use Rattle.si_model.specs.Lists.{Listed, Pairwise}
use Rattle.si_model.specs.Rows.{Rows, item_at, items_between, key_at}
use Rattle.si_model.specs.declared.row.Item.{Item}

module _ (shape : Shape) (store : Store) (chains : ℕ → Chain) (state : TxnState) (table : ℕ)
    (is : IsTableOf shape table) (stand : KeysStand shape store.words) where
  abbrev m : Field → ℕ
  m = memory shape store.words

  -- a key's position is one
  pub at_once : (key : ℕ) (one other : Option (List ℕ)) → FindsAt shape store chains state table key one
      → FindsAt shape store chains state table key other → one ≡ other
  at_once key one other a b =
      let same = key_once shape store.words stand table is key b.position a.position b.within a.within b.bears
      a.bears in
      finds_once state (chains (row_of shape.tables table a.position)) (key_at table key) one other a.finds
      (subst (λ p. Finds state (chains (row_of shape.tables table p)) (key_at table key) other) same b.finds)

  module _ (low high : ℕ) where
    module _ (rows : List Scanned)
        (ok : HasGathered shape m chains state table low high (capacity_of shape table) rows) where
      keys_apart : Pairwise (λ (a b : Scanned). a.key ≢ b.key) rows
      keys_apart =
          let Found : Scanned → Type 0 =
          λ row. (row.position < capacity_of shape table) × IsOfRange shape m chains state table low high row in
          Pairwise-weaker Found (λ (a b : Scanned). a.position < b.position) (λ (a b : Scanned). a.key ≢ b.key)
          (λ a b one other less same.
          let once = key_once shape store.words stand table is a.key a.position b.position one.0 other.0 one.1.bears
          (other.1.bears ∙ ap (λ k. k + 1) (sym same)) in
          omega arith) rows ok.only ok.order

      abbrev sorted : List Scanned
      sorted = sorted_onto [] rows

      abbrev Lists : Item → Type 0
      Lists item = (value : List ℕ) × (item ≡ item_at (key_at table item.key) (Some value))
          × IsBetween low high item.key × FindsAt shape store chains state table item.key (Some value)

      lists_row : (row : Scanned) → Listed row rows → Lists (item_of table row)
      lists_row row listed =
          let o = ok.only row listed in (
            row.value,
            refl,
            o.1.between,
            record { position = row.position; within = o.0; bears = o.1.bears; finds = o.1.finds },
          )

      pub range_listed : ListsRange shape store chains state table low high (scanned_items table rows)
      range_listed = record {
        only = λ item listed.
            let row = map_listed (item_of table) sorted item listed in
            elim (sort_from [] rows row.0 row.1) [
              | inl none ↦ absurd none
              | inr there ↦ subst Lists row.2 (lists_row row.0 there)
            ];
        each = λ key value between at.
            let row : Scanned = record { position = at.position; key = key; value = value } in
            listed_map (item_of table) sorted row (sort_has [] rows row (inr
            (ok.each row at.within record { bears = at.bears; between = between; finds = at.finds })));
        order = Pairwise-map (item_of table) (λ (a b : Item). a.key < b.key) sorted
            (sort_rises [] rows tt keys_apart (λ x y none. absurd none));
      }

    -- they are the items of any rows that have what the transaction finds
    module _ (items : List Item) (ok : ListsRange shape store chains state table low high items) (rows : Rows)
        (found : (key : ℕ) → IsBetween low high key
        → FindsKey shape store chains state table key (rows (key_at table key))) where
      has_value : (key : ℕ) (value : List ℕ) → IsBetween low high key
          → FindsAt shape store chains state table key (Some value) → rows (key_at table key) ≡ Some value
      has_value key value between at = elim (found key between) [
        | inl there ↦ at_once key (rows (key_at table key)) (Some value) there at
        | inr none ↦ absurd (none.0 at.position at.within at.bears)
      ]

      finds_value : (key : ℕ) (value : List ℕ) → IsBetween low high key → rows (key_at table key) ≡ Some value
          → FindsAt shape store chains state table key (Some value)
      finds_value key value between is_value = elim (found key between) [
        | inl there ↦ subst (FindsAt shape store chains state table key) is_value there
        | inr none ↦ absurd (none-some value (sym none.1 ∙ is_value))
      ]

      pub range_items : items ≡ items_between rows table low high
      range_items =
          let count = high + 1 - low in
          rising_same (λ (i : Item). i.key) items (items_between rows table low high) ok.order
          (range_rises rows table low count)
          (λ item listed.
          let o = ok.only item listed in
          let least = o.2.0 in
          let most = o.2.1 in
          subst (λ (i : Item). Listed i (items_between rows table low high)) (sym o.1)
          (range_has rows table low count item.key o.0 (has_value item.key o.0 o.2 o.3) least (omega arith)))
          (λ item listed.
          let o = range_from rows table low count item listed in
          let least = o.0 in
          let less = o.1 in
          let between : IsBetween low high item.key = (least, omega arith) in
          subst (λ (i : Item). Listed i items) (sym o.2.1)
          (ok.each item.key o.2.0 between (finds_value item.key o.2.0 between o.2.2)))
