-- Keys, rows as a function of the key, and write sets over them.
use Rattle.std.specs.Prelude.{ℕ, zero, suc, ◌+◌, ◌-◌, ◌≡◌, ◌==◌, ◌&&◌, ◌||◌, nat_lt, Bool, true, false, if◌then◌else◌}
use Rattle.std.specs.Prelude.{List, [], ◌∷◌, ◌++◌, map, Option, Some, None, IsTrue}
use Rattle.std.specs.List.{list_any, AllByRecursion}
use Rattle.si_model.specs.declared.row.Key.{Key}
use Rattle.si_model.specs.declared.row.Row.{Row}
use Rattle.si_model.specs.declared.row.Item.{Item}

abbrev pub key_at : ℕ → ℕ → Key
key_at table key = record { table = table; key = key }

-- are the two keys one
abbrev pub same_key : Key → Key → Bool
same_key a b = (a.table == b.table) && (a.key == b.key)

-- is the key among these
abbrev pub has_key : List Key → Key → Bool
has_key keys key = list_any (λ k. same_key k key) keys

-- does the first key come before the second, by table and then by key
abbrev pub key_before : Key → Key → Bool
key_before a b = nat_lt a.table b.table || ((a.table == b.table) && nat_lt a.key b.key)

abbrev pub row_key : Row → Key
row_key r = key_at r.table r.key

abbrev pub item_key : Item → Key
item_key i = key_at i.table i.key

abbrev pub item_at : Key → Option (List ℕ) → Item
item_at key value = record { table = key.table; key = key.key; value = value }

-- what each key holds
abbrev pub Rows : Type 0
Rows = Key → Option (List ℕ)

-- what a list of rows holds at each key
abbrev pub rows_of : List Row → Rows
rows_of [] key = None
rows_of (r ∷ rs) key = if same_key (row_key r) key then Some r.value else rows_of rs key

-- does the write set write the key
abbrev pub writes_key : List Item → Key → Bool
writes_key [] key = false
writes_key (i ∷ is) key = if same_key (item_key i) key then true else writes_key is key

-- the rows under a write set, which has each key once
abbrev pub overlay : List Item → Rows → Rows
overlay [] rows key = rows key
overlay (i ∷ is) rows key = if same_key (item_key i) key then i.value else overlay is rows key

-- the item of a key that holds a row, and nothing of one that is absent
abbrev pub present : Key → Option (List ℕ) → List Item
present key None = []
present key (Some v) = item_at key (Some v) ∷ []

-- the items of the present rows among the n keys of the table from low on, in order of keys
unfoldable pub items_from : Rows → ℕ → ℕ → ℕ → List Item
items_from rows table low zero = []
items_from rows table low (suc n) = present (key_at table low) (rows (key_at table low))
    ++ items_from rows table (low + 1) n

-- the items of the present rows whose keys are from low to high
abbrev pub items_between : Rows → ℕ → ℕ → ℕ → List Item
items_between rows table low high = items_from rows table low (high + 1 - low)

-- each key comes before all those after it
abbrev pub AreInOrder : List Key → Type 0
AreInOrder [] = Unit {0}
AreInOrder (k ∷ ks) = AllByRecursion (λ q. IsTrue (key_before k q)) ks × AreInOrder ks

-- the list has exactly these rows, each once, by table and key
pub record ListsRows (list : List Row) (rows : Rows) : Type 0 where
  pub ordered : AreInOrder (map row_key list)
  pub same : (key : Key) → rows_of list key ≡ rows key
