-- Rows in a map from their keys.
use Rattle.std.proofs.Common.{◌≡◌, ℕ, cond, List, [], ◌∷◌, refl, arith, Option, Some}
use Rattle.std.specs.Prelude.{map, IsTrue}
use Rattle.std.specs.List.{AllByRecursion, push}
use Rattle.std.specs.List.Sorted.{IsStrictlySortedBy}
use Rattle.std.specs.Option.{option_or}
use Rattle.std.specs.Map.{lookup}
use Rattle.std.specs.BTreeMap.{is_at}
use Rattle.std.specs.declared.cmp.Ordering.TheVariants.{Less}
use Rattle.std.proofs.lemmas.Bool.Decides.{nat_tests}
use Rattle.std.proofs.lemmas.Map.Keys.{sorted_head, sorted_tail}
use Rattle.si_model.specs.declared.row.Key.{Key}
use Rattle.si_model.specs.declared.row.Row.{Row}
use Rattle.si_model.specs.declared.row.Item.{Item}
use Rattle.si_model.specs.Held.{key_cmp}
use Rattle.si_model.specs.Rows.{same_key, key_before, row_key, item_key, Rows, rows_of, overlay, AreInOrder}

pub is_at_key : (a b : Key) → is_at (key_cmp a) b ≡ same_key a b
is_at_key a b = grind (arith, nat_tests)

-- the last of the rows counts least
pub under_rows : (rest front : List Row) (r : Row) (h h' : Option (List ℕ)) (key : Key) → rest ≡ push front r
    → h' ≡ cond (is_at (key_cmp (row_key r)) key) (Some r.value) h
    → option_or (rows_of front key) h' ≡ option_or (rows_of rest key) h
under_rows rest [] r h h' key is new = rw (is, new, is_at_key (row_key r) key) (grind (arith, nat_tests))
under_rows rest (f ∷ front) r h h' key is new = let below =
    under_rows (push front r) front r h h' key refl new in rw is (grind (arith, nat_tests))

-- the last of the writes counts least
pub under_writes : (rest front : List Item) (w : Item) (rows rows' : Rows) (key : Key) → rest ≡ push front w
    → rows' key ≡ cond (same_key (item_key w) key) w.value (rows key) → overlay front rows' key ≡ overlay rest rows key
under_writes rest [] w rows rows' key is new = rw is new
under_writes rest (f ∷ front) w rows rows' key is new = let below =
    under_writes (push front w) front w rows rows' key refl new in rw is (grind (arith, nat_tests))

-- the row of an entry
abbrev pub row_of : Key × List ℕ → Row
row_of e = record { table = e.0.table; key = e.0.key; value = e.1 }

-- the keys of entries in order are in order
pub in_order : (entries : List (Key × List ℕ)) → IsStrictlySortedBy key_cmp (map (λ e. e.0) entries)
    → AreInOrder (map row_key (map row_of entries))
in_order [] sorted = tt
in_order (e ∷ es) sorted = (
  before e es (sorted_head key_cmp e.0 (map (λ e. e.0) es) sorted),
  in_order es (sorted_tail key_cmp e.0 (map (λ e. e.0) es) sorted),
)
  where
    before : (e : Key × List ℕ) (es : List (Key × List ℕ))
        → AllByRecursion (λ k. key_cmp e.0 k ≡ Less) (map (λ e. e.0) es)
        → AllByRecursion (λ k. IsTrue (key_before (row_key (row_of e)) k)) (map row_key (map row_of es))
    before e [] less = tt
    before e (f ∷ fs) less = (let l = less.0 in grind (arith, nat_tests), before e fs less.1)

-- the rows of the entries hold what the entries do
pub same_rows : (entries : List (Key × List ℕ)) (key : Key)
    → rows_of (map row_of entries) key ≡ lookup (is_at (key_cmp key)) entries
same_rows [] key = refl
same_rows (e ∷ es) key = let rest = same_rows es key in grind (arith, nat_tests)
