-- The items of a range, by the entries of an ordered map.
use Rattle.std.proofs.Common.{◌≡◌, ℕ, zero, suc, ◌+◌, ◌-◌, ◌<◌, ◌≤◌, Bool, true, false, inl, inr, List, [], ◌∷◌, ◌++◌}
use Rattle.std.proofs.Common.{refl, ap, sym, ◌∙◌, subst, arith, append-nil, Option, Some, None, map, filter}
use Rattle.std.specs.List.{AllByRecursion}
use Rattle.std.specs.List.Sorted.{IsStrictlySortedBy}
use Rattle.std.specs.Map.{keys_of, lookup}
use Rattle.std.specs.BTreeMap.{is_at}
use Rattle.std.specs.BTreeMap.Range.{range_contains, entries_between}
use Rattle.std.specs.declared.cmp.Ordering.TheVariants.{Less}
use Rattle.std.specs.declared.ops.Bound.TheVariants.{Included, Excluded}
use Rattle.std.proofs.lemmas.Bool.{cases_Bool}
use Rattle.std.proofs.lemmas.Bool.Decides.{nat_tests}
use Rattle.std.proofs.lemmas.List.{append_assoc}
use Rattle.std.proofs.lemmas.List.Kept.{IsStrictlySortedBy-filter}
use Rattle.std.proofs.lemmas.Map.Entries.{lookup-filter-keys}
use Rattle.std.proofs.lemmas.Map.Keys.{sorted_head, sorted_tail}
use Rattle.si_model.specs.declared.row.Key.{Key}
use Rattle.si_model.specs.declared.row.Item.{Item}
use Rattle.si_model.specs.Held.{key_cmp}
use Rattle.si_model.specs.Rows.{Rows, key_at, item_at, present, items_from, items_between}

-- ---- the items of a range, in parts

-- where no key of the range holds a row there are none
pub nothing : (rows : Rows) (table low n : ℕ)
    → ((key : ℕ) → low ≤ key → key < low + n → rows (key_at table key) ≡ None) → items_from rows table low n ≡ []
unfolding items_from
nothing rows table low zero none = refl
nothing rows table low (suc n) none =
    rw (none low (omega arith) (omega arith)) (nothing rows table (low + 1) n (λ key above below.
    none key (omega (arith, above)) (omega (arith, below))))

-- rows that agree in the range give the same
pub agree : (rows rows' : Rows) (table low n : ℕ)
    → ((key : ℕ) → low ≤ key → key < low + n → rows (key_at table key) ≡ rows' (key_at table key))
    → items_from rows table low n ≡ items_from rows' table low n
unfolding items_from
agree rows rows' table low zero same = refl
agree rows rows' table low (suc n) same =
    let rest = agree rows rows' table (low + 1) n
    (λ key above below. same key (omega (arith, above)) (omega (arith, below))) in
    ap (λ v. present (key_at table low) v ++ items_from rows table (low + 1) n) (same low (omega arith) (omega arith))
    ∙ ap (λ is. present (key_at table low) (rows' (key_at table low)) ++ is) rest

step : (rows : Rows) (table low m n : ℕ) → m ≡ suc n → items_from rows table low m
    ≡ present (key_at table low) (rows (key_at table low)) ++ items_from rows table (low + 1) n
unfolding items_from
step rows table low m n is = ap (items_from rows table low) is

-- those of n keys, and then the item of the next and the others
parts : (rows : Rows) (table n m low key : ℕ) → low + n ≡ key → items_from rows table low (n + (m + 1))
    ≡ items_from rows table low n ++ (present (key_at table key) (rows (key_at table key))
    ++ items_from rows table (key + 1) m)
unfolding items_from
parts rows table zero m low key ends =
    let here : low ≡ key = omega (arith, ends) in
    step rows table low (0 + (m + 1)) m (omega arith)
    ∙ ap (λ k. present (key_at table k) (rows (key_at table k)) ++ items_from rows table (k + 1) m) here
parts rows table (suc n) m low key ends =
    step rows table low (suc n + (m + 1)) (n + (m + 1)) (omega arith)
    ∙ ap (λ is. present (key_at table low) (rows (key_at table low)) ++ is)
    (parts rows table n m (low + 1) key (omega (arith, ends)))
    ∙ sym (append_assoc (present (key_at table low) (rows (key_at table low))) (items_from rows table (low + 1) n)
    (present (key_at table key) (rows (key_at table key)) ++ items_from rows table (key + 1) m))

pub parts_at : (rows : Rows) (table low key end : ℕ) → low ≤ key → key < end
    → items_from rows table low (end - low)
    ≡ items_from rows table low (key - low) ++ (present (key_at table key) (rows (key_at table key))
    ++ items_from rows table (key + 1) (end - (key + 1)))
parts_at rows table low key end above below =
    let count : end - low ≡ (key - low) + ((end - (key + 1)) + 1) = omega (arith, above, below) in
    ap (items_from rows table low) count
    ∙ parts rows table (key - low) (end - (key + 1)) low key (omega (arith, above))

-- none is in a range whose end comes before its start
pub backward : (rows : Rows) (table low high : ℕ) → high < low → items_between rows table low high ≡ []
backward rows table low high back =
    nothing rows table low (high + 1 - low) (λ key above below. absurd (omega (arith, back, above, below)))

-- the items before the last key, and that of the last key
pub before_last : (rows : Rows) (table low high : ℕ) → low ≤ high
    → items_between rows table low high
    ≡ items_from rows table low (high - low) ++ present (key_at table high) (rows (key_at table high))
before_last rows table low high forward =
    let item = present (key_at table high) (rows (key_at table high)) in
    let none : items_from rows table (high + 1) (high + 1 - (high + 1)) ≡ [] =
    nothing rows table (high + 1) (high + 1 - (high + 1)) (λ key above below. absurd (omega (arith, above, below))) in
    parts_at rows table low high (high + 1) forward (omega arith)
    ∙ ap (λ is. items_from rows table low (high - low) ++ (item ++ is)) none
    ∙ ap (λ is. items_from rows table low (high - low) ++ is) (append-nil item)

-- after the rows up to a key, whose item then comes, the items from the next key on are left
pub scan_step : (rows copy : Rows) (table from end : ℕ) (key : Key) (value : Option (List ℕ))
    (start before after : List Item) → key ≡ key_at table key.key → from ≤ key.key → key.key < end
    → ((k : ℕ) → from ≤ k → k < key.key → copy (key_at table k) ≡ rows (key_at table k)) → value ≡ copy key
    → before ≡ start ++ items_from rows table from (key.key - from) → after ≡ before ++ present key value
    → after ++ items_from copy table (key.key + 1) (end - (key.key + 1)) ≡ start ++ items_from copy table from (end - from)
scan_step rows copy table from end key value start before after here above below same is_value is_before is_after =
    let gap = items_from copy table from (key.key - from) in
    let rest = items_from copy table (key.key + 1) (end - (key.key + 1)) in
    let item = present key (copy key) in
    let rows_gap : items_from rows table from (key.key - from) ≡ gap =
    sym (agree copy rows table from (key.key - from) (λ k low high. same k low (omega (arith, above, low, high)))) in
    let so_far : after ≡ (start ++ gap) ++ item =
    is_after ∙ ap (λ v. before ++ present key v) is_value
    ∙ ap (λ is. is ++ item) (is_before ∙ ap (λ is. start ++ is) rows_gap) in
    let whole : gap ++ (item ++ rest) ≡ items_from copy table from (end - from) =
    sym (parts_at copy table from key.key end above below
    ∙ ap (λ q. gap ++ (present q (copy q) ++ rest)) (sym here)) in
    ap (λ is. is ++ rest) so_far ∙ append_assoc (start ++ gap) item rest ∙ append_assoc start gap (item ++ rest)
    ∙ ap (λ is. start ++ is) whole

-- ---- the entries of a range

-- the entries are what f gives in the table from key `low` on and before `end`, in order of keys
abbrev pub Lists : {X : Type 0} → (Key → Option X) → ℕ → ℕ → ℕ → List (Key × X) → Type 0
Lists f table low end [] = (key : ℕ) → low ≤ key → key < end → f (key_at table key) ≡ None
Lists f table low end (e ∷ es) = (e.0 ≡ key_at table e.0.key) × (low ≤ e.0.key) × (e.0.key < end) × (f e.0 ≡ Some e.1)
    × ((key : ℕ) → low ≤ key → key < e.0.key → f (key_at table key) ≡ None) × Lists f table (e.0.key + 1) end es

abbrev pub item_of : Key × List ℕ → Item
item_of e = item_at e.0 (Some e.1)

-- the rows that are listed are the items of the range
pub listed : (rows : Rows) (table end : ℕ) (es : List (Key × List ℕ)) (low : ℕ) → Lists rows table low end es
    → map item_of es ≡ items_from rows table low (end - low)
listed rows table end [] low lists =
    sym (nothing rows table low (end - low) (λ key above below. lists key above (omega (arith, above, below))))
listed rows table end (e ∷ es) low (here, above, below, holds, gap, rest) =
    let before : items_from rows table low (e.0.key - low) ≡ [] =
    nothing rows table low (e.0.key - low) (λ key from to. gap key from (omega (arith, from, to))) in
    let value : rows (key_at table e.0.key) ≡ Some e.1 = ap rows (sym here) ∙ holds in
    sym (parts_at rows table low e.0.key end above below
    ∙ rw (before, value) (ap (λ key. item_at key (Some e.1) ∷ items_from rows table (e.0.key + 1) (end - (e.0.key + 1)))
    (sym here) ∙ ap (λ is. item_of e ∷ is) (sym (listed rows table end es (e.0.key + 1) rest))))

-- the entries are of the table, and their keys from `low` on and before `end`
abbrev AreWithin : {X : Type 0} → ℕ → ℕ → ℕ → List (Key × X) → Type 0
AreWithin table low end es = AllByRecursion (λ e. (e.0 ≡ key_at table e.0.key) × (low ≤ e.0.key) × (e.0.key < end)) es

none_before : {X : Type 0} (table key end : ℕ) (es : List (Key × X)) → AreWithin table (key + 1) end es
    → lookup (is_at (key_cmp (key_at table key))) es ≡ None
none_before table key end [] within = refl
none_before table key end (e ∷ es) within =
    let other : is_at (key_cmp (key_at table key)) e.0 ≡ false =
    let above = within.0.1 in grind (arith, nat_tests) in
    rw other (none_before table key end es within.1)

within_after : {X : Type 0} (table low end : ℕ) (e : Key × X) (es : List (Key × X)) → e.0 ≡ key_at table e.0.key
    → AllByRecursion (λ key. key_cmp e.0 key ≡ Less) (keys_of es) → AreWithin table low end es
    → AreWithin table (e.0.key + 1) end es
within_after table low end e [] here less within = tt
within_after table low end e (f ∷ fs) here less within =
    let above : e.0.key + 1 ≤ f.0.key = let l = less.0 in let there = within.0.0 in grind (arith, nat_tests) in
    ((within.0.0, above, within.0.2), within_after table low end e fs here less.1 within.1)

lists_within : {X : Type 0} (f : Key → Option X) (table end : ℕ) (es : List (Key × X)) (low : ℕ)
    → IsStrictlySortedBy key_cmp (keys_of es) → AreWithin table low end es
    → ((key : ℕ) → low ≤ key → key < end
    → f (key_at table key) ≡ lookup (is_at (key_cmp (key_at table key))) es)
    → Lists f table low end es
lists_within f table end [] low sorted within is = is
lists_within {X = X} f table end (e ∷ es) low sorted within is =
    let here = within.0.0 in
    let after = within_after table low end e es here (sorted_head key_cmp e.0 (keys_of es) sorted) within.1 in
    let found : is_at (key_cmp (key_at table e.0.key)) e.0 ≡ true = grind (arith, nat_tests) in (
      here,
      within.0.1,
      within.0.2,
      ap f here ∙ is e.0.key within.0.1 within.0.2 ∙ rw found refl,
      λ key above below. is key above (omega (arith, below, within.0.2))
          ∙ none_before table key end (e ∷ es) ((here, omega (arith, below), within.0.2), raise key below es after),
      lists_within f table end es (e.0.key + 1) (sorted_tail key_cmp e.0 (keys_of es) sorted) after
          (λ key above below. is key (omega (arith, above, within.0.1)) below ∙ missed key above),
    )
  where
    raise : (key : ℕ) → key < e.0.key → (fs : List (Key × X)) → AreWithin table (e.0.key + 1) end fs
        → AreWithin table (key + 1) end fs
    raise key below [] w = tt
    raise key below (f ∷ fs) w = ((w.0.0, omega (arith, below, w.0.1), w.0.2), raise key below fs w.1)

    missed : (key : ℕ) → e.0.key + 1 ≤ key → lookup (is_at (key_cmp (key_at table key))) (e ∷ es)
        ≡ lookup (is_at (key_cmp (key_at table key))) es
    missed key above =
        let other : is_at (key_cmp (key_at table key)) e.0 ≡ false = grind (arith, nat_tests) in
        rw other refl

-- is the key of the table, from `low` on and before `end`
abbrev is_within : ℕ → ℕ → ℕ → Key → Bool
is_within table low end key = range_contains key_cmp (Included (key_at table low)) (Excluded (key_at table end)) key

within_says : (table low end : ℕ) (key : Key) → is_within table low end key ≡ true
    → (key ≡ key_at table key.key) × (low ≤ key.key) × (key.key < end)
within_says table low end key is =
    let same : key.table ≡ table = grind (arith, nat_tests) in
    (ap (λ t. key_at t key.key) same, grind (arith, nat_tests), grind (arith, nat_tests))

within_is : (table low end key : ℕ) (k : Key) → low ≤ key → key < end → is_at (key_cmp (key_at table key)) k ≡ true
    → is_within table low end k ≡ true
within_is table low end key k above below at = grind (arith, nat_tests)

keys_filter : {X : Type 0} (p : Key → Bool) (es : List (Key × X))
    → keys_of (filter (λ e. p e.0) es) ≡ filter p (keys_of es)
keys_filter p [] = refl
keys_filter p (e ∷ es) =
    elim (cases_Bool (p e.0)) [
      | inl in_it ↦ rw in_it (ap (λ ks. e.0 ∷ ks) (keys_filter p es))
      | inr out ↦ rw out (keys_filter p es)
    ]

all_within : {X : Type 0} (table low end : ℕ) (es : List (Key × X))
    → AreWithin table low end (filter (λ e. is_within table low end e.0) es)
all_within table low end [] = tt
all_within table low end (e ∷ es) =
    elim (cases_Bool (is_within table low end e.0)) [
      | inl in_it ↦ rw in_it (within_says table low end e.0 in_it, all_within table low end es)
      | inr out ↦ rw out (all_within table low end es)
    ]

-- the part of a map between two keys of a table lists what it holds there
pub lists_between : {X : Type 0} (f : Key → Option X) (table low end : ℕ) (es : List (Key × X))
    → IsStrictlySortedBy key_cmp (keys_of es) → ((key : Key) → f key ≡ lookup (is_at (key_cmp key)) es)
    → Lists f table low end (entries_between key_cmp (Included (key_at table low)) (Excluded (key_at table end)) es)
lists_between f table low end es sorted is =
    let p = is_within table low end in
    lists_within f table end (filter (λ e. p e.0) es) low
    (subst (IsStrictlySortedBy key_cmp) (sym (keys_filter p es)) (IsStrictlySortedBy-filter key_cmp p (keys_of es) sorted))
    (all_within table low end es)
    (λ key above below. is (key_at table key)
    ∙ sym (lookup-filter-keys (is_at (key_cmp (key_at table key))) p true
    (λ k at. within_is table low end key k above below at) es))
