-- Where the keys of a write set stand in it.
use Rattle.std.specs.Prelude.{ℕ, suc, ◌≡◌, if◌then◌else◌, List, [], ◌∷◌, Option, Some, None}
use Rattle.std.specs.Option.{option_map}
use Rattle.std.specs.BTreeMap.{BTreeMap, get}
use Rattle.std.specs.BTreeSet.{BTreeSet, contains}
use Rattle.si_model.specs.declared.row.Key.{Key}
use Rattle.si_model.specs.declared.row.Item.{Item}
use Rattle.si_model.specs.Held.{key_cmp}
use Rattle.si_model.specs.Rows.{same_key, item_key, has_key}

-- the place of the item of a key, counted from 0
abbrev pub place_of : List Item → Key → Option ℕ
place_of [] key = None
place_of (i ∷ is) key = if same_key (item_key i) key then Some 0 else option_map suc (place_of is key)

-- the map gives each key its place in the write set, and no place to a key that isn't written
abbrev pub HasPlaces : BTreeMap Key ℕ → List Item → Type 0
HasPlaces places items = (key : Key) → get key_cmp places key ≡ place_of items key

-- the set has the listed keys, and no others
abbrev pub HasListed : BTreeSet Key → List Key → Type 0
HasListed set keys = (key : Key) → contains key_cmp set key ≡ has_key keys key
