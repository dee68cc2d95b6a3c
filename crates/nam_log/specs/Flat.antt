-- Items and lists of words, laid flat.
use Rattle.std.specs.Prelude.{ℕ, ◌≡◌, ◌≤◌, List, [], ◌∷◌, length, take, drop, Option, Some, None}
use Rattle.si_model.specs.declared.row.Item.{Item}
use Rattle.nam_log.specs.declared.item_head.ItemHead.{ItemHead}

-- how many words a value of this width has; none is absent
abbrev pub words_in : Option ℕ → ℕ
words_in None = 0
words_in (Some width) = width

abbrev pub value_in : Option ℕ → List ℕ → Option (List ℕ)
value_in None words = None
value_in (Some width) words = Some (take width words)

-- the item whose words are the first
abbrev pub item_in : ItemHead → List ℕ → Item
item_in head words = record { table = head.table; key = head.key; value = value_in head.width words }

-- the items of these heads, whose words stand one after another
abbrev pub items_in : List ItemHead → List ℕ → List Item
items_in [] words = []
items_in (head ∷ heads) words = item_in head words ∷ items_in heads (drop (words_in head.width) words)

-- the heads have just these words, each at most 8
abbrev pub AreItems : List ItemHead → List ℕ → Type 0
AreItems [] words = words ≡ []
AreItems (head ∷ heads) words =
    (words_in head.width ≤ 8) × (words_in head.width ≤ length words) × AreItems heads (drop (words_in head.width) words)

-- the lists of these lengths, whose words stand one after another
abbrev pub lists_in : List ℕ → List ℕ → List (List ℕ)
lists_in [] words = []
lists_in (count ∷ counts) words = take count words ∷ lists_in counts (drop count words)

-- the lists have just these words, each at most 16
abbrev pub AreLists : List ℕ → List ℕ → Type 0
AreLists [] words = words ≡ []
AreLists (count ∷ counts) words = (count ≤ 16) × (count ≤ length words) × AreLists counts (drop count words)
