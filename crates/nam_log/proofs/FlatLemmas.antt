-- Flat items and lists with one more.
use Rattle.std.proofs.Common.{◌≡◌, ℕ, suc, ◌≤◌, List, [], ◌∷◌, ◌++◌, length, take, drop, refl, ap, arith}
use Rattle.std.proofs.Common.{Option, Some, None, length-append}
use Rattle.std.proofs.lemmas.List.{take-append-le, drop-append-le, take_all, drop_all}
use Rattle.si_model.specs.declared.row.Item.{Item}
use Rattle.nam_log.specs.declared.item_head.ItemHead.{ItemHead}
use Rattle.nam_log.specs.Flat.{words_in, value_in, item_in, items_in, AreItems, lists_in, AreLists}

-- lists

pub lists-one_more : (counts words more : List ℕ) → AreLists counts words
    → lists_in (counts ++ length more ∷ []) (words ++ more) ≡ lists_in counts words ++ more ∷ []
lists-one_more [] words more fits = rw fits (ap (λ (x : List ℕ). x ∷ []) (take_all (length more) more (omega arith)))
lists-one_more (count ∷ counts) words more fits =
    rw (take-append-le count words more fits.1, drop-append-le count words more fits.1)
    (ap (λ (x : List (List ℕ)). take count words ∷ x) (lists-one_more counts (drop count words) more fits.2))

pub AreLists-one_more : (counts words more : List ℕ) → AreLists counts words → length more ≤ 16
    → AreLists (counts ++ length more ∷ []) (words ++ more)
AreLists-one_more [] words more fits short = rw fits (short, omega arith, drop_all (length more) more (omega arith))
AreLists-one_more (count ∷ counts) words more fits short = (
  fits.0,
  omega (arith, length-append words more, fits.1),
  rw (drop-append-le count words more fits.1) (AreLists-one_more counts (drop count words) more fits.2 short),
)

pub lists_count : (counts words : List ℕ) → length (lists_in counts words) ≡ length counts
lists_count [] words = refl
lists_count (count ∷ counts) words = ap suc (lists_count counts (drop count words))

-- items

pub value-append : (width : Option ℕ) (words more : List ℕ) → words_in width ≤ length words
    → value_in width (words ++ more) ≡ value_in width words
value-append None words more fits = refl
value-append (Some width) words more fits = ap Some (take-append-le width words more fits)

pub items-one_more : (heads : List ItemHead) (words : List ℕ) (head : ItemHead) (more : List ℕ) → AreItems heads words
    → items_in (heads ++ head ∷ []) (words ++ more) ≡ items_in heads words ++ item_in head more ∷ []
items-one_more [] words head more fits = rw fits refl
items-one_more (other ∷ heads) words head more fits =
    rw (value-append other.width words more fits.1, drop-append-le (words_in other.width) words more fits.1)
    (ap (λ (x : List Item). item_in other words ∷ x)
    (items-one_more heads (drop (words_in other.width) words) head more fits.2))

pub AreItems-one_more : (heads : List ItemHead) (words : List ℕ) (head : ItemHead) (more : List ℕ)
    → AreItems heads words → words_in head.width ≡ length more → length more ≤ 8
    → AreItems (heads ++ head ∷ []) (words ++ more)
AreItems-one_more [] words head more fits whole short =
    rw (fits, whole) (short, omega arith, drop_all (length more) more (omega arith))
AreItems-one_more (other ∷ heads) words head more fits whole short = (
  fits.0,
  omega (arith, length-append words more, fits.1),
  rw (drop-append-le (words_in other.width) words more fits.1)
      (AreItems-one_more heads (drop (words_in other.width) words) head more fits.2 whole short),
)

pub items_count : (heads : List ItemHead) (words : List ℕ) → length (items_in heads words) ≡ length heads
items_count [] words = refl
items_count (head ∷ heads) words = ap suc (items_count heads (drop (words_in head.width) words))
