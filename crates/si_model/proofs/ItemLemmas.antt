-- What `==` says of items.
use Rattle.std.proofs.Common.{◌≡◌, ℕ, Bool, List, Option, Some, None, refl, ap, ◌∙◌}
use Rattle.std.specs.Prelude.{Decides, ◌==◌, ◌&&◌}
use Rattle.std.specs.Option.{option_eq}
use Rattle.std.proofs.lemmas.Bool.Decides.{Decides-eqb, Decides-and}
use Rattle.si_model.specs.declared.row.Item.{Item}

-- an optional value is the same where a test of values decides
pub option_eq-Decides : {A : Type 0} (eq : A → A → Bool) → ((x y : A) → Decides (eq x y) (x ≡ y)) → (x y : Option A)
    → Decides (option_eq eq x y) (x ≡ y)
option_eq-Decides eq h None None = (λ _. refl, λ _. refl)
option_eq-Decides eq h None (Some y) = (λ e. absurd cc, λ e. absurd cc)
option_eq-Decides eq h (Some x) None = (λ e. absurd cc, λ e. absurd cc)
option_eq-Decides eq h (Some x) (Some y) = (λ e. ap (λ z. Some z) ((h x y).0 e), λ e. (h x y).1 cc)

abbrev item_of : ℕ → ℕ → Option (List ℕ) → Item
item_of t k v = record { table = t; key = k; value = v }

-- and an item, part by part
pub item_eq-Decides : (eq : List ℕ → List ℕ → Bool) → ((x y : List ℕ) → Decides (eq x y) (x ≡ y)) → (a b : Item)
    → Decides ((a.table == b.table) && ((a.key == b.key) && option_eq eq a.value b.value)) (a ≡ b)
item_eq-Decides eq h a b =
    let parts = Decides-and (a.table == b.table) ((a.key == b.key) && option_eq eq a.value b.value)
    (Decides-eqb a.table b.table)
    (Decides-and (a.key == b.key) (option_eq eq a.value b.value) (Decides-eqb a.key b.key)
    (option_eq-Decides eq h a.value b.value)) in
    (λ e. from_parts a b (parts.0 e), λ e. parts.1 (ap (λ i. i.table) e, (ap (λ i. i.key) e, ap (λ i. i.value) e)))
  where
    from_parts : (x y : Item) → ((x.table ≡ y.table) × ((x.key ≡ y.key) × (x.value ≡ y.value))) → x ≡ y
    from_parts x y e =
        ap (λ t. item_of t x.key x.value) e.0 ∙ ap (λ k. item_of y.table k x.value) e.1.0
        ∙ ap (λ v. item_of y.table y.key v) e.1.1
