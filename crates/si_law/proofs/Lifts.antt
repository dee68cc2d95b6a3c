-- A permutation of images is the image of a permutation.
use Rattle.std.proofs.Common.{◌≡◌, ℕ, ◌<◌, List, [], ◌∷◌, length, get_or, set, map, refl, ap, sym, ◌∙◌, arith}
use Rattle.std.specs.Prelude.{IsPermutation, swap}
use Rattle.std.proofs.lemmas.List.Sorted.{IsPermutation-keeps, IsPermutation-trans, IsPermutation-swap}
use Rattle.std.proofs.lemmas.List.Sorted.{IsPermutation-refl}
use Rattle.std.proofs.lemmas.List.{map-set, get_or-map, length-map}

map_swap : {X Y : Type 0} (f : X → Y) (xs : List X) (i j : ℕ) → i < length xs → j < length xs
    → map f (swap xs i j) ≡ swap (map f xs) i j
map_swap f [] i j a b = refl
map_swap f (d ∷ xs) i j a b =
    map-set f (set (d ∷ xs) i (get_or (d ∷ xs) j d)) j (get_or (d ∷ xs) i d)
    ∙ ap (λ ys. set ys j (f (get_or (d ∷ xs) i d))) (map-set f (d ∷ xs) i (get_or (d ∷ xs) j d))
    ∙ ap (λ y. set (set (map f (d ∷ xs)) i (f (get_or (d ∷ xs) j d))) j y) (sym (get_or-map f (d ∷ xs) i d (f d) a))
    ∙ ap (λ y. set (set (map f (d ∷ xs)) i y) j (get_or (map f (d ∷ xs)) i (f d)))
    (sym (get_or-map f (d ∷ xs) j d (f d) b))

pub lifted : {X Y : Type 0} (f : X → Y) (cs : List X) (ys : List Y) → IsPermutation (map f cs) ys → (hs : List X)
    × IsPermutation cs hs × (map f hs ≡ ys)
lifted {X} f cs ys p =
    IsPermutation-keeps (map f cs) (λ l. (hs : List X) × IsPermutation cs hs × (map f hs ≡ l)) (
      cs,
      IsPermutation-refl cs,
      refl,
    )
    (λ l i j a b h.
    let long : length h.0 ≡ length l = sym (length-map h.0 f) ∙ ap length h.2 in (
      swap h.0 i j,
      IsPermutation-trans cs h.0 (swap h.0 i j) h.1
          (IsPermutation-swap h.0 (swap h.0 i j) i j (omega arith) (omega arith) refl),
      map_swap f h.0 i j (omega arith) (omega arith) ∙ ap (λ zs. swap zs i j) h.2,
    ))
    ys p
