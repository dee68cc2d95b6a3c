-- Words on lists that several definitions use.
use Rattle.std.specs.Prelude.{ℕ, ◌≡◌, ◌⊎◌, List, [], ◌∷◌, ◌++◌, drop, Option, Some, None}
use Rattle.std.specs.List.{AllByRecursion}

-- the element stands in the list
abbrev pub Listed : {A : Type 0} → A → List A → Type 0
Listed x [] = ⊥
Listed x (y ∷ ys) = (y ≡ x) ⊎ Listed x ys

-- the first list is the front of the second
abbrev pub IsFront : {A : Type 0} → List A → List A → Type 0
IsFront {A} xs ys = (rest : List A) × (xs ++ rest ≡ ys)

-- the list has the element at the place, counted from 0
abbrev pub StandsAt : {A : Type 0} → ℕ → A → List A → Type 0
StandsAt {A} k x xs = (rest : List A) × (drop k xs ≡ x ∷ rest)

abbrev pub last_of : {A : Type 0} → List A → Option A
last_of [] = None
last_of (x ∷ []) = Some x
last_of (x ∷ y ∷ ys) = last_of (y ∷ ys)

-- all elements of the lists, one list after another
abbrev pub concat_of : {A : Type 0} → List (List A) → List A
concat_of [] = []
concat_of (xs ∷ xss) = xs ++ concat_of xss

-- each element stands so to those after it
abbrev pub Pairwise : {A : Type 0} → (A → A → Type 0) → List A → Type 0
Pairwise R [] = Unit {0}
Pairwise R (x ∷ xs) = AllByRecursion (R x) xs × Pairwise R xs
