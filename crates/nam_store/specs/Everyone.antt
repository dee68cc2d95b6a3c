-- What holds of each element of a list, with its number, and of some element; a function changed at one number.
use Rattle.std.specs.Prelude.{◌≡◌, ℕ, ◌==◌, if◌then◌else◌, List, Some, slice_get}

-- elements count from 0
abbrev pub Everyone : {A : Type 0} → (ℕ → A → Type 0) → List A → Type 0
Everyone {A} P xs = (nth : ℕ) (x : A) → slice_get xs nth ≡ Some x → P nth x

abbrev pub Someone : {A : Type 0} → (ℕ → A → Type 0) → List A → Type 0
Someone {A} P xs = (nth : ℕ) × ((x : A) × ((slice_get xs nth ≡ Some x) × P nth x))

-- with another value at one number
abbrev pub put : {A : Type 0} → (ℕ → A) → ℕ → A → ℕ → A
put f nth x other = if other == nth then x else f other
