-- What stands at the front of the fields, and the fields after it.
use Rattle.std.specs.Prelude.{◌≡◌, ℕ, List, [], ◌∷◌, length, Option, Some, None, nat_le, ◌==◌, if◌then◌else◌}
use Rattle.std.specs.Str.{bytes_eq}

infixl 10 ◌>>=◌
abbrev pub ◌>>=◌ : {A B : Type 0} → Option A → (A → Option B) → Option B
(Some x) >>= f = f x
None >>= f = None

-- the fields after a word
abbrev pub word_at : List ℕ → List (List ℕ) → Option (List (List ℕ))
word_at word [] = None
word_at word (f ∷ fs) = if bytes_eq f word then Some fs else None

-- what the next field spells
unfoldable pub field_at : {A : Type 0} → (List ℕ → Option A) → List (List ℕ) → Option (A × List (List ℕ))
field_at read [] = None
field_at read (f ∷ fs) = do
  x ← read f
  Some (x, fs)

-- the first byte of the next field, and the fields with what is left of that one
unfoldable pub byte_at : List (List ℕ) → Option (ℕ × List (List ℕ))
byte_at [] = None
byte_at ([] ∷ fs) = None
byte_at ((b ∷ field) ∷ fs) = Some (b, field ∷ fs)

-- no field is left
abbrev pub done : List (List ℕ) → Option (Unit {0})
done [] = Some tt
done (f ∷ fs) = None

-- what all the fields spell
unfoldable pub all_read : {A : Type 0} → (List ℕ → Option A) → List (List ℕ) → Option (List A)
all_read read [] = Some []
all_read read (f ∷ fs) = do
  x ← read f
  xs ← all_read read fs
  Some (x ∷ xs)

-- what one field or more spell, and so many at the most
unfoldable pub some_read : {A : Type 0} → ℕ → (List ℕ → Option A) → List (List ℕ) → Option (List A)
some_read most read fs =
    if length fs == 0 then None else if nat_le (length fs) most then all_read read fs else None

-- what a reader of fields returned and left is what reading gives
abbrev pub Reads : {X : Type 0} → Option X → List (List ℕ) → Option (X × List (List ℕ)) → Type 0
Reads None left read = read ≡ None
Reads (Some x) left read = read ≡ Some (x, left)

-- the same of a reader that returns only whether it read
abbrev pub ReadsWord : {X : Type 0} → Option X → List (List ℕ) → Option (List (List ℕ)) → Type 0
ReadsWord None left read = read ≡ None
ReadsWord (Some x) left read = read ≡ Some left
