-- Kinds of lines, told by the first word.
use Rattle.std.specs.Prelude.{◌≡◌, ℕ, List, [], ◌∷◌, ◌++◌, codes, Option, Some, None, if◌then◌else◌}
use Rattle.std.specs.Str.{bytes_eq}
use Rattle.nam_text.specs.Read.{◌>>=◌}
use Rattle.nam_text.specs.Spelling.{IsPlain, Spelling, IsSpelling}

-- the first word of a kind of line, how what follows is spelt, and the line of it
pub record LineKind (L : Type 0) : Type 1 where
  pub Value : Type 0
  pub word : List ℕ
  pub rest : Spelling Value
  pub line : Value → L

abbrev pub kind : {L A : Type 0} → List ℕ → Spelling A → (A → L) → LineKind L
kind {L} {A} word rest line = record { Value = A; word = word; rest = rest; line = line }

-- how a line is spelt: its first word and the fields behind it, whether it fits, and whether its numbers are small
pub record Spelt : Type 1 where
  pub word : List ℕ
  pub rest : List (List ℕ)
  pub Fits : Type 0
  pub IsSmall : Type 0

-- a line by its kind
abbrev pub of : {L : Type 0} (k : LineKind L) → k.Value → Spelt
of k x = record { word = k.word; rest = k.rest.fields x; Fits = k.rest.Fits x; IsSmall = k.rest.IsSmall x }

abbrev pub fields : Spelt → List (List ℕ)
fields l = l.word ∷ l.rest

-- fields, each behind a space
abbrev pub behind_spaces : List (List ℕ) → List ℕ
behind_spaces [] = []
behind_spaces (f ∷ fs) = codes " " ++ f ++ behind_spaces fs

-- the fields, parted by spaces
abbrev pub text : Spelt → List ℕ
text l = l.word ++ behind_spaces l.rest

-- the same, ended by a newline
abbrev pub line_text : Spelt → List ℕ
line_text l = text l ++ codes "\n"

-- the line of a kind, behind its first word
abbrev pub line_at : {L : Type 0} → LineKind L → List (List ℕ) → Option L
line_at k fs = k.rest.read fs >>= (λ x. Some (k.line x))

-- a reader of lines, by the first word
abbrev pub Reader : Type 0 → Type 0
Reader L = List ℕ → List (List ℕ) → Option L

abbrev pub no_line : {L : Type 0} → Reader L
no_line word fs = None

abbrev pub or : {L : Type 0} → LineKind L → Reader L → Reader L
or k others word fs = if bytes_eq word k.word then line_at k fs else others word fs

abbrev pub first_word : {L : Type 0} → Reader L → List (List ℕ) → Option L
first_word read [] = None
first_word read (w ∷ fs) = read w fs

-- a spelling by the first word
abbrev pub by_word : {L : Type 0} → (L → Spelt) → Reader L → Spelling L
by_word spelt read = record {
  Fits = λ l. (spelt l).Fits;
  IsSmall = λ l. (spelt l).IsSmall;
  fields = λ l. fields (spelt l);
  read = first_word read;
}

-- the kind keeps both laws, and its lines are told to be of it
pub record IsKind {L : Type 0} (spelt : L → Spelt) (k : LineKind L) : Type 1 where
  pub rest : IsSpelling k.rest
  pub word : IsPlain k.word
  pub is : (x : k.Value) → spelt (k.line x) ≡ of k x
