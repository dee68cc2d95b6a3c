-- The lines of a text, and the fields of a line.
use Rattle.std.specs.Prelude.{◌≡◌, ◌≢◌, ℕ, ◌^◌, ◌<◌, ◌≤◌, true, List, [], ◌==◌, length, take, get_or, Option, Some, None}
use Rattle.std.specs.List.{slice_split, list_all}
use Rattle.std.specs.Char.{is_ascii_digit}
use Rattle.std.specs.Str.Parse.{digits_value}

-- the texts that newlines end, and what follows the last of them
abbrev pub lines_of : List ℕ → List (List ℕ)
lines_of text = slice_split (λ b. b == 10) text

-- no newline stands before a place
pub record IsPassed (text : List ℕ) (at : ℕ) : Type 0 where
  pub within : at ≤ length text
  pub none : (k : ℕ) → k < at → get_or text k 0 ≢ 10

-- what single spaces part
abbrev pub fields_of : List ℕ → List (List ℕ)
fields_of line = slice_split (λ b. b == 32) line

-- the fields of what is left of a line
abbrev pub fields_left : Option (List ℕ) → List (List ℕ)
fields_left None = []
fields_left (Some line) = fields_of line

-- a line begins with so many digits, which spell this number
pub record IsLeading (line : List ℕ) (number count : ℕ) : Type 0 where
  pub within : count ≤ length line
  pub digits : list_all is_ascii_digit (take count line) ≡ true
  pub value : digits_value 10 (take count line) ≡ number
  pub small : number < 2 ^ 64
