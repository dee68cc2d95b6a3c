-- The fronts of known bytes that a source loses and a sink takes over several calls.
use Rattle.std.specs.Prelude.{◌≡◌, ℕ, List, ◌++◌, length, Option}
use Rattle.std.specs.Io.KnownBytes.{Consumes, Appends}

-- known bytes lose a front, of as many bytes as P says
abbrev pub LosesFront : Option (List ℕ) → Option (List ℕ) → (ℕ → Type 0) → Type 0
LosesFront old new P = (front : List ℕ) × Consumes old new front × P (length front)

-- known bytes grow by what stands before the rest
abbrev pub AppendsBefore : Option (List ℕ) → Option (List ℕ) → List ℕ → List ℕ → Type 0
AppendsBefore old new bytes rest = (front : List ℕ) × (bytes ≡ front ++ rest) × Appends old new front

-- known bytes grow by a front of these
abbrev pub AppendsFront : Option (List ℕ) → Option (List ℕ) → List ℕ → Type 0
AppendsFront old new bytes = (rest : List ℕ) × AppendsBefore old new bytes rest
