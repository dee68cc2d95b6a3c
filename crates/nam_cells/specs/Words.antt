-- The words of cells and of the horizon, and what it is that they stay.
use Rattle.std.specs.Prelude.{None, Option, Some, ℕ, ◌≡◌}
use Rattle.nam_catalog.specs.declared.shape.Shape.{Shape}
use Rattle.nam_layout.specs.Address.{IsField}
use Rattle.nam_layout.specs.declared.field.Field.{Field}
use Rattle.nam_layout.specs.declared.field.Field.TheVariants.{Begin, CellWord, End, Horizon, Owner, Tag}

-- a word of a cell, or a horizon entry
abbrev pub IsUpkeepField : Field → Type 0
IsUpkeepField (Horizon worker) = Unit {0}
IsUpkeepField (Tag bucket cell) = Unit {0}
IsUpkeepField (Owner bucket cell) = Unit {0}
IsUpkeepField (Begin bucket cell) = Unit {0}
IsUpkeepField (End bucket cell) = Unit {0}
IsUpkeepField (CellWord bucket cell nth) = Unit {0}
IsUpkeepField _ = ⊥

-- the cell that the word is of, if it is of one and is not its tag
abbrev pub inside_of : Field → Option (ℕ × ℕ)
inside_of (Owner bucket cell) = Some (bucket, cell)
inside_of (Begin bucket cell) = Some (bucket, cell)
inside_of (End bucket cell) = Some (bucket, cell)
inside_of (CellWord bucket cell nth) = Some (bucket, cell)
inside_of _ = None

-- they are what they were
abbrev pub SameUpkeep : Shape → (Field → ℕ) → (Field → ℕ) → Type 0
SameUpkeep shape m now = (field : Field) → IsField shape field → IsUpkeepField field → now field ≡ m field
