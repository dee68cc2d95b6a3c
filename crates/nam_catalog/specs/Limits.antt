-- Which shapes a store can have, and what is wrong with the others.
use Rattle.std.specs.Prelude.{ℕ, ◌+◌, ◌==◌, ◌||◌, nat_lt, Bool, List, [], ◌∷◌, ◌++◌, length, Option, Some, None}
use Rattle.std.specs.Prelude.{is_some, option_map, if◌then◌else◌}
use Rattle.std.specs.Option.{option_or}
use Rattle.std.specs.List.{position_from}
use Rattle.nam_catalog.specs.declared.bounds.TheConstants.{MOST_WORKERS, MOST_WIDTH, MOST_CAPACITY, MOST_RING}
use Rattle.nam_catalog.specs.declared.bounds.TheConstants.{MOST_BUCKETS, MOST_CELLS, MOST_WORDS}
use Rattle.nam_catalog.specs.declared.fault.ShapeFault.{ShapeFault}
use Rattle.nam_catalog.specs.declared.fault.ShapeFault.TheVariants.{NoWorkers, TooManyWorkers, NoTables, BadWidth}
use Rattle.nam_catalog.specs.declared.fault.ShapeFault.TheVariants.{BadCapacity, BadRing, BadBuckets, BadCells}
use Rattle.nam_catalog.specs.declared.fault.ShapeFault.TheVariants.{BadStart, TwiceNamed, TooManyWords}
use Rattle.nam_catalog.specs.declared.shape.Table.{Table}
use Rattle.nam_catalog.specs.declared.shape.Shape.{Shape}
use Rattle.nam_catalog.specs.Greatest.{greatest_number}
use Rattle.nam_catalog.specs.Tables.{first_named}
use Rattle.nam_catalog.specs.Words.{words_of}

-- the first of two faults, of which the left one is tried first
infixl 20 ◌or_else◌
abbrev pub ◌or_else◌ : Option ShapeFault → Option ShapeFault → Option ShapeFault
a or_else b = option_or a b

-- the fault, where the test passes
abbrev pub fault_if : Bool → ShapeFault → Option ShapeFault
fault_if bad fault = if bad then Some fault else None

-- not from 1 to the greatest
abbrev pub is_outside : ℕ → ℕ → Bool
is_outside greatest n = n == 0 || nat_lt greatest n

-- the first table that fails, counted from 0
abbrev pub first_table : (Table → Bool) → List Table → Option ℕ
first_table fails tables = position_from fails 0 tables

-- the first of the tables, counted from `place`, that bears the name of one before it
abbrev pub first_twice_named : List Table → ℕ → List Table → Option ℕ
first_twice_named before place [] = None
first_twice_named before place (t ∷ ts) =
    if is_some (first_named t.name before) then Some place else first_twice_named (before ++ t ∷ []) (place + 1) ts

-- the first fault but for the words of the whole, where each fault is tried at all tables before the next fault
abbrev pub limit_fault_of : Shape → Option ShapeFault
limit_fault_of shape =
    fault_if (shape.workers == 0) NoWorkers
    or_else fault_if (nat_lt MOST_WORKERS shape.workers) TooManyWorkers
    or_else fault_if (length shape.tables == 0) NoTables
    or_else option_map BadWidth (first_table (λ t. is_outside MOST_WIDTH t.width) shape.tables)
    or_else option_map BadCapacity (first_table (λ t. is_outside MOST_CAPACITY t.capacity) shape.tables)
    or_else option_map BadRing (first_table (λ t. is_outside MOST_RING t.ring) shape.tables)
    or_else fault_if (is_outside MOST_BUCKETS shape.buckets) BadBuckets
    or_else fault_if (is_outside MOST_CELLS shape.cells) BadCells
    or_else fault_if (nat_lt (greatest_number shape.form) shape.start) BadStart
    or_else option_map TwiceNamed (first_twice_named [] 0 shape.tables)

-- the first fault of a shape
abbrev pub fault_of : Shape → Option ShapeFault
fault_of shape =
    limit_fault_of shape
    or_else fault_if (nat_lt MOST_WORDS (words_of shape)) TooManyWords
