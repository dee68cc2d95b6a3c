-- Bounds on the words of tables within their limits: products of these limits.
use Rattle.std.proofs.Common.{◌*◌, ◌≤◌, List, [], ◌∷◌, length, arith}
use Rattle.std.specs.Prelude.{All}
use Rattle.std.proofs.lemmas.Nat.{mul-le}
use Rattle.std.proofs.lemmas.List.Elements.{All-head, All-tail}
use Rattle.nam_catalog.specs.declared.bounds.TheConstants.{MOST_TABLES, MOST_CAPACITY, MOST_RING}
use Rattle.nam_catalog.specs.declared.shape.Table.{Table}
use Rattle.nam_catalog.specs.Words.{slot_words, position_words, table_words, tables_words}
use Rattle.nam_catalog.specs.Fits.{FitsTable}

-- the old versions of a position
ring_le : (t : Table) → FitsTable t → t.ring * slot_words t.width ≤ 160
ring_le t fits = mul-le t.ring (slot_words t.width) MOST_RING 10 fits.most_ring (omega (arith, fits.most_width))

table_le : (t : Table) → FitsTable t → table_words t ≤ 700416
table_le t fits =
    mul-le t.capacity (position_words t.width t.ring) MOST_CAPACITY 171 fits.most_capacity
    (omega (arith, ring_le t fits, fits.most_width))

tables_le_each : (ts : List Table) → All FitsTable ts → tables_words ts ≤ 700416 * length ts
tables_le_each [] fit = omega arith
tables_le_each (t ∷ ts) fit =
    omega (arith, table_le t (All-head FitsTable t ts fit), tables_le_each ts (All-tail FitsTable t ts fit))

pub tables_le : (ts : List Table) → length ts ≤ MOST_TABLES → All FitsTable ts → tables_words ts ≤ 5603328
tables_le ts few fit = omega (arith, tables_le_each ts fit)
