-- Rows: the positions of all tables, counted table by table.
use Rattle.std.specs.Prelude.{ℕ, zero, suc, ◌+◌, ◌-◌, ◌*◌, nat_lt, List, [], ◌∷◌, if◌then◌else◌}
use Rattle.nam_catalog.specs.declared.shape.Table.{Table}
use Rattle.nam_catalog.specs.Words.{position_words, table_words}

-- how many rows there are
abbrev pub rows_in : List Table → ℕ
rows_in [] = 0
rows_in (t ∷ ts) = t.capacity + rows_in ts

-- the row of a table's position
abbrev pub row_of : List Table → ℕ → ℕ → ℕ
row_of [] table position = position
row_of (t ∷ ts) zero position = position
row_of (t ∷ ts) (suc table) position = t.capacity + row_of ts table position

-- the table of a row
abbrev pub table_of : List Table → ℕ → ℕ
table_of [] row = 0
table_of (t ∷ ts) row = if nat_lt row t.capacity then 0 else suc (table_of ts (row - t.capacity))

-- the position of a row in its table
abbrev pub position_of : List Table → ℕ → ℕ
position_of [] row = row
position_of (t ∷ ts) row = if nat_lt row t.capacity then row else position_of ts (row - t.capacity)

-- the width of a row's table
abbrev pub width_at : List Table → ℕ → ℕ
width_at [] row = 0
width_at (t ∷ ts) row = if nat_lt row t.capacity then t.width else width_at ts (row - t.capacity)

-- how many old versions a row's position keeps
abbrev pub ring_at : List Table → ℕ → ℕ
ring_at [] row = 0
ring_at (t ∷ ts) row = if nat_lt row t.capacity then t.ring else ring_at ts (row - t.capacity)

-- where a row's position begins, counted from the first table's begin
abbrev pub row_at : List Table → ℕ → ℕ
row_at [] row = 0
row_at (t ∷ ts) row =
    if nat_lt row t.capacity then row * position_words t.width t.ring
    else table_words t + row_at ts (row - t.capacity)
