-- Tags of cells: a generation, and whether the cell is free, being written or full.
use Rattle.std.specs.Prelude.{ℕ, ◌+◌, ◌-◌, ◌*◌, ◌/◌, ◌%◌, ◌^◌, ◌==◌, nat_lt, Bool, if◌then◌else◌}

abbrev pub state_of : ℕ → ℕ
state_of tag = tag % 4

abbrev pub generation_of : ℕ → ℕ
generation_of tag = tag / 4

abbrev pub is_free : ℕ → Bool
is_free tag = state_of tag == 0

abbrev pub is_full : ℕ → Bool
is_full tag = state_of tag == 2

-- the tag of the same generation that says it is being written, or full
abbrev pub written : ℕ → ℕ
written tag = generation_of tag * 4 + 1

abbrev pub full : ℕ → ℕ
full tag = generation_of tag * 4 + 2

-- has the generation a next one
abbrev pub has_next : ℕ → Bool
has_next tag = nat_lt (generation_of tag) (2 ^ 62 - 1)

-- the free tag of the next generation; the last one stays as it is
abbrev pub freed : ℕ → ℕ
freed tag = if has_next tag then (generation_of tag + 1) * 4 else tag
