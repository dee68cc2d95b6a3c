-- What a read at a position reaches.
use Rattle.std.specs.Prelude.{ℕ, ◌*◌}
use Rattle.nam_layout.specs.declared.field.Field.{Field}
use Rattle.nam_layout.specs.Place.{known_address, place_end, cells_end, later}
use Rattle.nam_calls.specs.declared.reading.Sight.{Sight}

-- where the fields of the position, of its bucket's cells and of the workers stand
abbrev pub sight_address : Sight → Field → ℕ
sight_address sight = known_address sight.place sight.cells sight.workers

-- after the last of them
abbrev pub sight_end : Sight → ℕ
sight_end sight = later (2 * sight.workers) (later (place_end sight.place) (cells_end sight.cells))
