-- Counts don't wrap: the word of a row's count is how many versions were written there after the first one, and one
-- more from the write of the count to that of the header.
use Rattle.nam_calls.specs.Memory.{memory}
use Rattle.nam_catalog.specs.declared.shape.Shape.{Shape}
use Rattle.nam_ghost.specs.Ghost.{Ghost}
use Rattle.nam_ghost.specs.Law.{GroundOk}
use Rattle.nam_ghost.specs.Versions.{current_number}
use Rattle.nam_header.specs.Header.{flag}
use Rattle.nam_layout.specs.Address.{IsRow}
use Rattle.nam_layout.specs.declared.field.Field.TheVariants.{Count}
use Rattle.nam_store.specs.Store.{Store}
use Rattle.std.specs.Prelude.{ℕ, ◌+◌, ◌<◌, ◌≡◌, ◌^◌}

abbrev pub CountsLaw : Type 0
CountsLaw = (shape : Shape) (store : Store) (ghost : Ghost) → GroundOk shape store ghost → (row : ℕ) → IsRow shape row
    → let chain = ghost.chains row in
    memory shape store.words (Count row) ≡ current_number chain + flag chain.counted

-- and there is room for many more
abbrev pub RoomLaw : Type 0
RoomLaw = (shape : Shape) (store : Store) (ghost : Ghost) → GroundOk shape store ghost → (row : ℕ) → IsRow shape row
    → current_number (ghost.chains row) < 2 ^ 50
