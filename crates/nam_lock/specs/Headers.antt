-- the header words of places
use Rattle.std.specs.Prelude.{ℕ, ◌+◌, List, [], ◌∷◌}
use Rattle.nam_layout.specs.declared.field.Place.{Place}
use Rattle.nam_layout.specs.Place.{later}

abbrev pub header_address : Place → ℕ
header_address place = place.header_at

-- an address that is above that of each place's header
abbrev pub headers_end : List Place → ℕ
headers_end [] = 0
headers_end (place ∷ places) = later (header_address place + 1) (headers_end places)
