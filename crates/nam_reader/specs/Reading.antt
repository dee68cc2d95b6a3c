-- A read at a position as a value, and what it reaches.
use Rattle.std.specs.Prelude.{ℕ, ◌*◌, ◌≤◌, List, Option, Some, None}
use Rattle.std.specs.Option.{option_map}
use Rattle.nam_verbs.specs.declared.now.Now.{Now}
use Rattle.nam_verbs.specs.declared.now.Now.TheVariants.{At}
use Rattle.nam_verbs.specs.Now.{end_now}
use Rattle.nam_verbs.specs.Running.{Running}
use Rattle.nam_catalog.specs.declared.bounds.TheConstants.{MOST_WORKERS}
use Rattle.nam_layout.specs.declared.field.Field.{Field}
use Rattle.nam_layout.specs.declared.field.Place.{Place}
use Rattle.nam_layout.specs.declared.field.Cells.{Cells}
use Rattle.nam_layout.specs.Place.{known_address, place_end, cells_end, later}
use Rattle.nam_calls.specs.declared.reading.Sight.{Sight}
use Rattle.nam_calls.specs.declared.reading.ReadPoint.{ReadPoint}
use Rattle.nam_calls.specs.declared.reading.ReadingEnd.{ReadingEnd}
use Rattle.nam_calls.specs.declared.reading.ReadingEnd.TheVariants.{Got, Passed}
use Rattle.nam_calls.specs.Reading.{read_begin, read_verb, read_after, read_left}
use Rattle.nam_calls.specs.Fits.{SightFits, ReadFits}
use Rattle.nam_reader.specs.declared.end.ReaderEnd.{ReaderEnd}
use Rattle.nam_reader.specs.declared.end.ReaderEnd.TheVariants.{Present, Absent, TooOld}
use Rattle.nam_calls.specs.declared.reading.ReadingEnd.TheVariants as reading_end
use Rattle.nam_reader.specs.declared.end.ReaderEnd.TheVariants as reader_end

-- 1. Where the words stand

-- where the fields of the position, of its bucket's cells and of the workers stand
abbrev pub sight_address : Sight → Field → ℕ
sight_address sight = known_address sight.place sight.cells sight.workers

-- after the last of them
abbrev pub sight_end : Sight → ℕ
sight_end sight = later (2 * sight.workers) (later (place_end sight.place) (cells_end sight.cells))

abbrev pub sight_by : Place → Cells → ℕ → Sight
sight_by place cells workers = record { place = place; cells = cells; workers = workers }

-- 2. A read

-- where it looks, and where it stands
pub record Reads : Type 0 where
  pub sight : Sight
  pub state : Now ReadPoint ReadingEnd

-- a new read
abbrev pub reading : Sight → Reads
reading sight = record { sight = sight; state = At read_begin }

-- the same as a running call, under a snapshot
abbrev pub running : List ℕ → Reads → Running Field ReadPoint ReadingEnd
running seen a = record {
  address = sight_address a.sight;
  reach = sight_end a.sight;
  verb = read_verb a.sight;
  after = read_after a.sight seen;
  left = read_left a.sight;
  state = a.state;
}

-- a point fits where the read looks
pub record StandsIn (sight : Sight) (at : ReadPoint) : Type 0 where
  pub sight_fits : SightFits sight
  pub workers : sight.workers ≤ MOST_WORKERS
  pub at_fits : ReadFits sight at

-- 3. How it ended

-- the end without the words of the value
abbrev pub kind_of : ReadingEnd → ReaderEnd
kind_of (Got (Some value)) = Present
kind_of (Got None) = Absent
kind_of (Passed worker entry horizon) = TooOld worker entry horizon
kind_of reading_end.Astray = reader_end.Astray

abbrev pub ended : Now ReadPoint ReadingEnd → Option ReaderEnd
ended state = option_map kind_of (end_now state)
