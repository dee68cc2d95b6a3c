-- Scanning a table position by position. At a key of the range the caller reads there or leaves the position.
use Rattle.std.specs.Prelude.{ℕ, ◌+◌, ◌-◌, ◌*◌, ◌==◌, ◌&&◌, nat_le, Bool, if◌then◌else◌, List}
use Rattle.si_model.specs.Rows.{key_at, item_at}
use Rattle.nam_verbs.specs.declared.now.Now.{Now}
use Rattle.nam_verbs.specs.declared.now.Now.TheVariants.{At, Over}
use Rattle.nam_verbs.specs.VerbAt.{VerbAt, ReadAt}
use Rattle.nam_catalog.specs.declared.shape.Shape.{Shape}
use Rattle.nam_layout.specs.Rows.{row_of}
use Rattle.nam_layout.specs.declared.field.Field.{Field}
use Rattle.nam_layout.specs.declared.field.Field.TheVariants as field
use Rattle.nam_calls.specs.declared.reading.ReadPoint.{ReadPoint}
use Rattle.nam_calls.specs.declared.reading.ReadingEnd.{ReadingEnd}
use Rattle.nam_calls.specs.Words.{capacity_of}
use Rattle.nam_calls.specs.Reading.{sight_of, read_begin, read_verb, read_after, read_left, read_most}
use Rattle.nam_calls.specs.declared.reading.ReadingEnd.TheVariants as read_end
use Rattle.nam_protocol.specs.declared.scan.ScanPoint.{ScanPoint}
use Rattle.nam_protocol.specs.declared.scan.ScanPoint.TheVariants.{ScanKey, ScanRead}
use Rattle.nam_protocol.specs.declared.scan.ScanAnswer.{ScanAnswer}
use Rattle.nam_protocol.specs.declared.scan.ScanAnswer.TheVariants.{Key, Row, Done, TooOld, Astray}

-- does a key word name a key from low to high
abbrev pub in_range : ℕ → ℕ → ℕ → Bool
in_range low high word = nat_le (low + 1) word && nat_le word (high + 1)

abbrev pub scan_begin : ScanPoint
scan_begin = ScanKey 0

-- the position is read, whose key this is
abbrev pub scan_read : ℕ → ℕ → Now ScanPoint ScanAnswer
scan_read position key = At (ScanRead position key read_begin)

-- the position of a point
abbrev pub position_of : ScanPoint → ℕ
position_of (ScanKey position) = position
position_of (ScanRead position key at) = position

abbrev pub on_scan_read : ℕ → ℕ → ℕ → Now ReadPoint ReadingEnd → Now ScanPoint ScanAnswer
on_scan_read table position key (At at) = At (ScanRead position key at)
on_scan_read table position key (Over (read_end.Got value)) = Over (Row (item_at (key_at table key) value))
on_scan_read table position key (Over (read_end.Passed worker entry horizon)) = Over (TooOld worker entry horizon)
on_scan_read table position key (Over read_end.Astray) = Over Astray

module _ (shape : Shape) (table : ℕ) where
  -- the position is left
  abbrev pub scan_skip : ℕ → Now ScanPoint ScanAnswer
  scan_skip position = if position + 1 == capacity_of shape table then Over Done else At (ScanKey (position + 1))

  abbrev pub scan_verb : ScanPoint → VerbAt Field
  scan_verb (ScanKey position) = ReadAt (field.Key (row_of shape.tables table position))
  scan_verb (ScanRead position key at) = read_verb (sight_of shape table position) at

  abbrev pub scan_after : ℕ → ℕ → List ℕ → ScanPoint → ℕ → Now ScanPoint ScanAnswer
  scan_after low high seen (ScanKey position) found =
      if in_range low high found then Over (Key (found - 1)) else scan_skip position
  scan_after low high seen (ScanRead position key at) found =
      on_scan_read table position key (read_after (sight_of shape table position) seen at found)

  -- so many positions, each with its key word and a whole read
  abbrev pub positions_left : ℕ → ℕ
  positions_left positions = positions * (1 + read_most shape table)

  abbrev pub scan_left : ScanPoint → ℕ
  scan_left (ScanKey position) = positions_left (capacity_of shape table - position)
  scan_left (ScanRead position key at) =
      read_left (sight_of shape table position) at + positions_left (capacity_of shape table - position - 1)
