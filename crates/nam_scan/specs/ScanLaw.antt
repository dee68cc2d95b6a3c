-- Where a scan answers, by the word that it found.
use Rattle.std.specs.Prelude.{◌≡◌, ◌↔◌, ℕ, ◌+◌, ◌-◌, true, false, List, Option}
use Rattle.si_model.specs.Rows.{key_at, item_at}
use Rattle.si_model.specs.declared.row.Item.{Item}
use Rattle.nam_verbs.specs.declared.now.Now.TheVariants.{Over}
use Rattle.nam_catalog.specs.declared.shape.Shape.{Shape}
use Rattle.nam_calls.specs.Words.{capacity_of}
use Rattle.nam_calls.specs.Reading.{sight_of, read_after}
use Rattle.nam_calls.specs.declared.reading.ReadPoint.{ReadPoint}
use Rattle.nam_calls.specs.declared.reading.ReadingEnd.{ReadingEnd}
use Rattle.nam_calls.specs.declared.reading.ReadingEnd.TheVariants.{Got, Passed}
use Rattle.nam_protocol.specs.declared.scan.ScanPoint.TheVariants.{ScanKey, ScanRead}
use Rattle.nam_protocol.specs.declared.scan.ScanAnswer.{ScanAnswer}
use Rattle.nam_protocol.specs.declared.scan.ScanAnswer.TheVariants.{Key, Row, Done, TooOld, Astray}
use Rattle.nam_protocol.specs.Scan.{in_range, scan_after, scan_skip}
use Rattle.nam_calls.specs.declared.reading.ReadingEnd.TheVariants as read_end

module _ (shape : Shape) (table low high : ℕ) (seen : List ℕ) where
  -- at the position's key word, after this word, the scan answers so
  abbrev pub KeyAnswers : ℕ → ℕ → ScanAnswer → Type 0
  KeyAnswers position found answer = scan_after shape table low high seen (ScanKey position) found ≡ Over answer

  -- at a point of the read there
  abbrev pub ReadAnswers : ℕ → ℕ → ReadPoint → ℕ → ScanAnswer → Type 0
  ReadAnswers position key at found answer =
      scan_after shape table low high seen (ScanRead position key at) found ≡ Over answer

  -- the read ends so
  abbrev pub ReadEndsSo : ℕ → ReadPoint → ℕ → ReadingEnd → Type 0
  ReadEndsSo position at found end = read_after (sight_of shape table position) seen at found ≡ Over end

-- a key exactly where the key word names one of the range, and that key
abbrev pub KeyLaw : Type 0
KeyLaw =
    (shape : Shape) (table low high : ℕ) (seen : List ℕ) (position found key : ℕ)
    → KeyAnswers shape table low high seen position found (Key key)
    ↔ ((in_range low high found ≡ true) × (key ≡ found - 1))

-- done, after a key word, exactly where it names none of the range and the position is the last
abbrev pub DoneLaw : Type 0
DoneLaw =
    (shape : Shape) (table low high : ℕ) (seen : List ℕ) (position found : ℕ)
    → KeyAnswers shape table low high seen position found Done
    ↔ ((in_range low high found ≡ false) × (position + 1 ≡ capacity_of shape table))

-- and, where a position is left, exactly where that is the last
abbrev pub LastLaw : Type 0
LastLaw =
    (shape : Shape) (table position : ℕ)
    → (scan_skip shape table position ≡ Over Done) ↔ (position + 1 ≡ capacity_of shape table)

-- the row of that key and of what the read got, and no other
abbrev pub RowLaw : Type 0
RowLaw =
    (shape : Shape) (table low high : ℕ) (seen : List ℕ) (position key : ℕ) (at : ReadPoint) (found : ℕ) (item : Item)
    → ReadAnswers shape table low high seen position key at found (Row item)
    ↔ ((value : Option (List ℕ)) × ReadEndsSo shape table low high seen position at found (Got value)
    × (item ≡ item_at (key_at table key) value))

-- too old exactly where the read ends so
abbrev pub TooOldLaw : Type 0
TooOldLaw =
    (shape : Shape) (table low high : ℕ) (seen : List ℕ) (position key : ℕ) (at : ReadPoint)
    (found worker entry horizon : ℕ)
    → ReadAnswers shape table low high seen position key at found (TooOld worker entry horizon)
    ↔ ReadEndsSo shape table low high seen position at found (Passed worker entry horizon)

-- astray exactly where the read goes astray
abbrev pub AstrayLaw : Type 0
AstrayLaw =
    (shape : Shape) (table low high : ℕ) (seen : List ℕ) (position key : ℕ) (at : ReadPoint) (found : ℕ)
    → ReadAnswers shape table low high seen position key at found Astray
    ↔ ReadEndsSo shape table low high seen position at found read_end.Astray
