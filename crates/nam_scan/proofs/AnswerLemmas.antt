-- Where a scan answers, by the word that it found.
use Rattle.std.proofs.Common.{◌≡◌, ℕ, ◌+◌, ◌-◌, Bool, true, false, List, Option, refl, arith}
use Rattle.si_model.specs.declared.row.Item.{Item}
use Rattle.si_model.specs.Rows.{key_at, item_at}
use Rattle.nam_calls.specs.Words.{capacity_of}
use Rattle.nam_calls.specs.Reading.{sight_of, read_after}
use Rattle.std.specs.Prelude.{◌==◌, if◌then◌else◌, ◌↔◌}
use Rattle.std.proofs.lemmas.Bool.Decides.{nat_tests}
use Rattle.nam_verbs.specs.declared.now.Now.{Now}
use Rattle.nam_verbs.specs.declared.now.Now.TheVariants.{At, Over}
use Rattle.nam_calls.specs.declared.reading.ReadPoint.{ReadPoint}
use Rattle.nam_calls.specs.declared.reading.ReadingEnd.{ReadingEnd}
use Rattle.nam_calls.specs.declared.reading.ReadingEnd.TheVariants.{Got, Passed}
use Rattle.nam_protocol.specs.declared.scan.ScanPoint.{ScanPoint}
use Rattle.nam_protocol.specs.declared.scan.ScanPoint.TheVariants.{ScanKey}
use Rattle.nam_protocol.specs.declared.scan.ScanAnswer.{ScanAnswer}
use Rattle.nam_protocol.specs.declared.scan.ScanAnswer.TheVariants.{Key, Row, Done, TooOld, Astray}
use Rattle.nam_protocol.specs.Scan.{in_range, on_scan_read}
use Rattle.nam_calls.specs.declared.reading.ReadingEnd.TheVariants as read_end
use Rattle.nam_scan.specs.ScanLaw.{KeyLaw, DoneLaw, LastLaw, RowLaw, TooOldLaw, AstrayLaw}

-- the position after this one, or the end
abbrev next : ℕ → ℕ → Now ScanPoint ScanAnswer
next capacity position = if position + 1 == capacity then Over Done else At (ScanKey (position + 1))

abbrev after : Bool → ℕ → ℕ → ℕ → Now ScanPoint ScanAnswer
after within found capacity position = if within then Over (Key (found - 1)) else next capacity position

no_key : (test : Bool) (position key : ℕ)
    → (if test then Over Done else At (ScanKey (position + 1))) ≡ Over (Key key) → ⊥
no_key true position key same = absurd (cc)
no_key false position key same = absurd (cc)

last_of : (test : Bool) (position : ℕ)
    → (if test then Over Done else At (ScanKey (position + 1))) ≡ Over Done → test ≡ true
last_of true position same = refl
last_of false position same = absurd (cc)

is_last : (capacity position : ℕ) → next capacity position ≡ Over Done ↔ (position + 1 ≡ capacity)
is_last capacity position = (
  λ same. let test = last_of (position + 1 == capacity) position same in grind (arith, nat_tests),
  λ same. let test : (position + 1 == capacity) ≡ true = grind (arith, nat_tests) in rw test refl,
)

key_of : (within : Bool) (found capacity position key : ℕ) → after within found capacity position ≡ Over (Key key)
    → (within ≡ true) × (key ≡ found - 1)
key_of true found capacity position key same = (refl, cc)
key_of false found capacity position key same = absurd (no_key (position + 1 == capacity) position key same)

done_of : (within : Bool) (found capacity position : ℕ) → after within found capacity position ≡ Over Done
    → (within ≡ false) × (position + 1 ≡ capacity)
done_of true found capacity position same = absurd (cc)
done_of false found capacity position same = (refl, (is_last capacity position).0 same)

pub answers_key : KeyLaw
answers_key shape table low high seen position found key = (
  key_of (in_range low high found) found (capacity_of shape table) position key,
  λ told. rw (told.0, told.1) refl,
)

pub done : DoneLaw
done shape table low high seen position found = (
  done_of (in_range low high found) found (capacity_of shape table) position,
  λ told. rw told.0 ((is_last (capacity_of shape table) position).1 told.1),
)

pub last : LastLaw
last shape table position = is_last (capacity_of shape table) position

row_of : (table position key : ℕ) (now : Now ReadPoint ReadingEnd) (item : Item)
    → on_scan_read table position key now ≡ Over (Row item)
    → (value : Option (List ℕ)) × (now ≡ Over (Got value)) × (item ≡ item_at (key_at table key) value)
row_of table position key (At at) item same = absurd (cc)
row_of table position key (Over (Got value)) item same = (value, refl, cc)
row_of table position key (Over (Passed worker entry horizon)) item same = absurd (cc)
row_of table position key (Over read_end.Astray) item same = absurd (cc)

too_old_of : (table position key : ℕ) (now : Now ReadPoint ReadingEnd) (worker entry horizon : ℕ)
    → on_scan_read table position key now ≡ Over (TooOld worker entry horizon)
    → now ≡ Over (Passed worker entry horizon)
too_old_of table position key (At at) worker entry horizon same = absurd (cc)
too_old_of table position key (Over (Got value)) worker entry horizon same = absurd (cc)
too_old_of table position key (Over (Passed w e h)) worker entry horizon same = cc
too_old_of table position key (Over read_end.Astray) worker entry horizon same = absurd (cc)

astray_of : (table position key : ℕ) (now : Now ReadPoint ReadingEnd)
    → on_scan_read table position key now ≡ Over Astray → now ≡ Over read_end.Astray
astray_of table position key (At at) same = absurd (cc)
astray_of table position key (Over (Got value)) same = absurd (cc)
astray_of table position key (Over (Passed worker entry horizon)) same = absurd (cc)
astray_of table position key (Over read_end.Astray) same = refl

pub row : RowLaw
row shape table low high seen position key at found item = (
  row_of table position key (read_after (sight_of shape table position) seen at found) item,
  λ told. rw (told.2, told.1) refl,
)

pub too_old : TooOldLaw
too_old shape table low high seen position key at found worker entry horizon = (
  too_old_of table position key (read_after (sight_of shape table position) seen at found) worker entry horizon,
  λ told. rw told refl,
)

pub astray : AstrayLaw
astray shape table low high seen position key at found = (
  astray_of table position key (read_after (sight_of shape table position) seen at found),
  λ told. rw told refl,
)
