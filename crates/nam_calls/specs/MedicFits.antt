-- What holds of each point of the medic, which of its words it may still write, and which field it may change.
use Rattle.std.specs.List.{AllByRecursion}
use Rattle.std.specs.Prelude.{ℕ, ◌<◌, ◌≤◌, List, length, Option, Some, None}
use Rattle.nam_catalog.specs.declared.bounds.TheConstants.{MOST_KEYS}
use Rattle.nam_catalog.specs.declared.shape.Shape.{Shape}
use Rattle.nam_catalog.specs.Greatest.{greatest_number}
use Rattle.nam_layout.specs.declared.field.Field.{Field}
use Rattle.nam_layout.specs.declared.field.Field.TheVariants.{Entry, Header}
use Rattle.nam_layout.specs.Address.{IsRow}
use Rattle.nam_layout.specs.Place.{place_at}
use Rattle.nam_calls.specs.declared.medic.Walk.{Walk}
use Rattle.nam_calls.specs.declared.medic.NextVersion.{NextVersion}
use Rattle.nam_calls.specs.declared.medic.MedicPoint.{MedicPoint}
use Rattle.nam_calls.specs.declared.medic.MedicPoint.TheVariants.{MedicState, UndoRow, UndoHead, UndoBack, UndoClear}
use Rattle.nam_calls.specs.declared.medic.MedicPoint.TheVariants.{RollNumber, RollRow, RollKind, RollCount, RollData}
use Rattle.nam_calls.specs.declared.medic.MedicPoint.TheVariants.{RollHead, RollSlot, RollOld, RollCopy, RollInstall}
use Rattle.nam_calls.specs.declared.medic.MedicPoint.TheVariants.{RollEntry, GuardRow, GuardKind, GuardHead}
use Rattle.nam_calls.specs.declared.medic.MedicPoint.TheVariants.{GuardBack, RollClear}
use Rattle.nam_calls.specs.Intent.{state_field}
use Rattle.nam_calls.specs.Fits.{HasWidth, WordsFit, WordsEnd, InstallFits, CopyFits}
use Rattle.nam_calls.specs.Holds.{IsWord, AreWords, HasWords}
use Rattle.nam_calls.specs.Writes.{copy_writes, install_writes}

-- 1. What fits

-- a record that an intent may list
abbrev pub IsListed : ℕ → Type 0
IsListed nth = nth < MOST_KEYS

-- one of so many
abbrev pub IsRecordOf : ℕ → ℕ → Type 0
IsRecordOf records nth = (records ≤ MOST_KEYS) × (nth < records)

-- guards are listed records, and there are no more of them than a commit has records
pub record GuardsFit (guards : List ℕ) : Type 0 where
  pub few : length guards ≤ MOST_KEYS
  pub are_listed : AllByRecursion IsListed guards

-- each guard that was found stands before the record at hand
pub record WalkFits (shape : Shape) (walk : Walk) : Type 0 where
  pub is_record : IsRecordOf walk.records walk.nth
  pub number : walk.number ≤ greatest_number shape.form
  pub before : length walk.guards ≤ walk.nth
  pub are_listed : AllByRecursion IsListed walk.guards

module _ (shape : Shape) where
  abbrev pub NextFits : NextVersion → Type 0
  NextFits next = IsRow shape next.row × HasWidth (place_at shape next.row).width next.value

  abbrev pub GuardFits : List ℕ → ℕ → Type 0
  GuardFits guards passed = GuardsFit guards × (passed < length guards)

  abbrev pub MedicFits : MedicPoint → Type 0
  MedicFits MedicState = Unit {0}
  MedicFits (UndoRow records nth) = IsRecordOf records nth
  MedicFits (UndoHead records nth row) = IsRecordOf records nth × IsRow shape row
  MedicFits (UndoBack records nth row header) = IsRecordOf records nth × IsRow shape row
  MedicFits UndoClear = Unit {0}
  MedicFits (RollNumber records) = records ≤ MOST_KEYS
  MedicFits (RollRow walk) = WalkFits shape walk
  MedicFits (RollKind walk row) = WalkFits shape walk × IsRow shape row
  MedicFits (RollCount walk row deleted) = WalkFits shape walk × IsRow shape row
  MedicFits (RollData walk row count got) = WalkFits shape walk × IsRow shape row × WordsFit (place_at shape row) got
  MedicFits (RollHead walk next) = WalkFits shape walk × NextFits next
  MedicFits (RollSlot walk next header) = WalkFits shape walk × NextFits next
  MedicFits (RollOld walk next header got) =
      WalkFits shape walk × NextFits next × WordsFit (place_at shape next.row) got
  MedicFits (RollCopy walk next header old at) =
      WalkFits shape walk × NextFits next × WordsEnd (place_at shape next.row) old
      × CopyFits (place_at shape next.row) at
  MedicFits (RollInstall walk next at) = WalkFits shape walk × NextFits next × InstallFits (place_at shape next.row) at
  MedicFits (RollEntry number guards) = (number ≤ greatest_number shape.form) × GuardsFit guards
  MedicFits (GuardRow guards passed) = GuardFits guards passed
  MedicFits (GuardKind guards passed row) = GuardFits guards passed × IsRow shape row
  MedicFits (GuardHead guards passed row) = GuardFits guards passed × IsRow shape row
  MedicFits (GuardBack guards passed row header) = GuardFits guards passed × IsRow shape row
  MedicFits RollClear = Unit {0}

-- 2. Words below 2^64: the headers that it may still write back, and the values

abbrev pub MedicHolds : MedicPoint → Type 0
MedicHolds MedicState = Unit {0}
MedicHolds (UndoRow records nth) = Unit {0}
MedicHolds (UndoHead records nth row) = Unit {0}
MedicHolds (UndoBack records nth row header) = IsWord header
MedicHolds UndoClear = Unit {0}
MedicHolds (RollNumber records) = Unit {0}
MedicHolds (RollRow walk) = Unit {0}
MedicHolds (RollKind walk row) = Unit {0}
MedicHolds (RollCount walk row deleted) = Unit {0}
MedicHolds (RollData walk row count got) = AreWords got
MedicHolds (RollHead walk next) = HasWords next.value
MedicHolds (RollSlot walk next header) = HasWords next.value × IsWord header
MedicHolds (RollOld walk next header got) = HasWords next.value × IsWord header × AreWords got
MedicHolds (RollCopy walk next header old at) = HasWords next.value × IsWord header × AreWords old
MedicHolds (RollInstall walk next at) = HasWords next.value
MedicHolds (RollEntry number guards) = Unit {0}
MedicHolds (GuardRow guards passed) = Unit {0}
MedicHolds (GuardKind guards passed row) = Unit {0}
MedicHolds (GuardHead guards passed row) = Unit {0}
MedicHolds (GuardBack guards passed row header) = IsWord header
MedicHolds RollClear = Unit {0}

-- 3. The field that the verb of a point may change

abbrev pub medic_writes : Shape → ℕ → MedicPoint → Option Field
medic_writes shape worker (UndoBack records nth row header) = Some (Header row)
medic_writes shape worker UndoClear = Some (state_field worker)
medic_writes shape worker (RollCopy walk next header old at) = copy_writes (place_at shape next.row) next.count at
medic_writes shape worker (RollInstall walk next at) = install_writes (place_at shape next.row) at
medic_writes shape worker (RollEntry number guards) = Some (Entry worker)
medic_writes shape worker (GuardBack guards passed row header) = Some (Header row)
medic_writes shape worker RollClear = Some (state_field worker)
medic_writes shape worker _ = None
