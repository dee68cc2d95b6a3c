-- The versions of a record: what is known of them beside the words, and how words say a version.
use Rattle.nam_catalog.specs.declared.form.Form.{Form}
use Rattle.nam_header.specs.Flag.{holder_named}
use Rattle.nam_header.specs.Header.{word_of}
use Rattle.nam_header.specs.declared.header.Header.{Header}
use Rattle.nam_layout.specs.declared.field.Field.{Field}
use Rattle.nam_layout.specs.declared.field.Field.TheVariants.{Begin, CellWord, Count, End, Owner, SlotEnd, SlotHeader}
use Rattle.nam_layout.specs.declared.field.Field.TheVariants.{SlotWord, Tag, Word}
use Rattle.si_model.specs.Lists.{Listed}
use Rattle.si_model.specs.declared.log.Stamp.{Stamp}
use Rattle.std.specs.Prelude.{Bool, List, None, Option, Some, [], false, if◌then◌else◌, is_some, length, nat_lt, not}
use Rattle.std.specs.Prelude.{slice_get, slice_index, suc, ℕ, ◌&&◌, ◌++◌, ◌<◌, ◌==◌, ◌∷◌, ◌≡◌}
use Rattle.nam_layout.specs.declared.field.Field.TheVariants as field

-- 1. Versions

-- a version: its stamp, its value, which a deletion has none of, and the snapshot of the transaction that wrote it
pub record Version : Type 0 where
  pub stamp : Stamp
  pub value : Option (List ℕ)
  pub seen : List ℕ

-- The version chain of a position: the versions before the current one, the oldest first, and the current one, which
-- the header bears. The worker that holds the lock, 0 where none does. How far that holder is: whether it has written a
-- data word of its version over the current one's, and whether it has written the count.
pub record Chain : Type 0 where
  pub old : List Version
  pub now : Version
  pub holder : ℕ
  pub dirty : Bool
  pub counted : Bool

-- versions count from 0: version 0 is the loader's, and the current one has as its number how many are old
abbrev pub versions : Chain → List Version
versions chain = chain.old ++ chain.now ∷ []

abbrev pub current_number : Chain → ℕ
current_number chain = length chain.old

-- the version of this number; a chain only grows, so it stays the version of its number
abbrev pub IsNth : Chain → ℕ → Version → Type 0
IsNth chain number version = slice_get (versions chain) number ≡ Some version

abbrev pub IsVersion : Chain → Version → Type 0
IsVersion chain version = Listed version (versions chain)

-- the number of the first version with this stamp; since no stamp comes twice in a chain, it is that version's number
unfoldable pub number_by : List Version → Stamp → ℕ
number_by [] stamp = 0
number_by (v ∷ vs) stamp =
    if (v.stamp.thread == stamp.thread) && (v.stamp.number == stamp.number) then 0 else suc (number_by vs stamp)

-- 2. Words that say a version

-- so many words are the value's first ones; a deletion has no words, so any will do
abbrev pub HasData : ℕ → (ℕ → ℕ) → Option (List ℕ) → Type 0
HasData count body None = Unit {0}
HasData count body (Some value) = (nth : ℕ) → nth < count → body nth ≡ slice_index value nth

-- what a reader has got so far are the value's first words
abbrev pub HasGot : List ℕ → Option (List ℕ) → Type 0
HasGot got value = HasData (length got) (slice_index got) value

-- the header of a position's current version, under the lock of a worker, or of none (0); in form Held it names the
-- holder
abbrev pub current_header : Form → ℕ → Version → Header
current_header form holder version = record {
  stamp = version.stamp;
  moved = false;
  deleted = not (is_some version.value);
  locked = nat_lt 0 holder;
  holder = holder_named form holder;
}

abbrev pub current_word : Form → ℕ → Version → ℕ
current_word form holder version = word_of form (current_header form holder version)

-- the header of an old version: in a slot, with the moved flag once it was moved; in a cell always without it
abbrev pub old_header : Bool → Version → Header
old_header moved version = record {
  stamp = version.stamp;
  moved = moved;
  deleted = not (is_some version.value);
  locked = false;
  holder = 0;
}

abbrev pub old_word : Form → Bool → Version → ℕ
old_word form moved version = word_of form (old_header moved version)

-- 3. The words of a position's current version, of a slot and of a cell, by themselves

pub record RecordImage : Type 0 where
  pub header : ℕ
  pub count : ℕ
  pub body : ℕ → ℕ

pub record SlotImage : Type 0 where
  pub header : ℕ
  pub ending : ℕ
  pub body : ℕ → ℕ

pub record CellImage : Type 0 where
  pub tag : ℕ
  pub owner : ℕ
  pub begin : ℕ
  pub ending : ℕ
  pub body : ℕ → ℕ

module _ (m : Field → ℕ) where
  abbrev pub record_image : ℕ → RecordImage
  record_image row = record { header = m (field.Header row); count = m (Count row); body = λ nth. m (Word row nth) }

  abbrev pub slot_image : ℕ → ℕ → SlotImage
  slot_image row slot = record {
    header = m (SlotHeader row slot);
    ending = m (SlotEnd row slot);
    body = λ nth. m (SlotWord row slot nth);
  }

  abbrev pub cell_image : ℕ → ℕ → CellImage
  cell_image bucket cell = record {
    tag = m (Tag bucket cell);
    owner = m (Owner bucket cell);
    begin = m (Begin bucket cell);
    ending = m (End bucket cell);
    body = λ nth. m (CellWord bucket cell nth);
  }
