-- What calls read from header words, and the words that they write.
use Rattle.std.specs.Prelude.{ℕ, ◌-◌, ◌<◌, ◌==◌, ◌&&◌, nat_le, Bool, false, not, List, length, slice_index}
use Rattle.si_model.specs.declared.log.Stamp.{Stamp}
use Rattle.nam_catalog.specs.declared.form.Form.{Form}
use Rattle.nam_header.specs.Header.{fields_of, word_of, header_of}
use Rattle.nam_header.specs.Flag as flag
use Rattle.nam_header.specs.Visible.{is_visible}

-- a header word of this form can bear the stamp
pub record FitsStamp (form : Form) (stamp : Stamp) : Type 0 where
  pub thread : stamp.thread < (fields_of form).threads
  pub number : stamp.number < (fields_of form).numbers

abbrev pub stamp_in : Form → ℕ → Stamp
stamp_in form word = (header_of form word).stamp

abbrev pub is_locked : Form → ℕ → Bool
is_locked form word = (header_of form word).locked

abbrev pub is_deleted : Form → ℕ → Bool
is_deleted form word = (header_of form word).deleted

abbrev pub is_moved : Form → ℕ → Bool
is_moved form word = (header_of form word).moved

-- do the two words bear one stamp
abbrev pub same_stamp : Form → ℕ → ℕ → Bool
same_stamp form a b =
    ((stamp_in form a).thread == (stamp_in form b).thread) && ((stamp_in form a).number == (stamp_in form b).number)

-- does the snapshot see the word's stamp
abbrev pub sees : Form → List ℕ → ℕ → Bool
sees form seen word = is_visible (stamp_in form word) seen

-- is a worker's stamp within a horizon
abbrev pub is_within : Stamp → List ℕ → Bool
is_within stamp horizon =
    not (stamp.thread == 0)
    && nat_le stamp.thread (length horizon)
    && nat_le stamp.number (slice_index horizon (stamp.thread - 1))

-- the word locked by a worker
abbrev pub with_lock : Form → ℕ → ℕ → ℕ
with_lock form worker word = word_of form (flag.locked_by worker form word)

-- the word of a version that was moved, and the word before it was
abbrev pub with_moved : Form → ℕ → ℕ
with_moved form word = word_of form (flag.moved form word)

abbrev pub without_moved : Form → ℕ → ℕ
without_moved form word = word_of form (record (header_of form word) { moved = false })

-- the header word of a new version
abbrev pub version_word : Form → Stamp → Bool → ℕ
version_word form stamp deleted =
    word_of form record { stamp = stamp; moved = false; deleted = deleted; locked = false; holder = 0 }

-- the word of a stamp without flags
abbrev pub stamp_word : Form → Stamp → ℕ
stamp_word form stamp = version_word form stamp false

-- the header of a position without a version, and the mark of a slot without one
abbrev pub blank_header : ℕ
blank_header = 2

abbrev pub mark : ℕ
mark = 5
