-- Locking records in order, and writing headers back.
use Rattle.std.specs.Prelude.{if◌then◌else◌, ℕ, ◌+◌, ◌-◌, ◌*◌, ◌==◌, List, [], ◌∷◌, ◌++◌, length, slice_index}
use Rattle.std.specs.Prelude.{slice_index_or}
use Rattle.nam_verbs.specs.declared.now.Now.{Now}
use Rattle.nam_verbs.specs.declared.now.Now.TheVariants.{At, Over}
use Rattle.nam_verbs.specs.VerbAt.{VerbAt, ReadAt, WriteAt, ExchangeAt}
use Rattle.nam_catalog.specs.declared.form.Form.{Form}
use Rattle.nam_header.specs.Stamp.{is_locked, sees, with_lock}
use Rattle.nam_layout.specs.declared.field.Place.{Place}
use Rattle.nam_layout.specs.Place.{no_place}
use Rattle.nam_layout.specs.declared.field.Field.{Field}
use Rattle.nam_layout.specs.declared.field.Field.TheVariants as field
use Rattle.nam_calls.specs.declared.lock.LockPoint.{LockPoint}
use Rattle.nam_calls.specs.declared.lock.LockPoint.TheVariants.{Peek, Seize, GiveBack}
use Rattle.nam_calls.specs.declared.lock.Locks.{Locks}
use Rattle.nam_calls.specs.declared.lock.LockEnd.{LockEnd}
use Rattle.nam_calls.specs.declared.lock.LockEnd.TheVariants.{Held, Locked, Newer}

abbrev pub nth_place : List Place → ℕ → Place
nth_place places nth = slice_index_or places nth no_place

-- the header of a place
abbrev pub header_field : Place → Field
header_field place = field.Header place.row

-- 1. LockAll: record after record its header is read, and exchanged for the same with the lock. The headers of the
-- locks that were taken stand beside the point.

abbrev pub locks_at : List ℕ → LockPoint → Locks
locks_at held at = record { held = held; at = at }

-- what a function says of them and of the point, as one value
abbrev pub of_locks {ℓ} : {A : Type ℓ} → (List ℕ → LockPoint → A) → Locks → A
of_locks f locks = f locks.held locks.at

abbrev pub lock_begin : LockPoint
lock_begin = Peek

-- the verb of each point, where headers have these names
abbrev pub lock_verb_by : {W : Type 0} → (Place → W) → ℕ → List Place → List ℕ → LockPoint → VerbAt W
lock_verb_by name worker places held Peek = ReadAt (name (nth_place places (length held)))
lock_verb_by name worker places held (Seize header) =
    let place = nth_place places (length held) in
    ExchangeAt (name place) header (with_lock place.form worker header)
lock_verb_by name worker places held (GiveBack given found) =
    WriteAt (name (nth_place places given)) (slice_index held given)

abbrev pub lock_verb : ℕ → List Place → List ℕ → LockPoint → VerbAt Field
lock_verb = lock_verb_by header_field

-- what the header found in the way of the next lock says
abbrev pub loss_of : Form → ℕ → ℕ → LockEnd
loss_of form nth found = if is_locked form found then Locked nth found else Newer nth found

abbrev pub give_back : List Place → List ℕ → ℕ → ℕ → Now Locks LockEnd
give_back places held given found =
    if given == length held then Over (loss_of (nth_place places (length held)).form (length held) found)
    else At (locks_at held (GiveBack given found))

abbrev pub lock_next : List Place → List ℕ → Now Locks LockEnd
lock_next places held = if length held == length places then Over (Held held) else At (locks_at held Peek)

-- one header more is held exactly where an exchange found what it expected
abbrev pub lock_after : List Place → List ℕ → List ℕ → LockPoint → ℕ → Now Locks LockEnd
lock_after places seen held Peek found =
    let form = (nth_place places (length held)).form in
    if is_locked form found then give_back places held 0 found
    else if sees form seen found then At (locks_at held (Seize found))
    else give_back places held 0 found
lock_after places seen held (Seize header) found =
    if found == header then lock_next places (held ++ header ∷ []) else give_back places held 0 found
lock_after places seen held (GiveBack given found) word = give_back places held (given + 1) found

-- what follows the locks takes no more than rest, which is no less than the number of records
abbrev pub lock_left : List Place → ℕ → List ℕ → LockPoint → ℕ
lock_left places rest held Peek = 2 * (length places - length held) + rest
lock_left places rest held (Seize header) = 2 * (length places - length held) - 1 + rest
lock_left places rest held (GiveBack given found) = length held - given

-- 2. UnlockAll: the point is the number of headers written back

abbrev pub unlock_begin : List Place → Now ℕ (Unit {0})
unlock_begin places = if length places == 0 then Over tt else At 0

abbrev pub unlock_verb_by : {W : Type 0} → (Place → W) → List Place → List ℕ → ℕ → VerbAt W
unlock_verb_by name places headers given = WriteAt (name (nth_place places given)) (slice_index headers given)

abbrev pub unlock_verb : List Place → List ℕ → ℕ → VerbAt Field
unlock_verb = unlock_verb_by header_field

abbrev pub unlock_after : List Place → ℕ → Now ℕ (Unit {0})
unlock_after places given = if given + 1 == length places then Over tt else At (given + 1)

abbrev pub unlock_left : List Place → ℕ → ℕ
unlock_left places given = length places - given
