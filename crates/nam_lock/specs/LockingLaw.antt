-- what the steps of a locking tell of its end
use Rattle.std.specs.Prelude.{◌≡◌, ◌≢◌, ◌⊎◌, ℕ, ◌+◌, ◌<◌, ◌↔◌, List, [], ◌∷◌, ◌++◌, length, true, false}
use Rattle.nam_verbs.specs.Steps.{Step, saw, tried, writes_of, verbs_of, Ends, EndsWith}
use Rattle.nam_catalog.specs.declared.form.Form.{Form}
use Rattle.nam_header.specs.Stamp.{sees, is_locked, with_lock}
use Rattle.nam_layout.specs.declared.field.Field.{Field}
use Rattle.nam_layout.specs.declared.field.Place.{Place}
use Rattle.nam_calls.specs.declared.lock.LockEnd.{LockEnd}
use Rattle.nam_calls.specs.declared.lock.LockEnd.TheVariants.{Held, Locked, Newer}
use Rattle.nam_calls.specs.Lock.{of_locks, nth_place, header_field, lock_verb, lock_after, lock_next}
use Rattle.nam_lock.specs.Locking.{locking, running}

-- 1. Records by their numbers, and their headers

module _ (places : List Place) where
  abbrev pub form_at : ℕ → Form
  form_at nth = (nth_place places nth).form

  -- somebody has locked the record under this header, or nobody has
  abbrev pub IsLocked : ℕ → ℕ → Type 0
  IsLocked nth header = is_locked (form_at nth) header ≡ true

  abbrev pub IsUnlocked : ℕ → ℕ → Type 0
  IsUnlocked nth header = is_locked (form_at nth) header ≡ false

  module _ (seen : List ℕ) where
    -- the snapshot sees the record's version, or doesn't see it
    abbrev pub IsSeen : ℕ → ℕ → Type 0
    IsSeen nth header = sees (form_at nth) seen header ≡ true

    abbrev pub IsUnseen : ℕ → ℕ → Type 0
    IsUnseen nth header = sees (form_at nth) seen header ≡ false

    abbrev pub IsFree : ℕ → ℕ → Type 0
    IsFree nth header = IsUnlocked nth header × IsSeen nth header

    -- the records from this one on are free under these headers
    abbrev pub AreFree : ℕ → List ℕ → Type 0
    AreFree nth [] = Unit {0}
    AreFree nth (header ∷ headers) = IsFree nth header × AreFree (nth + 1) headers

-- 2. Headers that have these names, and locks of a worker

module _ {W : Type 0} (name : Place → W) (places : List Place) where
  abbrev pub header_of : ℕ → W
  header_of nth = name (nth_place places nth)

  module _ (worker : ℕ) where
    -- the exchange of a header for the same with the lock, and the word that it found
    abbrev pub tried_lock : ℕ → ℕ → ℕ → Step W
    tried_lock nth header found =
        tried (header_of nth) header (with_lock (form_at places nth) worker header) found

    -- the records from this one on are locked: each header is read, and then found again by the exchange
    abbrev pub locks_from : ℕ → List ℕ → List (Step W)
    locks_from nth [] = []
    locks_from nth (header ∷ headers) =
        saw (header_of nth) header ∷ tried_lock nth header header ∷ locks_from (nth + 1) headers

module _ {W : Type 0} (name : Place → W) (worker : ℕ) (places : List Place) (seen : List ℕ) where
  -- all records were free, and were locked in order
  pub record LocksAll (steps : List (Step W)) (held : List ℕ) : Type 0 where
    pub whole : length held ≡ length places
    pub free : AreFree places seen 0 held
    pub steps_are : steps ≡ locks_from name places worker 0 held

  -- 3. A lock that is missed, and those that are given back then

  -- the header that was read is locked, or the snapshot doesn't see it
  abbrev pub ReadsTaken : ℕ → ℕ → List (Step W) → Type 0
  ReadsTaken nth found steps =
      (steps ≡ saw (header_of name places nth) found ∷ [])
      × (IsLocked places nth found ⊎ IsUnseen places seen nth found)

  -- the record was free, but the exchange found another word than the read
  pub record LosesExchange (nth found : ℕ) (steps : List (Step W)) : Type 0 where
    pub header : ℕ
    pub free : IsFree places seen nth header
    pub differs : found ≢ header
    pub steps_are : steps ≡ saw (header_of name places nth) header ∷ tried_lock name places worker nth header found ∷ []

  -- With these locks held this record was missed, by the word that was found. Then each header that was exchanged was
  -- written back as it was, in order, and nothing else was done.
  pub record GivesBack (held : List ℕ) (nth found : ℕ) (steps : List (Step W)) : Type 0 where
    pub within : nth < length places
    pub before : length held ≡ nth
    pub last : List (Step W)
    pub missed : ReadsTaken nth found last ⊎ LosesExchange nth found last
    pub back : List (Step W)
    pub written : verbs_of back ≡ writes_of (header_of name places) held
    pub steps_are : steps ≡ last ++ back

  -- the records before this one were free and were locked in order, and this one was missed
  pub record MissesLock (nth found : ℕ) (steps : List (Step W)) : Type 0 where
    pub held : List ℕ
    pub free : AreFree places seen 0 held
    pub rest : List (Step W)
    pub missed : GivesBack held nth found rest
    pub steps_are : steps ≡ locks_from name places worker 0 held ++ rest

  -- 4. The ends

  -- what the steps of a locking are that ends so
  abbrev pub IsLockingOf : LockEnd → List (Step W) → Type 0
  IsLockingOf (Held held) steps = LocksAll steps held
  IsLockingOf (Locked nth found) steps = MissesLock nth found steps × IsLocked places nth found
  IsLockingOf (Newer nth found) steps = MissesLock nth found steps × IsUnlocked places nth found

-- a locking ends so exactly with such steps
abbrev pub LockingLaw : Type 0
LockingLaw = (worker : ℕ) (places : List Place) (seen : List ℕ) (steps : List (Step Place)) (end : LockEnd)
    → EndsWith (running (locking worker places seen)) steps end
    ↔ IsLockingOf (λ place. place) worker places seen end steps

-- the same of the protocol's call, at the header fields of rows
abbrev pub LockingAtFields : Type 0
LockingAtFields = (worker : ℕ) (places : List Place) (seen : List ℕ) (steps : List (Step Field)) (end : LockEnd)
    → Ends (of_locks (lock_verb worker places)) (of_locks (lock_after places seen)) (lock_next places []) steps end
    ↔ IsLockingOf header_field worker places seen end steps
