-- which locks stand at each moment of a locking
use Rattle.std.specs.Prelude.{◌≡◌, ◌⊎◌, ℕ, ◌+◌, ◌<◌, ◌==◌, if◌then◌else◌, List, [], ◌∷◌, ◌++◌, length, take, flat_map}
use Rattle.nam_verbs.specs.declared.now.Now.{Now}
use Rattle.nam_verbs.specs.declared.now.Now.TheVariants.{At, Over}
use Rattle.nam_verbs.specs.VerbAt.{VerbAt, ReadAt, WriteAt, ExchangeAt}
use Rattle.nam_verbs.specs.Now.{FitsNow}
use Rattle.nam_verbs.specs.Machine.{after_words}
use Rattle.nam_verbs.specs.Steps.{Step, saw, writes_of, verbs_of}
use Rattle.nam_verbs.specs.SoFar.{steps_from, steps_by}
use Rattle.nam_layout.specs.declared.field.Field.{Field}
use Rattle.nam_layout.specs.declared.field.Place.{Place}
use Rattle.nam_calls.specs.declared.lock.LockPoint.{LockPoint}
use Rattle.nam_calls.specs.declared.lock.Locks.{Locks}
use Rattle.nam_calls.specs.declared.lock.LockPoint.TheVariants.{Peek, Seize, GiveBack}
use Rattle.nam_calls.specs.declared.lock.LockEnd.{LockEnd}
use Rattle.nam_calls.specs.declared.lock.LockEnd.TheVariants.{Held, Locked, Newer}
use Rattle.nam_calls.specs.Lock.{of_locks, header_field, lock_verb, lock_after, lock_next}
use Rattle.nam_header.specs.Stamp.{with_lock}
use Rattle.nam_lock.specs.Locking.{locking, running}
use Rattle.nam_lock.specs.LockingLaw.{form_at, IsFree, AreFree, header_of, locks_from, ReadsTaken, LosesExchange}

-- 1. The steps that led to a point

module _ {W : Type 0} (name : Place → W) (worker : ℕ) (places : List Place) (seen : List ℕ) where
  -- The records were free and were locked in order under these headers, the next one was missed by the word found, and
  -- so many of the headers were written back, in order; nothing else was done.
  pub record GivenSoFar (held : List ℕ) (given found : ℕ) (steps : List (Step W)) : Type 0 where
    pub free : AreFree places seen 0 held
    pub last : List (Step W)
    pub missed :
        ReadsTaken name worker places seen (length held) found last
        ⊎ LosesExchange name worker places seen (length held) found last
    pub back : List (Step W)
    pub written : verbs_of back ≡ writes_of (header_of name places) (take given held)
    pub steps_are : steps ≡ (locks_from name places worker 0 held ++ last) ++ back

  -- the locks that were taken so far, and what was done after the last of them
  abbrev pub LocksSoFar : List ℕ → LockPoint → List (Step W) → Type 0
  LocksSoFar held Peek steps =
      (length held < length places) × AreFree places seen 0 held × (steps ≡ locks_from name places worker 0 held)
  LocksSoFar held (Seize header) steps =
      (length held < length places) × AreFree places seen 0 held × IsFree places seen (length held) header
      × (steps ≡ locks_from name places worker 0 held ++ saw (header_of name places (length held)) header ∷ [])
  LocksSoFar held (GiveBack given found) steps =
      (length held < length places) × (given < length held) × GivenSoFar held given found steps

-- whatever words were found, these are the steps so far, until the locking has ended
abbrev pub MomentLaw : Type 0
MomentLaw = (worker : ℕ) (places : List Place) (seen words : List ℕ)
    → let call = running (locking worker places seen) in
    FitsNow (λ locks. of_locks (LocksSoFar (λ place. place) worker places seen) locks (steps_by call words))
    (after_words call words).state

-- the steps by which the protocol's call takes these words, at the header fields of rows
abbrev pub steps_at_fields : ℕ → List Place → List ℕ → List ℕ → List (Step Field)
steps_at_fields worker places seen words =
    steps_from (of_locks (lock_verb worker places)) (of_locks (lock_after places seen)) (lock_next places []) words

-- the same of the protocol's call, which stands where the machine does
abbrev pub MomentAtFields : Type 0
MomentAtFields = (worker : ℕ) (places : List Place) (seen words : List ℕ)
    → FitsNow (λ locks. of_locks (LocksSoFar header_field worker places seen) locks
    (steps_at_fields worker places seen words))
    (after_words (running (locking worker places seen)) words).state

-- 2. What was stored so far

-- a word that was stored under a name
pub record Stored (W : Type 0) : Type 0 where
  pub at : W
  pub word : ℕ

module _ {W : Type 0} where
  abbrev pub stored_at : W → ℕ → Stored W
  stored_at at word = record { at = at; word = word }

  -- what a verb stored that found this word: an exchange only where it found what it expected
  abbrev pub stored_by : VerbAt W → ℕ → List (Stored W)
  stored_by (ReadAt at) found = []
  stored_by (WriteAt at word) found = stored_at at word ∷ []
  stored_by (ExchangeAt at expected new) found = if found == expected then stored_at at new ∷ [] else []

  -- all that some steps stored, in order
  abbrev pub all_stored : List (Step W) → List (Stored W)
  all_stored steps = flat_map (λ (step : Step W). stored_by step.verb step.found) steps

module _ {W : Type 0} (name : Place → W) (worker : ℕ) (places : List Place) where
  -- headers of the records from this one on, with the worker's lock
  abbrev pub locked_from : ℕ → List ℕ → List (Stored W)
  locked_from nth [] = []
  locked_from nth (header ∷ headers) =
      stored_at (header_of name places nth) (with_lock (form_at places nth) worker header)
      ∷ locked_from (nth + 1) headers

  -- and as they were before
  abbrev pub unlocked_from : ℕ → List ℕ → List (Stored W)
  unlocked_from nth [] = []
  unlocked_from nth (header ∷ headers) =
      stored_at (header_of name places nth) header ∷ unlocked_from (nth + 1) headers

  -- the first so many headers were locked, and of these the first so many are again as they were; nothing else changed
  abbrev pub IsChanged : List ℕ → ℕ → List (Step W) → Type 0
  IsChanged held given steps = all_stored steps ≡ locked_from 0 held ++ unlocked_from 0 (take given held)

  -- how many headers were written back
  abbrev pub given_back : LockPoint → ℕ
  given_back Peek = 0
  given_back (Seize header) = 0
  given_back (GiveBack given found) = given

  -- an end without locks has given back each of them
  abbrev pub ChangedSoFar : Now Locks LockEnd → List (Step W) → Type 0
  ChangedSoFar (At locks) steps = IsChanged locks.held (given_back locks.at) steps
  ChangedSoFar (Over (Held held)) steps = IsChanged held 0 steps
  ChangedSoFar (Over (Locked nth found)) steps = (held : List ℕ) × (length held ≡ nth) × IsChanged held nth steps
  ChangedSoFar (Over (Newer nth found)) steps = (held : List ℕ) × (length held ≡ nth) × IsChanged held nth steps

-- whatever words were found, exactly so were headers changed
abbrev pub StoredLaw : Type 0
StoredLaw = (worker : ℕ) (places : List Place) (seen words : List ℕ)
    → let call = running (locking worker places seen) in
    ChangedSoFar (λ place. place) worker places (after_words call words).state (steps_by call words)

-- and by the protocol's call
abbrev pub StoredAtFields : Type 0
StoredAtFields = (worker : ℕ) (places : List Place) (seen words : List ℕ)
    → ChangedSoFar header_field worker places (after_words (running (locking worker places seen)) words).state
    (steps_at_fields worker places seen words)
