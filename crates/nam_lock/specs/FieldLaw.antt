-- each verb is at the header of a record's row
use Rattle.std.specs.Prelude.{◌≡◌, ℕ, List, All, map}
use Rattle.nam_verbs.specs.VerbAt.{VerbAt, target, verb_by}
use Rattle.nam_verbs.specs.Machine.{Always}
use Rattle.nam_catalog.specs.declared.shape.Shape.{Shape}
use Rattle.nam_layout.specs.declared.field.Field.{Field}
use Rattle.nam_layout.specs.declared.field.Place.{Place}
use Rattle.nam_layout.specs.Address.{IsRow, IsField, address}
use Rattle.nam_layout.specs.Place.{place_at}
use Rattle.nam_calls.specs.Lock.{of_locks, lock_verb_by, lock_verb, unlock_verb_by, unlock_verb}
use Rattle.nam_lock.specs.Headers.{header_address}
use Rattle.nam_lock.specs.Locking.{locking}
use Rattle.nam_lock.specs.Locking as lock
use Rattle.nam_lock.specs.Unlocking.{unlocking}
use Rattle.nam_lock.specs.Unlocking as unlock

-- the places of these rows
abbrev pub places_of : Shape → List ℕ → List Place
places_of shape rows = map (place_at shape) rows

-- a verb at the header of a place is the same as one at a field of the shape
pub record IsAtField (shape : Shape) (verb : VerbAt Place) (at_field : VerbAt Field) : Type 0 where
  pub same : verb_by header_address verb ≡ verb_by (address shape) at_field
  pub is_field : IsField shape (target at_field)

-- whatever words are found, each verb is the protocol's at the header of a row
abbrev pub LockingFieldLaw : Type 0
LockingFieldLaw = (shape : Shape) (rows : List ℕ) → All (IsRow shape) rows → (worker : ℕ) (seen : List ℕ)
    → let places = places_of shape rows in
    Always (λ locks. IsAtField shape (of_locks (lock_verb_by (λ place. place) worker places) locks)
    (of_locks (lock_verb worker places) locks))
    (lock.running (locking worker places seen))

abbrev pub UnlockingFieldLaw : Type 0
UnlockingFieldLaw = (shape : Shape) (rows : List ℕ) → All (IsRow shape) rows → (headers : List ℕ)
    → let places = places_of shape rows in
    Always (λ given. IsAtField shape (unlock_verb_by (λ place. place) places headers given)
    (unlock_verb places headers given))
    (unlock.running (unlocking places headers))
