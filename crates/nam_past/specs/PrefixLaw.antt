-- Each snapshot that some client has taken is the vector of one moment: it contains the commits of a front of the order
-- of publication, and no others; and how many they are is what logs tell as its prefix.
use Rattle.std.specs.Prelude.{List, Some, slice_get, true, ℕ, ◌<◌, ◌↔◌, ◌≡◌}
use Rattle.nam_catalog.specs.declared.shape.Shape.{Shape}
use Rattle.nam_ghost.specs.Ghost.{Ghost, ghost_step}
use Rattle.nam_ghost.specs.Moments.{IsTaken}
use Rattle.nam_header.specs.Visible.{is_visible}
use Rattle.nam_past.specs.Past.{IsMoment, PastOk}
use Rattle.nam_past.specs.PastLaw.{RestsOn}
use Rattle.nam_protocol.specs.Log.{prefix_of}
use Rattle.nam_store.specs.Store.{StepsTo, Store}
use Rattle.si_model.specs.Snapshots.{sum_above}
use Rattle.si_model.specs.declared.log.Stamp.{Stamp}

-- so many of the order's first stamps are what the snapshot contains of it
abbrev pub IsPrefix : Shape → List Stamp → List ℕ → ℕ → Type 0
IsPrefix shape order s count = IsMoment shape.start shape.workers order s count

abbrev pub HasMoments : Shape → Store → List Stamp → Type 0
HasMoments shape store order =
    (s : List ℕ) → IsTaken store s → (count : ℕ) × IsPrefix shape order s count

abbrev pub MomentLaw : Type 0
MomentLaw = (shape : Shape) (store : Store) (order : List Stamp) → RestsOn shape store → PastOk shape store order
    → HasMoments shape store order

-- the order only grows at its end, so the moment stays
abbrev pub StaysLaw : Type 0
StaysLaw = (shape : Shape) (before after : Store) (goes : StepsTo shape before after) (ghost : Ghost)
    → (s : List ℕ) (count : ℕ) → IsPrefix shape ghost.order s count
    → IsPrefix shape (ghost_step shape before after goes ghost).order s count

-- of the order's stamps it sees those of the front, and no other
abbrev pub ContainsFronts : Shape → Store → List Stamp → Type 0
ContainsFronts shape store order =
    (s : List ℕ) → IsTaken store s → (count : ℕ) → IsPrefix shape order s count
    → (place : ℕ) (stamp : Stamp) → slice_get order place ≡ Some stamp
    → (is_visible stamp s ≡ true) ↔ (place < count)

abbrev pub ContainsLaw : Type 0
ContainsLaw = (shape : Shape) (store : Store) (order : List Stamp) → RestsOn shape store → PastOk shape store order
    → ContainsFronts shape store order

-- and each stamp that it sees, of a number above the start, is one of them
abbrev pub ContainsAll : Shape → Store → List Stamp → Type 0
ContainsAll shape store order =
    (s : List ℕ) → IsTaken store s → (count : ℕ) → IsPrefix shape order s count
    → (stamp : Stamp) → is_visible stamp s ≡ true → shape.start < stamp.number
    → (place : ℕ) × (place < count) × (slice_get order place ≡ Some stamp)

abbrev pub AllLaw : Type 0
AllLaw = (shape : Shape) (store : Store) (order : List Stamp) → RestsOn shape store → PastOk shape store order
    → ContainsAll shape store order

-- So many they are as the entries' sum above the start, which is the prefix that a log tells of the snapshot. So the
-- snapshot has one moment alone.
abbrev pub SumsUp : Shape → Store → List Stamp → Type 0
SumsUp shape store order =
    (s : List ℕ) → IsTaken store s → (count : ℕ) → IsPrefix shape order s count
    → (sum_above shape.start s ≡ count) × (prefix_of shape.start s ≡ count)

abbrev pub SumLaw : Type 0
SumLaw = (shape : Shape) (store : Store) (order : List Stamp) → RestsOn shape store → PastOk shape store order
    → SumsUp shape store order
