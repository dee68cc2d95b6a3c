-- The order of publication as a line of moments, and the moment of a snapshot: the number of the order's first stamps
-- that it contains, which are all that it contains above the start.
use Rattle.std.specs.Prelude.{List, Some, [], if◌then◌else◌, length, map, slice_get, slice_index, take, ℕ, ◌+◌, ◌<◌}
use Rattle.std.specs.Prelude.{◌==◌, ◌∷◌, ◌≡◌, ◌≤◌}
use Rattle.nam_calls.specs.Memory.{memory}
use Rattle.nam_catalog.specs.declared.shape.Shape.{Shape}
use Rattle.nam_ghost.specs.Moments.{IsCandidate, Observer, observer_of, vector_of}
use Rattle.nam_store.specs.Store.{Store}
use Rattle.si_model.specs.declared.log.Stamp.{Stamp}

-- 1. The vector at a moment

-- so many of the stamps are of this worker; workers count from 0
abbrev pub count_of : ℕ → List Stamp → ℕ
count_of worker [] = 0
count_of worker (stamp ∷ rest) = (if stamp.thread == worker + 1 then 1 else 0) + count_of worker rest

-- the worker's entry after the first so many publications of the order
abbrev pub entry_after : ℕ → List Stamp → ℕ → ℕ → ℕ
entry_after start order count worker = start + count_of worker (take count order)

-- 2. The moment of a snapshot

-- each entry is what it was after the first so many publications
pub record IsMoment (start workers : ℕ) (order : List Stamp) (s : List ℕ) (count : ℕ) : Type 0 where
  pub within : count ≤ length order
  pub entries : (a : ℕ) → a < workers → slice_index s a ≡ entry_after start order count a

-- Of one in its second pass, with so many entries confirmed: the moment is that at which its first pass ended. What the
-- pass had found was at most the vector then, since entries never fall; and what the second pass finds again was the
-- vector's entry all the while.
pub record HasMoment (start workers : ℕ) (order : List Stamp) (s : List ℕ) (confirmed : ℕ) : Type 0 where
  pub count : ℕ
  pub within : count ≤ length order
  pub found : (a : ℕ) → a < workers → slice_index s a ≤ entry_after start order count a
  pub same : (a : ℕ) → a < confirmed → slice_index s a ≡ entry_after start order count a

-- 3. What holds

-- the stamp at this place, counted from 0, is a worker's, of the number after its entry there
pub record IsNext (start workers : ℕ) (order : List Stamp) (place : ℕ) (stamp : Stamp) : Type 0 where
  pub worker : ℕ
  pub inside : worker < workers
  pub stamp_is : stamp ≡ record { thread = worker + 1; number = entry_after start order place worker + 1 }

-- Stamps stand in the order by rising numbers of each worker. The vector is what it comes to after the whole order.
-- Each snapshot in its second pass, and each that was taken, has its moment. It keeps it, since the order only grows at
-- its end.
pub record ArePast (start workers : ℕ) (V : ℕ → ℕ) (observers : List Observer) (order : List Stamp) : Type 0 where
  pub numbered : (place : ℕ) (stamp : Stamp) → slice_get order place ≡ Some stamp
      → IsNext start workers order place stamp
  pub vector : (a : ℕ) → a < workers → V a ≡ entry_after start order (length order) a
  pub moments : (s : List ℕ) (confirmed : ℕ) → IsCandidate workers observers s confirmed
      → HasMoment start workers order s confirmed

abbrev pub PastOk : Shape → Store → List Stamp → Type 0
PastOk shape store order =
    ArePast shape.start shape.workers (vector_of (memory shape store.words)) (map observer_of store.clients) order
