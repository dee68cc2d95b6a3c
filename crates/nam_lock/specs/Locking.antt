-- the locking of records, as a machine
use Rattle.std.specs.Prelude.{ℕ, List, [], length}
use Rattle.nam_verbs.specs.declared.now.Now.{Now}
use Rattle.nam_verbs.specs.declared.now.Now.TheVariants.{At, Over}
use Rattle.nam_verbs.specs.Running.{Running}
use Rattle.nam_layout.specs.declared.field.Place.{Place}
use Rattle.nam_calls.specs.declared.lock.Locks.{Locks}
use Rattle.nam_calls.specs.declared.lock.LockEnd.{LockEnd}
use Rattle.nam_calls.specs.declared.lock.LockEnd.TheVariants.{Held, Locked, Newer}
use Rattle.nam_calls.specs.Lock.{of_locks, lock_verb_by, lock_next, lock_after, lock_left}
use Rattle.nam_lock.specs.Headers.{header_address, headers_end}

-- the worker who locks, the records, the snapshot that has to see them, and where the locking stands
pub record Locking : Type 0 where
  pub worker : ℕ
  pub places : List Place
  pub seen : List ℕ
  pub state : Now Locks LockEnd

-- a new locking, which has ended where there are no records
abbrev pub locking : ℕ → List Place → List ℕ → Locking
locking worker places seen = record { worker = worker; places = places; seen = seen; state = lock_next places [] }

-- the same as a running call, whose words are the headers of the places, and which nothing follows but giving back
abbrev pub running : Locking → Running Place Locks LockEnd
running a = record {
  address = header_address;
  reach = headers_end a.places;
  verb = of_locks (lock_verb_by (λ place. place) a.worker a.places);
  after = of_locks (lock_after a.places a.seen);
  left = of_locks (lock_left a.places (length a.places));
  state = a.state;
}

-- how many locks were taken so far, those that are given back among them
abbrev pub taken_by : Now Locks LockEnd → ℕ
taken_by (At locks) = length locks.held
taken_by (Over (Held held)) = length held
taken_by (Over (Locked nth found)) = nth
taken_by (Over (Newer nth found)) = nth
