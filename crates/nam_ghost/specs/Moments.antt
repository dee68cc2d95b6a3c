-- The moments of snapshots: what a client shows as one that looks at the vector, and what holds of it. A snapshot reads
-- the whole vector twice and is taken where both passes found the same (double collect), so it is what the vector was
-- at one moment, between the passes.
use Rattle.nam_calls.specs.Memory.{memory}
use Rattle.nam_catalog.specs.declared.shape.Shape.{Shape}
use Rattle.nam_ghost.specs.Stepping.{stepper_after, stepper_before, stepping}
use Rattle.nam_layout.specs.declared.field.Field.{Field}
use Rattle.nam_layout.specs.declared.field.Field.TheVariants.{Entry}
use Rattle.nam_protocol.specs.declared.client.Answer.{Answer}
use Rattle.nam_protocol.specs.declared.client.CallPoint.{CallPoint}
use Rattle.nam_protocol.specs.declared.client.CallPoint.TheVariants.{Beginning, InTxn, Snapping}
use Rattle.nam_protocol.specs.declared.client.ClientState.{ClientState}
use Rattle.nam_protocol.specs.declared.txn.CommitPoint.TheVariants.{Ending, Freeing}
use Rattle.nam_protocol.specs.declared.txn.TxnPoint.TheVariants.{Committing}
use Rattle.nam_store.specs.Everyone.{Everyone, Someone}
use Rattle.nam_store.specs.Store.{StepsTo, Store}
use Rattle.nam_vector.specs.declared.snap.SnapPoint.{SnapPoint}
use Rattle.nam_vector.specs.declared.snap.SnapPoint.TheVariants.{First, Second}
use Rattle.nam_verbs.specs.declared.now.Now.{Now}
use Rattle.nam_verbs.specs.declared.now.Now.TheVariants.{At}
use Rattle.si_model.specs.Lists.{Listed}
use Rattle.std.specs.Prelude.{Bool, List, None, Option, Some, false, if◌then◌else◌, length, map, slice_index, true, ℕ}
use Rattle.std.specs.Prelude.{◌+◌, ◌<◌, ◌≡◌, ◌≢◌, ◌≤◌, ◌⊎◌}

-- 1. Snapshots, and the vector V of so many workers, whose entries count from 0

-- in the first so many entries one is at most the other
abbrev pub AtMost : ℕ → List ℕ → List ℕ → Type 0
AtMost count s t = (a : ℕ) → a < count → slice_index s a ≤ slice_index t a

-- one of the two is at most the other, in each entry
abbrev pub AreOrdered : ℕ → List ℕ → List ℕ → Type 0
AreOrdered workers s t = AtMost workers s t ⊎ AtMost workers t s

-- the first so many entries are from start to the vector's: entries are numbers that were published, and never fall
abbrev pub AreFound : ℕ → (ℕ → ℕ) → ℕ → List ℕ → Type 0
AreFound start V count s = (a : ℕ) → a < count → (start ≤ slice_index s a) × (slice_index s a ≤ V a)

-- the vector has passed none of the entries from one on
abbrev pub IsUnpassed : ℕ → (ℕ → ℕ) → List ℕ → ℕ → Type 0
IsUnpassed workers V s confirmed = (a : ℕ) → confirmed ≤ a → a < workers → V a ≤ slice_index s a

-- Of any snapshots `Candidate s confirmed`, which have so many entries that the second pass has confirmed: each is
-- within the vector, and two are ordered, unless one of them has an entry that isn't confirmed and that the vector has
-- passed. Why: an entry that isn't passed is the vector's own, and of two candidates the one that was begun later found
-- each confirmed entry of the other, or a later one.
pub record AreMoments (start workers : ℕ) (V : ℕ → ℕ) (Candidate : List ℕ → ℕ → Type 0) : Type 0 where
  pub within : (s : List ℕ) (confirmed : ℕ) → Candidate s confirmed → AreFound start V workers s
  pub ordered : (s t : List ℕ) (k l : ℕ) → Candidate s k → Candidate t l → IsUnpassed workers V s k
      → IsUnpassed workers V t l → AreOrdered workers s t

-- how a candidate may have come about: it was one before, and the entries confirmed since then are not passed; or its
-- first pass is over now, and none is confirmed
abbrev pub HasGrown : ℕ → ℕ → (ℕ → ℕ) → (List ℕ → ℕ → Type 0) → List ℕ → ℕ → Type 0
HasGrown start workers V Candidate s confirmed =
    ((before : ℕ) × Candidate s before × ((a : ℕ) → before ≤ a → a < confirmed → V a ≤ slice_index s a))
    ⊎ ((confirmed ≡ 0) × AreFound start V workers s)

-- 2. A client as an observer of the vector: the number that its worker has published last, the snapshot that it takes,
-- and those that it has taken, whether for transactions or for collections

pub record Observer : Type 0 where
  pub number : ℕ
  pub pass : Option SnapPoint
  pub snaps : List (List ℕ)

abbrev pub pass_of : Option (Now CallPoint Answer) → Option SnapPoint
pass_of (Some (At (Beginning txn nth at))) = Some at
pass_of (Some (At (Snapping bucket at))) = Some at
pass_of _ = None

-- a commit that frees its guards, or clears its intent, has published its number; its client will list it with its
-- answer
abbrev pub has_published : Option (Now CallPoint Answer) → Bool
has_published (Some (At (InTxn (Committing (Freeing nth))))) = true
has_published (Some (At (InTxn (Committing Ending)))) = true
has_published _ = false

abbrev pub number_now : Option (Now CallPoint Answer) → ℕ → ℕ
number_now call last = if has_published call then last + 1 else last

abbrev pub observer_of : ClientState → Observer
observer_of client =
    record { number = number_now client.call client.last; pass = pass_of client.call; snaps = client.log.snaps }

-- 3. What holds

-- a snapshot in its second pass, with so many entries confirmed
abbrev pub IsPassing : Option SnapPoint → List ℕ → ℕ → Type 0
IsPassing (Some (Second seen at)) s confirmed = (seen ≡ s) × (at ≡ confirmed)
IsPassing _ s confirmed = ⊥

-- that one, and each that was taken, wholly confirmed
abbrev pub IsCandidateOf : ℕ → Observer → List ℕ → ℕ → Type 0
IsCandidateOf workers observer s confirmed =
    IsPassing observer.pass s confirmed ⊎ ((confirmed ≡ workers) × Listed s observer.snaps)

abbrev pub IsCandidate : ℕ → List Observer → List ℕ → ℕ → Type 0
IsCandidate workers observers s confirmed = Someone (λ _ observer. IsCandidateOf workers observer s confirmed) observers

-- no entry found is below that of a snapshot that the same client has taken before, since entries never fall
abbrev pub IsFollowing : ℕ → List (List ℕ) → List ℕ → Type 0
IsFollowing count snaps s = (t : List ℕ) → Listed t snaps → AtMost count t s

-- its own entry, once it is found, is the number that it has published last, since it publishes nothing meanwhile; so a
-- snapshot contains all that its own worker has published
abbrev pub FindsOwn : ℕ → ℕ → Option SnapPoint → Type 0
FindsOwn nth number (Some (First got)) = nth < length got → slice_index got nth ≡ number
FindsOwn nth number (Some (Second seen at)) = slice_index seen nth ≡ number
FindsOwn nth number None = Unit {0}

module _ (start workers : ℕ) where
  -- the entries that the first pass has found, and all of them in the second one
  abbrev pub PassOk : (ℕ → ℕ) → List (List ℕ) → Option SnapPoint → Type 0
  PassOk V snaps (Some (First got)) =
      (length got < workers) × AreFound start V (length got) got × IsFollowing (length got) snaps got
  PassOk V snaps (Some (Second seen at)) = (at < workers) × (length seen ≡ workers) × IsFollowing workers snaps seen
  PassOk V snaps None = Unit {0}

  -- a worker's entry is the number that it has published last: it alone writes it, and no number but the next
  pub record ObserverOk (V : ℕ → ℕ) (nth : ℕ) (observer : Observer) : Type 0 where
    pub entry : V nth ≡ observer.number
    pub pass : PassOk V observer.snaps observer.pass
    pub finds_own : FindsOwn nth observer.number observer.pass
    pub wide : (s : List ℕ) → Listed s observer.snaps → length s ≡ workers

  pub record AreObservers (V : ℕ → ℕ) (observers : List Observer) : Type 0 where
    pub all : length observers ≡ workers
    pub least : (a : ℕ) → a < workers → start ≤ V a
    pub each : Everyone (ObserverOk V) observers
    pub moments : AreMoments start workers V (IsCandidate workers observers)

  -- What the step of the nth client owes, from one vector to the next: no other entry is changed, its own doesn't fall,
  -- and each candidate that it has now was one or is new. All other clients rely on this alone.
  pub record ObserverNext (V now : ℕ → ℕ) (nth : ℕ) (before after : Observer) : Type 0 where
    pub others : (a : ℕ) → a < workers → a ≢ nth → now a ≡ V a
    pub rises : V nth ≤ now nth
    pub own : ObserverOk now nth after
    pub grown : (s : List ℕ) (confirmed : ℕ) → IsCandidateOf workers after s confirmed
        → HasGrown start workers now (IsCandidateOf workers before) s confirmed

-- the vector of the words
abbrev pub vector_of : (Field → ℕ) → ℕ → ℕ
vector_of m a = m (Entry (a + 1))

-- a client's entry of the vector; clients count from 0
abbrev pub entry_in : Shape → Store → ℕ → ℕ
entry_in shape store = vector_of (memory shape store.words)

abbrev pub MomentsOk : Shape → Store → Type 0
MomentsOk shape store =
    AreObservers shape.start shape.workers (vector_of (memory shape store.words)) (map observer_of store.clients)

-- some client has taken it, for a transaction or for a collection
abbrev pub IsTaken : Store → List ℕ → Type 0
IsTaken store snapshot = Someone (λ nth (client : ClientState). Listed snapshot client.log.snaps) store.clients

-- 4. What a step shows to the groups that rest on this one

-- no entry falls
abbrev pub EntriesRise : Shape → Store → Store → Type 0
EntriesRise shape before after =
    (nth : ℕ) → nth < shape.workers → entry_in shape before nth ≤ entry_in shape after nth

-- what its client owes
abbrev pub MomentsNext : (shape : Shape) (before after : Store) → StepsTo shape before after → Type 0
MomentsNext shape before after goes =
    ObserverNext shape.start shape.workers (entry_in shape before) (entry_in shape after)
    (stepping shape before after goes) (observer_of (stepper_before shape before after goes))
    (observer_of (stepper_after shape before after goes))
