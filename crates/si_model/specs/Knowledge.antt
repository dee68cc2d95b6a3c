-- A worker never sees less than it knows.
use Rattle.std.specs.Prelude.{ℕ, ◌-◌, ◌≤◌, max, List, [], ◌∷◌, length, slice_index, slice_set, Option, Some, None}
use Rattle.si_model.specs.declared.log.Outcome.{Outcome}
use Rattle.si_model.specs.declared.log.Outcome.TheVariants.{Commit, Again, TooOld}
use Rattle.si_model.specs.declared.log.Event.{Event}
use Rattle.si_model.specs.declared.log.Event.TheVariants.{Tried, Collected, CollectAgain}
use Rattle.si_model.specs.Tells.{Tell}
use Rattle.si_model.specs.View.{View}

-- each number is at most the one at its place in the other list
abbrev pub AreAtMost : List ℕ → List ℕ → Type 0
AreAtMost [] ns = Unit {0}
AreAtMost (k ∷ ks) [] = ⊥
AreAtMost (k ∷ ks) (n ∷ ns) = (k ≤ n) × AreAtMost ks ns

-- worker i's number is known to be n
abbrev pub knowledge_with : List ℕ → ℕ → ℕ → List ℕ
knowledge_with known i n = slice_set known (i - 1) n

-- the prefix is one of a history, and its entries are at least what is known
abbrev pub SeesPrefix : View → Tell → List ℕ → Option ℕ → Type 0
SeesPrefix v t known None = Unit {0}
SeesPrefix v t known (Some p) = (p ≤ length v.all) × AreAtMost known (v.entries t)

-- what is known with an attempt's snapshot
abbrev pub known_with : View → Tell → List ℕ → Option ℕ → List ℕ
known_with v t known None = known
known_with v t known (Some p) = v.entries t

-- a worker is named, and what was found of it first is at least what is known
abbrev pub SeesFirst : List ℕ → ℕ → ℕ → Type 0
SeesFirst known i first = (1 ≤ i) × (i ≤ length known) × (slice_index known (i - 1) ≤ first)

-- what an outcome tells is no less than is known
abbrev pub SeesOutcome : List ℕ → Outcome → Type 0
SeesOutcome known (Again i first second) = SeesFirst known i first
SeesOutcome known (TooOld i entry horizon) = (1 ≤ i) × (i ≤ length known)
SeesOutcome known outcome = Unit {0}

-- what worker j knows after an outcome
abbrev pub known_by : ℕ → List ℕ → Outcome → List ℕ
known_by j known (Commit number) = knowledge_with known j number
known_by j known (Again i first second) = knowledge_with known i second
known_by j known (TooOld i entry horizon) = knowledge_with known i (max (slice_index known (i - 1)) horizon)
known_by j known outcome = known

-- the event sees no less than is known
abbrev pub SeesEvent : View → Tell → List ℕ → Event → Type 0
SeesEvent v t known (Tried a) = SeesPrefix v t known a.prefix × SeesOutcome (known_with v t known a.prefix) a.outcome
SeesEvent v t known (Collected b prefix entries cut) = SeesPrefix v t known (Some prefix)
SeesEvent v t known (CollectAgain b i first second) = SeesFirst known i first
SeesEvent v t known event = Unit {0}

-- what worker j knows after an event
abbrev pub known_after : View → ℕ → Tell → List ℕ → Event → List ℕ
known_after v j t known (Tried a) = known_by j (known_with v t known a.prefix) a.outcome
known_after v j t known (Collected b prefix entries cut) = v.entries t
known_after v j t known (CollectAgain b i first second) = knowledge_with known i second
known_after v j t known event = known

-- each of worker j's events sees no less than is known before it
abbrev pub SeesForward : View → ℕ → List ℕ → List Tell → Type 0
SeesForward v j known [] = Unit {0}
SeesForward v j known (t ∷ ts) = SeesEvent v t known t.event × SeesForward v j (known_after v j t known t.event) ts
