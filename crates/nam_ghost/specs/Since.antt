-- Guards: a commit that locks a record stands before each that writes it unseen, in the order of publication and in
-- each snapshot. So overtaking goes in no circle.
use Rattle.nam_calls.specs.Memory.{memory}
use Rattle.nam_catalog.specs.declared.shape.Shape.{Shape}
use Rattle.nam_ghost.specs.Moments.{IsCandidate, IsUnpassed, Observer, observer_of, vector_of}
use Rattle.nam_ghost.specs.Publications.{Publication}
use Rattle.nam_header.specs.Visible.{is_visible}
use Rattle.nam_store.specs.Store.{Store}
use Rattle.si_model.specs.Lists.{Listed, Pairwise}
use Rattle.si_model.specs.declared.log.Stamp.{Stamp}
use Rattle.std.specs.Prelude.{List, Some, false, map, slice_get, true, ℕ, ◌<◌, ◌≡◌, ◌≢◌}

-- The second commit overtakes the first: it writes a record that the first has locked, to write or to guard it, and the
-- first doesn't see it.
abbrev pub IsOvertaken : Publication → Publication → Type 0
IsOvertaken first second =
    (p : ℕ) × (q : ℕ) × (p < first.locked) × (q < second.records) × (first.row p ≡ second.row q)
    × (first.stamp ≢ second.stamp) × (is_visible second.stamp first.seen ≡ false)

abbrev pub WasPublished : (ℕ → List Publication) → Publication → Type 0
WasPublished published commit = (nth : ℕ) × Listed commit (published nth)

-- one stands before the other in the order of publication
abbrev pub StandsBefore : List Stamp → Stamp → Stamp → Type 0
StandsBefore order first second =
    (i : ℕ) × (j : ℕ) × (i < j) × (slice_get order i ≡ Some first) × (slice_get order j ≡ Some second)

-- Each publication is some worker's, and has its place in the order, once; nothing else has one. One that is overtaken
-- stands before the one that overtakes it: the other could lock the record only once the first had freed it, after its
-- publication, and it has a version there that the first would have seen, had it stood there before. And a snapshot
-- that contains the second contains the first: it is the vector of one moment. A candidate whose unconfirmed entries
-- the vector has passed may not, and is found out by its second pass.
pub record IsSince (workers : ℕ) (V : ℕ → ℕ) (observers : List Observer) (published : ℕ → List Publication)
    (order : List Stamp) : Type 0 where
  pub inside : (nth : ℕ) (commit : Publication) → Listed commit (published nth) → nth < workers
  pub listed : (commit : Publication) → WasPublished published commit → Listed commit.stamp order
  pub comes : (stamp : Stamp) → Listed stamp order
      → (commit : Publication) × WasPublished published commit × (commit.stamp ≡ stamp)
  pub once : Pairwise (λ (a b : Stamp). a ≢ b) order
  pub before : (first second : Publication) → WasPublished published first → WasPublished published second
      → IsOvertaken first second → StandsBefore order first.stamp second.stamp
  pub contained : (first second : Publication) → WasPublished published first → WasPublished published second
      → IsOvertaken first second → (s : List ℕ) (confirmed : ℕ) → IsCandidate workers observers s confirmed
      → IsUnpassed workers V s confirmed → is_visible second.stamp s ≡ true → is_visible first.stamp s ≡ true

abbrev pub SinceOk : Shape → Store → (ℕ → List Publication) → List Stamp → Type 0
SinceOk shape store published order =
    IsSince shape.workers (vector_of (memory shape store.words)) (map observer_of store.clients) published order
