-- What is claimed of guards comes to this: along overtakings places in the order of publication rise, so they go in no
-- circle, and snapshots that were taken contain the first where they contain the last.
use Rattle.std.specs.Prelude.{List, Some, slice_get, true, ℕ, ◌<◌, ◌≡◌}
use Rattle.nam_catalog.specs.declared.shape.Shape.{Shape}
use Rattle.nam_ghost.specs.Moments.{IsTaken}
use Rattle.nam_ghost.specs.Publications.{Publication}
use Rattle.nam_ghost.specs.Since.{IsOvertaken, SinceOk, WasPublished}
use Rattle.nam_header.specs.Visible.{is_visible}
use Rattle.nam_store.specs.Store.{Store}
use Rattle.si_model.specs.declared.log.Stamp.{Stamp}

-- published commits, each of which the next one overtakes
pub data Path (published : ℕ → List Publication) : Publication → Publication → Type 0 where
  Step : {first second : Publication} → (was : WasPublished published first) → (is : WasPublished published second)
      → (over : IsOvertaken first second) → Path published first second
  Further : {first second last : Publication} → (was : WasPublished published first)
      → (is : WasPublished published second) → (over : IsOvertaken first second)
      → (rest : Path published second last) → Path published first last

-- the commit's place in the order of publication, counted from 0
abbrev pub IsPlace : List Stamp → Publication → ℕ → Type 0
IsPlace order commit place = slice_get order place ≡ Some commit.stamp

-- each published commit has one
abbrev pub PlacesLaw : Type 0
PlacesLaw = (shape : Shape) (store : Store) (published : ℕ → List Publication) (order : List Stamp)
    → SinceOk shape store published order → (commit : Publication) → WasPublished published commit
    → (place : ℕ) × IsPlace order commit place × ((other : ℕ) → IsPlace order commit other → other ≡ place)

abbrev pub RisesLaw : Type 0
RisesLaw = (shape : Shape) (store : Store) (published : ℕ → List Publication) (order : List Stamp)
    → SinceOk shape store published order → (first last : Publication) → Path published first last
    → (i j : ℕ) → IsPlace order first i → IsPlace order last j → i < j

abbrev pub CircleLaw : Type 0
CircleLaw = (shape : Shape) (store : Store) (published : ℕ → List Publication) (order : List Stamp)
    → SinceOk shape store published order → (commit : Publication) → Path published commit commit → ⊥

abbrev pub ContainedLaw : Type 0
ContainedLaw = (shape : Shape) (store : Store) (published : ℕ → List Publication) (order : List Stamp)
    → SinceOk shape store published order → (first last : Publication) → Path published first last → (s : List ℕ)
    → IsTaken store s → is_visible last.stamp s ≡ true → is_visible first.stamp s ≡ true
