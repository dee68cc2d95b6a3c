-- What is claimed of publications holds of each store that comes about, and what it comes to for snapshots.
use Rattle.std.specs.Prelude.{List, Some, slice_get, true, ℕ, ◌<◌, ◌≡◌}
use Rattle.nam_catalog.specs.Fits.{FitsLimits}
use Rattle.nam_catalog.specs.declared.shape.Shape.{Shape}
use Rattle.nam_ghost.specs.Commits.{CommitsOk}
use Rattle.nam_ghost.specs.Ghost.{Ghost, ghost_step, opening_ghost}
use Rattle.nam_ghost.specs.Moments.{IsTaken, MomentsNext}
use Rattle.nam_ghost.specs.Publications.{IsInstalled, Publication, PublishedOk}
use Rattle.nam_ghost.specs.Versions.{Chain}
use Rattle.nam_header.specs.Visible.{is_visible}
use Rattle.nam_store.specs.Opening.{AreLoaded, opening_store}
use Rattle.nam_store.specs.Store.{StepsTo, Store}
use Rattle.si_model.specs.Lists.{Listed}
use Rattle.si_model.specs.declared.log.Stamp.{Stamp}
use Rattle.si_model.specs.declared.row.Row.{Row}

-- 1. The claims

abbrev pub OpensLaw : Type 0
OpensLaw = (shape : Shape) → FitsLimits shape → (rows : List Row) → AreLoaded shape rows
    → let ghost = opening_ghost shape rows in
    PublishedOk shape (opening_store shape rows) ghost.chains ghost.published

abbrev pub KeepsLaw : Type 0
KeepsLaw = (shape : Shape) (before after : Store) (goes : StepsTo shape before after) (ghost : Ghost)
    → CommitsOk shape before ghost → MomentsNext shape before after goes
    → let later = ghost_step shape before after goes ghost in
    PublishedOk shape after later.chains later.published

-- 2. What they come to

-- a client has published the commit of this stamp, and all its records have their versions
pub record IsPublished (chains : ℕ → Chain) (published : ℕ → List Publication) (stamp : Stamp) : Type 0 where
  pub nth : ℕ
  pub commit : Publication
  pub listed : Listed commit (published nth)
  pub stamp_is : commit.stamp ≡ stamp
  pub installed : IsInstalled chains commit

-- so it is of each stamp that a snapshot sees which some client has taken, but the loader's and those of numbers up to
-- the start, which no commit has had
abbrev pub SeesInstalled : Shape → Store → Ghost → Type 0
SeesInstalled shape store ghost =
    (snapshot : List ℕ) → IsTaken store snapshot
    → (stamp : Stamp) → is_visible stamp snapshot ≡ true → shape.start < stamp.number
    → IsPublished ghost.chains ghost.published stamp

abbrev pub InstalledLaw : Type 0
InstalledLaw = (shape : Shape) (store : Store) (ghost : Ghost) → CommitsOk shape store ghost
    → SeesInstalled shape store ghost

-- of two publications with one stamp both are the same client's, and the same one of its
abbrev pub PublishedOnce : Shape → Store → Ghost → Type 0
PublishedOnce shape store ghost =
    (nth other k l : ℕ) (one two : Publication)
    → nth < shape.workers → other < shape.workers → slice_get (ghost.published nth) k ≡ Some one
    → slice_get (ghost.published other) l ≡ Some two → one.stamp ≡ two.stamp → (nth ≡ other) × (k ≡ l)

abbrev pub OnceLaw : Type 0
OnceLaw = (shape : Shape) (store : Store) (ghost : Ghost) → CommitsOk shape store ghost
    → PublishedOnce shape store ghost
