-- What a snapshot that some client has taken sees of a row's versions.
use Rattle.std.specs.Prelude.{List, true, ℕ, ◌<◌, ◌≡◌, ◌⊎◌}
use Rattle.nam_catalog.specs.declared.shape.Shape.{Shape}
use Rattle.nam_ghost.specs.Chains.{IsLoaded}
use Rattle.nam_ghost.specs.Commits.{CommitsOk}
use Rattle.nam_ghost.specs.Ghost.{Ghost, ghost_step}
use Rattle.nam_ghost.specs.Moments.{IsTaken, MomentsNext}
use Rattle.nam_ghost.specs.Versions.{Chain, IsNth, Version}
use Rattle.nam_header.specs.Visible.{is_visible}
use Rattle.nam_layout.specs.Address.{IsRow}
use Rattle.nam_store.specs.Store.{StepsTo, Store}
use Rattle.nam_versions.specs.PublishedLaw.{IsPublished}

-- the snapshot sees this version of the chain
pub record Sees (snapshot : List ℕ) (chain : Chain) (number : ℕ) (version : Version) : Type 0 where
  pub is : IsNth chain number version
  pub visible : is_visible version.stamp snapshot ≡ true

-- It sees a front of the chain: where it sees a version, it sees each one before. So the newest that it sees is the
-- only one whose next one it doesn't see.
abbrev pub SeesFront : Shape → Store → Ghost → Type 0
SeesFront shape store ghost =
    (row : ℕ) → IsRow shape row → (snapshot : List ℕ)
    → IsTaken store snapshot → (a b : ℕ) (u v : Version) → a < b → IsNth (ghost.chains row) a u
    → Sees snapshot (ghost.chains row) b v → Sees snapshot (ghost.chains row) a u

abbrev pub FrontLaw : Type 0
FrontLaw = (shape : Shape) (store : Store) (ghost : Ghost) → CommitsOk shape store ghost → SeesFront shape store ghost

-- After a step it is still a snapshot that was taken, and it sees the same versions: each stays what it was, and none
-- comes that it sees.
abbrev pub StaysLaw : Type 0
StaysLaw = (shape : Shape) (before after : Store) (goes : StepsTo shape before after) (ghost : Ghost)
    → CommitsOk shape before ghost → MomentsNext shape before after goes → (row : ℕ) → IsRow shape row
    → (snapshot : List ℕ) → IsTaken before snapshot → let later = ghost_step shape before after goes ghost in
    IsTaken after snapshot
    × ((number : ℕ) (version : Version)
    → (Sees snapshot (ghost.chains row) number version → Sees snapshot (later.chains row) number version)
    × (Sees snapshot (later.chains row) number version → Sees snapshot (ghost.chains row) number version))

-- Each version that it sees is the loader's, or of a commit that was published and is installed in all its records: it
-- sees no half of a commit.
abbrev pub SeesWhole : Shape → Store → Ghost → Type 0
SeesWhole shape store ghost =
    (row : ℕ) → IsRow shape row → (snapshot : List ℕ)
    → IsTaken store snapshot → (number : ℕ) (version : Version) → Sees snapshot (ghost.chains row) number version
    → IsLoaded version ⊎ IsPublished ghost.chains ghost.published version.stamp

abbrev pub WholeLaw : Type 0
WholeLaw = (shape : Shape) (store : Store) (ghost : Ghost) → CommitsOk shape store ghost → SeesWhole shape store ghost
