-- What snapshots that were taken are: in each store that comes about, and along any steps.
use Rattle.nam_catalog.specs.Fits.{FitsLimits}
use Rattle.nam_catalog.specs.declared.shape.Shape.{Shape}
use Rattle.nam_ghost.specs.Ghost.{Ghost, IsReachedWith, ghost_step}
use Rattle.nam_ghost.specs.Moments.{IsTaken}
use Rattle.nam_ghost.specs.Versions.{Version}
use Rattle.nam_layout.specs.Address.{IsRow}
use Rattle.nam_law.specs.WordsLaw.{LawOk}
use Rattle.nam_past.specs.Past.{PastOk}
use Rattle.nam_past.specs.PrefixLaw.{ContainsAll, ContainsFronts, HasMoments, SumsUp}
use Rattle.nam_store.specs.Opening.{AreLoaded}
use Rattle.nam_store.specs.Store.{StepsTo, Store}
use Rattle.nam_versions.specs.ChainsLaw.{StampsOnce}
use Rattle.nam_versions.specs.PublishedLaw.{PublishedOnce, SeesInstalled}
use Rattle.nam_versions.specs.SeenLaw.{Sees, SeesFront, SeesWhole}
use Rattle.si_model.specs.declared.row.Row.{Row}
use Rattle.std.specs.Prelude.{List, ℕ}

-- so it is of each store that comes about, with what is known along its steps
abbrev pub OfEach : (Shape → Store → Ghost → Type 0) → Type 0
OfEach Holds = (shape : Shape) → FitsLimits shape → (rows : List Row) → AreLoaded shape rows → (store : Store)
    → (ghost : Ghost) → IsReachedWith shape rows store ghost → Holds shape store ghost

-- 1. Versions and publications: no stamp comes twice

abbrev pub StampsLaw : Type 0
StampsLaw = OfEach StampsOnce

abbrev pub OnceLaw : Type 0
OnceLaw = OfEach PublishedOnce

-- 2. What a snapshot sees of versions: a front of each chain; what is published and installed; no half of a commit

abbrev pub FrontLaw : Type 0
FrontLaw = OfEach SeesFront

abbrev pub InstalledLaw : Type 0
InstalledLaw = OfEach SeesInstalled

abbrev pub WholeLaw : Type 0
WholeLaw = OfEach SeesWhole

-- What is known of a store, and of one that comes about from it by steps.
module _ (shape : Shape) (store : Store) (ghost : Ghost) where
  pub data ComesAfter : Store → Ghost → Type 0 where
    Begins : ComesAfter store ghost
    Goes : (before after : Store) (known : Ghost) (was : ComesAfter before known) (goes : StepsTo shape before after)
        → ComesAfter after (ghost_step shape before after goes known)

-- Whatever comes after a snapshot was taken, it sees the same versions: each stays what it was, and none comes that it
-- sees.
abbrev pub StaysLaw : Type 0
StaysLaw = (shape : Shape) (store : Store) (ghost : Ghost) → LawOk shape store ghost
    → (row : ℕ) → IsRow shape row → (snapshot : List ℕ)
    → IsTaken store snapshot → (after : Store) (later : Ghost) → ComesAfter shape store ghost after later
    → (number : ℕ) (version : Version)
    → (Sees snapshot (ghost.chains row) number version → Sees snapshot (later.chains row) number version)
    × (Sees snapshot (later.chains row) number version → Sees snapshot (ghost.chains row) number version)

-- 3. Its moment: each snapshot is the vector after a front of the order of publication, of which it sees that front and
-- nothing else; how many commits that are, a log tells as its prefix

abbrev pub PastLaw : Type 0
PastLaw = OfEach (λ shape store ghost. PastOk shape store ghost.order)

abbrev pub MomentLaw : Type 0
MomentLaw = OfEach (λ shape store ghost. HasMoments shape store ghost.order)

abbrev pub ContainsLaw : Type 0
ContainsLaw = OfEach (λ shape store ghost. ContainsFronts shape store ghost.order)

abbrev pub AllLaw : Type 0
AllLaw = OfEach (λ shape store ghost. ContainsAll shape store ghost.order)

abbrev pub SumLaw : Type 0
SumLaw = OfEach (λ shape store ghost. SumsUp shape store ghost.order)
