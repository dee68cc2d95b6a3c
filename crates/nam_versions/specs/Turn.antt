-- What one step makes of chains and publications: the view that both groups have of it, whichever call it is of.
use Rattle.std.specs.Prelude.{List, Some, [], map, slice_get, slice_set, ℕ, ◌++◌, ◌+◌, ◌∷◌, ◌≡◌}
use Rattle.nam_calls.specs.Fits.{HasWidth}
use Rattle.nam_catalog.specs.declared.shape.Shape.{Shape}
use Rattle.nam_ghost.specs.Chains.{IsSeenBy}
use Rattle.nam_ghost.specs.Ghost.{Ghost}
use Rattle.nam_ghost.specs.Moments.{Observer, observer_of}
use Rattle.nam_ghost.specs.Publications.{IsInstalled, Publication}
use Rattle.nam_ghost.specs.Versions.{Chain, Version, versions}
use Rattle.nam_layout.specs.Rows.{width_at}
use Rattle.nam_store.specs.Everyone.{put}
use Rattle.nam_store.specs.Store.{Store}
use Rattle.si_model.specs.Lists.{Listed}

-- A version that the nth client installs over the current one: of the row's width, of the number that the client
-- publishes next, and written from one of its snapshots, which sees the current version.
pub record Overwrites (width nth : ℕ) (observer : Observer) (current version : Version) : Type 0 where
  pub wide : HasWidth width version.value
  pub thread : version.stamp.thread ≡ nth + 1
  pub number : version.stamp.number ≡ observer.number + 1
  pub seen : Listed version.seen observer.snaps
  pub sees : IsSeenBy current version

-- its versions are what they were, or it has one more
pub data ChainGoes (width nth : ℕ) (observer : Observer) : Chain → Chain → Type 0 where
  Stays : {chain later : Chain} → (old : later.old ≡ chain.old) → (now : later.now ≡ chain.now)
      → ChainGoes width nth observer chain later
  Installs : {chain later : Chain} → (old : later.old ≡ versions chain)
      → (new : Overwrites width nth observer chain.now later.now) → ChainGoes width nth observer chain later

-- the nth client has published the next number, with all its records installed
pub record Publishes (chains : ℕ → Chain) (nth : ℕ) (was is : Observer) (commit : Publication) : Type 0 where
  pub number : is.number ≡ was.number + 1
  pub stamp : commit.stamp ≡ record { thread = nth + 1; number = was.number + 1 }
  pub installed : IsInstalled chains commit

-- nothing is published, or one commit more
pub data PublishedGoes (chains : ℕ → Chain) (nth : ℕ) (was is : Observer) : (ℕ → List Publication)
    → (ℕ → List Publication) → Type 0 where
  Keeps : {published : ℕ → List Publication} → (number : is.number ≡ was.number)
      → PublishedGoes chains nth was is published published
  Adds : {published : ℕ → List Publication} → (commit : Publication) → (by : Publishes chains nth was is commit)
      → PublishedGoes chains nth was is published (put published nth (published nth ++ commit ∷ []))

-- one client's step: what it has taken stays taken
pub record Turn (shape : Shape) (before after : Store) (ghost later : Ghost) : Type 0 where
  pub nth : ℕ
  pub was : Observer
  pub is : Observer
  pub here : slice_get (map observer_of before.clients) nth ≡ Some was
  pub observers : map observer_of after.clients ≡ slice_set (map observer_of before.clients) nth is
  pub more : (s : List ℕ) → Listed s was.snaps → Listed s is.snaps
  pub chains : (row : ℕ)
      → ChainGoes (width_at shape.tables row) nth was (ghost.chains row) (later.chains row)
  pub published : PublishedGoes ghost.chains nth was is ghost.published later.published
