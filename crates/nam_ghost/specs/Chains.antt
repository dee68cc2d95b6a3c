-- Version chains: whose write each version is, and in which order they stand.
use Rattle.nam_calls.specs.Fits.{HasWidth}
use Rattle.nam_catalog.specs.declared.shape.Shape.{Shape}
use Rattle.nam_ghost.specs.Moments.{Observer, observer_of}
use Rattle.nam_ghost.specs.Versions.{Chain, IsNth, IsVersion, Version, versions}
use Rattle.nam_header.specs.Visible.{IsLoaders, is_visible}
use Rattle.nam_layout.specs.Address.{IsRow}
use Rattle.nam_layout.specs.Rows.{width_at}
use Rattle.nam_store.specs.Everyone.{Someone}
use Rattle.nam_store.specs.Store.{Store}
use Rattle.si_model.specs.Lists.{Listed, Pairwise}
use Rattle.std.specs.Prelude.{List, [], false, map, slice_index, true, ℕ, ◌+◌, ◌<◌, ◌≡◌}

-- the loader's version
pub record IsLoaded (version : Version) : Type 0 where
  pub stamp : IsLoaders version.stamp
  pub seen : version.seen ≡ []

-- the version is of the nth client's worker, which took the snapshot, before it published that number
pub record WrittenBy (version : Version) (nth : ℕ) (observer : Observer) : Type 0 where
  pub thread : version.stamp.thread ≡ nth + 1
  pub seen : Listed version.seen observer.snaps
  pub before : slice_index version.seen nth < version.stamp.number

-- The later version's writer had the earlier one in its snapshot. Why: it locked the header of the version before its
-- own only as one that it sees; and it sees those before, since snapshots are ordered: that version's writer had them
-- in its snapshot, and they were published before its own.
abbrev pub IsSeenBy : Version → Version → Type 0
IsSeenBy earlier later = is_visible earlier.stamp later.seen ≡ true

-- Version 0 is the loader's, each later one some client's; each writer had all versions before its own in its snapshot,
-- so no stamp comes twice; and each value has the row's width, since a written value has its table's.
pub record ChainOk (width : ℕ) (observers : List Observer) (chain : Chain) : Type 0 where
  pub first : (version : Version) → IsNth chain 0 version → IsLoaded version
  pub later : (number : ℕ) (version : Version) → IsNth chain (number + 1) version
      → Someone (WrittenBy version) observers
  pub order : Pairwise IsSeenBy (versions chain)
  pub wide : (version : Version) → IsVersion chain version → HasWidth width version.value

abbrev pub ChainsOk : Shape → Store → (ℕ → Chain) → Type 0
ChainsOk shape store chains = (row : ℕ) → IsRow shape row
    → ChainOk (width_at shape.tables row) (map observer_of store.clients) (chains row)

-- What a version is that a step installs: of the row's width, and in no snapshot that was taken, since its number is
-- published later.
pub record IsNew (width : ℕ) (observers : List Observer) (version : Version) : Type 0 where
  pub wide : HasWidth width version.value
  pub hidden : (seen : List ℕ) → Someone (λ _ observer. Listed seen observer.snaps) observers
      → is_visible version.stamp seen ≡ false

-- What one step may make of a chain: nothing but its holder, and how far that is; or one version more, which is new.
pub data ChainNext (width : ℕ) (observers : List Observer) : Chain → Chain → Type 0 where
  Stands : {chain later : Chain} → (old : later.old ≡ chain.old) → (now : later.now ≡ chain.now)
      → ChainNext width observers chain later
  Grows : {chain later : Chain} → (old : later.old ≡ versions chain) → (new : IsNew width observers later.now)
      → ChainNext width observers chain later
