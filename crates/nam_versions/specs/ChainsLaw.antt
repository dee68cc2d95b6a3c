-- What is claimed of version chains holds of each store that comes about, and what one step may make of a chain.
use Rattle.std.specs.Prelude.{List, map, ℕ, ◌≡◌}
use Rattle.nam_catalog.specs.Fits.{FitsLimits}
use Rattle.nam_catalog.specs.declared.shape.Shape.{Shape}
use Rattle.nam_ghost.specs.Chains.{ChainNext, ChainsOk}
use Rattle.nam_ghost.specs.Commits.{CommitsOk}
use Rattle.nam_ghost.specs.Ghost.{Ghost, ghost_step, opening_ghost}
use Rattle.nam_ghost.specs.Moments.{MomentsNext, observer_of}
use Rattle.nam_ghost.specs.Versions.{IsNth, Version}
use Rattle.nam_layout.specs.Address.{IsRow}
use Rattle.nam_layout.specs.Rows.{width_at}
use Rattle.nam_store.specs.Opening.{AreLoaded, opening_store}
use Rattle.nam_store.specs.Store.{StepsTo, Store}
use Rattle.si_model.specs.declared.row.Row.{Row}

abbrev pub OpensLaw : Type 0
OpensLaw = (shape : Shape) → FitsLimits shape → (rows : List Row) → AreLoaded shape rows
    → ChainsOk shape (opening_store shape rows) (opening_ghost shape rows).chains

abbrev pub KeepsLaw : Type 0
KeepsLaw = (shape : Shape) (before after : Store) (goes : StepsTo shape before after) (ghost : Ghost)
    → CommitsOk shape before ghost → MomentsNext shape before after goes
    → ChainsOk shape after (ghost_step shape before after goes ghost).chains

-- a row's versions stay, or it has one more, which no snapshot sees that was taken before
abbrev pub NextLaw : Type 0
NextLaw = (shape : Shape) (before after : Store) (goes : StepsTo shape before after) (ghost : Ghost)
    → CommitsOk shape before ghost → MomentsNext shape before after goes → (row : ℕ) → IsRow shape row
    → ChainNext (width_at shape.tables row) (map observer_of before.clients) (ghost.chains row)
    ((ghost_step shape before after goes ghost).chains row)

-- no stamp comes twice in a chain
abbrev pub StampsOnce : Shape → Store → Ghost → Type 0
StampsOnce shape store ghost =
    (row : ℕ) → IsRow shape row → (a b : ℕ) (u v : Version)
    → IsNth (ghost.chains row) a u → IsNth (ghost.chains row) b v → u.stamp ≡ v.stamp → a ≡ b

abbrev pub OnceLaw : Type 0
OnceLaw = (shape : Shape) (store : Store) (ghost : Ghost) → ChainsOk shape store ghost.chains
    → StampsOnce shape store ghost
