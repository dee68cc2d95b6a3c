-- What the opening has and each step keeps holds of each store that comes about, with its ghost.
use Rattle.std.proofs.Common.{List}
use Rattle.si_model.specs.declared.row.Row.{Row}
use Rattle.nam_catalog.specs.declared.shape.Shape.{Shape}
use Rattle.nam_catalog.specs.Fits.{FitsLimits}
use Rattle.nam_store.specs.Base.{BaseOk}
use Rattle.nam_store.specs.BaseLaw.{ReachedLaw}
use Rattle.nam_store.specs.Opening.{AreLoaded, opening_store}
use Rattle.nam_store.specs.Reached.{GhostStep, IsReached, Opened, Reached, Stepped, no_ghost}
use Rattle.nam_store.specs.Store.{Store, StepsTo}
use Rattle.nam_store.specs.Turns.{Goes, Stays, StepsOn}
use Rattle.nam_store.proofs.BaseLemmas.{base_keeps}
use Rattle.nam_store.proofs.OpeningLemmas.{opening_ok}

module _ {G : Type 0} (shape : Shape) (rows : List Row) (first : G) (next : GhostStep shape G) where
  -- 1. What is kept

  pub reached_keeps : (P : Store → G → Type 0) → P (opening_store shape rows) first
      → ((before after : Store) (ghost : G) (goes : StepsTo shape before after) → P before ghost
      → P after (next before after goes ghost))
      → (store : Store) (ghost : G) → Reached shape rows first next store ghost → P store ghost
  reached_keeps P opened kept _ _ Opened = opened
  reached_keeps P opened kept _ _ (Stepped before after ghost was goes) =
      kept before after ghost goes (reached_keeps P opened kept before ghost was)

  -- so it is of every store
  pub reached_base : FitsLimits shape → AreLoaded shape rows → (store : Store) (ghost : G)
      → Reached shape rows first next store ghost → BaseOk shape store
  reached_base limits loaded =
      reached_keeps (λ store ghost. BaseOk shape store) (opening_ok shape limits rows loaded)
      (λ before after ghost goes base. base_keeps shape before after goes base)

  -- and may be used by what is kept
  pub reached_holds : FitsLimits shape → AreLoaded shape rows → (P : Store → G → Type 0)
      → P (opening_store shape rows) first
      → ((before after : Store) (ghost : G) (goes : StepsTo shape before after) → BaseOk shape before → P before ghost
      → P after (next before after goes ghost))
      → (store : Store) (ghost : G) → Reached shape rows first next store ghost → P store ghost
  reached_holds limits loaded P opened kept store ghost reached =
      (reached_keeps (λ s g. BaseOk shape s × P s g) (opening_ok shape limits rows loaded, opened)
      (λ before after g goes both.
      (base_keeps shape before after goes both.0, kept before after g goes both.0 both.1))
      store ghost reached).1

  -- 2. A ghost goes along with any store, and changes none

  pub ghost_rides : (store : Store) (none : Unit {0}) → Reached shape rows tt no_ghost store none
      → (ghost : G) × Reached shape rows first next store ghost
  ghost_rides _ _ Opened = (first, Opened)
  ghost_rides _ _ (Stepped before after none was goes) =
      let t = ghost_rides before none was in (next before after goes t.0, Stepped before after t.0 t.1 goes)

  pub ghost_leaves : (store : Store) (ghost : G) → Reached shape rows first next store ghost
      → IsReached shape rows store
  ghost_leaves _ _ Opened = Opened
  ghost_leaves _ _ (Stepped before after ghost was goes) = Stepped before after tt (ghost_leaves before ghost was) goes

-- 3. Steps one after another

pub path_keeps : (shape : Shape) (first : Store) (P : Store → Type 0)
    → ((before after : Store) → StepsTo shape before after → P before → P after) → P first → (after : Store)
    → StepsOn shape first after → P after
path_keeps shape first P kept p _ Stays = p
path_keeps shape first P kept p _ (Goes before after was goes) =
    kept before after goes (path_keeps shape first P kept p before was)

-- they lead from a store that comes about to such stores
pub path_reached : (shape : Shape) (rows : List Row) (first after : Store) → StepsOn shape first after
    → IsReached shape rows first → IsReached shape rows after
path_reached shape rows first after path reached =
    path_keeps shape first (IsReached shape rows)
    (λ before later goes was. Stepped before later tt was goes) reached after path

pub reached_law : ReachedLaw
reached_law shape limits rows loaded store reached =
    reached_base {G = Unit {0}} shape rows tt no_ghost limits loaded store tt reached
