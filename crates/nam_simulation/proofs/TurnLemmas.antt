-- Lines one of which is asked.
use Rattle.std.proofs.Common.{◌≡◌, ℕ, ◌-◌, ◌<◌, ◌≤◌, List, length, get_or, map, false, Some, None}
use Rattle.std.proofs.Common.{sym, ap, ◌∙◌}
use Rattle.std.specs.Prelude.{slice_get, slice_set, option_map}
use Rattle.std.proofs.lemmas.Option.{slice_get-map, slice_get-get_or, slice_get_past}
use Rattle.std.proofs.lemmas.List.{map-set}
use Rattle.nam_line.specs.Plan.{Line, asked_once}
use Rattle.nam_simulation.specs.Simulation.{refused_by, with_asked, after_asking}

-- lines that are kept as something else, one of which is asked
module _ {T : Type 0} (state : T → Line) (lines : List T) (worker : ℕ) where
  abbrev states : List Line
  states = map state lines

  module _ (place : ℕ) (at : place ≡ worker - 1) (item : T) (less : place < length lines)
      (is : item ≡ get_or lines place item) where
    here : slice_get states (worker - 1) ≡ Some (state item)
    here =
        ap (slice_get states) (sym at)
        ∙ slice_get-map state lines place
        ∙ ap (option_map state) (slice_get-get_or lines place item less)
        ∙ ap (λ x. Some (state x)) (sym is)

    pub is_asked : (next : T) → state next ≡ asked_once (state item)
        → map state (slice_set lines place next) ≡ after_asking states worker
    is_asked next asked =
        map-set state lines place next
        ∙ ap (slice_set states place) asked
        ∙ ap (λ k. slice_set states k (asked_once (state item))) at
        ∙ ap (with_asked states (worker - 1)) (sym here)

  module _ (place : ℕ) (at : place ≡ worker - 1) (past : length lines ≤ place) where
    none : slice_get states (worker - 1) ≡ None
    none =
        ap (slice_get states) (sym at)
        ∙ slice_get-map state lines place
        ∙ ap (option_map state) (slice_get_past lines place past)

    pub none_refuses : false ≡ refused_by (slice_get states (worker - 1))
    none_refuses = ap refused_by (sym none)
