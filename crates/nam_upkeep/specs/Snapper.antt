-- A snapshot in registers.
use Rattle.std.specs.Prelude.{◌≡◌, ℕ, ◌≤◌, List, [], length, Option, Some, None}
use Rattle.nam_verbs.specs.declared.now.Now.{Now}
use Rattle.nam_verbs.specs.declared.now.Now.TheVariants.{At, Over}
use Rattle.nam_catalog.specs.declared.bounds.TheConstants.{MOST_WORKERS}
use Rattle.nam_vector.specs.declared.snap.SnapPoint.{SnapPoint}
use Rattle.nam_vector.specs.declared.snap.SnapPoint.TheVariants.{First, Second}
use Rattle.nam_vector.specs.declared.snap.SnapEnd.{SnapEnd}
use Rattle.nam_vector.specs.declared.snap.SnapEnd.TheVariants.{Done, Again}
use Rattle.nam_vector.specs.Snap.{Snapping, SnapFits}
use Rattle.nam_upkeep.specs.declared.snapper.SnapperEnd.{SnapperEnd}
use Rattle.nam_upkeep.specs.declared.snapper.SnapperEnd.TheVariants as told
use Rattle.nam_upkeep.specs.declared.snapper.SnapStep.{SnapStep}
use Rattle.nam_upkeep.specs.declared.snapper.SnapStep.TheVariants as step

-- where a snapshot stands, by its step, its entries and the number of those found again
abbrev pub state_of : SnapStep → List ℕ → ℕ → Now SnapPoint SnapEnd
state_of step.First seen nth = At (First seen)
state_of step.Second seen nth = At (Second seen nth)
state_of (step.Over told.Done) seen nth = Over (Done seen)
state_of (step.Over (told.Again worker first second)) seen nth = Over (Again worker first second)

-- there are not too many workers, and the point fits, where the snapshot is not over; one that is done has an entry for
-- each worker
abbrev pub FitsSnapper : ℕ → Now SnapPoint SnapEnd → Type 0
FitsSnapper workers (At at) = (workers ≤ MOST_WORKERS) × SnapFits workers at
FitsSnapper workers (Over (Done seen)) = length seen ≡ workers
FitsSnapper workers (Over (Again worker first second)) = Unit {0}

-- a snapshot of no workers that is done
abbrev pub resting : Snapping
resting = record { workers = 0; state = Over (Done []) }

-- an end without the entries
abbrev pub end_told : Option SnapEnd → Option SnapperEnd
end_told None = None
end_told (Some (Done seen)) = Some told.Done
end_told (Some (Again worker first second)) = Some (told.Again worker first second)
