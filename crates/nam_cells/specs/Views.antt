-- A mover or a collector after its word, and that its point fits.
use Rattle.std.specs.Prelude.{List, ℕ, ◌<◌}
use Rattle.nam_calls.specs.Fits.{CollectFits, MoveFits}
use Rattle.nam_calls.specs.declared.horizon.CollectPoint.{CollectPoint}
use Rattle.nam_calls.specs.declared.mover.MoveAnswer.{MoveAnswer}
use Rattle.nam_calls.specs.declared.mover.MovePoint.{MovePoint}
use Rattle.nam_calls.specs.declared.mover.MovePoint.TheVariants.{MoveCount}
use Rattle.nam_catalog.specs.declared.shape.Shape.{Shape}
use Rattle.nam_ghost.specs.Upkeep.{Collector, Mover, NoUpkeep, Upkeep}
use Rattle.nam_layout.specs.Address.{IsRow}
use Rattle.nam_layout.specs.Place.{bucket_of, cells_of, place_at}
use Rattle.nam_verbs.specs.declared.now.Now.{Now}
use Rattle.nam_verbs.specs.declared.now.Now.TheVariants.{At, Over}

abbrev pub mover_now : ℕ → Now MovePoint MoveAnswer → Upkeep
mover_now row (At at) = Mover row at
mover_now row (Over answer) = NoUpkeep

abbrev pub collector_now : ℕ → List ℕ → Now CollectPoint (List ℕ) → Upkeep
collector_now bucket seen (At at) = Collector bucket seen at
collector_now bucket seen (Over known) = NoUpkeep

abbrev pub UpkeepFits : Shape → Upkeep → Type 0
UpkeepFits shape NoUpkeep = Unit {0}
UpkeepFits shape (Mover row at) =
    IsRow shape row × MoveFits (place_at shape row) (cells_of shape (bucket_of shape row)) at
UpkeepFits shape (Collector bucket seen at) =
    (bucket < shape.buckets) × CollectFits (cells_of shape bucket) shape.workers at

-- it has yet to read a word
abbrev pub IsStarting : Upkeep → Type 0
IsStarting NoUpkeep = Unit {0}
IsStarting (Mover row MoveCount) = Unit {0}
IsStarting _ = ⊥
