use Rattle.std.proofs.Common.{arith}
use Rattle.nam_verbs.specs.VerbAt.{target}
use Rattle.nam_verbs.proofs.TakenLemmas.{holds_always}
use Rattle.nam_layout.specs.Place.{no_place}
use Rattle.nam_layout.specs.Known.{IsOfWorkers, IsKnown}
use Rattle.nam_calls.specs.Horizon.{collect_verb, old_verb}
use Rattle.nam_calls.specs.Fits.{IsOf, CollectFits, CollectEnds, OldEnds}
use Rattle.nam_calls.proofs.FallsRead.{collect_falls, old_falls}
use Rattle.nam_calls.proofs.FieldLemmas.{collect_field}
use Rattle.nam_horizon.specs.Collect as collect
use Rattle.nam_horizon.specs.Old as old
use Rattle.nam_horizon.proofs.laws.field_law.Goals as goal

pub returns-clause-collect : goal.returns-clause-collect
returns-clause-collect c cells workers fits some seen =
    holds_always (CollectFits cells workers) (CollectEnds workers)
    (collect.running (collect.collecting cells workers seen))
    (λ at here found. collect_falls cells workers fits seen at found here)
    (λ at. IsKnown no_place cells workers (target (collect_verb cells seen at))) (omega arith)
    (collect_field no_place cells workers seen)

pub returns-clause-old : goal.returns-clause-old
returns-clause-old c workers some seen =
    holds_always (IsOf workers) (OldEnds workers) (old.running (old.showing workers seen))
    (λ worker here found. old_falls workers seen worker found here)
    (λ worker. IsOfWorkers workers (target (old_verb worker))) (omega arith, some) (λ worker here. here)
