use Rattle.nam_verbs.specs.VerbAt.{target}
use Rattle.nam_verbs.specs.Falls.{Any}
use Rattle.nam_verbs.proofs.TakenLemmas.{holds_always}
use Rattle.nam_layout.specs.Known.{IsKnown}
use Rattle.nam_calls.specs.Mover.{move_verb}
use Rattle.nam_calls.specs.Fits.{MoveFits}
use Rattle.nam_calls.proofs.FallsCells.{move_falls}
use Rattle.nam_calls.proofs.FieldLemmas.{move_field}
use Rattle.nam_mover.specs.Move.{moving, running}
use Rattle.nam_mover.proofs.laws.field_law.Goals as goal

pub returns : goal.returns
returns c place cells fits room =
    holds_always (MoveFits place cells) Any (running (moving place cells))
    (λ at here found. move_falls place cells fits room at found here)
    (λ at. IsKnown place cells 0 (target (move_verb place cells at))) tt (move_field place fits cells 0)
