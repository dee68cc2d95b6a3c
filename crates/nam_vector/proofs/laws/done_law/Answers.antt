use Rattle.nam_vector.specs.declared.snap.SnapEnd.TheVariants.{Done}
use Rattle.nam_vector.proofs.SnapLemmas.{snap_ends, ends_snap}
use Rattle.nam_vector.proofs.laws.done_law.Goals as goal

pub returns : goal.returns
returns c workers least steps seen =
    (snap_ends workers least steps (Done seen), ends_snap workers least steps (Done seen))
