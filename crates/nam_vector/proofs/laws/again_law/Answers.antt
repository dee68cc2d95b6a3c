use Rattle.nam_vector.specs.declared.snap.SnapEnd.TheVariants.{Again}
use Rattle.nam_vector.proofs.SnapLemmas.{snap_ends, ends_snap, entry_rises}
use Rattle.nam_vector.proofs.laws.again_law.Goals as goal

pub returns-clause-exact : goal.returns-clause-exact
returns-clause-exact c workers least steps worker first second = (
  snap_ends workers least steps (Again worker first second),
  ends_snap workers least steps (Again worker first second),
)

pub returns-clause-rises : goal.returns-clause-rises
returns-clause-rises c workers least steps worker first second never ends =
    entry_rises workers steps worker first second never (snap_ends workers least steps (Again worker first second) ends)
