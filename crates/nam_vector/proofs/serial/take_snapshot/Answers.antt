use Rattle.nam_vector.proofs.SerialLemmas.{snap_alone}
use Rattle.nam_vector.specs.Snap.{running}
use Rattle.std.proofs.Common.{ap}
use Rattle.nam_vector.proofs.serial.take_snapshot.Goals as goal

pub unreachable-requires : goal.unreachable-requires
unreachable-requires g c =
    let alone = snap_alone c.args.workers (g.R.Region.words c.args.region.now) c.requires.within c.requires.least _ _
    (ap running c.new-snap.ensures.begins) c.drive.ensures.machine c.drive.ensures.words c.end.ensures in
    cc (alone.0)

pub returns-clause-entries : goal.returns-clause-entries
returns-clause-entries g c =
    let alone = snap_alone c.args.workers (g.R.Region.words c.args.region.now) c.requires.within c.requires.least _ _
    (ap running c.new-snap.ensures.begins) c.drive.ensures.machine c.drive.ensures.words c.end.ensures in
    cc (alone.0)

pub returns-clause-unchanged : goal.returns-clause-unchanged
returns-clause-unchanged g c =
    (snap_alone c.args.workers (g.R.Region.words c.args.region.now) c.requires.within c.requires.least _ _
    (ap running c.new-snap.ensures.begins) c.drive.ensures.machine c.drive.ensures.words c.end.ensures).1
