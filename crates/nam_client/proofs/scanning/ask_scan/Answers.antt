use Rattle.std.proofs.Common.{arith}
use Rattle.nam_client.proofs.ScanLemmas.{opened_by, has_positions}
use Rattle.nam_client.proofs.scanning.ask_scan.Goals as goal

pub overflow_add-a : goal.overflow_add-a
overflow_add-a c =
    let a = c.args.a.now in
    let counts = c.requires.holds.room.counts (opened_by a c.requires.may.fits.0) in
    let some = has_positions c.args.layout.now c.total-words.ensures.fits c.args.table c.requires.may.fits.1 in
    let few = counts.ops in
    let word = c.requires.counted in
    omega arith
