use Rattle.std.proofs.Common.{refl}
use Rattle.nam_calls.proofs.FallsTables.{has_capacity}
use Rattle.nam_scan.proofs.scan.Scan.new.Goals as goal

pub sight_of-requires-clause-position : goal.sight_of-requires-clause-position
sight_of-requires-clause-position c =
    (c.requires.table, has_capacity c.args.layout.now c.total-words.ensures.fits c.args.table c.requires.table)

pub invariant_of-result : goal.invariant_of-result
invariant_of-result c =
    let limits = c.total-words.ensures.fits in
    let same = c.sight_of.ensures.value in
    record {
      sight = c.sight_of.ensures.fits;
      workers = rw same limits.most_workers;
      seen = rw same c.requires.seen;
      position = rw c.capacity-capacity.ensures
          (has_capacity c.args.layout.now limits c.args.table c.requires.table);
      at = rw c.scan_begin.ensures (refl, tt);
    }
