use Rattle.nam_scan.proofs.ScanLemmas.{key_left, read_at_left}
use Rattle.nam_scan.proofs.points.scan_left.Goals as goal

pub returns-in-ScanKey : goal.returns-in-ScanKey
returns-in-ScanKey c = λ shape table limits is same sees.
    let here = c.in-ScanKey.is in
    rw here
    (key_left shape limits table is _ _ _ _ c.position_whole-whole.ensures.value same (rw here at c.requires.position)
    (rw here at sees))

pub returns-in-ScanRead : goal.returns-in-ScanRead
returns-in-ScanRead c = λ shape table limits is same sees.
    let here = c.in-ScanRead.is in
    rw here
    (read_at_left shape limits table is _ _ c.in-ScanRead.key _ _ _ _ c.read_left.ensures
    c.position_whole-whole.ensures.value same (rw here at c.requires.position) (rw here at sees))
