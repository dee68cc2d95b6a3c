use Rattle.nam_scan.specs.Scan.{IsScanOf}
use Rattle.nam_scan.proofs.tests.reads.Given as goal

abbrev pub invariant-loop-address : goal.invariant-loop-address
invariant-loop-address l = IsScanOf l.layout l.scan
