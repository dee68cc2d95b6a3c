use Rattle.nam_protocol.proofs.FallsScan.{scan_begins, scan_falls, scan_skip_falls, scan_read_falls}
use Rattle.nam_protocol.proofs.laws_left.scan_falls.Goals as goal

pub returns : goal.returns
returns c = λ shape limits table is. record {
  begins = scan_begins shape limits table is;
  falls = scan_falls shape limits table is;
  skips = scan_skip_falls shape limits table is;
  reads = scan_read_falls shape limits table is;
}
