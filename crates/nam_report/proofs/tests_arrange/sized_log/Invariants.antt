use Rattle.std.proofs.Common.{◌≡◌, length}
use Rattle.std.specs.Prelude.{replicate}
use Rattle.nam_report.specs.ArrangedExamples.{sized_events}
use Rattle.nam_report.proofs.tests_arrange.sized_log.Given as goal

abbrev pub invariant-loop-place : goal.invariant-loop-place
invariant-loop-place l = record {
  events : l.events ≡ sized_events 0 l.place;
  writes : length l.writes ≡ l.place;
  snaps : l.snaps ≡ replicate l.place (replicate l.workers 0);
}
