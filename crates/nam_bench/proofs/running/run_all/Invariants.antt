use Rattle.std.proofs.Common.{◌≡◌, length}
use Rattle.std.specs.Prelude.{All}
use Rattle.std.specs.Vec.Iter.{into_iter_items}
use Rattle.nam_catalog.specs.Words.{words_of}
use Rattle.nam_worker.specs.Session.{IsSessionOf}
use Rattle.nam_bench.proofs.running.run_all.Given as goal

abbrev pub invariant-loop-session : goal.invariant-loop-session
invariant-loop-session l = record {
  of : All (IsSessionOf l.layout) (into_iter_items l.session-iterator);
  long : length l.region ≡ words_of l.layout;
}
