use Rattle.std.proofs.Common.{◌≡◌, length}
use Rattle.nam_catalog.specs.Words.{words_of}
use Rattle.nam_protocol.specs.Left.{session_left}
use Rattle.nam_worker.specs.Session.{IsSessionOf, session_of}
use Rattle.nam_bench.proofs.running.run_session.Given as goal

abbrev pub invariant-loop-verb : goal.invariant-loop-verb
invariant-loop-verb l = record {
  of : IsSessionOf l.layout l.session;
  long : length l.region ≡ words_of l.layout;
}

abbrev pub decreases-loop-verb : goal.decreases-loop-verb
decreases-loop-verb l = session_left l.layout (session_of l.session)
