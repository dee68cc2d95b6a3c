use Rattle.std.proofs.Common.{subst}
use Rattle.std.proofs.lemmas.List.Elements.{All-head, All-tail}
use Rattle.std.specs.Prelude.{All}
use Rattle.std.specs.Vec.Iter.{into_iter_items}
use Rattle.nam_worker.specs.Session.{IsSessionOf}
use Rattle.nam_bench.proofs.running.run_all.Goals as goal

pub run_session-verbs-requires-clause-of : goal.run_session-verbs-requires-clause-of
run_session-verbs-requires-clause-of c =
    All-head (IsSessionOf c.args.layout.now) c.in-Some.session (into_iter_items c.next.new.self)
    (subst (All (IsSessionOf c.args.layout.now)) c.in-Some.ensures.steps.0 c.loop-session.invariant.of)

pub loop-session-preserved : goal.loop-session-preserved
loop-session-preserved c = record {
  of =
      All-tail (IsSessionOf c.args.layout.now) c.in-Some.session (into_iter_items c.next.new.self)
      (subst (All (IsSessionOf c.args.layout.now)) c.in-Some.ensures.steps.0 c.loop-session.invariant.of);
  long = c.run_session-verbs.ensures.long;
}
