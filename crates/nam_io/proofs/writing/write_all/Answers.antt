use Rattle.std.proofs.Common.{arith}
use Rattle.std.proofs.lemmas.List.{take_rest}
use Rattle.nam_io.proofs.FrontLemmas.{AppendsBefore-more}
use Rattle.nam_io.proofs.writing.write_all.Goals as goal

pub loop-rest-preserved : goal.loop-rest-preserved
loop-rest-preserved g c = record {
  gone = rw (take_rest c.loop-rest.rest.now c.in_ok-count.count)
      (AppendsBefore-more _ _ _ _ _ c.in_ok-count.count c.loop-rest.invariant.gone c.in_ok-count.ensures.takes);
  counted = omega (arith, c.in_ok-count.ensures.counted, c.loop-rest.invariant.counted);
}
