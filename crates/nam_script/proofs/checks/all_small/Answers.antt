use Rattle.std.proofs.Common.{ℕ, sym, arith, length-append}
use Rattle.nam_script.proofs.CheckedValues.{at_front, word_more, word_fails, words_end}
use Rattle.nam_script.proofs.checks.all_small.Goals as goal

pub returns-in-None : goal.returns-in-None
returns-in-None c =
    sym (word_fails c.loop-number.values c.as_slice-number-items.result.now c.loop-number.number-index _
    (at_front _ _ _ _ c.loop-number-test.true c.in-None.is) c.loop-number.invariant.0)

pub loop-number-preserved : goal.loop-number-preserved
loop-number-preserved c =
    rw c.push.ensures (
      word_more c.loop-number.values c.as_slice-number-items.result.now c.loop-number.number-index _ _
          (at_front _ _ _ _ c.loop-number-test.true c.in-Some.is) c.loop-number.invariant.0,
      omega
          (arith, length-append {A = ℕ}),
      c.loop-number.invariant.2,
    )

pub returns : goal.returns
returns c =
    words_end c.loop-number.values c.as_slice-number-items.result.now c.loop-number.number-index _
    c.loop-number-test.false c.loop-number.invariant.0
