use Rattle.std.proofs.Common.{sym, arith, length-append}
use Rattle.nam_script.specs.declared.script.Stint.{Stint}
use Rattle.nam_script.proofs.CheckedValues.{stint_at_front, stint_more, stint_fails, stints_end}
use Rattle.nam_script.proofs.checks.all_stints.Goals as goal

pub returns-in-Err : goal.returns-in-Err
returns-in-Err c =
    let front = stint_at_front c.args.spelt.now c.loop-place.place c.at-stint.result.now
    (omega (arith, c.loop-place-test.true, c.len-place-end.ensures)) c.at-stint.ensures in
    sym (stint_fails _ c.loop-place.stints c.args.spelt.now c.loop-place.place _ _ _ front (sym c.in-Err.ensures)
    c.loop-place.invariant.0)

pub loop-place-preserved : goal.loop-place-preserved
loop-place-preserved c =
    let front = stint_at_front c.args.spelt.now c.loop-place.place c.at-stint.result.now
    (omega (arith, c.loop-place-test.true, c.len-place-end.ensures)) c.at-stint.ensures in
    rw c.push.ensures (
      stint_more _ c.loop-place.stints c.args.spelt.now c.loop-place.place _ _ _ front
          (sym c.in-Ok.ensures) c.loop-place.invariant.0,
      omega
          (arith, c.loop-place.invariant.1, length-append {A = Stint}),
    )

pub returns : goal.returns
returns c =
    stints_end _ c.loop-place.stints c.args.spelt.now c.loop-place.place _
    (omega (arith, c.loop-place-test.false, c.len-place-end.ensures)) c.loop-place.invariant.0
