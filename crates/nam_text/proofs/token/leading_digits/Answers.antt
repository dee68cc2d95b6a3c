use Rattle.std.proofs.Common.{◌∙◌, get_or, arith}
use Rattle.nam_text.proofs.Digits.{digit_small}
use Rattle.nam_text.proofs.Leading.{run_more, run_room}
use Rattle.nam_text.proofs.token.leading_digits.Goals as goal

pub overflow_mul-number : goal.overflow_mul-number
overflow_mul-number c =
    let room = run_room c.args.text.now c.loop-end.end c.loop-end.number 0 c.loop-end.invariant c.loop-end-test.true
    (omega arith) in
    omega (arith, room)

pub overflow_add-number : goal.overflow_add-number
overflow_add-number c =
    let digit = digit_small (get_or c.args.text.now c.loop-end.end 0) c.in-Some.ensures.0 in
    let room = run_room c.args.text.now c.loop-end.end c.loop-end.number c.from.result c.loop-end.invariant
    c.loop-end-test.true (omega (arith, digit, c.from.ensures, c.in-Some.ensures.1)) in
    omega (arith, room)

pub loop-end-preserved : goal.loop-end-preserved
loop-end-preserved c =
    run_more c.args.text.now c.loop-end.end c.loop-end.number c.from.result c.loop-end.invariant c.loop-end-test.true
    c.if-end-text.true c.in-Some.ensures.0 (c.from.ensures ∙ c.in-Some.ensures.1)
