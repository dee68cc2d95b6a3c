use Rattle.std.proofs.Common.{◌∙◌, sym}
use Rattle.nam_text.proofs.Digits.{at_start, one_more, no_digit, all_digits}
use Rattle.nam_text.proofs.token.long_number.Goals as goal

pub loop-byte-init : goal.loop-byte-init
loop-byte-init c = at_start c.args.field.now

pub loop-byte-preserved : goal.loop-byte-preserved
loop-byte-preserved c =
    rw c.with_digit-value.ensures
    (one_more c.args.field.now c.loop-byte.byte-index c.in_ok-digit_of.field-0 c.loop-byte.value
    c.loop-byte.invariant c.loop-byte-test.true c.in_ok-digit_of.ensures.0 c.in_ok-digit_of.ensures.1)

pub returns-in_err-digit_of : goal.returns-in_err-digit_of
returns-in_err-digit_of c =
    c.from_residual.ensures
    ∙ sym (no_digit c.args.field.now c.loop-byte.byte-index c.loop-byte.value c.loop-byte.invariant
    c.loop-byte-test.true c.in_err-digit_of.ensures)

pub returns : goal.returns
returns c =
    sym (all_digits c.args.field.now c.loop-byte.byte-index c.loop-byte.value c.loop-byte.invariant
    c.loop-byte-test.false c.requires)
