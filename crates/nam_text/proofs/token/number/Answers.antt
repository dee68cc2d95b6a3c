use Rattle.std.proofs.Common.{sym}
use Rattle.nam_text.proofs.Leading.{whole_number}
use Rattle.nam_text.proofs.token.number.Goals as goal

pub returns-then-count-field : goal.returns-then-count-field
returns-then-count-field c =
    sym (whole_number c.args.field.now c.leading_digits-value.result.0 c.leading_digits-value.result.1
    c.leading_digits-value.ensures c.if-count-field.true (sym c.if-not-is_led.ensures))
