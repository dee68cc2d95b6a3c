use Rattle.std.proofs.Common.{◌≡◌, length, eqb, true, false, sym, ◌∙◌, refl}
use Rattle.std.proofs.lemmas.Bool.{eq-eqb, ne_eqb}
use Rattle.nam_script.proofs.ReadAll.{one_more, ill_spelt, too_many, at_end}
use Rattle.nam_script.proofs.parts.stints_at.Goals as goal

pub returns-in_default-stint-clause-read : goal.returns-in_default-stint-clause-read
returns-in_default-stint-clause-read c =
    sym (ill_spelt _ _ _ _ _ _ _ c.loop-field.invariant c.in-Some.ensures (sym c.in_default-stint.ensures))

pub loop-field-preserved : goal.loop-field-preserved
loop-field-preserved c =
    rw c.in_ok-push.ensures.ok (one_more _ _ _ _ _ _ _ _ c.loop-field.invariant c.in-Some.ensures (sym c.in-Some-stint.ensures)
    (λ e. c.if-len-eq64.false (c.len.ensures ∙ e)))

pub returns-then-len-eq0-clause-read : goal.returns-then-len-eq0-clause-read
returns-then-len-eq0-clause-read c =
    let none : eqb (length c.loop-field.stints) 0 ≡ true = eq-eqb _ _ (sym c.len-2.ensures ∙ c.if-len-eq0.true) in
    sym (at_end _ _ _ _ _ c.loop-field.invariant c.in_default.ensures.0 ∙ rw none refl)

pub returns-else-len-eq0-clause-read : goal.returns-else-len-eq0-clause-read
returns-else-len-eq0-clause-read c =
    let some : eqb (length c.loop-field.stints) 0 ≡ false = ne_eqb _ _
    (λ e. c.if-len-eq0.false (c.len-2.ensures ∙ e)) in
    sym (at_end _ _ _ _ _ c.loop-field.invariant c.in_default.ensures.0 ∙ rw some refl)

pub returns-then-len-eq64-clause-read : goal.returns-then-len-eq64-clause-read
returns-then-len-eq64-clause-read c =
    sym (too_many _ _ _ _ _ _ _ c.loop-field.invariant c.in-Some.ensures (sym c.len.ensures ∙ c.if-len-eq64.true))
