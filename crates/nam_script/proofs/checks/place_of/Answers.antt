use Rattle.std.proofs.Common.{sym, ◌∙◌}
use Rattle.nam_script.proofs.Places.{another_name, that_name, no_name}
use Rattle.nam_script.proofs.checks.place_of.Goals as goal

pub returns-then-eq-clause-place : goal.returns-then-eq-clause-place
returns-then-eq-clause-place c =
    sym (that_name _ _ _ _ c.loop-place-test.true c.index-tables-place.is
    (rw (← c.as_str.ensures, ← c.as_bytes.ensures.value) (sym c.if-eq.ensures)))
    ∙ c.loop-place.invariant

pub loop-place-preserved : goal.loop-place-preserved
loop-place-preserved c =
    another_name _ _ _ _ c.loop-place-test.true c.index-tables-place.is (rw (← c.as_str.ensures, ← c.as_bytes.ensures.value) (sym c.if-eq.ensures))
    ∙ c.loop-place.invariant

pub returns-clause-place : goal.returns-clause-place
returns-clause-place c = sym (no_name _ _ _ c.loop-place-test.false) ∙ c.loop-place.invariant
