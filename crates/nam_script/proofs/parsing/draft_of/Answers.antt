use Rattle.std.proofs.Common.{◌≡◌, ◌&&◌, true, false, eqb, length, refl, sym, ap, ◌∙◌, subst, arith}
use Rattle.nam_script.specs.Stages.{can_end}
use Rattle.nam_script.specs.Parse.{draft_from, draft_of}
use Rattle.nam_script.proofs.LineTurns.{goes_on, stops, no_more}
use Rattle.nam_script.specs.declared.draft.Draft.{Draft}
use Rattle.nam_script.proofs.Counting.{IsLine, first_line, next_line, line_most}
use Rattle.nam_script.proofs.parsing.draft_of.Goals as goal

pub overflow_add-line : goal.overflow_add-line
overflow_add-line c = omega (arith, line_most c.loop-first.line c.loop-first.draft c.loop-first.invariant.1)

pub loop-first-init : goal.loop-first-init
unfolding draft_of
loop-first-init c =
    (rw c.new-draft.ensures refl, subst (λ (d : Draft). IsLine 1 d) (sym c.new-draft.ensures) first_line)

pub returns-in-Err : goal.returns-in-Err
returns-in-Err c =
    rw (c.end_at.ensures, ← c.loop-first.invariant.0, c.in-Some.ensures.lines)
    (stops c.loop-first.line c.loop-first.draft c.take.new.self c.in-Some.first.now c.in-Some.more.now c.in-Err.end
    c.in-Err.ensures)

pub loop-first-preserved : goal.loop-first-preserved
loop-first-preserved c = (
  sym (goes_on c.loop-first.line c.loop-first.draft c.take.new.self c.in-Some.first.now c.in-Some.more.now
      c.in_default-take.ensures) ∙ ap (draft_from c.loop-first.line c.loop-first.draft) (sym c.in-Some.ensures.lines)
      ∙ c.loop-first.invariant.0,
  next_line _ c.loop-first.draft c.take.new.self c.in-Some.first.now
      c.loop-first.invariant.1 c.in_default-take.ensures,
)

pub returns-then-is_whole : goal.returns-then-is_whole
returns-then-is_whole c =
    let whole : (eqb (length c.loop-first.rest.now) 0 && can_end c.loop-first.draft.stage) ≡ true = sym
    c.if-is_whole.ensures in
    sym c.loop-first.invariant.0
    ∙ no_more c.loop-first.line c.loop-first.draft c.loop-first.rest.now c.in_default.ensures.lines ∙ rw whole refl

pub returns-else-is_whole : goal.returns-else-is_whole
returns-else-is_whole c =
    let cut : (eqb (length c.loop-first.rest.now) 0 && can_end c.loop-first.draft.stage) ≡ false = sym
    c.if-is_whole.ensures in
    sym c.loop-first.invariant.0
    ∙ no_more c.loop-first.line c.loop-first.draft c.loop-first.rest.now c.in_default.ensures.lines ∙ rw cut refl
