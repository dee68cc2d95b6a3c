use Rattle.std.proofs.Common.{◌++◌, ◌+◌, ◌-◌, ap, sym, ◌∙◌}
use Rattle.nam_protocol.specs.Opening.{copies}
use Rattle.nam_core.proofs.CopyLemmas.{copies_next, copies_done}
use Rattle.nam_core.proofs.blank.push_copies.Goals as goal

pub loop-preserved : goal.loop-preserved
loop-preserved c =
    let pattern = c.args.pattern.now in
    ap (λ ws. ws ++ copies (c.args.count - (c.loop.counter + 1)) pattern) c.in_ok-extend_from_slice.ensures.items
    ∙ copies_next c.loop.words.items c.loop.counter c.args.count pattern c.loop-test.true
    ∙ c.loop.invariant

pub returns : goal.returns
returns c =
    sym (copies_done c.loop.words.items c.loop.counter c.args.count c.args.pattern.now c.loop-test.false)
    ∙ c.loop.invariant
