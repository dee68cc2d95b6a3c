use Rattle.std.proofs.Common.{◌≡◌, ◌++◌, [], ap, sym, ◌∙◌, append-nil}
use Rattle.std.specs.Prelude.{map}
use Rattle.si_model.proofs.HeldLemmas.{row_of, in_order, same_rows}
use Rattle.si_model.proofs.committed.rows_in_order.Goals as goal

pub returns : goal.returns
returns c =
    let left : c.loop-key.key-iterator ≡ [] = c.in-None.ensures.steps.0 in
    let all : c.loop-key.rows.items ≡ map row_of c.args.held.entries =
    sym (append-nil c.loop-key.rows.items) ∙ ap (λ es. c.loop-key.rows.items ++ map row_of es) (sym left)
    ∙ c.loop-key.invariant in
    record {
      ordered = rw all (in_order c.args.held.entries c.into_iter-key-iterator.ensures.into_iter_gives.5);
      same = λ key. rw all (same_rows c.args.held.entries key);
    }
