use Rattle.std.proofs.Common.{subst, sym}
use Rattle.std.specs.Prelude.{◌≡◌, ◌%◌, length, IfSome}
use Rattle.nam_verbs.specs.declared.verb.Verb.TheVariants.{Read}
use Rattle.nam_verbs.specs.Running.{next_verb}
use Rattle.nam_verbs.proofs.MachineLemmas.{only_state}
use Rattle.nam_vector.specs.Snap.{snapping, running}
use Rattle.nam_vector.proofs.OrderLemmas.{stands_after, is_bounded, reads_next}
use Rattle.nam_vector.proofs.laws.order_law.Goals as goal

pub returns-clause-order : goal.returns-clause-order
returns-clause-order c workers least words takes =
    subst (λ call. IfSome (next_verb call) (λ verb. verb ≡ Read (length words % workers)))
    (sym (only_state (running (snapping workers)) words))
    (reads_next workers _ _ (stands_after workers least words takes))

pub returns-clause-bound : goal.returns-clause-bound
returns-clause-bound c workers least words takes = is_bounded workers _ _ (stands_after workers least words takes)
