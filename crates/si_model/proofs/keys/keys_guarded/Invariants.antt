use Rattle.std.proofs.Common.{◌≡◌, [], drop}
use Rattle.si_model.specs.Evaluation.{key_guarded, keys_from}
use Rattle.si_model.proofs.keys.keys_guarded.Given as goal

-- with the keys of the operations from here on, all are there
abbrev pub invariant-loop-op : goal.invariant-loop-op
invariant-loop-op l = keys_from key_guarded l.keys (drop l.op-index l.ops) ≡ keys_from key_guarded [] l.ops
