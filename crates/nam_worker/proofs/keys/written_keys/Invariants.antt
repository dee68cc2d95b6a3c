use Rattle.std.proofs.Common.{◌≡◌, drop}
use Rattle.si_model.specs.Evaluation.{key_written, keys_from, written_keys}
use Rattle.nam_worker.proofs.keys.written_keys.Given as goal

-- with the keys of the operations from here on, all are there
abbrev pub invariant-loop-op : goal.invariant-loop-op
invariant-loop-op l = keys_from key_written l.keys (drop l.op-index l.ops) ≡ written_keys l.ops
