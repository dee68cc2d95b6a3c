use Rattle.std.proofs.Common.{◌≡◌, ◌++◌, drop}
use Rattle.std.specs.Prelude.{string_bytes}
use Rattle.std.specs.List.{flat_map}
use Rattle.nam_script.specs.Text.{op_text}
use Rattle.nam_script.proofs.printing.push_txn.Given as goal

-- the operations from here on are still to come
abbrev pub invariant-loop-op : goal.invariant-loop-op
invariant-loop-op l =
    string_bytes l.out ++ flat_map (op_text l.tables) (drop l.op-index l.txn.ops)
    ≡ string_bytes l.initial.out ++ flat_map (op_text l.tables) l.txn.ops
