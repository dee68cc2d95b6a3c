use Rattle.std.proofs.Common.{◌≡◌, ◌++◌, drop, map}
use Rattle.si_model.specs.Rows.{item_key}
use Rattle.si_model.specs.History.{keys_of}
use Rattle.si_model.proofs.keys.keys_of.Given as goal

abbrev pub invariant-loop-item : goal.invariant-loop-item
invariant-loop-item l = l.keys ++ map item_key (drop l.item-index l.writes) ≡ map item_key l.fn.writes

abbrev pub invariant-loop-key : goal.invariant-loop-key
invariant-loop-key l = l.keys ++ drop l.key-index l.guards ≡ keys_of l.fn.writes l.fn.guards
