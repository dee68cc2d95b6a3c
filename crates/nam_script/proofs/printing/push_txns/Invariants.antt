use Rattle.std.proofs.Common.{◌≡◌, ◌++◌, drop}
use Rattle.std.specs.Prelude.{string_bytes}
use Rattle.std.specs.List.{flat_map}
use Rattle.nam_script.specs.Text.{txn_text}
use Rattle.nam_script.proofs.printing.push_txns.Given as goal

-- the transactions from here on are still to come
abbrev pub invariant-loop-txn : goal.invariant-loop-txn
invariant-loop-txn l =
    string_bytes l.out ++ flat_map (txn_text l.tables) (drop l.txn-index l.txns)
    ≡ string_bytes l.initial.out ++ flat_map (txn_text l.tables) l.txns
