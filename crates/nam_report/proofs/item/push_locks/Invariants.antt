use Rattle.std.proofs.Common.{◌≡◌, ◌++◌, drop}
use Rattle.std.specs.Prelude.{string_bytes}
use Rattle.nam_report.specs.Text.{locks_text}
use Rattle.nam_report.proofs.item.push_locks.Given as goal

-- the locks from here on are still to come
abbrev pub invariant-loop-lock : goal.invariant-loop-lock
invariant-loop-lock l =
    string_bytes l.out ++ locks_text l.tables (drop l.lock-index l.locks) ≡ string_bytes l.initial.out ++ locks_text
    l.tables l.locks
