use Rattle.std.proofs.Common.{◌≡◌, ◌+◌, ◌++◌, drop}
use Rattle.std.specs.Prelude.{string_bytes}
use Rattle.nam_report.specs.Text.{entries_text}
use Rattle.nam_report.proofs.history.push_entries.Given as goal

-- the entries from here on are still to come
abbrev pub invariant-loop-place : goal.invariant-loop-place
invariant-loop-place l =
    string_bytes l.out ++ entries_text l.tables (l.place + 1) (drop l.place l.history) ≡ string_bytes l.initial.out ++
    entries_text l.tables 1 l.history
