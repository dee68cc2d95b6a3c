use Rattle.std.proofs.Common.{◌≡◌, ◌≤◌, ◌++◌, drop}
use Rattle.std.specs.Prelude.{string_bytes}
use Rattle.nam_script.specs.Text.{stints_text}
use Rattle.nam_script.proofs.printing.push_stints.Given as goal

-- the stints from here on are still to come
abbrev pub invariant-loop-stint : goal.invariant-loop-stint
invariant-loop-stint l = record {
  told : string_bytes l.out ++ stints_text l.room (drop l.stint-index l.stints) ≡ string_bytes l.initial.out ++
      stints_text 64 l.stints;
  room : l.room ≤ 64;
}
