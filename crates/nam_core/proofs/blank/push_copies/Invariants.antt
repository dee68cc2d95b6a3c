use Rattle.std.proofs.Common.{◌≡◌, ◌++◌, ◌-◌}
use Rattle.nam_protocol.specs.Opening.{copies}
use Rattle.nam_core.proofs.blank.push_copies.Given as goal

abbrev pub invariant-loop : goal.invariant-loop
invariant-loop l =
    l.words.items ++ copies (l.count - l.counter) l.pattern ≡ l.fn.words.items ++ copies l.count l.pattern
