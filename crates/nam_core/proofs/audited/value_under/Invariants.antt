use Rattle.std.proofs.Common.{◌≡◌}
use Rattle.nam_verbs.specs.Running.{verbs_left}
use Rattle.nam_calls.specs.Reading.{sight_of}
use Rattle.nam_reader.specs.Reading.{running}
use Rattle.nam_core.proofs.ReadLemmas.{GoesOn}
use Rattle.nam_core.proofs.audited.value_under.Given as goal

abbrev pub invariant-loop-verb : goal.invariant-loop-verb
invariant-loop-verb l = record {
  sight : l.reader.sight ≡ sight_of l.layout l.table l.position;
  goes : GoesOn l.layout l.table l.position l.words l.reader.state;
}

abbrev pub decreases-loop-verb : goal.decreases-loop-verb
decreases-loop-verb l = verbs_left (running l.seen l.reader)
