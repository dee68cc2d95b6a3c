use Rattle.std.proofs.Common.{rules}
use Rattle.std.proofs.lemmas.Bool.{false≢true}
use Rattle.nam_client.proofs.registers.new_registers.Goals as goal

pub returns-clause-room : goal.returns-clause-room
returns-clause-room c = record {
  events = search rules;
  closes = search rules;
  reads = search rules;
  locks = search rules;
  writes = search rules;
  snaps = search rules;
  scanned = search rules;
  counts = λ e. absurd (false≢true e);
}
