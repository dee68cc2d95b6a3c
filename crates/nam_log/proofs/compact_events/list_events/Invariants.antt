use Rattle.std.proofs.Common.{◌≡◌, ◌+◌, ◌≤◌, ◌++◌, length, drop}
use Rattle.nam_log.specs.Notes.{events_of}
use Rattle.nam_log.proofs.compact_events.list_events.Given as goal

abbrev pub invariant-loop-note : goal.invariant-loop-note
invariant-loop-note l = record {
  items : l.list.items ++ events_of (drop l.note-index l.notes) ≡ l.fn.list.items ++ events_of l.notes;
  room : l.list.room + l.note-index ≡ l.fn.list.room;
  enough : length l.notes ≤ l.fn.list.room;
}
