use Rattle.std.proofs.Common.{◌≡◌, ◌++◌, drop, length}
use Rattle.std.specs.Prelude.{string_bytes}
use Rattle.si_model.specs.Tells.{reads_in, locks_in, total}
use Rattle.nam_report.specs.Text.{events_text}
use Rattle.nam_report.proofs.log.push_events.Given as goal

-- the events from here on own the reads and locks that are left, and are still to come
abbrev pub invariant-loop-event : goal.invariant-loop-event
invariant-loop-event l = record {
  reads : total reads_in (drop l.event-index l.log.events) ≡ length l.reads;
  locks : total locks_in (drop l.event-index l.log.events) ≡ length l.locks;
  told : string_bytes l.out ++ events_text l.tables (drop l.event-index l.log.events) l.reads l.locks ≡ string_bytes
      l.initial.out ++ events_text l.tables l.log.events l.initial.reads l.initial.locks;
}
