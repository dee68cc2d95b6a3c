-- Events as notes.
use Rattle.std.specs.Prelude.{ℕ, Option, Some, None, List, [], ◌∷◌}
use Rattle.si_model.specs.declared.log.Outcome.{Outcome}
use Rattle.si_model.specs.declared.log.Event.{Event}
use Rattle.si_model.specs.declared.log.Event.TheVariants.{Tried, NoRoom, Moved}
use Rattle.nam_log.specs.declared.note.Counts.{Counts}
use Rattle.nam_log.specs.declared.note.Note.{Note}
use Rattle.nam_log.specs.declared.note.Note.TheVariants as note

-- the attempt of these counts
abbrev pub tried : Counts → Option ℕ → Outcome → Event
tried counts prefix outcome = Tried record {
  txn = counts.txn;
  nth = counts.nth;
  prefix = prefix;
  reads = counts.reads;
  locks = counts.locks;
  writes = counts.writes;
  outcome = outcome;
}

-- the event that a note stands for
abbrev pub event_of : Note → Event
event_of (note.Begun counts prefix outcome) = tried counts (Some prefix) outcome
event_of (note.Unbegun counts outcome) = tried counts None outcome
event_of (note.NoRoom bucket) = NoRoom bucket
event_of (note.Moved bucket table key stamp how) = Moved bucket table key stamp how

abbrev pub events_of : List Note → List Event
events_of [] = []
events_of (note ∷ notes) = event_of note ∷ events_of notes
