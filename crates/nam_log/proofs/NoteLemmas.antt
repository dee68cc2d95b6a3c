-- Notes with one more.
use Rattle.std.proofs.Common.{◌≡◌, suc, List, [], ◌∷◌, ◌++◌, length, refl, ap}
use Rattle.si_model.specs.declared.log.Event.{Event}
use Rattle.nam_log.specs.declared.note.Note.{Note}
use Rattle.nam_log.specs.Notes.{event_of, events_of}

pub events_one_more : (notes : List Note) (note : Note)
    → events_of (notes ++ note ∷ []) ≡ events_of notes ++ event_of note ∷ []
events_one_more [] note = refl
events_one_more (other ∷ notes) note = ap (λ (x : List Event). event_of other ∷ x) (events_one_more notes note)

pub events_count : (notes : List Note) → length (events_of notes) ≡ length notes
events_count [] = refl
events_count (note ∷ notes) = ap suc (events_count notes)
