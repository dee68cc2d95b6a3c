-- A step of a world, by the words as a function of fields.
use Rattle.std.specs.Prelude.{◌≡◌, ℕ, length, Some}
use Rattle.nam_verbs.specs.VerbAt.{VerbAt, target, found_at, left_at}
use Rattle.nam_catalog.specs.declared.shape.Shape.{Shape}
use Rattle.nam_catalog.specs.Fits.{FitsLimits}
use Rattle.nam_catalog.specs.Words.{words_of}
use Rattle.nam_layout.specs.declared.field.Field.{Field}
use Rattle.nam_layout.specs.Address.{IsField}
use Rattle.nam_calls.specs.Memory.{memory, Changes}
use Rattle.nam_protocol.specs.declared.session.SessionState.{SessionState}
use Rattle.nam_protocol.specs.Session.{session_verb, session_after}
use Rattle.nam_protocol.specs.World.{World, session_of, with_session, step}
use Rattle.nam_protocol.specs.ClientFits.{ClientFits}
use Rattle.nam_protocol.specs.SessionFits.{MedicStands}

-- the worker's session does this verb, at a field of the shape: it takes the word that it finds there, and that field
-- alone is changed
pub record StepsBy (shape : Shape) (world : World) (worker : ℕ) (session : SessionState) (verb : VerbAt Field)
    (after : World) : Type 0 where
  pub at_field : IsField shape (target verb)
  pub takes : after ≡ with_session (record world { words = after.words }) worker
      (session_after shape session (found_at (memory shape world.words) verb))
  pub changes : Changes shape world.words after.words (target verb) (left_at (memory shape world.words) verb)

abbrev pub StepLaw : Type 0
StepLaw =
    (shape : Shape) → FitsLimits shape → (world : World) (worker : ℕ) (session : SessionState) (verb : VerbAt Field)
    → length world.words ≡ words_of shape → session_of world worker ≡ Some session
    → ClientFits shape session.client → MedicStands shape session.client.medic → session_verb shape session ≡ Some verb
    → StepsBy shape world worker session verb (step shape world worker)
