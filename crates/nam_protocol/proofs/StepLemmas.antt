-- A step of a world, by the words as a function of fields.
use Rattle.std.proofs.Common.{◌≡◌, ℕ, length, Option, Some, None, sym, ap, subst}
use Rattle.std.proofs.lemmas.Option.{none-some, same_Some}
use Rattle.si_model.specs.declared.log.Finish.{Finish}
use Rattle.nam_verbs.specs.declared.now.Now.{Now}
use Rattle.nam_verbs.specs.declared.now.Now.TheVariants.{At, Over}
use Rattle.nam_verbs.specs.Verb.{after_verb}
use Rattle.nam_verbs.specs.VerbAt.{VerbAt}
use Rattle.nam_catalog.specs.declared.shape.Shape.{Shape}
use Rattle.nam_catalog.specs.Fits.{FitsLimits}
use Rattle.nam_catalog.specs.Words.{words_of}
use Rattle.nam_layout.specs.declared.field.Field.{Field}
use Rattle.nam_calls.specs.declared.medic.MedicPoint.{MedicPoint}
use Rattle.nam_calls.specs.Medic.{medic_verb}
use Rattle.nam_calls.specs.Memory.{verb_there}
use Rattle.nam_calls.proofs.MedicVerbs.{field_law}
use Rattle.nam_calls.proofs.MemoryLemmas.{verb_changes}
use Rattle.nam_protocol.specs.declared.session.SessionState.{SessionState}
use Rattle.nam_protocol.specs.Session.{verb_by, session_after}
use Rattle.nam_protocol.specs.World.{World, with_session, step_by, step_of, taken_by}
use Rattle.nam_protocol.specs.ClientFits.{ClientFits}
use Rattle.nam_protocol.specs.FieldLaw.{IsAtField}
use Rattle.nam_protocol.specs.SessionFits.{MedicStands}
use Rattle.nam_protocol.specs.StepLaw.{StepsBy, StepLaw}
use Rattle.nam_protocol.proofs.FieldLemmas.{client_fields}

module _ (shape : Shape) (world : World) (worker : ℕ) (session : SessionState) (verb : VerbAt Field) where
  abbrev IsStep : World → Type 0
  IsStep after = StepsBy shape world worker session verb after

  taken_steps : length world.words ≡ words_of shape → IsAtField shape verb
      → IsStep (taken_by shape world worker session (verb_there shape verb))
  taken_steps whole is =
      let does = verb_changes shape world.words verb whole is in
      let words = after_verb world.words (verb_there shape verb) in
      record {
        at_field = is;
        takes = ap (λ found. with_session (record world { words = words }) worker (session_after shape session found))
            does.0;
        changes = does.1;
      }

-- the verb is the client's or the medic's
session_fields : (shape : Shape) → FitsLimits shape → (session : SessionState) (verb : VerbAt Field)
    → ClientFits shape session.client → (medic : Option (Now MedicPoint Finish)) → MedicStands shape medic
    → verb_by shape session medic ≡ Some verb → IsAtField shape verb
session_fields shape limits session verb fits None stands e = client_fields shape limits session.client verb fits e
session_fields shape limits session verb fits (Some (At place)) stands e =
    let worker = session.client.worker in
    subst (IsAtField shape) (same_Some (medic_verb shape worker place) verb e)
    (field_law shape worker limits stands.0 fits.0 place stands.1)
session_fields shape limits session verb fits (Some (Over how)) stands e = absurd (none-some verb e)

pub step_law : StepLaw
step_law shape limits world worker session verb whole here fits treated stands =
    let is = session_fields shape limits session verb fits session.client.medic treated stands in
    let Is : World → Type 0 = IsStep shape world worker session verb in
    subst (λ (s : Option SessionState). Is (step_of shape world worker s)) (sym here)
    (subst (λ (v : Option (VerbAt Field)). Is (step_by shape world worker session v)) (sym stands)
    (taken_steps shape world worker session verb whole is))
