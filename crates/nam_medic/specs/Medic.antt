-- The medic as a machine that is given the shape with each word.
use Rattle.std.specs.Prelude.{◌≡◌, ℕ, Option}
use Rattle.si_model.specs.declared.log.Finish.{Finish}
use Rattle.nam_verbs.specs.declared.verb.Verb.{Verb}
use Rattle.nam_verbs.specs.declared.now.Now.{Now}
use Rattle.nam_verbs.specs.declared.now.Now.TheVariants.{At}
use Rattle.nam_verbs.specs.Now.{FitsNow}
use Rattle.nam_verbs.specs.Running.{Running, next_verb, verbs_left}
use Rattle.nam_catalog.specs.declared.form.Form.TheVariants.{Held}
use Rattle.nam_catalog.specs.declared.shape.Shape.{Shape}
use Rattle.nam_catalog.specs.Words.{words_of}
use Rattle.nam_layout.specs.declared.field.Field.{Field}
use Rattle.nam_layout.specs.Address.{IsWorker, address}
use Rattle.nam_calls.specs.declared.medic.MedicPoint.{MedicPoint}
use Rattle.nam_calls.specs.Medic.{MedicNow, medic_begin, medic_verb, medic_after}
use Rattle.nam_calls.specs.MedicLeft.{medic_left}
use Rattle.nam_calls.specs.MedicFits.{MedicFits}

-- the medic of a stopped worker: where it stands, and, for the shape that it serves, the verb that stands and how many
-- verbs are to come
pub record Finishing : Type 0 where
  pub worker : ℕ
  pub state : MedicNow
  pub verb : Option Verb
  pub left : ℕ

-- the same as a running call over a shape
abbrev pub running : Shape → Finishing → Running Field MedicPoint Finish
running shape a = record {
  address = address shape;
  reach = words_of shape;
  verb = medic_verb shape a.worker;
  after = medic_after shape a.worker;
  left = medic_left shape;
  state = a.state;
}

-- it serves this shape, which has intents and the worker
pub record Serves (shape : Shape) (a : Finishing) : Type 0 where
  pub form : shape.form ≡ Held
  pub worker : IsWorker shape a.worker
  pub fits : FitsNow (MedicFits shape) a.state
  pub verb : a.verb ≡ next_verb (running shape a)
  pub left : a.left ≡ verbs_left (running shape a)
