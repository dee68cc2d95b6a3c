-- Where the verb of a point stands, and what a word that is taken leads to.
use Rattle.std.proofs.Common.{◌≡◌, ℕ, ◌<◌, Option, None, refl, sym, ◌∙◌, ap, subst}
use Rattle.std.specs.Prelude.{IsSome}
use Rattle.si_model.specs.declared.log.Finish.{Finish}
use Rattle.nam_verbs.specs.Verb.{address_of}
use Rattle.nam_verbs.specs.VerbAt.{VerbAt, ReadAt, WriteAt, ExchangeAt, target, verb_by}
use Rattle.nam_verbs.specs.declared.now.Now.TheVariants.{At, Over}
use Rattle.nam_verbs.specs.Now.{FitsNow, verb_now, left_now}
use Rattle.nam_verbs.specs.Running.{verb_from}
use Rattle.nam_verbs.specs.Falls.{Any}
use Rattle.nam_verbs.proofs.TakenLemmas.{taken}
use Rattle.nam_catalog.specs.declared.form.Form.TheVariants.{Held}
use Rattle.nam_catalog.specs.declared.shape.Shape.{Shape}
use Rattle.nam_catalog.specs.Fits.{FitsLimits}
use Rattle.nam_catalog.specs.Words.{words_of}
use Rattle.nam_layout.specs.Address.{IsWorker, address}
use Rattle.nam_layout.proofs.AddressLemmas.{found_there}
use Rattle.nam_calls.specs.declared.medic.MedicPoint.{MedicPoint}
use Rattle.nam_calls.specs.Medic.{MedicNow, medic_verb, medic_after}
use Rattle.nam_calls.specs.MedicLeft.{medic_left}
use Rattle.nam_calls.specs.MedicFits.{MedicFits}
use Rattle.nam_calls.proofs.MedicFalls.{falls_law}
use Rattle.nam_calls.proofs.MedicVerbs.{field_law}
use Rattle.nam_medic.specs.Medic.{Finishing, running, Serves}

-- a verb is where its target stands
stands_at : {W : Type 0} (place : W → ℕ) (verb : VerbAt W) → address_of (verb_by place verb) ≡ place (target verb)
stands_at place (ReadAt at) = refl
stands_at place (WriteAt at word) = refl
stands_at place (ExchangeAt at expect word) = refl

-- each verb is at a word of the shape
pub verb_within : (shape : Shape) (worker : ℕ) → FitsLimits shape → shape.form ≡ Held → IsWorker shape worker
    → (at : MedicPoint) → MedicFits shape at
    → address_of (verb_by (address shape) (medic_verb shape worker at)) < words_of shape
verb_within shape worker limits held is at fits =
    let verb = medic_verb shape worker at in
    let field = field_law shape worker limits held is at fits in
    subst (λ n. n < words_of shape) (sym (stands_at (address shape) verb))
    (found_there shape (target verb) field).0

-- a word is taken where a verb stands: the point that follows fits, with fewer verbs to come
pub goes_on : (shape : Shape) (a : Finishing) (found : ℕ) → FitsLimits shape → Serves shape a
    → (old new : MedicNow) (at : MedicPoint) → a.state ≡ old → old ≡ At at → new ≡ medic_after shape a.worker at found
    → FitsNow (MedicFits shape) new × (left_now (medic_left shape) new < a.left)
goes_on shape a found limits serves old new at same is goes =
    let both = taken (MedicFits shape) Any (medic_left shape) (λ at. medic_after shape a.worker at found)
    (λ at here. falls_law shape a.worker limits at found here) a.state new at serves.fits (same ∙ is) goes in
    (both.0, subst (λ n. left_now (medic_left shape) new < n) (sym serves.left) both.1)

-- and none stands after the end
pub stands_before_end : (shape : Shape) (a : Finishing) (old : MedicNow) (end : Finish) → Serves shape a
    → IsSome a.verb → a.state ≡ old → old ≡ Over end → ⊥
stands_before_end shape a old end serves some same over =
    let none : a.verb ≡ None = serves.verb ∙ ap (verb_now (verb_from (running shape a))) (same ∙ over) in
    let stands = rw none at some in absurd (cc)
