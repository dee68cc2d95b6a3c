-- The medic's verbs come to an end; each is at a field of the shape, writes a word, and changes the field that its
-- point names.
use Rattle.std.specs.Prelude.{◌≡◌, ℕ, ◌≤◌}
use Rattle.nam_verbs.specs.VerbAt.{target}
use Rattle.nam_verbs.specs.Falls.{Falls, Any}
use Rattle.nam_catalog.specs.declared.form.Form.TheVariants.{Held}
use Rattle.nam_catalog.specs.declared.shape.Shape.{Shape}
use Rattle.nam_catalog.specs.Fits.{FitsLimits}
use Rattle.nam_layout.specs.Address.{IsField, IsWorker}
use Rattle.nam_calls.specs.declared.medic.MedicPoint.{MedicPoint}
use Rattle.nam_calls.specs.Medic.{medic_begin, medic_verb, medic_after}
use Rattle.nam_calls.specs.MedicLeft.{medic_left, medic_most}
use Rattle.nam_calls.specs.MedicFits.{MedicFits, MedicHolds, medic_writes}
use Rattle.nam_calls.specs.Holds.{IsWord, HoldsNow, WritesWord}
use Rattle.nam_calls.specs.Writes.{written_by}

-- each word leads to a point that fits with fewer verbs to come, or to the end
abbrev pub MedicFallsLaw : Type 0
MedicFallsLaw = (shape : Shape) (worker : ℕ) → FitsLimits shape → (at : MedicPoint) (found : ℕ) → MedicFits shape at
    → Falls (MedicFits shape) Any (medic_left shape) (medic_left shape at) (medic_after shape worker at found)

abbrev pub MedicBeginsLaw : Type 0
MedicBeginsLaw = (shape : Shape) → MedicFits shape medic_begin × (medic_left shape medic_begin ≤ medic_most)

-- in the form that has intents
abbrev pub MedicFieldLaw : Type 0
MedicFieldLaw = (shape : Shape) (worker : ℕ) → FitsLimits shape → shape.form ≡ Held → IsWorker shape worker
    → (at : MedicPoint) → MedicFits shape at → IsField shape (target (medic_verb shape worker at))

-- over words below 2^64 it writes such words
abbrev pub MedicHoldsLaw : Type 0
MedicHoldsLaw = (shape : Shape) (worker : ℕ) (at : MedicPoint) (found : ℕ) → MedicHolds at → IsWord found
    → HoldsNow MedicHolds Any (medic_after shape worker at found)

abbrev pub MedicWordLaw : Type 0
MedicWordLaw = (shape : Shape) (worker : ℕ) → FitsLimits shape → IsWorker shape worker → (at : MedicPoint)
    → MedicFits shape at → MedicHolds at → WritesWord (medic_verb shape worker at)

abbrev pub MedicWritesLaw : Type 0
MedicWritesLaw = (shape : Shape) (worker : ℕ) (at : MedicPoint)
    → written_by (medic_verb shape worker at) ≡ medic_writes shape worker at
