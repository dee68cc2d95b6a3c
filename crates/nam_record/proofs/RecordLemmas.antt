-- what one more look, the reading of the data words and an install do
use Rattle.std.proofs.Common.{◌≡◌, ℕ, ◌+◌, ◌<◌, Bool, List, [], ◌∷◌, ◌++◌, length, Option, Some, None}
use Rattle.std.proofs.Common.{refl, sym, ap, arith}
use Rattle.std.proofs.lemmas.List.{append-nil}
use Rattle.nam_verbs.specs.declared.now.Now.{Now}
use Rattle.nam_verbs.specs.declared.now.Now.TheVariants.{At, Over}
use Rattle.nam_verbs.specs.Running.{Running}
use Rattle.nam_verbs.specs.Steps.{Step, Ends, EndsWith, EndsAfter, saw_words, verbs_of}
use Rattle.nam_verbs.proofs.StepsLemmas.{law_of_verbs}
use Rattle.nam_verbs.proofs.ReadingLemmas.{step_of, words_read, reads_words}
use Rattle.nam_verbs.proofs.WritingLemmas.{writes_words}
use Rattle.nam_verbs.specs.VerbAt.{VerbAt, WriteAt}
use Rattle.nam_layout.specs.declared.field.Place.{Place}
use Rattle.nam_layout.specs.declared.field.Field.{Field}
use Rattle.nam_layout.specs.declared.field.Field.TheVariants as field
use Rattle.nam_calls.specs.declared.record.InstallPoint.{InstallPoint}
use Rattle.nam_calls.specs.declared.record.InstallPoint.TheVariants.{InstallWord, InstallCount}
use Rattle.nam_calls.specs.Record.{words_verb, words_after, install_verb, install_after}
use Rattle.nam_calls.specs.Fits.{HasWidth}
use Rattle.nam_calls.specs.Words.{wrapped}
use Rattle.nam_record.specs.Recheck.{rechecking}
use Rattle.nam_record.specs.RecheckLaw.{SawOnceMore}
use Rattle.nam_record.specs.WordsLaw.{SawData}
use Rattle.nam_record.specs.Install.{installing}
use Rattle.nam_record.specs.InstallLaw.{version_writes}
use Rattle.nam_record.specs.Recheck as recheck
use Rattle.nam_record.specs.Install as install

-- 1. One more look

module _ (place : Place) (header : ℕ) where
  abbrev LookEnds : List (Step Field) → Bool → Type 0
  LookEnds steps same = EndsWith (recheck.running (rechecking place header)) steps same

  pub look_tells : (steps : List (Step Field)) (same : Bool) → LookEnds steps same → SawOnceMore place header steps same
  look_tells [] same ends = absurd ends
  look_tells (step ∷ []) same ends =
      record { found = step.found; steps_are = ap (λ s. s ∷ []) (step_of _ step ends.0); answer = sym ends.1 }
  look_tells (step ∷ other ∷ steps) same ends = absurd ends.1

  pub told_look : (steps : List (Step Field)) (same : Bool) → SawOnceMore place header steps same → LookEnds steps same
  told_look steps same told = rw told.steps_are (refl, sym told.answer)

-- 2. The data words

module _ (place : Place) (some : 0 < place.width) where
  abbrev EndsSo : Now (List ℕ) (List ℕ) → List (Step Field) → List ℕ → Type 0
  EndsSo = Ends (words_verb place) (words_after place)

  all_told : (steps : List (Step Field)) (words : List ℕ) (rest : List (Step Field)) (value : List ℕ)
      → steps ≡ saw_words (field.Word place.row) words ++ rest → length words ≡ place.width
      → EndsSo (Over words) rest value
      → SawData place steps value
  all_told steps words [] value is whole over =
      record { whole = rw (← over) whole; steps_are = rw (← over) (rw append-nil at is) }
  all_told steps words (step ∷ rest) value is whole over = absurd over

  pub words_tell : (steps : List (Step Field)) (value : List ℕ) → EndsSo (At []) steps value → SawData place steps value
  words_tell steps value ends =
      let all = words_read (words_verb place) (words_after place) (field.Word place.row) place.width (λ got. got) Over
      (λ got. refl) (λ got word. refl) some steps value ends in
      all_told steps all.0 all.1 value all.2 all.3 all.4

  pub told_words : (steps : List (Step Field)) (value : List ℕ) → SawData place steps value → EndsSo (At []) steps value
  told_words steps value told =
      let words =
      reads_words (words_verb place) (words_after place) (field.Word place.row) place.width (λ got. got) Over
      (λ got. refl) (λ got word. refl) value some told.whole [] value refl in
      rw told.steps_are (rw append-nil at words)

-- 3. An install

module _ (place : Place) (some : 0 < place.width) (count header : ℕ) where
  abbrev call : Option (List ℕ) → Running Field InstallPoint (Unit {0})
  call value = install.running (installing place value count header)

  abbrev writes : Option (List ℕ) → List (VerbAt Field)
  writes value = version_writes place value count header

  pub install_writes : (value : Option (List ℕ)) → HasWidth place.width value
      → EndsAfter (call value) (writes value) tt
  install_writes None wide = (refl, λ found. (refl, λ found. refl))
  install_writes (Some words) wide =
      writes_words (install_verb place (Some words) count header) (λ at found. install_after place at)
      (field.Word place.row)
      words InstallWord (At InstallCount) (λ nth. refl) (λ nth found. rw wide refl)
      (WriteAt (field.Count place.row) (wrapped (count + 1)) ∷ WriteAt (field.Header place.row) header ∷ []) tt
      (refl, λ found. (refl, λ found. refl)) (omega arith)

  pub only_writes : (value : Option (List ℕ)) → HasWidth place.width value → (steps : List (Step Field))
      → (EndsWith (call value) steps tt → verbs_of steps ≡ writes value)
      × (verbs_of steps ≡ writes value → EndsWith (call value) steps tt)
  only_writes value wide steps =
      let law = law_of_verbs Field InstallPoint (Unit {0}) (call value) (writes value) tt (install_writes value wide)
      steps tt in
      (λ ends. (law.0 ends).0, λ same. law.1 (same, refl))
