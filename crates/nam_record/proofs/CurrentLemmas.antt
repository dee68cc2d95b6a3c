-- what the reading of a current version saw, by its end
use Rattle.std.proofs.Common.{◌≡◌, ◌⊎◌, inl, inr, ℕ, ◌<◌, Bool, true, false, ◌||◌, Some, None}
use Rattle.std.proofs.Common.{List, [], ◌∷◌, ◌++◌, length, refl, sym, subst}
use Rattle.std.specs.Prelude.{if◌then◌else◌, IsTrue, IsFalse}
use Rattle.nam_verbs.specs.declared.now.Now.{Now}
use Rattle.nam_verbs.specs.declared.now.Now.TheVariants.{At, Over}
use Rattle.nam_verbs.specs.Steps.{Step, Ends, saw, saw_words}
use Rattle.nam_verbs.proofs.TestLemmas.{by_test, if_in}
use Rattle.nam_verbs.proofs.ReadingLemmas.{step_of, words_read, reads_words}
use Rattle.nam_verbs.specs.VerbAt.{VerbAt}
use Rattle.nam_header.specs.Stamp.{is_locked, is_deleted, same_stamp, sees}
use Rattle.nam_layout.specs.declared.field.Place.{Place}
use Rattle.nam_layout.specs.declared.field.Field.{Field}
use Rattle.nam_layout.specs.declared.field.Field.TheVariants as field
use Rattle.nam_calls.specs.declared.record.CurrentPoint.{CurrentPoint}
use Rattle.nam_calls.specs.declared.record.CurrentPoint.TheVariants.{CurrentHead, CurrentWords, CurrentAgain}
use Rattle.nam_calls.specs.declared.record.CurrentEnd.{CurrentEnd}
use Rattle.nam_calls.specs.declared.record.CurrentEnd.TheVariants.{Found, Unsure, GoOld}
use Rattle.nam_calls.specs.Record.{current_verb, current_after}
use Rattle.nam_record.specs.CurrentLaw.{SawUnseen, SawDeletion, SawTwice, SawWhole, SawLocked, SawAnother}

-- 1. Choices

-- one of two tests says yes, or both say no
one_says : (a b : Bool) → (a || b) ≡ true → (a ≡ true) ⊎ (b ≡ true)
one_says true b says = inl refl
one_says false b says = inr says

none_says : (a b : Bool) → (a || b) ≡ false → (a ≡ false) × (b ≡ false)
none_says true b none = absurd (cc)
none_says false b none = (refl, none)

says_of_one : (a b : Bool) → (a ≡ true) ⊎ (b ≡ true) → (a || b) ≡ true
says_of_one true b one = refl
says_of_one false b (inl says) = absurd (cc)
says_of_one false b (inr says) = says

none_of_both : (a b : Bool) → a ≡ false → b ≡ false → (a || b) ≡ false
none_of_both true b none other = absurd (cc)
none_of_both false b none other = other

module _ (place : Place) (seen : List ℕ) where
  abbrev verb : CurrentPoint → VerbAt Field
  verb = current_verb place

  abbrev after : CurrentPoint → ℕ → Now CurrentPoint CurrentEnd
  after = current_after place seen

  abbrev EndsSo : Now CurrentPoint CurrentEnd → List (Step Field) → CurrentEnd → Type 0
  EndsSo = Ends verb after

  abbrev visible_at : ℕ → Bool
  visible_at header = sees place.form seen header

  abbrev deleted_at : ℕ → Bool
  deleted_at header = is_deleted place.form header

  abbrev locked_at : ℕ → ℕ → Bool
  locked_at first again = is_locked place.form first || is_locked place.form again

  -- a look at the header, and all data words after it
  abbrev looked : ℕ → Step Field
  looked header = saw (field.Header place.row) header

  abbrev looked_on : ℕ → List ℕ → List (Step Field) → List (Step Field)
  looked_on first value rest = looked first ∷ saw_words (field.Word place.row) value ++ rest

  abbrev goes_again : ℕ → List ℕ → Now CurrentPoint CurrentEnd
  goes_again header value = At (CurrentAgain header value)

  -- what each end tells of the steps
  abbrev pub Tells : CurrentEnd → List (Step Field) → Type 0
  Tells (Found None) steps = SawDeletion place seen steps
  Tells (Found (Some value)) steps = SawWhole place seen steps value
  Tells (Unsure value header) steps = SawLocked place seen steps value header
  Tells GoOld steps = SawUnseen place seen steps ⊎ SawAnother place seen steps

  -- 2. From the steps to what they tell

  -- a reading that is over takes no step
  told_over : (shown : List (Step Field) → List (Step Field)) (over : CurrentEnd) → Tells over (shown [])
      → (steps : List (Step Field)) (end : CurrentEnd) → EndsSo (Over over) steps end → Tells end (shown steps)
  told_over shown over told [] end ends = subst (λ e. Tells e (shown [])) ends told
  told_over shown over told (step ∷ steps) end ends = absurd ends

  -- after the words, by the header read again
  again_tells : (first : ℕ) (value : List ℕ) → length value ≡ place.width
      → IsTrue (visible_at first) → IsFalse (deleted_at first)
      → (steps : List (Step Field)) (end : CurrentEnd) → EndsSo (At (CurrentAgain first value)) steps end
      → Tells end (looked_on first value steps)
  again_tells first value whole visible present [] end ends = absurd ends
  again_tells first value whole visible present (step ∷ steps) end ends =
      let again = step.found in
      let is : looked again ≡ step = sym (step_of _ step ends.0) in
      let shown = λ (rest : List (Step Field)). looked_on first value (looked again ∷ rest) in
      let looks : SawTwice place seen (shown []) value first again =
      record { whole = whole; steps_are = refl; visible = visible; present = present } in
      let Claim = λ (now : Now CurrentPoint CurrentEnd). EndsSo now steps end → Tells end (shown steps) in
      let unsure = Over (Unsure value first) in
      let found = Over (Found (Some value)) in
      let told : Tells end (shown steps) =
      by_test Claim (same_stamp place.form again first) (if locked_at first again then unsure else found) (Over GoOld)
      (λ same. by_test Claim (locked_at first again) unsure found
      (λ locked. let one = one_says _ _ locked in
      told_over shown (Unsure value first)
      record { again = again; looks = looks; same = same; locked = one } steps end)
      (λ free. let both = none_says _ _ free in told_over shown (Found (Some value)) record {
        first = first;
        again = again;
        looks = looks;
        same = same;
        unlocked = both.0;
        still_unlocked = both.1;
      } steps end))
      (λ other. told_over shown GoOld
      (inr record { value = value; first = first; again = again; looks = looks; other = other }) steps end)
      ends.1 in
      subst (λ s. Tells end (looked_on first value (s ∷ steps))) is told

  pub current_tells : 0 < place.width → (steps : List (Step Field)) (end : CurrentEnd)
      → EndsSo (At CurrentHead) steps end
      → Tells end steps
  current_tells some [] end ends = absurd ends
  current_tells some (step ∷ steps) end ends =
      let header = step.found in
      let is : looked header ≡ step = sym (step_of _ step ends.0) in
      let shown = λ (rest : List (Step Field)). looked header ∷ rest in
      let Claim = λ (now : Now CurrentPoint CurrentEnd). EndsSo now steps end → Tells end (shown steps) in
      let reads = At (CurrentWords header []) in
      let told : Tells end (shown steps) =
      by_test Claim (visible_at header) (if deleted_at header then Over (Found None) else reads) (Over GoOld)
      (λ visible. by_test Claim (deleted_at header) (Over (Found None)) reads
      (λ deleted. told_over shown (Found None)
      record { header = header; steps_are = refl; visible = visible; deleted = deleted } steps end)
      (λ present goes.
      let all = words_read verb after (field.Word place.row) place.width (CurrentWords header) (goes_again header)
      (λ got. refl) (λ got word. if_in At _ _ _) some steps end goes in
      rw all.2 (again_tells header all.0 all.3 visible present all.1 end all.4)))
      (λ unseen. told_over shown GoOld (inl record { header = header; steps_are = refl; unseen = unseen }) steps end)
      ends.1 in
      subst (λ s. Tells end (s ∷ steps)) is told

  -- 3. And back

  -- two looks at a version, where the second leads to this end
  ends_again : (steps : List (Step Field)) (value : List ℕ) (first again : ℕ) (end : CurrentEnd) → 0 < place.width
      → SawTwice place seen steps value first again → after (CurrentAgain first value) again ≡ Over end
      → EndsSo (At CurrentHead) steps end
  ends_again steps value first again end some looks leads =
      let begins : after CurrentHead first ≡ At (CurrentWords first []) = rw (looks.visible, looks.present) refl in
      let last : EndsSo (At (CurrentAgain first value)) (looked again ∷ []) end = (refl, rw leads refl) in
      let words = reads_words verb after (field.Word place.row) place.width (CurrentWords first) (goes_again first)
      (λ got. refl) (λ got word. if_in At _ _ _) value some looks.whole (looked again ∷ []) end last in
      rw looks.steps_are (
        refl,
        subst (λ now. EndsSo now (saw_words (field.Word place.row) value ++ looked again ∷ []) end)
            (sym begins) words,
      )

  pub told_ends : 0 < place.width → (steps : List (Step Field)) (end : CurrentEnd) → Tells end steps
      → EndsSo (At CurrentHead) steps end
  told_ends some steps (Found None) told =
      let goes : after CurrentHead told.header ≡ Over (Found None) = rw (told.visible, told.deleted) refl in
      rw told.steps_are (refl, rw goes refl)
  told_ends some steps (Found (Some value)) told =
      let free : locked_at told.first told.again ≡ false = none_of_both _ _ told.unlocked told.still_unlocked in
      ends_again steps value told.first told.again (Found (Some value)) some told.looks (rw (told.same, free) refl)
  told_ends some steps (Unsure value header) told =
      let locked : locked_at header told.again ≡ true = says_of_one _ _ told.locked in
      ends_again steps value header told.again (Unsure value header) some told.looks (rw (told.same, locked) refl)
  told_ends some steps GoOld (inl told) =
      let goes : after CurrentHead told.header ≡ Over GoOld = rw told.unseen refl in
      rw told.steps_are (refl, rw goes refl)
  told_ends some steps GoOld (inr told) =
      ends_again steps told.value told.first told.again GoOld some told.looks (rw told.other refl)
