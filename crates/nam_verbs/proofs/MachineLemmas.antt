-- machines on words that nobody else changes
use Rattle.std.proofs.Common.{◌≡◌, ◌<◌, ◌≤◌, ℕ, zero, suc, Option, Some, None, List, length, [], ◌∷◌, refl, sym, ◌∙◌}
use Rattle.std.proofs.Common.{ap, arith}
use Rattle.std.proofs.lemmas.Grind.{common_steps}
use Rattle.nam_verbs.specs.declared.verb.Verb.{Verb}
use Rattle.nam_verbs.specs.declared.verb.Verb.TheVariants.{Read, Write, Exchange}
use Rattle.nam_verbs.specs.Verb.{found_by, after_verb}
use Rattle.nam_verbs.specs.Running.{Running, next_verb, after_found}
use Rattle.nam_verbs.specs.Machine.{after_words, LeadsTo, driven}

-- a verb keeps the number of words
pub length-after_verb : (words : List ℕ) (verb : Verb) → length (after_verb words verb) ≡ length words
length-after_verb words (Read at) = refl
length-after_verb words (Write at word) = grind (arith, common_steps)
length-after_verb words (Exchange at expect word) = grind (arith, common_steps)

module _ {W P E : Type 0} where
  -- words change nothing but where a call stands
  pub only_state : (call : Running W P E) (words : List ℕ)
      → after_words call words ≡ record call { state = (after_words call words).state }
  only_state call [] = refl
  only_state call (word ∷ words) = only_state (after_found call word) words

  -- a call that has ended does nothing more
  pub driven-none : (n : ℕ) (call : Running W P E) (words : List ℕ) → next_verb call ≡ None
      → driven n call words ≡ (call, words)
  driven-none zero call words over = refl
  driven-none (suc n) call words over = rw (over, driven) refl

  -- a run from a call that has ended leads nowhere else
  pub driven_at_end : (n : ℕ) (words : List ℕ) {call : Running W P E} {all : Running W P E × List ℕ}
      → next_verb call ≡ None → driven n call words ≡ all → (call ≡ all.0) × (words ≡ all.1)
  driven_at_end n words {call} over run =
      let same = sym (driven-none n call words over) ∙ run in
      (ap (λ (run : Running W P E × List ℕ). run.0) same, ap (λ (run : Running W P E × List ℕ). run.1) same)

  -- one verb of a run, where the verb that stands is given apart from the call
  leads_on : (n : ℕ) (call : Running W P E) (words : List ℕ) (stands : Option Verb) → next_verb call ≡ stands
      → ((later : Running W P E) (words' : List ℕ) → LeadsTo later (driven n later words').0)
      → LeadsTo call (driven (suc n) call words).0
  leads_on n call words None is leads = ([], tt, rw (is, driven) refl)
  leads_on n call words (Some verb) is leads =
      let found = found_by words verb in
      let later = leads (after_found call found) (after_verb words verb) in
      (found ∷ later.0, (rw is refl, later.1), rw (is, driven) later.2)

  -- a run leads to what the call is after some found words
  pub driven-leads : (n : ℕ) (call : Running W P E) (words : List ℕ) → LeadsTo call (driven n call words).0
  driven-leads zero call words = ([], tt, refl)
  driven-leads (suc n) call words = leads_on n call words (next_verb call) refl (driven-leads n)

  -- a run goes on after its first verb, with fewer verbs to come, and leads where the whole run leads
  pub driven-verb : (fuel rest rest' : ℕ) (words : List ℕ) (verb : Verb) (call : Running W P E)
      {later : Running W P E} {words' : List ℕ} {all : Running W P E × List ℕ} → rest ≤ fuel → rest' < rest
      → next_verb call ≡ Some verb
      → later ≡ after_found call (found_by words verb) → words' ≡ after_verb words verb
      → driven fuel call words ≡ all → (fuel' : ℕ) × (rest' ≤ fuel') × (driven fuel' later words' ≡ all)
  driven-verb zero rest rest' words verb call enough falls stands taken changed run = absurd (omega arith)
  driven-verb (suc n) rest rest' words verb call {later} {words'} {all} enough falls stands taken changed run =
      let run' : driven n (after_found call (found_by words verb)) (after_verb words verb) ≡ all =
      sym (rw (stands, driven) refl) ∙ run in
      (n, omega arith, rw (taken, changed) run')
