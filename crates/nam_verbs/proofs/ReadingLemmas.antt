-- words that a call reads one after another, as steps
use Rattle.std.proofs.Common.{◌≡◌, ℕ, zero, suc, ◌+◌, ◌<◌, List, [], ◌∷◌, ◌++◌, length, refl, sym, ◌∙◌, ap, subst}
use Rattle.std.proofs.Common.{arith, true, false}
use Rattle.std.specs.Prelude.{◌==◌}
use Rattle.std.proofs.lemmas.List.{append_assoc, append-nil, length-append}
use Rattle.std.proofs.lemmas.Bool.Decides.{nat_tests}
use Rattle.nam_verbs.specs.declared.now.Now.{Now}
use Rattle.nam_verbs.specs.declared.now.Now.TheVariants.{At}
use Rattle.nam_verbs.specs.VerbAt.{VerbAt, ReadAt}
use Rattle.nam_verbs.specs.Until.{until}
use Rattle.nam_verbs.specs.Steps.{Step, Ends, saw, saw_from, saw_words, words_of}

-- a step of a verb
pub step_of : {W : Type 0} (verb : VerbAt W) (step : Step W) → verb ≡ step.verb
    → step ≡ record { verb = verb; found = step.found }
step_of verb step same = rw same refl

-- how many words were read, and which
pub length_saw : {W : Type 0} (at : ℕ → W) (nth : ℕ) (words : List ℕ) → length (saw_from at nth words) ≡ length words
length_saw at nth [] = refl
length_saw at nth (word ∷ words) = ap (λ n. suc n) (length_saw at (nth + 1) words)

pub words_of_saw : {W : Type 0} (at : ℕ → W) (nth : ℕ) (words : List ℕ) (rest : List (Step W))
    → words_of (saw_from at nth words ++ rest) ≡ words ++ words_of rest
words_of_saw at nth [] rest = refl
words_of_saw at nth (word ∷ words) rest = ap (λ ws. word ∷ ws) (words_of_saw at (nth + 1) words rest)

-- points for the words got so far, and what follows the last
module _ {W P E : Type 0} (verb : P → VerbAt W) (after : P → ℕ → Now P E) (at : ℕ → W) (width : ℕ) (more : List ℕ → P)
    (done : List ℕ → Now P E)
    (reads : (got : List ℕ) → verb (more got) ≡ ReadAt (at (length got)))
    (takes : (got : List ℕ) (word : ℕ)
    → after (more got) word ≡ until width (got ++ word ∷ []) (λ all. At (more all)) done) where
  -- the words from here on, and the steps after them
  abbrev ReadsOn : List ℕ → List (Step W) → E → Type 0
  ReadsOn got steps end =
      (words : List ℕ) × (rest : List (Step W)) × (steps ≡ saw_from at (length got) words ++ rest)
      × (length got + length words ≡ width)
      × Ends verb after (done (got ++ words)) rest end

  one_more : (got : List ℕ) (step : Step W) (steps : List (Step W)) (end : E) → verb (more got) ≡ step.verb
      → ReadsOn (got ++ step.found ∷ []) steps end
      → ReadsOn got (step ∷ steps) end
  one_more got step steps end here later =
      let long = length-append got (step.found ∷ []) in
      let is : step ≡ saw (at (length got)) step.found = step_of _ step (sym (reads got) ∙ here) in (
        step.found ∷ later.0,
        later.1,
        rw (← is, later.2, long) refl,
        omega (arith, later.3),
        rw (append_assoc got (step.found ∷ []) later.0) at later.4,
      )

  words_from : (n : ℕ) (got : List ℕ) → length got + suc n ≡ width → (steps : List (Step W)) (end : E)
      → Ends verb after (At (more got)) steps end → ReadsOn got steps end
  words_from n got wide [] end ends = absurd ends
  words_from zero got wide (step ∷ steps) end ends =
      let long = length-append got (step.found ∷ []) in
      let last : (length (got ++ step.found ∷ []) == width) ≡ true = grind (arith, nat_tests) in
      let goes : after (more got) step.found ≡ done (got ++ step.found ∷ []) = rw (takes, last) refl in
      one_more got step steps end ends.0
      ([], steps, refl, omega arith, rw append-nil (subst (λ now. Ends verb after now steps end) goes ends.1))
  words_from (suc n) got wide (step ∷ steps) end ends =
      let long = length-append got (step.found ∷ []) in
      let further : (length (got ++ step.found ∷ []) == width) ≡ false = grind (arith, nat_tests) in
      let goes : after (more got) step.found ≡ At (more (got ++ step.found ∷ [])) = rw (takes, further) refl in
      one_more got step steps end ends.0
      (words_from n (got ++ step.found ∷ []) (omega arith) steps end
      (subst (λ now. Ends verb after now steps end) goes ends.1))

  all_words : (w : ℕ) → w ≡ width → 0 < w → (steps : List (Step W)) (end : E)
      → Ends verb after (At (more [])) steps end → ReadsOn [] steps end
  all_words zero same some = absurd (omega arith)
  all_words (suc n) same some = words_from n [] (omega arith)

  -- a call that begins to read words reads them all, and goes on
  pub words_read : 0 < width → (steps : List (Step W)) (end : E) → Ends verb after (At (more [])) steps end
      → (words : List ℕ) × (rest : List (Step W)) × (steps ≡ saw_words at words ++ rest) × (length words ≡ width)
      × Ends verb after (done words) rest end
  words_read some steps end ends =
      let all = all_words width refl some steps end ends in (all.0, all.1, all.2, omega (arith, all.3), all.4)

  read_from : (words got : List ℕ) (nth : ℕ) → nth ≡ length got → 0 < length words → nth + length words ≡ width
      → (rest : List (Step W)) (end : E)
      → Ends verb after (done (got ++ words)) rest end
      → Ends verb after (At (more got)) (saw_from at nth words ++ rest) end
  read_from [] got nth is some wide rest end ends = absurd (omega arith)
  read_from (word ∷ []) got nth is some wide rest end ends =
      let long = length-append got (word ∷ []) in
      let last : (length (got ++ word ∷ []) == width) ≡ true = grind (arith, nat_tests) in
      let goes : after (more got) word ≡ done (got ++ word ∷ []) = rw (takes, last) refl in
      (rw is (reads got), subst (λ now. Ends verb after now rest end) (sym goes) ends)
  read_from (word ∷ next ∷ words) got nth is some wide rest end ends =
      let long = length-append got (word ∷ []) in
      let further : (length (got ++ word ∷ []) == width) ≡ false = grind (arith, nat_tests) in
      let goes : after (more got) word ≡ At (more (got ++ word ∷ [])) = rw (takes, further) refl in
      let later =
      read_from (next ∷ words) (got ++ word ∷ []) (nth + 1) (omega arith) (omega arith) (omega arith) rest end
      (rw (← append_assoc got (word ∷ []) (next ∷ words)) at ends) in (
        rw is (reads got),
        subst (λ now. Ends verb after now (saw_from at (nth + 1) (next ∷ words) ++ rest) end)
            (sym goes) later,
      )

  pub reads_words : (words : List ℕ) → 0 < width → length words ≡ width → (rest : List (Step W)) (end : E)
      → Ends verb after (done words) rest end
      → Ends verb after (At (more [])) (saw_words at words ++ rest) end
  reads_words words some wide rest end ends = read_from words [] 0 refl (omega arith) (omega arith) rest end ends
