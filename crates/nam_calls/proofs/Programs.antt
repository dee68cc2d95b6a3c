-- When a call does what a program says: words one after another, parts of composed calls, and that there is one such
-- program.
use Rattle.std.proofs.Common.{◌≡◌, ℕ, zero, suc, ◌+◌, ◌<◌, Bool, true, false, not, List, [], ◌∷◌, ◌++◌, length, refl}
use Rattle.std.proofs.Common.{sym, ◌∙◌, ap, subst, arith, length-append}
use Rattle.std.proofs.Math.Path.{fun_ext}
use Rattle.std.specs.Prelude.{if◌then◌else◌, ◌==◌}
use Rattle.std.proofs.lemmas.Bool.Decides.{nat_tests}
use Rattle.nam_verbs.specs.declared.now.Now.{Now}
use Rattle.nam_verbs.specs.declared.now.Now.TheVariants.{At, Over}
use Rattle.nam_verbs.specs.Until.{until}
use Rattle.nam_verbs.specs.VerbAt.{VerbAt, ReadAt, WriteAt}
use Rattle.nam_layout.specs.declared.field.Field.{Field}
use Rattle.nam_calls.specs.Program.{Prog, Ret, Do, ◌>>=◌, words, write_words, IsProgram, IsTheProgram, standing}
use Rattle.nam_calls.specs.Program.{taking}

-- 1. Tests on both sides

module _ {X Y : Type 0} (F : X → Y → Type 0) where
  pub both : (b : Bool) (x x' : X) (y y' : Y) → (b ≡ true → F x y) → (b ≡ false → F x' y')
      → F (if b then x else x') (if b then y else y')
  both true x x' y y' f g = f refl
  both false x x' y y' f g = g refl

  -- where the program asks for the opposite
  pub both_not : (b : Bool) (x x' : X) (y y' : Y) → (b ≡ false → F x' y') → (b ≡ true → F x y)
      → F (if b then x else x') (if not b then y' else y)
  both_not true x x' y y' f g = g refl
  both_not false x x' y y' f g = f refl

-- a verb that stands, and what follows its word
pub word_then : {A B : Type 0} → A → B → A × B
word_then here next = (here, next)

-- the last of so many, or another one
module _ {X : Type 0} (F : X → Type 0) (nth count : ℕ) (last more : X) where
  pub is_last : nth + 1 ≡ count → F last → F (if nth + 1 == count then last else more)
  is_last e f =
      let t : (nth + 1 == count) ≡ true = grind (arith, nat_tests) in
      subst (λ b. F (if b then last else more)) (sym t) f

  pub is_more : (rest : ℕ) → nth + 2 + rest ≡ count → F more → F (if nth + 1 == count then last else more)
  is_more rest e f =
      let t : (nth + 1 == count) ≡ false = grind (arith, nat_tests) in
      subst (λ b. F (if b then last else more)) (sym t) f

-- the same where the last itself is counted
module _ {X : Type 0} (F : X → Type 0) (nth count : ℕ) (last more : X) where
  pub at_last : nth ≡ count → F last → F (if nth == count then last else more)
  at_last e f =
      let t : (nth == count) ≡ true = grind (arith, nat_tests) in subst (λ b. F (if b then last else more)) (sym t) f

  pub before_last : (rest : ℕ) → nth + 1 + rest ≡ count → F more → F (if nth == count then last else more)
  before_last rest e f =
      let t : (nth == count) ≡ false = grind (arith, nat_tests) in subst (λ b. F (if b then last else more)) (sym t) f

module _ {S A : Type 0} (stands : S → Now (VerbAt Field) A) (after : S → ℕ → S) where
  -- 2. A call does what one program says

  pub program_unique : (call : S) (p q : Prog A) → IsProgram stands after call p → IsProgram stands after call q → p ≡ q
  program_unique call (Ret a) (Ret b) f g = cc
  program_unique call (Ret a) (Do verb next) f g = absurd (cc)
  program_unique call (Do verb next) (Ret b) f g = absurd (cc)
  program_unique call (Do v next) (Do w other) f g =
      let e : v ≡ w = cc in
      ap (λ k. Do v k)
      (fun_ext (λ found. program_unique (after call found) (next found) (other found) (f.1 found) (g.1 found)))
      ∙ ap (λ k. Do k other) e

  pub the_program : (call : S) (p : Prog A) → IsProgram stands after call p → IsTheProgram stands after call p
  the_program call p f = record { does = f; only = λ other g. program_unique call other p g f }

  -- 3. Words

  -- points for the words got so far, and after the last
  module _ (at : ℕ → Field) (width : ℕ) (more done : List ℕ → S) (rest : List ℕ → Prog A)
      (stands_more : (got : List ℕ) → stands (more got) ≡ At (ReadAt (at (length got))))
      (after_more : (got : List ℕ) (word : ℕ) → after (more got) word ≡ until width (got ++ word ∷ []) more done)
      (wide : 0 < width)
      (goes_on : (got : List ℕ) → length got ≡ width → IsProgram stands after (done got) (rest got)) where
    abbrev Reads : ℕ → List ℕ → S → Type 0
    Reads n got call = IsProgram stands after call (words at n got >>= rest)

    words_from : (n : ℕ) (got : List ℕ) → length got + suc n ≡ width → Reads (suc n) got (more got)
    words_from zero got e = word_then (stands_more got) λ word.
        let l = length-append got (word ∷ []) in
        let t : (length (got ++ word ∷ []) == width) ≡ true = grind (arith, nat_tests) in
        subst (Reads zero (got ++ word ∷ [])) (sym (after_more got word))
        (subst (λ b. Reads zero (got ++ word ∷ []) (if b then done (got ++ word ∷ []) else more (got ++ word ∷ [])))
        (sym t)
        (goes_on (got ++ word ∷ []) (omega arith)))
    words_from (suc n) got e = word_then (stands_more got) λ word.
        let l = length-append got (word ∷ []) in
        let t : (length (got ++ word ∷ []) == width) ≡ false = grind (arith, nat_tests) in
        subst (Reads (suc n) (got ++ word ∷ [])) (sym (after_more got word))
        (subst (λ b. Reads (suc n) (got ++ word ∷ [])
        (if b then done (got ++ word ∷ []) else more (got ++ word ∷ []))) (sym t)
        (words_from n (got ++ word ∷ []) (omega arith)))

    words_are : (w : ℕ) → w ≡ width → Reads w [] (more [])
    words_are zero e = absurd (omega arith)
    words_are (suc n) e = words_from n [] (omega arith)

    pub words_is : Reads width [] (more [])
    words_is = words_are width refl

  -- 4. Writes one after another

  module _ (at : ℕ → Field) (word : ℕ → ℕ) (count : ℕ) (here : ℕ → S) (done : S) (rest : Prog A)
      (stands_here : (nth : ℕ) → stands (here nth) ≡ At (WriteAt (at nth) (word nth)))
      (after_here : (nth found : ℕ) → after (here nth) found ≡ (if nth + 1 == count then done else here (nth + 1)))
      (goes_on : IsProgram stands after done rest) where
    abbrev Writes : ℕ → ℕ → S → Type 0
    Writes n nth call = IsProgram stands after call (write_words at word n nth >>= λ end. rest)

    -- those from the nth on, where none may be left
    pub writes_left : (n nth : ℕ) → nth + n ≡ count → Writes n nth (if nth == count then done else here nth)
    writes_left zero nth e = at_last (Writes zero nth) nth count _ _ (omega arith) goes_on
    writes_left (suc n) nth e =
        before_last (Writes (suc n) nth) nth count _ _ n (omega arith) (word_then (stands_here nth) λ found.
        subst (Writes n (nth + 1)) (sym (after_here nth found)) (writes_left n (nth + 1) (omega arith)))

    writes_are : (n : ℕ) → n ≡ count → 0 < n → Writes n 0 (here 0)
    writes_are zero e l = absurd (omega arith)
    writes_are (suc n) e l = word_then (stands_here 0) λ found.
        subst (Writes n (0 + 1)) (sym (after_here 0 found)) (writes_left n (0 + 1) (omega arith))

    pub writes_is : 0 < count → Writes count 0 (here 0)
    writes_is l = writes_are count refl l

-- 5. A part of a composed call: on says what follows what the part has come to

-- where the rest of the call has something at hand beside, of which the part tells at each of its points what it is
module _ {C S A P E : Type 0} (stands : S → Now (VerbAt Field) A) (after : S → ℕ → S) (verb : P → VerbAt Field)
    (part : P → ℕ → Now P E) (on : C → Now P E → S) (hand : C → P → C)
    (stands_in : (c : C) (place : P) → stands (on c (At place)) ≡ At (verb place))
    (after_in : (c : C) (place : P) (found : ℕ)
    → after (on c (At place)) found ≡ on (hand c place) (part place found))
    (rest : E → Prog A) (goes_on : (c : C) (end : E) → IsProgram stands after (on c (Over end)) (rest end)) where
  pub part_with : (c : C) (now : Now P E) (p : Prog E) → IsProgram (standing verb) (taking part) now p
      → IsProgram stands after (on c now) (p >>= rest)
  part_with c (Over end) (Ret answer) f =
      let e : end ≡ answer = cc in subst (λ k. IsProgram stands after (on c (Over end)) (rest k)) e (goes_on c end)
  part_with c (At place) (Ret answer) f = absurd (cc)
  part_with c (Over end) (Do v next) f = absurd (cc)
  part_with c (At place) (Do v next) f =
      let here = f.0 in let same : verb place ≡ v = cc in
      word_then (stands_in c place ∙ ap At same) λ found.
      subst (λ call. IsProgram stands after call (next found >>= rest)) (sym (after_in c place found))
      (part_with (hand c place) (part place found) (next found) (f.1 found))

module _ {S A P E : Type 0} (stands : S → Now (VerbAt Field) A) (after : S → ℕ → S) (verb : P → VerbAt Field)
    (part : P → ℕ → Now P E) (on : Now P E → S)
    (stands_in : (place : P) → stands (on (At place)) ≡ At (verb place))
    (after_in : (place : P) (found : ℕ) → after (on (At place)) found ≡ on (part place found)) (rest : E → Prog A)
    (goes_on : (end : E) → IsProgram stands after (on (Over end)) (rest end)) where
  pub part_is : (now : Now P E) (p : Prog E) → IsProgram (standing verb) (taking part) now p
      → IsProgram stands after (on now) (p >>= rest)
  part_is now p f =
      part_with {C = Unit {0}} stands after verb part (λ c. on) (λ c place. c) (λ c. stands_in) (λ c. after_in) rest
      (λ c. goes_on) tt now p f
