-- What is read is spelt so.
use Rattle.std.proofs.Common.{◌≡◌, ℕ, ◌^◌, ◌<◌, Bool, true, false, cond, eqb, ltb, List, [], ◌∷◌, length, get_or}
use Rattle.std.proofs.Common.{Option, Some, None, refl, sym, ap, ◌∙◌, subst, arith, inl, inr}
use Rattle.std.specs.List.{list_all}
use Rattle.std.specs.Char.{is_ascii_digit}
use Rattle.std.specs.Str.{bytes_eq}
use Rattle.std.specs.Str.Parse.{digits_value}
use Rattle.std.specs.Fmt.{decimal}
use Rattle.std.proofs.lemmas.Bool.{cases_eq, cond-true, cond-false, and_parts, ltb-true, eqb-true, eq-eqb, ne_eqb}
use Rattle.std.proofs.lemmas.Option.{cond_some}
use Rattle.std.proofs.lemmas.Slice.Eq.{bytes_eq-Decides}
use Rattle.std.proofs.lemmas.Fmt.{decimal-digits_value}
use Rattle.nam_text.specs.Token.{is_number, number_value, number_of, number_text}
use Rattle.nam_text.specs.Read.{◌>>=◌, word_at}
use Rattle.nam_text.specs.Spelling.{FitsWord, IsWord}
use Rattle.nam_text.proofs.Tokens.{numerals}

-- what follows from a step and from what comes after it
pub bind_then : {A B P : Type 0} (o : Option A) (f : A → Option B) (y : B) → (o >>= f) ≡ Some y
    → ((x : A) → o ≡ Some x → f x ≡ Some y → P) → P
bind_then (Some x) f y e p = p x refl e
bind_then None f y e p = absurd cc

-- what follows from a choice, whichever way its test went
pub if_then : {A P : Type 0} (b : Bool) (x y z : A) → cond b x y ≡ z → (b ≡ true → x ≡ z → P) → (b ≡ false → y ≡ z → P)
    → P
if_then true x y z e p q = p refl e
if_then false x y z e p q = q refl e

pub word_takes : (w : List ℕ) (fs rest : List (List ℕ)) → word_at w fs ≡ Some rest → fs ≡ w ∷ rest
word_takes w [] rest e = absurd cc
word_takes w (f ∷ fs) rest e =
    let h = cond_some (bytes_eq f w) fs rest e in
    let same : f ≡ w = (bytes_eq-Decides f w).0 h.0 in
    rw (same, h.1) refl

is_value : (f : List ℕ) (n : ℕ) → cond (ltb (digits_value 10 f) (2 ^ 64)) (Some (digits_value 10 f)) None ≡ Some n
    → (digits_value 10 f < 2 ^ 64) × (digits_value 10 f ≡ n)
is_value f n e = let h = cond_some (ltb (digits_value 10 f) (2 ^ 64)) (digits_value 10 f) n e in (ltb-true _ _ h.0, h.1)

-- the lengths that `is_number` asks for
shape : (f : List ℕ) → cond (eqb (get_or f 0 0) 48) (eqb (length f) 1) (ltb 0 (length f)) ≡ true
    → (0 < length f) × (get_or f 0 0 ≡ 48 → length f ≡ 1)
shape f e = elim (cases_eq (get_or f 0 0) 48) [
  | inl is_zero ↦ (let one : length f ≡ 1 = eqb-true _ _ (sym (cond-true _ _ _ (eq-eqb _ _ is_zero)) ∙ e) in
      (omega arith, λ _. one))
  | inr other ↦ (ltb-true _ _ (sym (cond-false _ _ _ (ne_eqb _ _ other)) ∙ e), λ h. absurd (other h))
]

pub number_takes : (f : List ℕ) (o : Option ℕ) → number_of f ≡ Some o → IsWord o → FitsWord o × (f ≡ number_text o)
unfolding number_of
number_takes f None e small = absurd small
number_takes f (Some n) e small =
    let h = cond_some (is_number f) (number_value f) (Some n) e in
    let parts = and_parts (list_all is_ascii_digit f) _ h.0 in
    let fits = shape f parts.1 in
    let v = is_value f n h.1 in (
      subst (λ (m : ℕ). m < 2 ^ 64) v.1 v.0,
      sym (decimal-digits_value numerals f parts.0 fits.0 fits.1 v.0) ∙ ap decimal
          v.1,
    )
