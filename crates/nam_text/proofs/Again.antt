-- What is spelt so is read, and has no space and no newline in it.
use Rattle.std.proofs.Common.{◌≡◌, ℕ, ◌^◌, ◌<◌, Bool, true, false, cond, eqb, ltb, leb, List, [], ◌∷◌, ◌++◌, length}
use Rattle.std.proofs.Common.{get_or, Some, refl, ap, ◌∙◌, arith, inl, inr, lit<}
use Rattle.std.specs.List.{list_all, join_with_byte, AllByRecursion}
use Rattle.std.specs.Char.{is_ascii_digit}
use Rattle.std.specs.Str.Parse.{digits_value}
use Rattle.std.specs.Fmt.{decimal}
use Rattle.std.proofs.lemmas.Bool.{and_from, lt-ltb, leb-true, and_parts, ne_eqb, cases_lt}
use Rattle.std.proofs.lemmas.Bool.Decides.{nat_tests}
use Rattle.std.proofs.lemmas.Fmt.{digits_decimal, digits_value-decimal, first_decimal, decimal_nonempty, decimal_digit}
use Rattle.std.proofs.lemmas.List.Splits.{slice_split_at, slice_split_none}
use Rattle.std.proofs.lemmas.List.Elements.{All-from_recursion}
use Rattle.nam_text.specs.Token.{is_number, number_of, is_name, is_name_byte}
use Rattle.nam_text.specs.Spelling.{IsPlain}
use Rattle.nam_text.specs.Fields.{fields_of}
use Rattle.nam_text.proofs.Tokens.{numerals}

shape_again : (n : ℕ) → n < 2 ^ 64
    → cond (eqb (get_or (decimal n) 0 0) 48) (eqb (length (decimal n)) 1) (ltb 0 (length (decimal n))) ≡ true
shape_again n lt = elim (cases_lt 0 n) [
  | inl some ↦ (let other : eqb (get_or (decimal n) 0 0) 48 ≡ false = ne_eqb _ _
      (λ e. absurd (omega (arith, first_decimal n some lt))) in rw (other, lt-ltb _ _ (decimal_nonempty n lt)) refl)
  | inr none ↦ (let is : n ≡ 0 = omega arith in rw (is, decimal_digit 0 (lit< tt)) refl)
]

pub number_again : (n : ℕ) → n < 2 ^ 64 → number_of (decimal n) ≡ Some (Some n)
unfolding number_of
number_again n lt =
    let digits : list_all is_ascii_digit (decimal n) ≡ true = digits_decimal numerals n lt in
    let right : is_number (decimal n) ≡ true = and_from _ _ digits (shape_again n lt) in
    let value : digits_value 10 (decimal n) ≡ n = digits_value-decimal numerals n lt in
    let small : ltb n (2 ^ 64) ≡ true = lt-ltb _ _ lt in
    rw (right, value, small) refl

apart : (b c : ℕ) → c < 42 → leb 42 b ≡ true → eqb b c ≡ false
apart b c lt h = ne_eqb _ _ (λ e. absurd (omega (arith, leb-true 42 b h)))

pub plain_avoids : (c : ℕ) (f : List ℕ) → c < 42 → IsPlain f → AllByRecursion (λ b. eqb b c ≡ false) f
plain_avoids c [] lt h = tt
plain_avoids c (b ∷ f) lt h = let p = and_parts _ _ h in (apart b c lt p.0, plain_avoids c f lt p.1)

pub all_weaker : (p q : ℕ → Bool) (f : List ℕ) → ((b : ℕ) → p b ≡ true → q b ≡ true) → list_all p f ≡ true
    → list_all q f ≡ true
all_weaker p q [] w h = refl
all_weaker p q (b ∷ f) w h = let r = and_parts _ _ h in and_from _ _ (w b r.0) (all_weaker p q f w r.1)

pub digit_high : (b : ℕ) → is_ascii_digit b ≡ true → leb 42 b ≡ true
digit_high b h = grind (arith, nat_tests)

pub name_high : (b : ℕ) → is_name_byte b ≡ true → leb 42 b ≡ true
name_high b h = grind (arith, nat_tests)

pub decimal_plain : (n : ℕ) → n < 2 ^ 64 → IsPlain (decimal n)
decimal_plain n lt = all_weaker is_ascii_digit (leb 42) (decimal n) digit_high (digits_decimal numerals n lt)

pub name_plain : (name : List ℕ) → is_name name ≡ true → IsPlain name
name_plain name good = all_weaker is_name_byte (leb 42) name name_high (and_parts _ _ good).1

pub both_avoid : (c : ℕ) (f g : List ℕ) → AllByRecursion (λ b. eqb b c ≡ false) f
    → AllByRecursion (λ b. eqb b c ≡ false) g → AllByRecursion (λ b. eqb b c ≡ false) (f ++ g)
both_avoid c [] g p q = q
both_avoid c (b ∷ f) g p q = (p.0, both_avoid c f g p.1 q)

pub no_newline : (fs : List (List ℕ)) → AllByRecursion IsPlain fs
    → AllByRecursion (λ b. eqb b 10 ≡ false) (join_with_byte 32 fs)
no_newline [] h = tt
no_newline (f ∷ []) h = plain_avoids 10 f (lit< tt) h.0
no_newline (f ∷ g ∷ fs) h =
    both_avoid 10 f (32 ∷ join_with_byte 32 (g ∷ fs)) (plain_avoids 10 f (lit< tt) h.0) (refl, no_newline (g ∷ fs) h.1)

pub split_again : (f : List ℕ) (fs : List (List ℕ)) → IsPlain f → AllByRecursion IsPlain fs
    → fields_of (join_with_byte 32 (f ∷ fs)) ≡ f ∷ fs
split_again f [] solid others =
    slice_split_none (λ b. eqb b 32) f (All-from_recursion _ f (plain_avoids 32 f (lit< tt) solid))
split_again f (g ∷ fs) solid others =
    slice_split_at (λ b. eqb b 32) f 32 (join_with_byte 32 (g ∷ fs))
    (All-from_recursion _ f (plain_avoids 32 f (lit< tt) solid)) refl
    ∙ ap (λ (r : List (List ℕ)). f ∷ r) (split_again g fs others.0 others.1)

digit_higher : (b : ℕ) → is_ascii_digit b ≡ true → leb 43 b ≡ true
digit_higher b h = grind (arith, nat_tests)

above_star : (f : List ℕ) → list_all (leb 43) f ≡ true → AllByRecursion (λ b. eqb b 42 ≡ false) f
above_star [] h = tt
above_star (b ∷ f) h =
    let p = and_parts _ _ h in (ne_eqb _ _ (λ e. absurd (omega (arith, e, leb-true 43 b p.0))), above_star f p.1)

-- no star stands in a number
pub decimal_starless : (n : ℕ) → n < 2 ^ 64 → AllByRecursion (λ b. eqb b 42 ≡ false) (decimal n)
decimal_starless n lt =
    above_star (decimal n) (all_weaker is_ascii_digit (leb 43) (decimal n) digit_higher (digits_decimal numerals n lt))
