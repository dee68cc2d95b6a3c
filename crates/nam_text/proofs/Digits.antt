-- Digits read one after the other.
use Rattle.std.proofs.Common.{◌≡◌, ℕ, ◌+◌, ◌*◌, ◌^◌, ◌<◌, ◌≤◌, Bool, true, false, cond, ltb, ◌&&◌, List, [], ◌∷◌, length}
use Rattle.std.proofs.Common.{drop, get_or, Option, None, Some, refl, sym, ap, ◌∙◌, drop-cons, add-one, arith}
use Rattle.std.specs.List.{list_all}
use Rattle.std.specs.Char.{is_ascii_digit, digit_value}
use Rattle.std.specs.Str.Parse.{digits_value_after}
use Rattle.std.proofs.lemmas.Bool.{ltb-false, le-ltb}
use Rattle.std.proofs.lemmas.Bool.Decides.{nat_tests}
use Rattle.std.proofs.lemmas.List.{drop_all}
use Rattle.std.proofs.lemmas.Str.{digit_value_digit}
use Rattle.nam_text.specs.Token.{is_led, with_digit, number_value, number_of}

at_least : (b : ℕ) → is_ascii_digit b ≡ true → 48 ≤ b
at_least b h = grind (arith, nat_tests)

at_most : (b : ℕ) → is_ascii_digit b ≡ true → b ≤ 57
at_most b h = grind (arith, nat_tests)

-- a digit's value is what it is above 48
pub digit_is : (b : ℕ) → is_ascii_digit b ≡ true → digit_value b + 48 ≡ b
digit_is b h = digit_value_digit b (at_least b h, at_most b h)

pub digit_small : (b : ℕ) → is_ascii_digit b ≡ true → digit_value b ≤ 9
digit_small b h = omega (arith, digit_is b h, at_most b h)

-- ---- the digits from a place on, behind a number

abbrev pub number_from : Option ℕ → List ℕ → Option ℕ
number_from None ds = None
number_from (Some n) ds =
    cond (ltb (digits_value_after 10 n ds) (2 ^ 64)) (Some (digits_value_after 10 n ds)) None

grows : (n : ℕ) (ds : List ℕ) → n ≤ digits_value_after 10 n ds
grows n [] = omega arith
grows n (d ∷ ds) = omega (arith, grows (n * 10 + digit_value d) ds)

small_or_none : (n : ℕ) (ds : List ℕ) (b : Bool) → ltb n (2 ^ 64) ≡ b
    → number_from (cond b (Some n) None) ds ≡ number_from (Some n) ds
small_or_none n ds true e = refl
small_or_none n ds false e =
    let large : 2 ^ 64 ≤ digits_value_after 10 n ds = omega (arith, ltb-false n (2 ^ 64) e, grows n ds) in
    rw (le-ltb _ _ large) refl

one_on : (value : Option ℕ) (b : ℕ) (ds : List ℕ)
    → number_from (with_digit value (digit_value b)) ds ≡ number_from value (b ∷ ds)
one_on None b ds = refl
one_on (Some n) b ds = small_or_none (n * 10 + digit_value b) ds (ltb (n * 10 + digit_value b) (2 ^ 64)) refl

still_small : (n : ℕ) (b : Bool) → ltb n (2 ^ 64) ≡ b → number_from (cond b (Some n) None) [] ≡ cond b (Some n) None
still_small n true e = rw e refl
still_small n false e = refl

alone : (value : Option ℕ) (d : ℕ) → number_from (with_digit value d) [] ≡ with_digit value d
alone None d = refl
alone (Some n) d = still_small (n * 10 + d) (ltb (n * 10 + d) (2 ^ 64)) refl

-- the digits before place i are all digits, and spell this number
pub record IsSoFar (field : List ℕ) (i : ℕ) (value : Option ℕ) : Type 0 where
  pub digits : list_all is_ascii_digit (drop i field) ≡ list_all is_ascii_digit field
  pub number : number_from value (drop i field) ≡ number_value field
  pub small : number_from value [] ≡ value

pub at_place : (field : List ℕ) (i : ℕ) → i < length field → drop i field ≡ get_or field i 0 ∷ drop (i + 1) field
at_place field i lt =
    drop-cons field i 0 lt ∙ ap (λ (n : ℕ). get_or field i 0 ∷ drop n field) (sym (add-one i))

pub at_start : (field : List ℕ) → IsSoFar field 0 (Some 0)
at_start field = record { digits = refl; number = refl; small = refl }

pub one_more : (field : List ℕ) (i d : ℕ) (value : Option ℕ) → IsSoFar field i value → i < length field
    → is_ascii_digit (get_or field i 0) ≡ true → d ≡ digit_value (get_or field i 0)
    → IsSoFar field (i + 1) (with_digit value d)
one_more field i d value so_far lt is e =
    let b = get_or field i 0 in
    let here = at_place field i lt in
    let rest : list_all is_ascii_digit (drop i field) ≡ list_all is_ascii_digit (drop (i + 1) field) = rw (here, is) refl in
    let on : number_from (with_digit value d) (drop (i + 1) field) ≡ number_from value (drop i field) = rw (e, here)
    (one_on value b (drop (i + 1) field)) in
    record { digits = sym rest ∙ so_far.digits; number = on ∙ so_far.number; small = alone value d }

-- ---- what a field spells

pub no_number : (b : Bool) (v : Option ℕ) → b ≡ false → cond b (Some v) None ≡ None
no_number b v e = rw e refl

and_no : (b : Bool) → (b && false) ≡ false
and_no true = refl
and_no false = refl

pub not_led : (field : List ℕ) → is_led field ≡ false → number_of field ≡ None
unfolding number_of
not_led field e =
    no_number _ _ (ap (λ (b : Bool). list_all is_ascii_digit field && b) e ∙ and_no (list_all is_ascii_digit field))

pub no_digit : (field : List ℕ) (i : ℕ) (value : Option ℕ) → IsSoFar field i value → i < length field
    → is_ascii_digit (get_or field i 0) ≡ false → number_of field ≡ None
unfolding number_of
no_digit field i value so_far lt not =
    let none : list_all is_ascii_digit (drop i field) ≡ false = rw (at_place field i lt, not) refl in
    no_number _ _ (ap (λ (b : Bool). b && is_led field) (sym so_far.digits ∙ none))

pub all_digits : (field : List ℕ) (i : ℕ) (value : Option ℕ) → IsSoFar field i value → length field ≤ i
    → is_led field ≡ true → number_of field ≡ Some value
unfolding number_of
all_digits field i value so_far past led =
    let none = drop_all i field past in
    let digits : list_all is_ascii_digit field ≡ true = sym so_far.digits ∙ ap (list_all is_ascii_digit) none in
    let number : number_value field ≡ value = sym so_far.number ∙ ap (number_from value) none ∙ so_far.small in
    rw (digits, led, number) refl
