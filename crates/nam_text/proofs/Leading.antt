-- The digits at the front of a line, and the field that they are.
use Rattle.std.proofs.Common.{◌≡◌, ℕ, suc, ◌+◌, ◌-◌, ◌*◌, ◌^◌, ◌<◌, ◌≤◌, true, eqb, leb, List, [], ◌∷◌, ◌++◌, length}
use Rattle.std.proofs.Common.{take, drop, get_or, Some, refl, sym, ap, ◌∙◌, subst, add-one, drop-cons, arith, lit<}
use Rattle.std.specs.List.{list_all}
use Rattle.std.specs.Char.{is_ascii_digit, digit_value}
use Rattle.std.specs.Str.Parse.{digits_value, digits_value_after}
use Rattle.std.proofs.Math.Nat.{pow-le-pow_right, pow-suc}
use Rattle.std.proofs.lemmas.Bool.{lt-ltb, and_from}
use Rattle.std.proofs.lemmas.List.{take_all, take_more, take-append-drop, length-drop}
use Rattle.std.proofs.lemmas.List.Folds.{list_all-append}
use Rattle.std.proofs.lemmas.List.Splits.{slice_split_at, slice_split_none}
use Rattle.std.proofs.lemmas.List.Elements.{All-from_recursion}
use Rattle.nam_text.specs.Token.{is_led, number_of, is_name_byte}
use Rattle.nam_text.specs.Fields.{fields_of, IsLeading}
use Rattle.nam_text.specs.Spelling.{IsPlain}
use Rattle.nam_text.proofs.Digits.{digit_small}
use Rattle.nam_text.proofs.Again.{all_weaker, digit_high, name_high, plain_avoids}

-- ---- the digits, read one after the other

one_power : (i : ℕ) → 10 ^ (i + 1) ≡ 10 ^ i * 10
one_power i = ap (λ (n : ℕ). 10 ^ n) (add-one i) ∙ pow-suc 10 i

-- one digit more keeps it below 2^64
room_for_digit : (i value d : ℕ) → value < 10 ^ i → d ≤ 9 → i < 19 → value * 10 + d < 2 ^ 64
room_for_digit i value d small digit lt =
    let most : 10 ^ i ≤ 10 ^ 18 = pow-le-pow_right (lit< tt) {i = i} {j = 18} (omega arith) in
    omega (arith, most)

-- the first bytes are digits, and spell this number
pub record IsRun (line : List ℕ) (count number : ℕ) : Type 0 where
  pub most : count ≤ 19
  pub within : count ≤ length line
  pub digits : list_all is_ascii_digit (take count line) ≡ true
  pub value : digits_value 10 (take count line) ≡ number
  pub small : number < 10 ^ count

pub run_start : (line : List ℕ) → IsRun line 0 0
run_start line = record { most = omega arith; within = omega arith; digits = refl; value = refl; small = lit< tt }

value_one_more : (n : ℕ) (ds : List ℕ) (d : ℕ)
    → digits_value_after 10 n (ds ++ d ∷ []) ≡ digits_value_after 10 n ds * 10 + digit_value d
value_one_more n [] d = refl
value_one_more n (x ∷ ds) d = value_one_more (n * 10 + digit_value x) ds d

digits_one_more : (ds : List ℕ) (d : ℕ) → list_all is_ascii_digit ds ≡ true → is_ascii_digit d ≡ true
    → list_all is_ascii_digit (ds ++ d ∷ []) ≡ true
digits_one_more ds d all is = list_all-append is_ascii_digit ds (d ∷ []) ∙ and_from _ _ all (and_from _ _ is refl)

pub run_more : (line : List ℕ) (count value d : ℕ) → IsRun line count value → count < 19 → count < length line
    → is_ascii_digit (get_or line count 0) ≡ true → d ≡ digit_value (get_or line count 0)
    → IsRun line (count + 1) (value * 10 + d)
run_more line count value d run few lt is e =
    let b = get_or line count 0 in
    let more : take (count + 1) line ≡ take count line ++ b ∷ [] = take_more line count 0 lt in
    let digits = ap (list_all is_ascii_digit) more ∙ digits_one_more (take count line) b run.digits is in
    let on : digits_value 10 (take (count + 1) line) ≡ digits_value 10 (take count line) * 10 + digit_value b =
    ap (digits_value 10) more ∙ value_one_more 0 (take count line) b in
    let same : digits_value 10 (take (count + 1) line) ≡ value * 10 + d = omega (arith, on, run.value, e) in
    let digit : d ≤ 9 = omega (arith, digit_small b is, e) in
    let small : value * 10 + d < 10 ^ (count + 1) = omega (arith, one_power count, run.small, digit) in
    record { most = omega (arith, few); within = omega (arith, lt); digits = digits; value = same; small = small }

pub run_small : (line : List ℕ) (count value : ℕ) → IsRun line count value → value < 2 ^ 64
run_small line count value run =
    let most : 10 ^ count ≤ 10 ^ 19 = pow-le-pow_right (lit< tt) {i = count} {j = 19} run.most in
    omega (arith, most, run.small)

pub run_leads : (line : List ℕ) (count value : ℕ) → IsRun line count value → IsLeading line value count
run_leads line count value run =
    record { within = run.within; digits = run.digits; value = run.value; small = run_small line count value run }

pub run_room : (line : List ℕ) (count value d : ℕ) → IsRun line count value → count < 19 → d ≤ 9
    → value * 10 + d < 2 ^ 64
run_room line count value d run few digit = room_for_digit count value d run.small digit few

-- ---- the field that they are

pub leading_number : (line : List ℕ) (value count : ℕ) → IsLeading line value count
    → is_led (take count line) ≡ true → number_of (take count line) ≡ Some (Some value)
unfolding number_of
leading_number line value count leads led = rw (leads.digits, led, leads.value, lt-ltb _ _ leads.small) refl

pub whole_number : (text : List ℕ) (value count : ℕ) → IsLeading text value count → count ≡ length text
    → is_led text ≡ true → number_of text ≡ Some (Some value)
whole_number text value count leads e led =
    let whole : take count text ≡ text = take_all count text (omega (arith, e)) in
    let led : is_led (take count text) ≡ true = ap is_led whole ∙ led in
    sym (ap number_of whole) ∙ leading_number text value count leads led

pub leading_plain : (line : List ℕ) (value count : ℕ) → IsLeading line value count → IsPlain (take count line)
leading_plain line value count leads = all_weaker is_ascii_digit (leb 42) (take count line) digit_high leads.digits

pub leading_name_plain : (line : List ℕ) (count : ℕ) → list_all is_name_byte (take count line) ≡ true
    → IsPlain (take count line)
leading_name_plain line count all = all_weaker is_name_byte (leb 42) (take count line) name_high all

pub field_ends : (line : List ℕ) (count : ℕ) → count ≡ length line → IsPlain (take count line)
    → fields_of line ≡ take count line ∷ []
field_ends line count e plain =
    let whole : take count line ≡ line = take_all count line (omega (arith, e)) in
    let all : IsPlain line = subst (λ (f : List ℕ). IsPlain f) whole plain in
    slice_split_none (λ b. eqb b 32) line (All-from_recursion _ line (plain_avoids 32 line (lit< tt) all))
    ∙ ap (λ (f : List ℕ). f ∷ []) (sym whole)

parted : (line : List ℕ) (count : ℕ) → count < length line → get_or line count 0 ≡ 32
    → line ≡ take count line ++ 32 ∷ drop (count + 1) line
parted line count lt space =
    let rest : drop count line ≡ 32 ∷ drop (count + 1) line = drop-cons line count 0 lt
    ∙ ap (λ (b : ℕ). b ∷ drop (suc count) line) space ∙ ap (λ (n : ℕ). 32 ∷ drop n line) (sym (add-one count)) in
    sym (take-append-drop count line) ∙ ap (λ (r : List ℕ). take count line ++ r) rest

pub field_stops : (line : List ℕ) (count : ℕ) → count < length line → get_or line count 0 ≡ 32
    → IsPlain (take count line)
    → fields_of line ≡ take count line ∷ fields_of (take (length line - (count + 1)) (drop (count + 1) line))
field_stops line count lt space plain =
    let rest : take (length line - (count + 1)) (drop (count + 1) line) ≡ drop (count + 1) line =
    take_all (length line - (count + 1)) (drop (count + 1) line) (omega (arith, length-drop (count + 1) line)) in
    ap fields_of (parted line count lt space)
    ∙ slice_split_at (λ b. eqb b 32) (take count line) 32 (drop (count + 1) line)
    (All-from_recursion _ (take count line) (plain_avoids 32 (take count line) (lit< tt) plain)) refl
    ∙ ap (λ (r : List ℕ). take count line ∷ fields_of r) (sym rest)
