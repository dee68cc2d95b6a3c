-- What a field spells.
use Rattle.std.proofs.Common.{◌≡◌, ℕ, zero, suc, lit<, ◌<◌, ◌≤◌, true, List, [], ◌∷◌, length, get_or}
use Rattle.std.proofs.Common.{arith, rules}
use Rattle.std.specs.List.{list_all, AllByRecursion}
use Rattle.std.specs.Char.{is_ascii_digit}
use Rattle.std.specs.Str.{IsUtf8}
use Rattle.std.specs.Str.Parse.{digits_value}
use Rattle.std.proofs.lemmas.Bool.{leb-true, and_parts}
use Rattle.std.proofs.lemmas.Bool.Decides.{nat_tests}
use Rattle.std.proofs.lemmas.Str.Parse.{IsNumeralModel, IsDigitsTest, numerals_by_value}
use Rattle.std.proofs.lemmas.Str.{IsUtf8-from_ascii}
use Rattle.nam_text.specs.Token.{is_name, is_name_byte}

abbrev pub AreDigits : List ℕ → Type 0
AreDigits ds = list_all is_ascii_digit ds ≡ true

pub tells_digits : IsDigitsTest AreDigits
tells_digits = search rules

pub numerals : IsNumeralModel AreDigits (digits_value 10)
numerals = numerals_by_value AreDigits tells_digits

name_byte_ascii : (b : ℕ) → is_name_byte b ≡ true → b < 128
name_byte_ascii b h = grind (arith, nat_tests)

ascii_name : (f : List ℕ) → list_all is_name_byte f ≡ true → AllByRecursion (λ b. b < 128) f
ascii_name [] h = tt
ascii_name (b ∷ f) h = let p = and_parts _ _ h in (name_byte_ascii b p.0, ascii_name f p.1)

each_ascii : (f : List ℕ) → AllByRecursion (λ b. b < 128) f → (i : ℕ) → get_or f i 0 < 128
each_ascii [] h i = lit< tt
each_ascii (b ∷ f) h zero = h.0
each_ascii (b ∷ f) h (suc i) = each_ascii f h.1 i

pub utf8_from_name : (f : List ℕ) → is_name f ≡ true → IsUtf8 f
utf8_from_name f h = IsUtf8-from_ascii f (each_ascii f (ascii_name f (and_parts _ _ h).1))

pub short_name : (f : List ℕ) → is_name f ≡ true → length f ≤ 16
short_name f h = leb-true _ _ (and_parts _ _ (and_parts _ _ (and_parts _ _ h).0).0).1
