-- A change by its sign and the number behind it.
use Rattle.std.proofs.Common.{◌≡◌, ◌≢◌, ℕ, Bool, true, false, cond, List, [], ◌∷◌, Option, Some, None, refl, ap}
use Rattle.std.proofs.Common.{◌∙◌}
use Rattle.std.proofs.lemmas.Bool.{ne_eqb}
use Rattle.nam_text.specs.Token.{number_of}
use Rattle.nam_text.specs.Read.{byte_at, field_at, ◌>>=◌}
use Rattle.nam_script.specs.declared.line.Change.{Change}
use Rattle.nam_script.specs.Lines.{change_of, change_by, is_zero}

-- what a number behind a sign gives
abbrev signed : ℕ → Option (Option ℕ × List (List ℕ)) → Option (Change × List (List ℕ))
signed sign read = read >>= (λ x. change_by sign x.0 >>= (λ c. Some (c, x.1)))

in_turn : (sign : ℕ) (fs : List (List ℕ)) (read : Option (Option ℕ))
    → ((read >>= change_by sign) >>= (λ c. Some (c, fs))) ≡ signed sign (read >>= (λ n. Some (n, fs)))
in_turn sign fs None = refl
in_turn sign fs (Some n) = refl

signed_field : (fs left : List (List ℕ)) (sign : ℕ) → byte_at fs ≡ Some (sign, left)
    → field_at change_of fs ≡ signed sign (field_at number_of left)
unfolding byte_at field_at change_of
signed_field [] left sign e = absurd cc
signed_field ([] ∷ fs) left sign e = absurd cc
signed_field ((b ∷ digits) ∷ fs) left sign e =
    let pair : (sign, left) ≡ (b, digits ∷ fs) = cc in
    let first : sign ≡ b = ap (λ (p : ℕ × List (List ℕ)). p.0) pair in
    let rest : left ≡ digits ∷ fs = ap (λ (p : ℕ × List (List ℕ)). p.1) pair in
    rw (first, rest) (in_turn b fs (number_of digits))

pub no_sign : (fs : List (List ℕ)) → byte_at fs ≡ None → field_at change_of fs ≡ None
unfolding byte_at field_at change_of
no_sign [] e = refl
no_sign ([] ∷ fs) e = refl
no_sign ((b ∷ digits) ∷ fs) e = absurd cc

pub no_number : (fs left : List (List ℕ)) (sign : ℕ) → byte_at fs ≡ Some (sign, left) → field_at number_of left ≡ None
    → field_at change_of fs ≡ None
no_number fs left sign e none = signed_field fs left sign e ∙ ap (signed sign) none

pub plus_number : (fs left rest : List (List ℕ)) (n : Option ℕ) → byte_at fs ≡ Some (43, left)
    → field_at number_of left ≡ Some (n, rest) → field_at change_of fs ≡ Some (record { up = true; by = n }, rest)
plus_number fs left rest n e read = signed_field fs left 43 e ∙ ap (signed 43) read

pub minus_zero : (fs left rest : List (List ℕ)) → byte_at fs ≡ Some (45, left)
    → field_at number_of left ≡ Some (Some 0, rest) → field_at change_of fs ≡ None
minus_zero fs left rest e read = signed_field fs left 45 e ∙ ap (signed 45) read

pub minus_number : (fs left rest : List (List ℕ)) (n : Option ℕ) → byte_at fs ≡ Some (45, left)
    → field_at number_of left ≡ Some (n, rest) → is_zero n ≡ false
    → field_at change_of fs ≡ Some (record { up = false; by = n }, rest)
minus_number fs left rest n e read not_zero =
    signed_field fs left 45 e ∙ ap (signed 45) read
    ∙ ap (λ (zero : Bool). cond zero None (Some (record { up = false; by = n })) >>= (λ c. Some (c, rest))) not_zero

other : (sign : ℕ) (read : Option (Option ℕ × List (List ℕ))) → sign ≢ 43 → sign ≢ 45 → signed sign read ≡ None
other sign None plus minus = refl
other sign (Some x) plus minus = rw (ne_eqb sign 43 plus, ne_eqb sign 45 minus) refl

pub other_sign : (fs left : List (List ℕ)) (sign : ℕ) → byte_at fs ≡ Some (sign, left) → sign ≢ 43 → sign ≢ 45
    → field_at change_of fs ≡ None
other_sign fs left sign e plus minus =
    signed_field fs left sign e ∙ other sign (field_at number_of left) plus minus

pub ruleset signs = (no_sign, other_sign, no_number, plus_number, minus_zero, minus_number)
