-- The first byte of a line, and the fields behind it.
use Rattle.std.proofs.Common.{◌≡◌, ◌≢◌, ℕ, ◌-◌, ◌<◌, Bool, true, false, cond, eqb, List, [], ◌∷◌, length, take, drop}
use Rattle.std.proofs.Common.{get_or, Some, None, refl, sym, ap, ◌∙◌, arith}
use Rattle.std.specs.List.{onto_first}
use Rattle.std.proofs.lemmas.Bool.{ne_eqb, eq-eqb}
use Rattle.std.proofs.lemmas.List.{take_all}
use Rattle.nam_text.specs.Read.{byte_at}
use Rattle.nam_text.specs.Fields.{fields_of}

onto_some : (b x : ℕ) (space : Bool) (fs : List (List ℕ))
    → byte_at (onto_first b (cond space ([] ∷ fs) (onto_first x fs))) ≡ Some (b, cond space ([] ∷ fs) (onto_first x fs))
unfolding byte_at
onto_some b x true fs = refl
onto_some b x false [] = refl
onto_some b x false (f ∷ fs) = refl

before_rest : (b : ℕ) (rest : List ℕ) → byte_at (onto_first b (fields_of rest)) ≡ Some (b, fields_of rest)
unfolding byte_at
before_rest b [] = refl
before_rest b (x ∷ rest) = onto_some b x (eqb x 32) (fields_of rest)

no_space : (b : ℕ) (rest : List ℕ) (space : Bool) → space ≡ false
    → byte_at (cond space ([] ∷ fields_of rest) (onto_first b (fields_of rest))) ≡ Some (b, fields_of rest)
no_space b rest true e = absurd cc
no_space b rest false e = before_rest b rest

pub byte_leads : (line : List ℕ) → 0 < length line → get_or line 0 0 ≢ 32
    → byte_at (fields_of line) ≡ Some (get_or line 0 0, fields_of (take (length line - 1) (drop 1 line)))
byte_leads [] lt other = absurd (omega (arith, lt))
byte_leads (b ∷ rest) lt other =
    let whole : take (length (b ∷ rest) - 1) rest ≡ rest = take_all (length (b ∷ rest) - 1) rest (omega arith) in
    no_space b rest (eqb b 32) (ne_eqb b 32 other) ∙ ap (λ (r : List ℕ). Some (b, fields_of r)) (sym whole)

pub no_byte_leads : (line : List ℕ) → length line ≡ 0 → byte_at (fields_of line) ≡ None
unfolding byte_at
no_byte_leads [] e = refl
no_byte_leads (b ∷ rest) e = absurd (omega (arith, e))

space_first : (b : ℕ) (rest : List ℕ) (space : Bool) → space ≡ true
    → byte_at (cond space ([] ∷ fields_of rest) (onto_first b (fields_of rest))) ≡ None
unfolding byte_at
space_first b rest true e = refl
space_first b rest false e = absurd cc

pub space_leads : (line : List ℕ) → get_or line 0 0 ≡ 32 → byte_at (fields_of line) ≡ None
unfolding byte_at
space_leads [] e = refl
space_leads (b ∷ rest) e = space_first b rest (eqb b 32) (eq-eqb b 32 e)

pub ruleset first_byte = (byte_leads, no_byte_leads, space_leads)
