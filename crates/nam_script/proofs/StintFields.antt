-- What follows the star of a stint.
use Rattle.std.proofs.Common.{◌≡◌, ℕ, suc, ◌+◌, ◌-◌, Bool, true, false, cond, eqb, ltb, not, List, [], ◌∷◌, ◌++◌}
use Rattle.std.proofs.Common.{length, length-append, take, drop, Some, refl, sym, ap, ◌∙◌, arith}
use Rattle.std.specs.List.{AllByRecursion, position, position_or_len, slice_split, onto_first, join_with_byte}
use Rattle.std.proofs.lemmas.Bool.{lt-ltb}
use Rattle.std.proofs.lemmas.List.{length-drop, take_all}
use Rattle.std.proofs.lemmas.List.Splits.{join_with_byte-slice_split}
use Rattle.nam_text.proofs.Splits.{split_at_position}

-- a slice to the end is the rest
pub whole_rest : (field : List ℕ) (star : ℕ)
    → take (length field - (star + 1)) (drop (star + 1) field) ≡ drop (star + 1) field
whole_rest field star =
    take_all (length field - (star + 1)) (drop (star + 1) field) (omega (arith, length-drop (star + 1) field))

some_from : (b : Bool) (x : ℕ) (parts : List (List ℕ))
    → (y : List ℕ) × (ys : List (List ℕ)) × (cond b ([] ∷ parts) (onto_first x parts) ≡ y ∷ ys)
some_from true x parts = ([], parts, refl)
some_from false x [] = (x ∷ [], [], refl)
some_from false x (part ∷ parts) = (x ∷ part, parts, refl)

some_part : (c : ℕ) (text : List ℕ) → (y : List ℕ) × (ys : List (List ℕ)) × (slice_split (λ b. eqb b c) text ≡ y ∷ ys)
some_part c [] = ([], [], refl)
some_part c (b ∷ text) = some_from (eqb b c) b (slice_split (λ b. eqb b c) text)

join_front : (c : ℕ) (x : List ℕ) (parts : List (List ℕ)) → ((y : List ℕ) × (ys : List (List ℕ)) × (parts ≡ y ∷ ys))
    → join_with_byte c (x ∷ parts) ≡ x ++ c ∷ join_with_byte c parts
join_front c x parts some = rw some.2 refl

-- a field is what stands before its first star, the star, and what stands behind it
pub at_star : (f : List ℕ) (star : ℕ) → position (λ b. eqb b 42) f ≡ Some star
    → f ≡ take star f ++ 42 ∷ drop (star + 1) f
at_star f star at =
    let rest = drop (star + 1) f in
    let parts = split_at_position (λ b. eqb b 42) f star at
    ∙ ap (λ (r : List ℕ). take star f ∷ slice_split (λ b. eqb b 42) r) (whole_rest f star) in
    sym (join_with_byte-slice_split 42 f) ∙ ap (join_with_byte 42) parts
    ∙ join_front 42 (take star f) (slice_split (λ b. eqb b 42) rest) (some_part 42 rest)
    ∙ ap (λ (r : List ℕ). take star f ++ 42 ∷ r) (join_with_byte-slice_split 42 rest)

-- ---- the first star behind what has none

one_on : (b : Bool) (n m : ℕ) → b ≡ false → n ≡ m → cond (not b) (1 + n) 0 ≡ suc m
one_on b n m e f = rw e (omega (arith, f))

star_after : (ds rest : List ℕ) → AllByRecursion (λ b. eqb b 42 ≡ false) ds
    → position_or_len (λ b. eqb b 42) (ds ++ 42 ∷ rest) ≡ length ds
star_after [] rest h = refl
star_after (d ∷ ds) rest h = one_on (eqb d 42) _ (length ds) h.0 (star_after ds rest h.1)

pub star_at : (ds rest : List ℕ) → AllByRecursion (λ b. eqb b 42 ≡ false) ds
    → position (λ b. eqb b 42) (ds ++ 42 ∷ rest) ≡ Some (length ds)
star_at ds rest h =
    let inside : ltb (length ds) (length (ds ++ 42 ∷ rest)) ≡ true = lt-ltb _ _
    (omega (arith, length-append ds (42 ∷ rest))) in
    rw (star_after ds rest h, inside) refl

pub before_star : (ds rest : List ℕ) → take (length ds) (ds ++ 42 ∷ rest) ≡ ds
before_star [] rest = refl
before_star (d ∷ ds) rest = ap (λ (x : List ℕ). d ∷ x) (before_star ds rest)

pub behind_star : (ds rest : List ℕ) → drop (suc (length ds)) (ds ++ 42 ∷ rest) ≡ rest
behind_star [] rest = refl
behind_star (d ∷ ds) rest = behind_star ds rest
