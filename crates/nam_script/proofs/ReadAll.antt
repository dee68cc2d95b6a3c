-- Reading all fields that are left, one after the other.
use Rattle.std.proofs.Common.{◌≡◌, ℕ, ◌+◌, ◌≤◌, Bool, true, false, cond, eqb, leb, List, [], ◌∷◌, ◌++◌, length}
use Rattle.std.proofs.Common.{Option, Some, None, refl, sym, ap, ◌∙◌, append_assoc, arith, length-append}
use Rattle.std.proofs.lemmas.List.{append-nil}
use Rattle.std.proofs.lemmas.Bool.{lt-leb, le-leb}
use Rattle.nam_text.specs.Read.{◌>>=◌, all_read, some_read}

abbrev pub with_front : {A : Type 0} → List A → Option (List A) → Option (List A)
with_front front read = read >>= (λ xs. Some (front ++ xs))

-- the fields so far spell these, so many at the most, and the others are left
pub record IsPart {A : Type 0} (most : ℕ) (f : List ℕ → Option A) (all : List (List ℕ)) (front : List A)
    (left : List (List ℕ)) : Type 0 where
  pub read : with_front front (all_read f left) ≡ all_read f all
  pub count : length front + length left ≡ length all
  pub few : length front ≤ most

regroup : {A : Type 0} (front : List A) (x : A) (read : Option (List A))
    → with_front (front ++ x ∷ []) read ≡ with_front front (read >>= (λ xs. Some (x ∷ xs)))
regroup front x None = refl
regroup {A} front x (Some xs) = ap (λ (y : List A). Some y) (append_assoc front (x ∷ []) xs)

either_none : {A : Type 0} (b c : Bool) (r : Option (List A)) → r ≡ None → cond b None (cond c r None) ≡ None
either_none true c r e = refl
either_none false true r e = e
either_none false false r e = refl

not_few : {A : Type 0} (b c : Bool) (r : Option (List A)) → c ≡ false → cond b None (cond c r None) ≡ None
not_few true c r e = refl
not_few false c r e = rw e refl

pub one_more : {A : Type 0} (most : ℕ) (f : List ℕ → Option A) (all : List (List ℕ)) (front : List A)
    (old left : List (List ℕ)) (field : List ℕ) (x : A)
    → IsPart most f all front old → old ≡ field ∷ left → f field ≡ Some x → (length front ≡ most → ⊥)
    → IsPart most f all (front ++ x ∷ []) left
unfolding all_read
one_more most f all front old left field x part e spelt room =
    let opened : all_read f old ≡ (all_read f left >>= (λ xs. Some (x ∷ xs))) = rw (e, spelt) refl in
    record {
      read = regroup front x (all_read f left) ∙ ap (with_front front) (sym opened) ∙ part.read;
      count = omega (arith, length-append front (x ∷ []), ap length e, part.count);
      few = omega (arith, length-append front (x ∷ []), part.few, room);
    }

pub ill_spelt : {A : Type 0} (most : ℕ) (f : List ℕ → Option A) (all : List (List ℕ)) (front : List A)
    (old left : List (List ℕ)) (field : List ℕ)
    → IsPart most f all front old → old ≡ field ∷ left → f field ≡ None → some_read most f all ≡ None
unfolding all_read some_read
ill_spelt most f all front old left field part e spelt =
    let opened : all_read f old ≡ None = rw (e, spelt) refl in
    either_none _ _ (all_read f all) (sym part.read ∙ ap (with_front front) opened)

pub too_many : {A : Type 0} (most : ℕ) (f : List ℕ → Option A) (all : List (List ℕ)) (front : List A)
    (old left : List (List ℕ)) (field : List ℕ)
    → IsPart most f all front old → old ≡ field ∷ left → length front ≡ most → some_read most f all ≡ None
unfolding some_read
too_many most f all front old left field part e full =
    not_few _ _ (all_read f all) (lt-leb (length all) most (omega (arith, ap length e, part.count, full)))

pub at_end : {A : Type 0} (most : ℕ) (f : List ℕ → Option A) (all : List (List ℕ)) (front : List A)
    (left : List (List ℕ))
    → IsPart most f all front left → left ≡ [] → some_read most f all ≡ cond (eqb (length front) 0) None (Some front)
unfolding all_read some_read
at_end {A} most f all front left part e =
    let opened : all_read f left ≡ Some [] = rw e refl in
    let whole : all_read f all ≡ Some front = sym part.read ∙ ap (with_front front) opened
    ∙ ap (λ (x : List A). Some x) (append-nil front) in
    let len : length all ≡ length front = omega (arith, ap length e, part.count) in
    let few : leb (length front) most ≡ true = le-leb _ _ part.few in
    rw (whole, len, few) refl
