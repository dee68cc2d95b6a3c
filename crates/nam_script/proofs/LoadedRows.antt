-- A row that is pushed: its key, and the number of its table's rows.
use Rattle.std.proofs.Common.{◌≡◌, ℕ, zero, suc, ◌+◌, ◌<◌, length, get_or, inl, inr, subst, Bool, true, false, cond}
use Rattle.std.proofs.Common.{eqb, ltb, not, ◌&&◌, ◌||◌, List, [], ◌∷◌, ◌++◌, refl, sym, ap, ◌∙◌, arith}
use Rattle.std.specs.declared.cmp.Ordering.TheVariants as Ordering
use Rattle.std.specs.Ordering.{ordering_then, is_eq}
use Rattle.std.proofs.lemmas.List.Folds.{list_any-append}
use Rattle.std.proofs.lemmas.Bool.Decides.{nat_tests}
use Rattle.std.proofs.lemmas.Bool.{cases_eq, eq-eqb, ne_eqb}
use Rattle.std.specs.Prelude.{slice_set, slice_index}
use Rattle.si_model.specs.declared.row.Row.{Row}
use Rattle.si_model.specs.Rows.{key_at}
use Rattle.si_model.specs.Held.{key_cmp}
use Rattle.nam_script.specs.Checks.{is_given, rows_in}

pair_cases : (l e m f : Bool) → (l ≡ true → e ≡ false)
    → is_eq (ordering_then (cond l Ordering.Less (cond e Ordering.Equal Ordering.Greater))
    (cond m Ordering.Less (cond f Ordering.Equal Ordering.Greater)))
    ≡ (e && (not m && f))
pair_cases true e m f h = rw (h refl) refl
pair_cases false false m f h = refl
pair_cases false true true f h = refl
pair_cases false true false true h = refl
pair_cases false true false false h = refl

apart : (a b : ℕ) → ltb a b ≡ true → eqb a b ≡ false
apart a b h = grind (arith, nat_tests)

both_tests : (a b : ℕ) → (not (ltb a b) && eqb a b) ≡ eqb a b
both_tests a b = grind (arith, nat_tests)

pub at_pair : (a b t k : ℕ) → is_eq (key_cmp (key_at a b) (key_at t k)) ≡ (eqb a t && eqb b k)
at_pair a b t k =
    pair_cases (ltb a t) (eqb a t) (ltb b k) (eqb b k) (apart a t) ∙ ap (λ (x : Bool). eqb a t && x) (both_tests b k)

or_cond : (x y : Bool) → (x || (y || false)) ≡ cond y true x
or_cond true true = refl
or_cond true false = refl
or_cond false true = refl
or_cond false false = refl

pub given_push : (rows : List Row) (r : Row) (t k : ℕ)
    → is_given (rows ++ r ∷ []) t k ≡ cond (is_eq (key_cmp (key_at r.table r.key) (key_at t k))) true
    (is_given rows t k)
given_push rows r t k =
    list_any-append (λ r. eqb r.table t && eqb r.key k) rows (r ∷ [])
    ∙ or_cond (is_given rows t k) (eqb r.table t && eqb r.key k)
    ∙ ap (λ (b : Bool). cond b true (is_given rows t k)) (sym (at_pair r.table r.key t k))

pub set_length : (xs : List ℕ) (i a : ℕ) → length (slice_set xs i a) ≡ length xs
set_length [] i a = refl
set_length (x ∷ xs) zero a = refl
set_length (x ∷ xs) (suc i) a = ap suc (set_length xs i a)

at_set : (xs : List ℕ) (i a : ℕ) → i < length xs → slice_index (slice_set xs i a) i ≡ a
at_set [] i a lt = absurd (omega arith)
at_set (x ∷ xs) zero a lt = refl
at_set (x ∷ xs) (suc i) a lt = at_set xs i a (omega arith)

beside_set : (xs : List ℕ) (i u a : ℕ) → (i ≡ u → ⊥) → slice_index (slice_set xs i a) u ≡ slice_index xs u
beside_set [] i u a other = refl
beside_set (x ∷ xs) zero zero a other = absurd (other refl)
beside_set (x ∷ xs) zero (suc u) a other = refl
beside_set (x ∷ xs) (suc i) zero a other = refl
beside_set (x ∷ xs) (suc i) (suc u) a other = beside_set xs i u a (λ e. other (ap suc e))

any_default : (xs : List ℕ) (i d : ℕ) → i < length xs → get_or xs i d ≡ slice_index xs i
any_default [] i d lt = absurd (omega arith)
any_default (x ∷ xs) zero d lt = refl
any_default (x ∷ xs) (suc i) d lt = any_default xs i d (omega arith)

bit_true : (x : Bool) → x ≡ true → ◌≡◌ {A = ℕ} (cond x 1 0) 1
bit_true x e = rw e refl

bit_false : (x : Bool) → x ≡ false → ◌≡◌ {A = ℕ} (cond x 1 0) 0
bit_false x e = rw e refl

rows_in_push : (rows : List Row) (r : Row) (t : ℕ)
    → rows_in (rows ++ r ∷ []) t ≡ rows_in rows t + cond (eqb r.table t) 1 0
rows_in_push [] r t = omega arith
rows_in_push (q ∷ rows) r t = omega (arith, rows_in_push rows r t)

-- the counts of the rows with one more
pub counts_push : (counts : List ℕ) (rows : List Row) (r : Row) (n : ℕ) → length counts ≡ 8 → r.table < 8
    → n ≡ get_or counts r.table n → ((t : ℕ) → t < 8 → slice_index counts t ≡ rows_in rows t) → (t : ℕ) → t < 8
    → slice_index (slice_set counts r.table (n + 1)) t ≡ rows_in (rows ++ r ∷ []) t
counts_push counts rows r n len small is known t lt =
    let inside : r.table < length counts = omega (arith, len, small) in
    let was : n ≡ rows_in rows r.table = is ∙ any_default counts r.table n inside ∙ known r.table small in
    elim (cases_eq r.table t) [
      | inl e ↦ (
          let same : eqb r.table t ≡ true = eq-eqb _ _ e in
          subst (λ (u : ℕ). slice_index (slice_set counts r.table (n + 1)) u ≡ rows_in (rows ++ r ∷ []) u) e
          (at_set counts r.table (n + 1) inside ∙ omega
          (arith, was, rows_in_push rows r r.table, bit_true (eqb r.table r.table) (eq-eqb _ _ refl))))
      | inr e ↦ (beside_set counts r.table t (n + 1) e ∙ known t lt ∙ omega
          (arith, rows_in_push rows r t, bit_false (eqb r.table t) (ne_eqb _ _ e)))
    ]
