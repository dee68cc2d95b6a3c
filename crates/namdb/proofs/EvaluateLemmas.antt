-- Keys that hold rows, and how many keys an evaluation claims.
use Rattle.std.proofs.Common.{◌≡◌, ℕ, zero, suc, ◌+◌, ◌-◌, ◌<◌, Bool, true, false, cond, List, [], ◌∷◌, ◌++◌, length}
use Rattle.std.proofs.Common.{refl, ap, sym, ◌∙◌, subst, arith, Option, Some, None, inl, inr}
use Rattle.std.specs.Prelude.{◌⊎◌, ◌≤◌, ◌||◌, not, filter, is_some, slice_index, Result, Ok, Err, IfOk}
use Rattle.std.specs.List.{AllByRecursion, flat_map, list_any}
use Rattle.std.specs.BTreeMap.{is_at}
use Rattle.std.specs.BTreeMap.Range.{range_contains}
use Rattle.std.specs.declared.ops.Bound.TheVariants.{Included}
use Rattle.std.proofs.lemmas.Bool.{cases_Bool, cond_both, false≢true}
use Rattle.std.proofs.lemmas.Bool.Decides.{nat_tests}
use Rattle.std.proofs.lemmas.Grind.{flat_map-append}
use Rattle.std.proofs.lemmas.List.Sums.{length-filter, count_by-le-length}
use Rattle.si_model.specs.declared.row.Key.{Key}
use Rattle.si_model.specs.declared.row.Item.{Item}
use Rattle.si_model.specs.declared.op.Op.{Op}
use Rattle.si_model.specs.declared.op.Op.TheVariants.{Get, Put, Add, Del, Need, Guard, Scan}
use Rattle.si_model.specs.declared.evaluated.Evaluated.{Evaluated}
use Rattle.si_model.specs.declared.evaluated.Evaluated.TheVariants.{Done, Declined}
use Rattle.si_model.specs.Held.{key_cmp}
use Rattle.si_model.specs.Rows.{Rows, key_at, same_key, item_key, item_at, rows_of, overlay, writes_key, present}
use Rattle.si_model.specs.Rows.{items_from}
use Rattle.si_model.specs.Evaluation.{evaluation_from, evaluation_of, AreWide, passes, found, writes_after}
use Rattle.si_model.specs.Evaluation.{guards_after, with_reads, with_write, with_guard, with_field, new_number, field_of}
use Rattle.si_model.proofs.EvaluationLemmas.{same_key-refl, same_key_says}
use Rattle.si_model.specs.Rows.{has_key}
use Rattle.namdb.specs.Serial.{claims_of}

-- ---- the keys of a list

pub has_key-append : (xs ys : List Key) (key : Key) → has_key (xs ++ ys) key ≡ (has_key xs key || has_key ys key)
has_key-append [] ys key = refl
has_key-append (x ∷ xs) ys key = let rest = has_key-append xs ys key in grind (arith, nat_tests)

pub has_left : (xs ys : List Key) (key : Key) → has_key xs key ≡ true → has_key (xs ++ ys) key ≡ true
has_left xs ys key has = let both = has_key-append xs ys key in grind (arith, nat_tests)

pub has_right : (xs ys : List Key) (key : Key) → has_key ys key ≡ true → has_key (xs ++ ys) key ≡ true
has_right xs ys key has = let both = has_key-append xs ys key in grind (arith, nat_tests)

pub has_first : (key : Key) (ks : List Key) → has_key (key ∷ ks) key ≡ true
has_first key ks = rw (same_key-refl key) refl

-- ---- rows

-- no other keys than these hold rows
abbrev pub AreAmong : List Key → Rows → Type 0
AreAmong keys rows = (key : Key) → is_some (rows key) ≡ true → has_key keys key ≡ true

-- rows that agree at a key agree there under a write set
pub overlay_agrees : (ws : List Item) (rows rows' : Rows) (key : Key) → rows key ≡ rows' key
    → overlay ws rows key ≡ overlay ws rows' key
overlay_agrees [] rows rows' key same = same
overlay_agrees (w ∷ ws) rows rows' key same =
    ap (λ v. cond (same_key (item_key w) key) w.value v) (overlay_agrees ws rows rows' key same)

-- ---- claims

-- each operation claims one key at the most
claims-with_reads : (is : List Item) (e : Evaluated) → claims_of (with_reads is e) ≡ claims_of e
claims-with_reads is (Done reads writes guards) = refl
claims-with_reads is (Declined op reads) = refl

length-wrote : (ws : List Item) (i : Item) → length (with_write ws i) ≤ length ws + 1
length-wrote [] i = omega arith
length-wrote (w ∷ ws) i = by_test (same_key (item_key w) (item_key i)) (length-wrote ws i)
  where
    by_test : (b : Bool) → length (with_write ws i) ≤ length ws + 1
        → length (cond b (i ∷ ws) (w ∷ with_write ws i)) ≤ length (w ∷ ws) + 1
    by_test true rest = omega arith
    by_test false rest = omega (arith, rest)

length-guarded : (gs : List Key) (key : Key) → length (with_guard gs key) ≤ length gs + 1
length-guarded [] key = omega arith
length-guarded (g ∷ gs) key = by_test (same_key g key) (length-guarded gs key)
  where
    by_test : (b : Bool) → length (with_guard gs key) ≤ length gs + 1
        → length (cond b (g ∷ gs) (g ∷ with_guard gs key)) ≤ length (g ∷ gs) + 1
    by_test true rest = omega arith
    by_test false rest = omega (arith, rest)

length-claims : (widths : List ℕ) (op : Op) (copy : Rows) (ws : List Item) (gs : List Key)
    → length (writes_after widths op copy ws) + length (guards_after op gs) ≤ length ws + length gs + 1
length-claims widths (Get t k) copy ws gs = omega arith
length-claims widths (Put t k v) copy ws gs = omega (arith, length-wrote ws (item_at (key_at t k) (Some v)))
length-claims widths (Add t k f up by) copy ws gs =
    omega (
      arith,
      length-wrote ws
          (item_at (key_at t k)
          (Some (with_field (slice_index widths t) (copy (key_at t k)) f
          (new_number up (field_of (copy (key_at t k)) f) by)))),
    )
length-claims widths (Del t k) copy ws gs = omega (arith, length-wrote ws (item_at (key_at t k) None))
length-claims widths (Need t k f least) copy ws gs = omega arith
length-claims widths (Guard t k) copy ws gs = omega (arith, length-guarded gs (key_at t k))
length-claims widths (Scan t low high) copy ws gs = omega arith

claims_test : (n : ℕ) (b : Bool) (is : List Item) (e : Evaluated) (k : ℕ) → claims_of e ≤ k
    → claims_of (cond b (with_reads is e) (Declined n is)) ≤ k
claims_test n true is e k few = omega (arith, few, claims-with_reads is e)
claims_test n false is e k few = omega arith

claims_from : (widths : List ℕ) (rows : Rows) (n : ℕ) (ws : List Item) (gs : List Key) (ops : List Op)
    → claims_of (evaluation_from widths rows n ws gs ops) ≤ length ws + length gs + length ops
claims_from widths rows n ws gs [] =
    omega (
      arith,
      length-filter (λ key. not (writes_key ws key)) gs,
      count_by-le-length (λ key. not (writes_key ws key)) gs,
    )
claims_from widths rows n ws gs (op ∷ ops) =
    let copy = overlay ws rows in
    let rest = evaluation_from widths rows (n + 1) (writes_after widths op copy ws) (guards_after op gs) ops in
    let more = claims_from widths rows (n + 1) (writes_after widths op copy ws) (guards_after op gs) ops in
    claims_test n (passes op copy) (found op copy) rest (length ws + length gs + length (op ∷ ops))
    (omega (arith, more, length-claims widths op copy ws gs))

pub claims_few : (widths : List ℕ) (rows : Rows) (ops : List Op)
    → claims_of (evaluation_of widths rows ops) ≤ length ops
claims_few widths rows ops = omega (arith, claims_from widths rows 1 [] [] ops)

-- what holds of a value holds of an Ok that is it
pub if_same : {A E : Type 0} (r : Result A E) (x : A) (P : A → Type 0) → P x → IfOk r (λ a. a ≡ x) → IfOk r P
if_same (Ok a) x P p same = subst P (sym same) p
if_same (Err e) x P p same = tt
