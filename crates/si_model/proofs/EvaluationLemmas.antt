-- Laws of evaluation and of the committed state: widths are kept, reads are few, keys are those of the operations.
use Rattle.std.proofs.Common.{◌≡◌, ℕ, zero, suc, ◌+◌, ◌-◌, ◌≤◌, cond, Bool, true, false, not, inl, inr, List, [], ◌∷◌}
use Rattle.std.proofs.Common.{◌++◌, length, refl, ap, sym, ◌∙◌, subst, arith, Option, Some, None}
use Rattle.std.specs.Prelude.{◌||◌, MatchOption, slice_index, replicate, map, filter}
use Rattle.std.specs.List.{All, AllByRecursion, IsDistinct}
use Rattle.std.proofs.Math.Path.{fun_ext}
use Rattle.std.proofs.lemmas.Bool.{cases_Bool, cond_both, false≢true}
use Rattle.std.proofs.lemmas.Bool.Decides.{nat_tests}
use Rattle.std.proofs.lemmas.List.{length-set, length-replicate, length-append}
use Rattle.std.proofs.lemmas.List.Elements.{recursion_from_All}
use Rattle.std.proofs.lemmas.Map.Keys.{IsDistinct-cons, IsDistinct-head, IsDistinct-tail}
use Rattle.si_model.specs.declared.row.Key.{Key}
use Rattle.si_model.specs.declared.row.Row.{Row}
use Rattle.si_model.specs.declared.row.Item.{Item}
use Rattle.si_model.specs.declared.op.Op.{Op}
use Rattle.si_model.specs.declared.op.Op.TheVariants.{Get, Put, Add, Del, Need, Guard, Scan}
use Rattle.si_model.specs.declared.evaluated.Evaluated.{Evaluated}
use Rattle.si_model.specs.declared.evaluated.Evaluated.TheVariants.{Done, Declined}
use Rattle.si_model.specs.declared.report.CommitLine.{CommitLine}
use Rattle.si_model.specs.Rows.{key_at, same_key, row_key, item_key, item_at, Rows, rows_of, writes_key, overlay}
use Rattle.si_model.specs.Rows.{present, items_from}
use Rattle.si_model.specs.Evaluation.{field_of, with_field, new_number, with_write, with_guard, passes, found, writes_after}
use Rattle.si_model.specs.Evaluation.{guards_after, unwritten, with_reads, evaluation_from, evaluation_of, reads_of}
use Rattle.si_model.specs.Evaluation.{all_pass, reads_from, key_written, key_guarded, is_key, ops_write, keys_from}
use Rattle.si_model.specs.Evaluation.{written_keys, guard_keys, OpFits, AreWide}
use Rattle.si_model.specs.EvaluationLaws.{IsWide, is_scan, writes_from}
use Rattle.si_model.specs.State.{state_at}

-- ---- keys

pub same_key-refl : (key : Key) → same_key key key ≡ true
same_key-refl key = grind (arith, nat_tests)

pub same_key_says : (a b : Key) → same_key a b ≡ true → a ≡ b
same_key_says a b same =
    let table : a.table ≡ b.table = grind (arith, nat_tests) in
    let key : a.key ≡ b.key = grind (arith, nat_tests) in
    ap (λ t. key_at t a.key) table ∙ ap (key_at b.table) key

-- a key has what was written last
pub overlay-wrote : (ws : List Item) (i : Item) (rows : Rows) (key : Key)
    → overlay (with_write ws i) rows key ≡ cond (same_key (item_key i) key) i.value (overlay ws rows key)
overlay-wrote [] i rows key = refl
overlay-wrote (w ∷ ws) i rows key = let rest = overlay-wrote ws i rows key in grind (arith, nat_tests)

-- ---- widths

all_append : {X : Type 0} (P : X → Type 0) (xs ys : List X) → AllByRecursion P xs → AllByRecursion P ys
    → AllByRecursion P (xs ++ ys)
all_append P [] ys h k = k
all_append P (x ∷ xs) ys h k = (h.0, all_append P xs ys h.1 k)

-- a write set of wide values over wide rows
pub AreWide-overlay : (widths : List ℕ) (ws : List Item) (rows : Rows) → AllByRecursion (IsWide widths) ws
    → AreWide widths rows → AreWide widths (overlay ws rows)
AreWide-overlay widths [] rows written wide key = wide key
AreWide-overlay widths (w ∷ ws) rows written wide key =
    cond_both (same_key (item_key w) key) w.value (overlay ws rows key)
    (λ v. MatchOption v (Unit {0}) (λ x. length x ≡ slice_index widths key.table))
    (λ same. subst (λ (k : Key). MatchOption w.value (Unit {0}) (λ x. length x ≡ slice_index widths k.table))
    (same_key_says (item_key w) key same) written.0)
    (λ other. AreWide-overlay widths ws rows written.1 wide key)

-- a list of rows of their tables' widths
pub AreWide-rows_of : (widths : List ℕ) (rows : List Row)
    → AllByRecursion (λ r. length r.value ≡ slice_index widths r.table) rows → AreWide widths (rows_of rows)
AreWide-rows_of widths [] wide key = tt
AreWide-rows_of widths (r ∷ rs) wide key =
    cond_both (same_key (row_key r) key) (Some r.value) (rows_of rs key)
    (λ v. MatchOption v (Unit {0}) (λ x. length x ≡ slice_index widths key.table))
    (λ same. subst (λ (k : Key). length r.value ≡ slice_index widths k.table) (same_key_says (row_key r) key same)
    wide.0)
    (λ other. AreWide-rows_of widths rs wide.1 key)

wide-wrote : (widths : List ℕ) (ws : List Item) (i : Item) → AllByRecursion (IsWide widths) ws → IsWide widths i
    → AllByRecursion (IsWide widths) (with_write ws i)
wide-wrote widths [] i written new = (new, tt)
wide-wrote widths (w ∷ ws) i written new =
    cond_both (same_key (item_key w) (item_key i)) (i ∷ ws) (w ∷ with_write ws i) (λ xs. AllByRecursion (IsWide widths) xs)
    (λ same. (new, written.1))
    (λ other. (written.0, wide-wrote widths ws i written.1 new))

length-with_field : (width f n : ℕ) (v : Option (List ℕ)) → MatchOption v (Unit {0}) (λ x. length x ≡ width)
    → length (with_field width v f n) ≡ width
length-with_field width f n None wide = length-set (replicate width 0) (f - 1) n ∙ length-replicate width 0
length-with_field width f n (Some v) wide = length-set v (f - 1) n ∙ wide

-- an operation writes wide values
pub wide-writes_after : (widths : List ℕ) (op : Op) (copy : Rows) (ws : List Item) → OpFits widths op
    → AreWide widths copy → AllByRecursion (IsWide widths) ws
    → AllByRecursion (IsWide widths) (writes_after widths op copy ws)
wide-writes_after widths (Get t k) copy ws fits wide written = written
wide-writes_after widths (Put t k v) copy ws fits wide written =
    wide-wrote widths ws (item_at (key_at t k) (Some v)) written fits.1
wide-writes_after widths (Add t k f up by) copy ws fits wide written =
    let v = copy (key_at t k) in
    wide-wrote widths ws (item_at (key_at t k)
    (Some (with_field (slice_index widths t) v f (new_number up (field_of v f) by)))) written
    (length-with_field (slice_index widths t) f (new_number up (field_of v f) by) v (wide (key_at t k)))
wide-writes_after widths (Del t k) copy ws fits wide written =
    wide-wrote widths ws (item_at (key_at t k) None) written tt
wide-writes_after widths (Need t k f least) copy ws fits wide written = written
wide-writes_after widths (Guard t k) copy ws fits wide written = written
wide-writes_after widths (Scan t low high) copy ws fits wide written = written

wide-present : (widths : List ℕ) (key : Key) (v : Option (List ℕ))
    → MatchOption v (Unit {0}) (λ x. length x ≡ slice_index widths key.table)
    → AllByRecursion (IsWide widths) (present key v)
wide-present widths key None wide = tt
wide-present widths key (Some v) wide = (wide, tt)

wide-items_from : (widths : List ℕ) (copy : Rows) (table low n : ℕ) → AreWide widths copy
    → AllByRecursion (IsWide widths) (items_from copy table low n)
unfolding items_from
wide-items_from widths copy table low zero wide = tt
wide-items_from widths copy table low (suc n) wide =
    all_append (IsWide widths) (present (key_at table low) (copy (key_at table low)))
    (items_from copy table (low + 1) n)
    (wide-present widths (key_at table low) (copy (key_at table low)) (wide (key_at table low)))
    (wide-items_from widths copy table (low + 1) n wide)

-- an operation reads wide values
pub wide-found : (widths : List ℕ) (op : Op) (copy : Rows) → AreWide widths copy
    → AllByRecursion (IsWide widths) (found op copy)
wide-found widths (Get t k) copy wide = (wide (key_at t k), tt)
wide-found widths (Put t k v) copy wide = tt
wide-found widths (Add t k f up by) copy wide = (wide (key_at t k), tt)
wide-found widths (Del t k) copy wide = tt
wide-found widths (Need t k f least) copy wide = (wide (key_at t k), tt)
wide-found widths (Guard t k) copy wide = (wide (key_at t k), tt)
wide-found widths (Scan t low high) copy wide = wide-items_from widths copy t low (high + 1 - low) wide

reads_of-with_reads : (is : List Item) (e : Evaluated) → reads_of (with_reads is e) ≡ is ++ reads_of e
reads_of-with_reads is (Done reads writes guards) = refl
reads_of-with_reads is (Declined op reads) = refl

module _ (widths : List ℕ) (rows : Rows) (wide : AreWide widths rows) where
  pub wide-writes_from : (ws : List Item) (ops : List Op) → AllByRecursion (OpFits widths) ops
      → AllByRecursion (IsWide widths) ws → AllByRecursion (IsWide widths) (writes_from widths rows ws ops)
  wide-writes_from ws [] fit written = written
  wide-writes_from ws (op ∷ ops) fit written =
      wide-writes_from (writes_after widths op (overlay ws rows) ws) ops fit.1
      (wide-writes_after widths op (overlay ws rows) ws fit.0 (AreWide-overlay widths ws rows written wide) written)

  pub wide-reads_from : (n : ℕ) (ws : List Item) (gs : List Key) (ops : List Op) → AllByRecursion (OpFits widths) ops
      → AllByRecursion (IsWide widths) ws → AllByRecursion (IsWide widths)
      (reads_of (evaluation_from widths rows n ws gs ops))
  wide-reads_from n ws gs [] fit written = tt
  wide-reads_from n ws gs (op ∷ ops) fit written =
      let copy = overlay ws rows in
      let copy_wide = AreWide-overlay widths ws rows written wide in
      let rest = evaluation_from widths rows (n + 1) (writes_after widths op copy ws) (guards_after op gs) ops in
      cond_both (passes op copy) (with_reads (found op copy) rest) (Declined n (found op copy))
      (λ e. AllByRecursion (IsWide widths) (reads_of e))
      (λ passed. rw (reads_of-with_reads (found op copy) rest)
      (all_append (IsWide widths) (found op copy) (reads_of rest) (wide-found widths op copy copy_wide)
      (wide-reads_from (n + 1) (writes_after widths op copy ws) (guards_after op gs) ops fit.1
      (wide-writes_after widths op copy ws fit.0 copy_wide written))))
      (λ stopped. wide-found widths op copy copy_wide)

-- each item that operations read has its table's width
pub wide-reads : (widths : List ℕ) (rows : Rows) (ops : List Op) → All (OpFits widths) ops → AreWide widths rows
    → AllByRecursion (IsWide widths) (reads_of (evaluation_of widths rows ops))
wide-reads widths rows ops fit wide =
    wide-reads_from widths rows wide 1 [] [] ops (recursion_from_All (OpFits widths) ops fit) tt

-- rows after write sets of wide values are wide
pub AreWide-state_at : (widths : List ℕ) (rows : Rows) (es : List CommitLine) → AreWide widths rows
    → AllByRecursion (λ e. AllByRecursion (IsWide widths) e.writes) es → AreWide widths (state_at rows es)
AreWide-state_at widths rows [] wide written = wide
AreWide-state_at widths rows (e ∷ es) wide written =
    AreWide-state_at widths (overlay e.writes rows) es (AreWide-overlay widths e.writes rows written.0 wide) written.1

-- ---- how an evaluation ends

-- the guards are those of the operations so far
guards_after-is : (op : Op) (gs : List Key)
    → guards_after op gs ≡ elim (key_guarded op) [ None ↦ gs | Some key ↦ with_guard gs key ]
guards_after-is (Get t k) gs = refl
guards_after-is (Put t k v) gs = refl
guards_after-is (Add t k f up by) gs = refl
guards_after-is (Del t k) gs = refl
guards_after-is (Need t k f least) gs = refl
guards_after-is (Guard t k) gs = refl
guards_after-is (Scan t low high) gs = refl

-- operations that all pass are done
pub evaluation_from-all_pass : (widths : List ℕ) (rows : Rows) (n : ℕ) (ws : List Item) (gs : List Key) (ops : List Op)
    → all_pass widths rows ws ops ≡ true
    → evaluation_from widths rows n ws gs ops
    ≡ Done (reads_from widths rows ws ops) (writes_from widths rows ws ops)
    (unwritten (writes_from widths rows ws ops) (keys_from key_guarded gs ops))
evaluation_from-all_pass widths rows n ws gs [] all = refl
evaluation_from-all_pass widths rows n ws gs (op ∷ ops) all =
    elim (cases_Bool (passes op (overlay ws rows))) [
      | inl passed ↦
          let rest = evaluation_from-all_pass widths rows (n + 1) (writes_after widths op (overlay ws rows) ws)
          (guards_after op gs) ops (rw passed at all) in
          rw (passed, rest, guards_after-is op gs) refl
      | inr stopped ↦ absurd (false≢true (rw stopped at all))
    ]

-- and operations that are done have all passed
pub all_pass-done : (widths : List ℕ) (rows : Rows) (n : ℕ) (ws : List Item) (gs : List Key) (ops : List Op)
    (reads writes : List Item) (guards : List Key) → evaluation_from widths rows n ws gs ops ≡ Done reads writes guards
    → all_pass widths rows ws ops ≡ true
all_pass-done widths rows n ws gs [] reads writes guards done = refl
all_pass-done widths rows n ws gs (op ∷ ops) reads writes guards done =
    elim (cases_Bool (passes op (overlay ws rows))) [
      | inl passed ↦
          let rest = rest_done (found op (overlay ws rows))
          (evaluation_from widths rows (n + 1) (writes_after widths op (overlay ws rows) ws) (guards_after op gs)
          ops) reads writes guards (rw passed at done) in
          rw passed (all_pass-done widths rows (n + 1) (writes_after widths op (overlay ws rows) ws)
          (guards_after op gs) ops rest.0 writes guards rest.1)
      | inr stopped ↦ absurd (declined (rw stopped at done))
    ]
  where
    rest_done : (is : List Item) (e : Evaluated) (reads writes : List Item) (guards : List Key)
        → with_reads is e ≡ Done reads writes guards → (rs : List Item) × (e ≡ Done rs writes guards)
    rest_done is (Done rs ws gs) reads writes guards done = let w : ws ≡ writes = cc in let g : gs ≡ guards =
        cc in (rs, rw (w, g) refl)
    rest_done is (Declined op rs) reads writes guards done = absurd (cc)

    declined : {n : ℕ} {rs reads writes : List Item} {guards : List Key} → Declined n rs ≡ Done reads writes guards → ⊥
    declined e = cc

-- ---- reads are few

pub length-found : (op : Op) (copy : Rows) → is_scan op ≡ false → length (found op copy) ≤ 1
length-found (Get t k) copy single = omega arith
length-found (Put t k v) copy single = omega arith
length-found (Add t k f up by) copy single = omega arith
length-found (Del t k) copy single = omega arith
length-found (Need t k f least) copy single = omega arith
length-found (Guard t k) copy single = omega arith
length-found (Scan t low high) copy single = absurd (false≢true (sym single))

pub length-reads_from : (widths : List ℕ) (rows : Rows) (n : ℕ) (ws : List Item) (gs : List Key) (ops : List Op)
    → AllByRecursion (λ op. is_scan op ≡ false) ops
    → length (reads_of (evaluation_from widths rows n ws gs ops)) ≤ length ops
length-reads_from widths rows n ws gs [] single = omega arith
length-reads_from widths rows n ws gs (op ∷ ops) single =
    let copy = overlay ws rows in
    let rest = evaluation_from widths rows (n + 1) (writes_after widths op copy ws) (guards_after op gs) ops in
    let one = length-found op copy single.0 in
    let others =
    length-reads_from widths rows (n + 1) (writes_after widths op copy ws) (guards_after op gs) ops single.1 in
    cond_both (passes op copy) (with_reads (found op copy) rest) (Declined n (found op copy))
    (λ e. length (reads_of e) ≤ suc (length ops))
    (λ passed. rw (reads_of-with_reads (found op copy) rest, length-append (found op copy) (reads_of rest))
    (omega (arith, one, others)))
    (λ stopped. omega (arith, one))

-- operations without a scan read at most one item each
pub length-reads : (widths : List ℕ) (rows : Rows) (ops : List Op) → All (λ op. is_scan op ≡ false) ops
    → length (reads_of (evaluation_of widths rows ops)) ≤ length ops
length-reads widths rows ops single =
    length-reads_from widths rows 1 [] [] ops (recursion_from_All (λ op. is_scan op ≡ false) ops single)

-- ---- the keys that are written

map-wrote : (ws : List Item) (i : Item) → map item_key (with_write ws i) ≡ with_guard (map item_key ws) (item_key i)
map-wrote [] i = refl
map-wrote (w ∷ ws) i =
    elim (cases_Bool (same_key (item_key w) (item_key i))) [
      | inl same ↦ rw (same, same_key_says (item_key w) (item_key i) same) refl
      | inr other ↦ rw other (ap (λ ks. item_key w ∷ ks) (map-wrote ws i))
    ]

map-writes_after : (widths : List ℕ) (op : Op) (copy : Rows) (ws : List Item)
    → map item_key (writes_after widths op copy ws) ≡ elim (key_written op) [
      | None ↦ map item_key ws
      | Some key ↦ with_guard (map item_key ws) key
    ]
map-writes_after widths (Get t k) copy ws = refl
map-writes_after widths (Put t k v) copy ws = map-wrote ws (item_at (key_at t k) (Some v))
map-writes_after widths (Add t k f up by) copy ws =
    let v = copy (key_at t k) in
    map-wrote ws (item_at (key_at t k) (Some (with_field (slice_index widths t) v f (new_number up (field_of v f) by))))
map-writes_after widths (Del t k) copy ws = map-wrote ws (item_at (key_at t k) None)
map-writes_after widths (Need t k f least) copy ws = refl
map-writes_after widths (Guard t k) copy ws = refl
map-writes_after widths (Scan t low high) copy ws = refl

pub map-writes_from : (widths : List ℕ) (rows : Rows) (ws : List Item) (ops : List Op)
    → map item_key (writes_from widths rows ws ops) ≡ keys_from key_written (map item_key ws) ops
map-writes_from widths rows ws [] = refl
map-writes_from widths rows ws (op ∷ ops) =
    map-writes_from widths rows (writes_after widths op (overlay ws rows) ws) ops
    ∙ ap (λ ks. keys_from key_written ks ops) (map-writes_after widths op (overlay ws rows) ws)

writes_key-wrote : (ws : List Item) (i : Item) (key : Key)
    → writes_key (with_write ws i) key ≡ (is_key key (Some (item_key i)) || writes_key ws key)
writes_key-wrote [] i key = grind (arith, nat_tests)
writes_key-wrote (w ∷ ws) i key = let rest = writes_key-wrote ws i key in grind (arith, nat_tests)

writes_key-writes_after : (widths : List ℕ) (op : Op) (copy : Rows) (ws : List Item) (key : Key)
    → writes_key (writes_after widths op copy ws) key ≡ (is_key key (key_written op) || writes_key ws key)
writes_key-writes_after widths (Get t k) copy ws key = refl
writes_key-writes_after widths (Put t k v) copy ws key = writes_key-wrote ws (item_at (key_at t k) (Some v)) key
writes_key-writes_after widths (Add t k f up by) copy ws key =
    let v = copy (key_at t k) in
    writes_key-wrote ws (item_at (key_at t k)
    (Some (with_field (slice_index widths t) v f (new_number up (field_of v f) by)))) key
writes_key-writes_after widths (Del t k) copy ws key = writes_key-wrote ws (item_at (key_at t k) None) key
writes_key-writes_after widths (Need t k f least) copy ws key = refl
writes_key-writes_after widths (Guard t k) copy ws key = refl
writes_key-writes_after widths (Scan t low high) copy ws key = refl

-- a key is written where an operation writes it
pub writes_key-writes_from : (widths : List ℕ) (rows : Rows) (ws : List Item) (ops : List Op) (key : Key)
    → writes_key (writes_from widths rows ws ops) key ≡ (writes_key ws key || ops_write key ops)
writes_key-writes_from widths rows ws [] key = grind (arith, nat_tests)
writes_key-writes_from widths rows ws (op ∷ ops) key =
    let rest = writes_key-writes_from widths rows (writes_after widths op (overlay ws rows) ws) ops key in
    let here = writes_key-writes_after widths op (overlay ws rows) ws key in
    grind (arith, nat_tests)

apart-guarded : (g key : Key) (gs : List Key) → same_key g key ≡ false → AllByRecursion (λ y. same_key g y ≡ false) gs
    → AllByRecursion (λ y. same_key g y ≡ false) (with_guard gs key)
apart-guarded g key [] new apart = (new, tt)
apart-guarded g key (h ∷ hs) new apart =
    cond_both (same_key h key) (h ∷ hs) (h ∷ with_guard hs key) (λ ks. AllByRecursion (λ y. same_key g y ≡ false) ks)
    (λ same. apart)
    (λ other. (apart.0, apart-guarded g key hs new apart.1))

distinct-guarded : (gs : List Key) (key : Key) → IsDistinct same_key gs → IsDistinct same_key (with_guard gs key)
distinct-guarded [] key distinct = IsDistinct-cons same_key key [] tt distinct
distinct-guarded (g ∷ gs) key distinct =
    cond_both (same_key g key) (g ∷ gs) (g ∷ with_guard gs key) (λ ks. IsDistinct same_key ks)
    (λ same. distinct)
    (λ other. IsDistinct-cons same_key g (with_guard gs key)
    (apart-guarded g key gs other (IsDistinct-head same_key g gs distinct))
    (distinct-guarded gs key (IsDistinct-tail same_key g gs distinct)))

-- keys that are named are listed once
pub distinct-keys_from : (named : Op → Option Key) (ks : List Key) (ops : List Op) → IsDistinct same_key ks
    → IsDistinct same_key (keys_from named ks ops)
distinct-keys_from named ks [] distinct = distinct
distinct-keys_from named ks (op ∷ ops) distinct =
    distinct-keys_from named (elim (named op) [ None ↦ ks | Some key ↦ with_guard ks key ]) ops (one (named op))
  where
    one : (found : Option Key) → IsDistinct same_key (elim found [ None ↦ ks | Some key ↦ with_guard ks key ])
    one None = distinct
    one (Some key) = distinct-guarded ks key distinct

-- ---- operations that are done

module _ (widths : List ℕ) (rows : Rows) (ops : List Op) (reads writes : List Item) (guards : List Key)
    (done : evaluation_of widths rows ops ≡ Done reads writes guards) where
  none_yet : IsDistinct same_key []
  unfolding IsDistinct
  none_yet = tt

  whole : Done reads writes guards ≡ Done (reads_from widths rows [] ops) (writes_from widths rows [] ops)
      (unwritten (writes_from widths rows [] ops) (keys_from key_guarded [] ops))
  whole = sym done ∙ evaluation_from-all_pass widths rows 1 [] [] ops
      (all_pass-done widths rows 1 [] [] ops reads writes guards done)

  pub done-reads : reads ≡ reads_from widths rows [] ops
  done-reads = let e = whole in cc

  pub done-writes : writes ≡ writes_from widths rows [] ops
  done-writes = let e = whole in cc

  -- each item that is written has its table's width
  pub done-wide : All (OpFits widths) ops → AreWide widths rows → AllByRecursion (IsWide widths) writes
  done-wide fit wide =
      rw done-writes (wide-writes_from widths rows wide [] ops (recursion_from_All (OpFits widths) ops fit) tt)

  -- and so have the rows under the write set
  pub done-overlay : All (OpFits widths) ops → AreWide widths rows → AreWide widths (overlay writes rows)
  done-overlay fit wide = AreWide-overlay widths writes rows (done-wide fit wide) wide

  -- the keys are those that the operations write, each once
  pub done-keys : map item_key writes ≡ written_keys ops
  done-keys = rw done-writes (map-writes_from widths rows [] ops)

  pub done-distinct : IsDistinct same_key (map item_key writes)
  done-distinct = rw done-keys (distinct-keys_from key_written [] ops none_yet)

  pub done-writes_key : (key : Key) → writes_key writes key ≡ ops_write key ops
  done-writes_key key = rw done-writes (writes_key-writes_from widths rows [] ops key)

  -- the guards are those of the operations that none of them writes, each once
  pub done-guards : guards ≡ guard_keys ops
  done-guards =
      let e = whole in
      let is : guards ≡ unwritten (writes_from widths rows [] ops) (keys_from key_guarded [] ops) = cc in
      is ∙ ap (λ (written : Key → Bool). filter (λ key. not (written key)) (keys_from key_guarded [] ops))
      (fun_ext (λ key. writes_key-writes_from widths rows [] ops key))
