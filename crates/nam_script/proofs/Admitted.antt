-- Each kind of line, admitted.
use Rattle.std.proofs.Common.{◌≡◌, ℕ, zero, suc, ◌-◌, ◌^◌, ◌<◌, ◌≤◌, Bool, true, eqb, ltb, leb, not, List, [], ◌∷◌}
use Rattle.std.proofs.Common.{◌++◌, length}
use Rattle.std.proofs.Common.{Option, Some, None, Ok, refl, sym, ap, ◌∙◌, subst, arith}
use Rattle.std.specs.Prelude.{is_some, is_ok, slice_index}
use Rattle.std.specs.List.{AllByRecursion}
use Rattle.std.proofs.lemmas.Bool.{leb-true, ltb-true, eqb-true}
use Rattle.std.proofs.lemmas.List.{length-map}
use Rattle.si_model.specs.declared.row.Row.{Row}
use Rattle.si_model.specs.declared.op.Op.TheVariants as op
use Rattle.nam_catalog.specs.Greatest.{greatest_number}
use Rattle.nam_catalog.specs.Tables.{widths_of, capacities_of}
use Rattle.nam_catalog.specs.Limits.{fault_of}
use Rattle.nam_script.specs.declared.refusal.Kind.TheVariants as kind
use Rattle.nam_script.specs.declared.line.Change.{Change}
use Rattle.nam_script.specs.declared.line.SpeltStint.{SpeltStint}
use Rattle.nam_script.specs.Line.{Line}
use Rattle.nam_script.specs.Line as line
use Rattle.nam_script.specs.declared.draft.Draft.{Draft}
use Rattle.nam_script.specs.declared.stage.Stage.{Stage}
use Rattle.nam_script.specs.declared.stage.Stage.TheVariants as stage
use Rattle.nam_script.specs.Stages.{is_at, takes_table, takes_row, is_loaded, takes_turns}
use Rattle.nam_script.specs.Checks.{within, small, all_small, key_of, all_stints, place_of, is_given, rows_in}
use Rattle.nam_script.specs.Checks.{total_within, steps_of}
use Rattle.nam_script.specs.Admit.{is_held, with_table, admit}
use Rattle.nam_text.specs.Spelling.{FitsWord, IsWord}
use Rattle.nam_script.specs.Limits.{Fits64Bits, RowsFit, RowFits, RowNumbersFit}
use Rattle.nam_script.specs.Lines.{FitsChange, spelt_line}
use Rattle.nam_script.specs.Spelling.{IsGood, LineIsSmall, somes, spelt}
use Rattle.nam_script.proofs.Chains.{ok_then, must_then, same_Ok, within_fits, total_is, all_small_is, all_stints_are}
use Rattle.nam_script.proofs.Chains.{found_is, at_is}
use Rattle.nam_script.proofs.Kept.{InOrder, before_row, all_more, distinct_more, rows_in_more, loaded_at}
use Rattle.nam_script.proofs.Steps.{Stands, Follows, setting_follows, not_true, none_some, table_follows, row_follows}
use Rattle.nam_script.proofs.Steps.{txn_follows, all_somes, all_spelt, table_is, pushes, end_follows, turns_follow}
use Rattle.nam_script.proofs.Steps.{seed_follows}

-- where its numbers are small, the line is spelt right
abbrev IsGoodIfSmall : Line → Type 0
IsGoodIfSmall l = LineIsSmall l → IsGood l

is_word : (o : Option ℕ) (n : ℕ) → o ≡ Some n → IsWord o
is_word o n is = subst IsWord (sym is) tt

fit_bits : (ms : List ℕ) → AllByRecursion FitsWord (somes ms) → AllByRecursion Fits64Bits ms
fit_bits [] h = tt
fit_bits (m ∷ ms) h = (h.0, fit_bits ms h.1)

not_zero : (n : ℕ) → (◌≡◌ {A = Option ℕ} (Some n) (Some 0) → ⊥) → 1 ≤ n
not_zero zero h = absurd (h refl)
not_zero (suc n) h = omega arith

version_line : (d e : Draft) → Stands d → admit d line.Version ≡ Ok e → Follows d line.Version e
unfolding admit spelt_line
version_line d e s given =
    must_then (is_at d.stage stage.Empty) kind.Word _ e given (λ t e1.
    let at = at_is d.stage stage.Empty t in
    let o = subst (λ (y : Stage). InOrder y d.shape d.body) at s.order in
    subst (Follows d line.Version) (same_Ok _ _ e1)
    (setting_follows d (record d { stage = stage.Version }) line.Version [] stage.Empty at o.0 o.1 refl refl refl refl
    refl refl refl refl s.kept.form s.tries (λ ts b. (ts, b)) tt))

header_line : (d e : Draft) (form : _) → Stands d → admit d (line.Header form) ≡ Ok e → Follows d (line.Header form) e
unfolding admit spelt_line
header_line d e form s given =
    must_then (is_at d.stage stage.Version) kind.Word _ e given (λ t e1.
    must_then (not (is_held form)) kind.Word _ e e1 (λ free e2.
    let at = at_is d.stage stage.Version t in
    let o = subst (λ (y : Stage). InOrder y d.shape d.body) at s.order in
    subst (Follows d (line.Header form)) (same_Ok _ _ e2)
    (setting_follows d (record d { stage = stage.Header; shape = record d.shape { form = form } }) (line.Header form)
    (line.Version ∷ []) stage.Version at o.0 o.1 refl refl refl refl refl refl refl refl (not_true _ free) s.tries
    (λ ts b. (ts, b)) tt)))

workers_line : (d e : Draft) (number : Option ℕ) → Stands d → admit d (line.Workers number) ≡ Ok e
    → Follows d (line.Workers number) e
unfolding admit spelt_line
workers_line d e number s given =
    must_then (is_at d.stage stage.Header) kind.Word _ e given (λ t e1.
    ok_then (within 1 16 number) _ e e1 (λ n en e2.
    let at = at_is d.stage stage.Header t in
    let o = subst (λ (y : Stage). InOrder y d.shape d.body) at s.order in
    let f = within_fits 1 16 number n en in
    let next : Draft = record d { stage = stage.Workers; shape = record d.shape { workers = n } } in
    subst (Follows d (line.Workers number)) (same_Ok _ _ e2)
    (subst (λ (x : Option ℕ). Follows d (line.Workers x) next) (sym f.is)
    (setting_follows d next (line.Workers (Some n)) (line.Version ∷ line.Header d.shape.form ∷ []) stage.Header at o.0
    o.1 refl refl refl refl refl refl refl refl s.kept.form s.tries (λ ts b. (ts, b)) tt))))

tries_line : (d e : Draft) (number : Option ℕ) → Stands d → admit d (line.Tries number) ≡ Ok e
    → Follows d (line.Tries number) e
unfolding admit spelt_line
tries_line d e number s given =
    must_then (is_at d.stage stage.Workers) kind.Word _ e given (λ t e1.
    ok_then (within 1 16 number) _ e e1 (λ n en e2.
    let at = at_is d.stage stage.Workers t in
    let o = subst (λ (y : Stage). InOrder y d.shape d.body) at s.order in
    let f = within_fits 1 16 number n en in
    let next : Draft = record d { stage = stage.Tries; policy = record d.policy { tries = n } } in
    subst (Follows d (line.Tries number)) (same_Ok _ _ e2)
    (subst (λ (x : Option ℕ). Follows d (line.Tries x) next) (sym f.is)
    (setting_follows d next (line.Tries (Some n))
    (line.Version ∷ line.Header d.shape.form ∷ line.Workers (Some d.shape.workers) ∷ []) stage.Workers at o.0 o.1
    refl refl refl refl refl refl refl refl s.kept.form (f.least, f.most) (λ ts b. (ts, b)) tt))))

tidy_line : (d e : Draft) (on : Bool) → Stands d → admit d (line.Tidy on) ≡ Ok e → Follows d (line.Tidy on) e
unfolding admit spelt_line
tidy_line d e on s given =
    must_then (is_at d.stage stage.Tries) kind.Word _ e given (λ t e1.
    let at = at_is d.stage stage.Tries t in
    let o = subst (λ (y : Stage). InOrder y d.shape d.body) at s.order in
    subst (Follows d (line.Tidy on)) (same_Ok _ _ e1)
    (setting_follows d (record d { stage = stage.Tidy; policy = record d.policy { tidy = on } }) (line.Tidy on)
    (line.Version ∷ line.Header d.shape.form ∷ line.Workers (Some d.shape.workers) ∷ line.Tries
    (Some d.policy.tries) ∷ []) stage.Tries at o.0 o.1 refl refl refl refl refl refl refl refl s.kept.form s.tries
    (λ ts b. (ts, b)) tt))

start_line : (d e : Draft) (number : Option ℕ) → Stands d → admit d (line.Start number) ≡ Ok e
    → Follows d (line.Start number) e
unfolding admit spelt_line
start_line d e number s given =
    must_then (is_at d.stage stage.Tidy) kind.Word _ e given (λ t e1.
    ok_then (within 0 (greatest_number d.shape.form) number) _ e e1 (λ n en e2.
    let at = at_is d.stage stage.Tidy t in
    let o = subst (λ (y : Stage). InOrder y d.shape d.body) at s.order in
    let f = within_fits 0 (greatest_number d.shape.form) number n en in
    let next : Draft = record d { stage = stage.Start; shape = record d.shape { start = n } } in
    subst (Follows d (line.Start number)) (same_Ok _ _ e2)
    (subst (λ (x : Option ℕ). Follows d (line.Start x) next) (sym f.is)
    (setting_follows d next (line.Start (Some n)) (line.Version ∷ line.Header d.shape.form ∷ line.Workers
    (Some d.shape.workers) ∷ line.Tries (Some d.policy.tries) ∷ line.Tidy d.policy.tidy ∷ []) stage.Tidy at o.0 o.1
    refl refl refl refl refl refl refl refl s.kept.form s.tries (λ ts b. (ts, b)) tt))))

overflow_line : (d e : Draft) (buckets cells : Option ℕ) → Stands d → admit d (line.Overflow buckets cells) ≡ Ok e
    → Follows d (line.Overflow buckets cells) e
unfolding admit spelt_line
overflow_line d e buckets cells s given =
    must_then (is_at d.stage stage.Start) kind.Word _ e given (λ t e1.
    ok_then (within 1 256 buckets) _ e e1 (λ b eb e2.
    ok_then (within 1 64 cells) _ e e2 (λ c ec e3.
    let at = at_is d.stage stage.Start t in
    let o = subst (λ (y : Stage). InOrder y d.shape d.body) at s.order in
    let fb = within_fits 1 256 buckets b eb in
    let fc = within_fits 1 64 cells c ec in
    let next : Draft = record d { stage = stage.Overflow; shape = record d.shape { buckets = b; cells = c } } in
    subst (Follows d (line.Overflow buckets cells)) (same_Ok _ _ e3) (subst
    (λ (x : Option ℕ). Follows d (line.Overflow x cells) next) (sym fb.is)
    (subst (λ (x : Option ℕ). Follows d (line.Overflow (Some b) x) next) (sym fc.is)
    (setting_follows d next (line.Overflow (Some b) (Some c)) (line.Version ∷ line.Header d.shape.form ∷ line.Workers
    (Some d.shape.workers) ∷ line.Tries (Some d.policy.tries) ∷ line.Tidy d.policy.tidy ∷ line.Start
    (Some d.shape.start) ∷ []) stage.Start at o.0 o.1 refl refl refl refl refl refl refl refl s.kept.form s.tries (λ
    ts b. (ts, b)) (tt, tt)))))))

table_line : (d e : Draft) (name : List ℕ) (width capacity ring : Option ℕ) → Stands d
    → IsGoodIfSmall (line.Table name width capacity ring) → admit d (line.Table name width capacity ring) ≡ Ok e
    → Follows d (line.Table name width capacity ring) e
unfolding admit spelt_line
table_line d e name width capacity ring s good given =
    must_then (takes_table d.stage) kind.Word _ e given (λ t e1.
    must_then (not (is_ok (place_of d.shape.tables name))) kind.Name _ e e1 (λ _ e2.
    ok_then (within 1 _ width) _ e e2 (λ w ew e3.
    ok_then (within 1 _ capacity) _ e e3 (λ k ek e4.
    ok_then (within 1 _ ring) _ e e4 (λ r er e5.
    must_then (ltb (length d.shape.tables) 8) kind.Size _ e e5 (λ few e6.
    must_then
    (not (is_some (fault_of (with_table d.shape (record { name = name; width = w; capacity = k; ring = r })))))
    kind.Size _ e e6 (λ fits e7.
    let fw = within_fits 1 _ width w ew in
    let fk = within_fits 1 _ capacity k ek in
    let fr = within_fits 1 _ ring r er in
    let small : LineIsSmall (line.Table name width capacity ring) =
    (tt, (is_word width w fw.is, (is_word capacity k fk.is, is_word ring r fr.is))) in
    let made = table_follows d e (record { name = name; width = w; capacity = k; ring = r })
    (line.Table name (Some w) (Some k) (Some r)) s t (ltb-true _ _ few) (none_some _ fits) (good small).0
    (sym (same_Ok _ _ e7)) refl (tt, (tt, (tt, tt))) in
    subst (λ (x : Option ℕ). Follows d (line.Table name x capacity ring) e) (sym fw.is)
    (subst (λ (x : Option ℕ). Follows d (line.Table name (Some w) x ring) e) (sym fk.is)
    (subst (λ (x : Option ℕ). Follows d (line.Table name (Some w) (Some k) x) e) (sym fr.is) made)))))))))

row_line : (d e : Draft) (table : List ℕ) (key : Option ℕ) (values : List (Option ℕ)) → Stands d
    → IsGoodIfSmall (line.Row table key values) → admit d (line.Row table key values) ≡ Ok e
    → Follows d (line.Row table key values) e
unfolding admit spelt_line
row_line d e table key values s good given =
    must_then (takes_row d.stage) kind.Word _ e given (λ t e1.
    ok_then (place_of d.shape.tables table) _ e e1 (λ f ef e2.
    ok_then (key_of key) _ e e2 (λ k ek e3.
    ok_then (all_small values) _ e e3 (λ vs ev e4.
    must_then (not (is_given d.body.rows f.table k)) kind.Twice _ e e4 (λ new e5.
    must_then (ltb (rows_in d.body.rows f.table) f.capacity) kind.Size _ e e5 (λ room e6.
    must_then (eqb (length vs) f.width) kind.Size _ e e6 (λ wide e7.
    let b = before_row d.stage d.shape d.body t s.order in
    let at = found_is d.shape.tables table f ef in
    let fk = within_fits 0 (2 ^ 64 - 2) key k ek in
    let iv = all_small_is values vs ev in
    let small : LineIsSmall (line.Row table key values) =
    (tt, (is_word key k fk.is, subst (AllByRecursion IsWord) (sym iv) (all_somes vs))) in
    let words = fit_bits vs (subst (AllByRecursion FitsWord) iv (good small).1.1.0) in
    let r : Row = record { table = f.table; key = k; value = vs } in
    let old = s.kept.rows in
    let caps = capacities_of d.shape.tables in
    let free : rows_in d.body.rows f.table < slice_index caps f.table = subst
    (λ (n : ℕ). rows_in d.body.rows f.table < n) (sym at.capacity) (ltb-true _ _ room) in
    let fit : RowsFit d.shape.tables (d.body.rows ++ r ∷ []) = record {
      fit = all_more (RowFits (widths_of d.shape.tables)) d.body.rows r old.fit
          (table_is d.shape table f b.shape at, eqb-true _ _ wide ∙ sym at.width);
      numbers = all_more RowNumbersFit d.body.rows r old.numbers (fk.most, words);
      distinct = distinct_more d.body.rows r old.distinct (not_true _ new);
      loaded = λ u lt. subst (λ (n : ℕ). n ≤ slice_index caps u) (sym (rows_in_more d.body.rows r u))
          (loaded_at (eqb f.table u) (rows_in d.body.rows u) (slice_index caps u)
          (λ is. subst (λ (v : ℕ). rows_in d.body.rows v < slice_index caps v) (eqb-true _ _ is) free)
          (old.loaded u lt));
    } in
    let made = row_follows d r s t fit (tt, (tt, all_somes vs)) in
    let next : Draft = record d { stage = stage.Rows; body = record d.body { rows = d.body.rows ++ r ∷ [] } } in
    subst (Follows d (line.Row table key values)) (same_Ok _ _ e7)
    (subst (λ (x : List (Option ℕ)). Follows d (line.Row table key x) next) (sym iv)
    (subst (λ (x : Option ℕ). Follows d (line.Row table x (somes vs)) next) (sym fk.is)
    (subst (λ (x : List ℕ). Follows d (line.Row x (Some k) (somes vs)) next) at.named made))))))))))

txn_line : (d e : Draft) (worker : Option ℕ) → Stands d → admit d (line.Txn worker) ≡ Ok e
    → Follows d (line.Txn worker) e
unfolding admit
txn_line d e worker s given =
    must_then (is_loaded d.stage) kind.Word _ e given (λ t e1.
    ok_then (within 1 d.shape.workers worker) _ e e1 (λ w ew e2.
    must_then (ltb (length d.body.txns) 8192) kind.Size _ e e2 (λ few e3.
    let f = within_fits 1 d.shape.workers worker w ew in
    subst (Follows d (line.Txn worker)) (same_Ok _ _ e3) (subst (λ (x : Option ℕ). Follows d (line.Txn x)
    (record d { stage = stage.Open; body = record d.body { worker = w } })) (sym f.is)
    (txn_follows d w s t (f.least, f.most) (ltb-true _ _ few))))))

open_shape : (d : Draft) → Stands d → is_at d.stage stage.Open ≡ true → fault_of d.shape ≡ None
open_shape d s t = (subst (λ (y : Stage). InOrder y d.shape d.body) (at_is d.stage stage.Open t) s.order).0

get_line : (d e : Draft) (table : List ℕ) (key : Option ℕ) → Stands d → admit d (line.Get table key) ≡ Ok e
    → Follows d (line.Get table key) e
unfolding admit
get_line d e table key s given =
    must_then (is_at d.stage stage.Open) kind.Word _ e given (λ t e1.
    ok_then (place_of d.shape.tables table) _ e e1 (λ f ef e2.
    ok_then (key_of key) _ e e2 (λ k ek e3.
    let at = found_is d.shape.tables table f ef in
    let fk = within_fits 0 (2 ^ 64 - 2) key k ek in
    pushes d (op.Get f.table k) 1 e (line.Get table key) s t e3 (table_is d.shape table f (open_shape d s t) at) fk.most
    refl
    (ap (λ (x : List ℕ). line.Get x (Some k)) at.named ∙ ap (λ (x : Option ℕ). line.Get table x) (sym fk.is)))))

del_line : (d e : Draft) (table : List ℕ) (key : Option ℕ) → Stands d → admit d (line.Del table key) ≡ Ok e
    → Follows d (line.Del table key) e
unfolding admit
del_line d e table key s given =
    must_then (is_at d.stage stage.Open) kind.Word _ e given (λ t e1.
    ok_then (place_of d.shape.tables table) _ e e1 (λ f ef e2.
    ok_then (key_of key) _ e e2 (λ k ek e3.
    let at = found_is d.shape.tables table f ef in
    let fk = within_fits 0 (2 ^ 64 - 2) key k ek in
    pushes d (op.Del f.table k) 1 e (line.Del table key) s t e3 (table_is d.shape table f (open_shape d s t) at) fk.most
    refl
    (ap (λ (x : List ℕ). line.Del x (Some k)) at.named ∙ ap (λ (x : Option ℕ). line.Del table x) (sym fk.is)))))

guard_line : (d e : Draft) (table : List ℕ) (key : Option ℕ) → Stands d → admit d (line.Guard table key) ≡ Ok e
    → Follows d (line.Guard table key) e
unfolding admit
guard_line d e table key s given =
    must_then (is_at d.stage stage.Open) kind.Word _ e given (λ t e1.
    ok_then (place_of d.shape.tables table) _ e e1 (λ f ef e2.
    ok_then (key_of key) _ e e2 (λ k ek e3.
    let at = found_is d.shape.tables table f ef in
    let fk = within_fits 0 (2 ^ 64 - 2) key k ek in
    pushes d (op.Guard f.table k) 1 e (line.Guard table key) s t e3 (table_is d.shape table f (open_shape d s t) at)
    fk.most refl
    (ap (λ (x : List ℕ). line.Guard x (Some k)) at.named ∙ ap (λ (x : Option ℕ). line.Guard table x) (sym fk.is)))))

put_line : (d e : Draft) (table : List ℕ) (key : Option ℕ) (values : List (Option ℕ)) → Stands d
    → IsGoodIfSmall (line.Put table key values) → admit d (line.Put table key values) ≡ Ok e
    → Follows d (line.Put table key values) e
unfolding admit spelt_line
put_line d e table key values s good given =
    must_then (is_at d.stage stage.Open) kind.Word _ e given (λ t e1.
    ok_then (place_of d.shape.tables table) _ e e1 (λ f ef e2.
    ok_then (key_of key) _ e e2 (λ k ek e3.
    ok_then (all_small values) _ e e3 (λ vs ev e4.
    must_then (eqb (length vs) f.width) kind.Size _ e e4 (λ wide e5.
    let at = found_is d.shape.tables table f ef in
    let fk = within_fits 0 (2 ^ 64 - 2) key k ek in
    let iv = all_small_is values vs ev in
    let small : LineIsSmall (line.Put table key values) =
    (tt, (is_word key k fk.is, subst (AllByRecursion IsWord) (sym iv) (all_somes vs))) in
    let words = fit_bits vs (subst (AllByRecursion FitsWord) iv (good small).1.1.0) in
    pushes d (op.Put f.table k vs) 1 e (line.Put table key values) s t e5
    (table_is d.shape table f (open_shape d s t) at, eqb-true _ _ wide ∙ sym at.width) (fk.most, words) refl
    (ap (λ (x : List ℕ). line.Put x (Some k) (somes vs)) at.named ∙ ap (λ (x : Option ℕ). line.Put table x (somes vs))
    (sym fk.is) ∙ ap (λ (x : List (Option ℕ)). line.Put table key x) (sym iv)))))))

add_line : (d e : Draft) (table : List ℕ) (key field : Option ℕ) (change : Change) → Stands d
    → IsGoodIfSmall (line.Add table key field change) → admit d (line.Add table key field change) ≡ Ok e
    → Follows d (line.Add table key field change) e
unfolding admit spelt_line
add_line d e table key field change s good given =
    must_then (is_at d.stage stage.Open) kind.Word _ e given (λ t e1.
    ok_then (place_of d.shape.tables table) _ e e1 (λ f ef e2.
    ok_then (key_of key) _ e e2 (λ k ek e3.
    ok_then (within 1 f.width field) _ e e3 (λ g eg e4.
    ok_then (small change.by) _ e e4 (λ n en e5.
    let at = found_is d.shape.tables table f ef in
    let fk = within_fits 0 (2 ^ 64 - 2) key k ek in
    let fg = within_fits 1 f.width field g eg in
    let fn = within_fits 0 (2 ^ 64 - 1) change.by n en in
    let small : LineIsSmall (line.Add table key field change) =
    (tt, (is_word key k fk.is, (is_word field g fg.is, is_word change.by n fn.is))) in
    let fits : FitsChange change = (good small).1.1.1 in
    pushes d (op.Add f.table k g change.up n) 1 e (line.Add table key field change) s t e5
    (table_is d.shape table f (open_shape d s t) at, (fg.least, subst (λ (m : ℕ). g ≤ m) (sym at.width) fg.most))
    (fk.most, omega (arith, fn.most), λ down. not_zero n (λ zero. fits.1 down (fn.is ∙ zero))) refl
    (ap (λ (x : List ℕ). line.Add x (Some k) (Some g) (record { up = change.up; by = Some n })) at.named
    ∙ ap (λ (x : Option ℕ). line.Add table x (Some g) (record { up = change.up; by = Some n })) (sym fk.is)
    ∙ ap (λ (x : Option ℕ). line.Add table key x (record { up = change.up; by = Some n })) (sym fg.is)
    ∙ ap (λ (x : Option ℕ). line.Add table key field (record { up = change.up; by = x })) (sym fn.is)))))))

need_line : (d e : Draft) (table : List ℕ) (key field least : Option ℕ) → Stands d
    → admit d (line.Need table key field least) ≡ Ok e → Follows d (line.Need table key field least) e
unfolding admit
need_line d e table key field least s given =
    must_then (is_at d.stage stage.Open) kind.Word _ e given (λ t e1.
    ok_then (place_of d.shape.tables table) _ e e1 (λ f ef e2.
    ok_then (key_of key) _ e e2 (λ k ek e3.
    ok_then (within 1 f.width field) _ e e3 (λ g eg e4.
    ok_then (small least) _ e e4 (λ n en e5.
    let at = found_is d.shape.tables table f ef in
    let fk = within_fits 0 (2 ^ 64 - 2) key k ek in
    let fg = within_fits 1 f.width field g eg in
    let fn = within_fits 0 (2 ^ 64 - 1) least n en in
    pushes d (op.Need f.table k g n) 1 e (line.Need table key field least) s t e5
    (table_is d.shape table f (open_shape d s t) at, (fg.least, subst (λ (m : ℕ). g ≤ m) (sym at.width) fg.most))
    (fk.most, omega (arith, fn.most)) refl
    (ap (λ (x : List ℕ). line.Need x (Some k) (Some g) (Some n)) at.named
    ∙ ap (λ (x : Option ℕ). line.Need table x (Some g) (Some n)) (sym fk.is)
    ∙ ap (λ (x : Option ℕ). line.Need table key x (Some n)) (sym fg.is)
    ∙ ap (λ (x : Option ℕ). line.Need table key field x) (sym fn.is)))))))

scan_line : (d e : Draft) (table : List ℕ) (low high : Option ℕ) → Stands d → admit d (line.Scan table low high) ≡ Ok e
    → Follows d (line.Scan table low high) e
unfolding admit
scan_line d e table low high s given =
    must_then (is_at d.stage stage.Open) kind.Word _ e given (λ t e1.
    ok_then (place_of d.shape.tables table) _ e e1 (λ f ef e2.
    ok_then (key_of low) _ e e2 (λ l el e3.
    ok_then (key_of high) _ e e3 (λ h eh e4.
    must_then (leb l h) kind.Range _ e e4 (λ le e5.
    let at = found_is d.shape.tables table f ef in
    let fl = within_fits 0 (2 ^ 64 - 2) low l el in
    let fh = within_fits 0 (2 ^ 64 - 2) high h eh in
    pushes d (op.Scan f.table l h) f.capacity e (line.Scan table low high) s t e5
    (table_is d.shape table f (open_shape d s t) at) (leb-true _ _ le, fh.most) at.capacity
    (ap (λ (x : List ℕ). line.Scan x (Some l) (Some h)) at.named
    ∙ ap (λ (x : Option ℕ). line.Scan table x (Some h)) (sym fl.is)
    ∙ ap (λ (x : Option ℕ). line.Scan table low x) (sym fh.is)))))))

end_line : (d e : Draft) → Stands d → admit d line.End ≡ Ok e → Follows d line.End e
unfolding admit
end_line d e s given =
    must_then (is_at d.stage stage.Open) kind.Word _ e given (λ t e1.
    must_then (ltb 0 (length d.body.ops)) kind.Word _ e e1 (λ some e2.
    subst (Follows d line.End) (same_Ok _ _ e2) (end_follows d s t (ltb-true _ _ some))))

turns_line : (d e : Draft) (ss : List SpeltStint) → Stands d → IsGoodIfSmall (line.Turns ss)
    → admit d (line.Turns ss) ≡ Ok e → Follows d (line.Turns ss) e
unfolding admit spelt_line
turns_line d e ss s good given =
    must_then (takes_turns d.stage) kind.Word _ e given (λ t e1.
    ok_then (all_stints d.shape.workers ss) _ e e1 (λ ms em e2.
    ok_then (total_within d.body.steps (steps_of ms) 10000000) _ e e2 (λ sum es e3.
    let r = all_stints_are d.shape.workers ss ms em in
    let c = total_is d.body.steps (steps_of ms) 10000000 sum es in
    let len : length ss ≡ length ms = ap length r.0 ∙ length-map ms spelt in
    let short = good (subst (λ (x : List SpeltStint). LineIsSmall (line.Turns x)) (sym r.0) (all_spelt ms)) in
    subst (Follows d (line.Turns ss)) (same_Ok _ _ e3)
    (subst (λ (x : List SpeltStint). Follows d (line.Turns x)
    (record d { stage = stage.Turns; body = record d.body { stints = d.body.stints ++ ms; steps = sum } })) (sym
    r.0)
    (turns_follow d ms sum s t r.1 (omega (arith, len, short.1), omega (arith, len, short.2)) c.0 c.1)))))

seed_line : (d e : Draft) (seed picks : Option ℕ) → Stands d → admit d (line.Seed seed picks) ≡ Ok e
    → Follows d (line.Seed seed picks) e
unfolding admit
seed_line d e seed picks s given =
    must_then (is_loaded d.stage) kind.Word _ e given (λ t e1.
    ok_then (small seed) _ e e1 (λ n en e2.
    ok_then (within 0 1000000 picks) _ e e2 (λ p ep e3.
    let fn = within_fits 0 (2 ^ 64 - 1) seed n en in
    let fp = within_fits 0 1000000 picks p ep in
    let next : Draft = record d { stage = stage.Seed; body = record d.body { seed = n; picks = p } } in
    subst (Follows d (line.Seed seed picks)) (same_Ok _ _ e3)
    (subst (λ (x : Option ℕ). Follows d (line.Seed x picks) next) (sym fn.is)
    (subst (λ (x : Option ℕ). Follows d (line.Seed (Some n) x) next) (sym fp.is)
    (seed_follows d n p s t (omega (arith, fn.most)) fp.most))))))

pub admitted : (d : Draft) (l : Line) (e : Draft) → Stands d → IsGoodIfSmall l → admit d l ≡ Ok e
    → Follows d l e
admitted d line.Version e s good given = version_line d e s given
admitted d (line.Header form) e s good given = header_line d e form s given
admitted d (line.Workers n) e s good given = workers_line d e n s given
admitted d (line.Tries n) e s good given = tries_line d e n s given
admitted d (line.Tidy on) e s good given = tidy_line d e on s given
admitted d (line.Start n) e s good given = start_line d e n s given
admitted d (line.Overflow buckets cells) e s good given = overflow_line d e buckets cells s given
admitted d (line.Table name width capacity ring) e s good given = table_line d e name width capacity ring s good given
admitted d (line.Row table key values) e s good given = row_line d e table key values s good given
admitted d (line.Txn worker) e s good given = txn_line d e worker s given
admitted d (line.Get table key) e s good given = get_line d e table key s given
admitted d (line.Put table key values) e s good given = put_line d e table key values s good given
admitted d (line.Add table key field change) e s good given = add_line d e table key field change s good given
admitted d (line.Del table key) e s good given = del_line d e table key s given
admitted d (line.Need table key field least) e s good given = need_line d e table key field least s given
admitted d (line.Guard table key) e s good given = guard_line d e table key s given
admitted d (line.Scan table low high) e s good given = scan_line d e table low high s given
admitted d line.End e s good given = end_line d e s given
admitted d (line.Turns stints) e s good given = turns_line d e stints s good given
admitted d (line.Seed seed picks) e s good given = seed_line d e seed picks s given
