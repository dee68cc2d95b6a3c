-- The lines of a script are fewer than 2^32 by its limits, so that a bad line's number can be told.
use Rattle.std.proofs.Common.{◌≡◌, ℕ, zero, suc, ◌+◌, ◌*◌, ◌<◌, ◌≤◌, Bool, true, false, cond, eqb, List, [], ◌∷◌}
use Rattle.std.proofs.Common.{◌++◌, map, length, take, refl, sym, ap, arith, inl, inr, length-append}
use Rattle.std.specs.Prelude.{slice_index, Ok, Some}
use Rattle.std.specs.List.{AllByRecursion, flat_map}
use Rattle.std.proofs.lemmas.List.Sums.{sum_by-cons}
use Rattle.std.proofs.lemmas.Bool.{cases_eq, eq-eqb, ne_eqb}
use Rattle.std.proofs.lemmas.List.{length-map}
use Rattle.si_model.specs.declared.row.Row.{Row}
use Rattle.nam_catalog.specs.declared.shape.Table.{Table}
use Rattle.nam_catalog.specs.Fits.{FitsTable}
use Rattle.nam_catalog.specs.Tables.{widths_of, capacities_of}
use Rattle.nam_script.specs.Line.{Line}
use Rattle.nam_script.specs.Line as line
use Rattle.nam_script.specs.declared.script.ScriptTxn.{ScriptTxn}
use Rattle.nam_script.specs.declared.script.Stint.{Stint}
use Rattle.nam_script.specs.declared.draft.Draft.{Draft}
use Rattle.nam_script.specs.declared.stage.Stage.TheVariants as stage
use Rattle.nam_script.specs.Stages.{rank, is_at}
use Rattle.nam_script.specs.Checks.{rows_in, steps_of}
use Rattle.nam_script.specs.Admit.{start, admit_text}
use Rattle.nam_script.specs.Limits.{RowFits, TxnFits, StintFits}
use Rattle.nam_script.specs.Spelling.{setting_lines, table_line, row_line, op_line, txn_lines, turns_line, open_lines}
use Rattle.nam_script.specs.Spelling.{seed_lines, lines_of_draft}
use Rattle.nam_script.proofs.Steps.{AreGroups, Stands}
use Rattle.nam_script.proofs.Texts.{text_step, start_stands}

-- ---- rows, table by table

abbrev sum_below : ℕ → (ℕ → ℕ) → ℕ
sum_below zero f = 0
sum_below (suc n) f = f n + sum_below n f

sum_zero : (n : ℕ) → sum_below n (λ _. 0) ≡ 0
sum_zero zero = refl
sum_zero (suc n) = omega (arith, sum_zero n)

sum_both : (n : ℕ) (f g : ℕ → ℕ) → sum_below n (λ t. f t + g t) ≡ sum_below n f + sum_below n g
sum_both zero f g = omega arith
sum_both (suc n) f g = omega (arith, sum_both n f g)

bit_true : (x : Bool) → x ≡ true → ◌≡◌ {A = ℕ} (cond x 1 0) 1
bit_true x e = rw e refl

bit_false : (x : Bool) → x ≡ false → ◌≡◌ {A = ℕ} (cond x 1 0) 0
bit_false x e = rw e refl

sum_none : (n a : ℕ) → n ≤ a → sum_below n (λ t. cond (eqb a t) 1 0) ≡ 0
sum_none zero a le = refl
sum_none (suc n) a le =
    omega (arith, bit_false (eqb a n) (ne_eqb _ _ (λ e. absurd (omega (arith, e, le)))), sum_none n a (omega arith))

sum_one : (n a : ℕ) → a < n → sum_below n (λ t. cond (eqb a t) 1 0) ≡ 1
sum_one zero a lt = absurd (omega arith)
sum_one (suc n) a lt = elim (cases_eq a n) [
  | inl e ↦ omega (arith, bit_true (eqb a n) (eq-eqb _ _ e), sum_none n a (omega (arith, e)))
  | inr e ↦ omega (arith, bit_false (eqb a n) (ne_eqb _ _ e), sum_one n a (omega (arith, e, lt)))
]

rows_sum : (n : ℕ) (rs : List Row) → AllByRecursion (λ r. r.table < n) rs → length rs ≡ sum_below n (rows_in rs)
rows_sum n [] h = sym (sum_zero n)
rows_sum n (r ∷ rs) h =
    omega (arith, sum_both n (λ t. cond (eqb r.table t) 1 0) (rows_in rs), sum_one n r.table h.0, rows_sum n rs h.1)

sum_most : (n m : ℕ) (f : ℕ → ℕ) → n ≤ m → ((t : ℕ) → t < m → f t ≤ 4096) → sum_below n f ≤ n * 4096
sum_most zero m f le h = omega arith
sum_most (suc n) m f le h = omega (arith, h n le, sum_most n m f (omega arith) h)

capacity_most : (ts : List Table) → AllByRecursion FitsTable ts → (i : ℕ) → slice_index (capacities_of ts) i ≤ 4096
capacity_most [] h i = omega arith
capacity_most (t ∷ ts) h zero = h.0.most_capacity
capacity_most (t ∷ ts) h (suc i) = capacity_most ts h.1 i

rows_below : (ts : List Table) (rs : List Row) → AllByRecursion (RowFits (widths_of ts)) rs
    → AllByRecursion (λ r. r.table < length ts) rs
rows_below ts [] h = tt
rows_below ts (r ∷ rs) h = (omega (arith, h.0.0.0, length-map ts (λ (t : Table). t.width)), rows_below ts rs h.1)

few_rows : (d : Draft) → Stands d → length d.body.rows ≤ 32768
few_rows d s =
    let k = s.kept in
    let n = length d.shape.tables in
    let most = sum_most n n (rows_in d.body.rows) (omega arith)
    (λ t lt. omega (arith, k.rows.loaded t lt, capacity_most d.shape.tables k.fit_tables t)) in
    omega (arith, rows_sum n d.body.rows (rows_below d.shape.tables d.body.rows k.rows.fit), most, k.few_tables)

-- ---- the other lines

txn_most : (workers : ℕ) (ts : List Table) (x : ScriptTxn) → TxnFits workers ts x → length (txn_lines ts x) ≤ 34
txn_most workers ts x h =
    omega (arith, length-append (map (op_line ts) x.ops) (line.End ∷ []), length-map x.ops (op_line ts), h.ops.few)

txns_most : (workers : ℕ) (ts : List Table) (xs : List ScriptTxn) → AllByRecursion (TxnFits workers ts) xs
    → length (flat_map (txn_lines ts) xs) ≤ length xs * 34
txns_most workers ts [] h = omega arith
txns_most workers ts (x ∷ xs) h =
    omega (
      arith,
      length-append (txn_lines ts x) (flat_map (txn_lines ts) xs),
      txn_most workers ts x h.0,
      txns_most
          workers ts xs h.1,
    )

groups_most : (gs : List (List Stint)) → AllByRecursion (λ g. (1 ≤ length g) × (length g ≤ 64)) gs
    → length gs ≤ length (flat_map (λ g. g) gs)
groups_most [] h = omega arith
groups_most (g ∷ gs) h = omega (arith, length-append g (flat_map (λ g. g) gs), h.0.0, groups_most gs h.1)

stints_most : (workers : ℕ) (ss : List Stint) → AllByRecursion (StintFits workers) ss → length ss ≤ steps_of ss
stints_most workers [] h = omega arith
stints_most workers (s ∷ ss) h =
    omega (arith, sum_by-cons (λ (x : Stint). x.steps) s ss, h.0.2, stints_most workers ss h.1)

length_if : (b : Bool) (x : List Line) → length (cond b x []) ≤ length x
length_if true x = omega arith
length_if false x = omega arith

length_take : (n : ℕ) (x : List Line) → length (take n x) ≤ length x
length_take zero x = omega arith
length_take (suc n) [] = omega arith
length_take (suc n) (l ∷ x) = omega (arith, length_take n x)

lines_most : (d : Draft) (gs : List (List Stint)) → Stands d → AreGroups gs d.body.stints
    → length (lines_of_draft d gs) ≤ 10400000
lines_most d gs s a =
    let k = s.kept in
    let ts = d.shape.tables in
    let h = take (rank d.stage) (setting_lines d.shape d.policy) in
    let opens = open_lines d.stage ts d.body.worker d.body.ops in
    let seeds = seed_lines d.stage d.body.seed d.body.picks in
    let groups : length gs ≤ 10000000 = omega (
      arith,
      groups_most gs a.1,
      ap length a.0,
      stints_most d.shape.workers
          d.body.stints k.stints,
      k.steps,
      k.most_steps,
    ) in
    omega (
      arith,
      length_take (rank d.stage) (setting_lines d.shape d.policy),
      k.few_tables,
      few_rows d s,
      txns_most d.shape.workers ts d.body.txns k.txns,
      k.few,
      length_if (is_at d.stage stage.Open) (line.Txn (Some d.body.worker) ∷ map (op_line ts) d.body.ops),
      length-map d.body.ops (op_line ts),
      k.ops.few,
      groups,
      length_if (is_at d.stage stage.Seed) (line.Seed (Some d.body.seed) (Some d.body.picks) ∷ []),
      length-append h (map table_line ts ++ (map (row_line ts) d.body.rows ++
          (flat_map (txn_lines ts) d.body.txns ++ (opens ++ (map turns_line gs ++ seeds))))),
      length-append (map table_line ts) (map (row_line ts) d.body.rows ++
          (flat_map (txn_lines ts) d.body.txns ++ (opens ++ (map turns_line gs ++ seeds)))),
      length-map ts table_line,
      length-append (map (row_line ts) d.body.rows)
          (flat_map (txn_lines ts) d.body.txns ++ (opens ++ (map turns_line gs ++ seeds))),
      length-map d.body.rows (row_line ts),
      length-append (flat_map (txn_lines ts) d.body.txns) (opens ++ (map turns_line gs ++ seeds)),
      length-append opens (map turns_line gs ++ seeds),
      length-append (map turns_line gs) seeds,
      length-map gs turns_line,
    )

-- line n follows the lines so far
pub record IsLine (n : ℕ) (d : Draft) : Type 0 where
  pub groups : List (List Stint)
  pub are : AreGroups groups d.body.stints
  pub count : length (lines_of_draft d groups) + 1 ≡ n
  pub stands : Stands d

pub first_line : IsLine 1 start
first_line = record { groups = []; are = (refl, tt); count = refl; stands = start_stands }

pub next_line : (n : ℕ) (d e : Draft) (text : List ℕ) → IsLine n d → admit_text d text ≡ Ok e → IsLine (n + 1) e
next_line n d e text at given =
    let t = text_step d text e at.groups at.stands at.are given in
    record { groups = t.groups; are = t.are; count = omega (arith, t.count, at.count); stands = t.stands }

pub line_most : (n : ℕ) (d : Draft) → IsLine n d → n ≤ 10400001
line_most n d at = omega (arith, lines_most d at.groups at.stands at.are, at.count)
