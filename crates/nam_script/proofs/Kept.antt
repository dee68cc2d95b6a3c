-- What the lines so far keep to, at each stage.
use Rattle.std.proofs.Common.{◌≡◌, ℕ, ◌+◌, ◌<◌, ◌≤◌, Bool, true, false, cond, ◌&&◌, ◌||◌, eqb, ltb, List, [], ◌∷◌}
use Rattle.std.proofs.Common.{◌++◌, length, Option, Some, None, Ok, Err, refl, sym, ap, subst, arith, inl, inr}
use Rattle.std.proofs.Common.{length-append}
use Rattle.std.specs.List.{AllByRecursion}
use Rattle.std.proofs.lemmas.List.Sums.{sum_by-append}
use Rattle.std.proofs.lemmas.Bool.{ltb-true}
use Rattle.si_model.specs.declared.row.Row.{Row}
use Rattle.si_model.specs.declared.row.Key.{Key}
use Rattle.si_model.specs.declared.op.Op.{Op}
use Rattle.si_model.specs.Rows.{same_key, row_key, has_key}
use Rattle.si_model.proofs.WriteLemmas.{guarded_has, guarded_new}
use Rattle.si_model.specs.Evaluation.{with_guard, key_claimed, keys_from}
use Rattle.nam_catalog.specs.declared.shape.Shape.{Shape}
use Rattle.nam_catalog.specs.Tables.{capacities_of}
use Rattle.nam_catalog.specs.Fits.{FitsTable}
use Rattle.nam_catalog.specs.Limits.{fault_of}
use Rattle.nam_script.specs.declared.refusal.Kind.TheVariants as kind
use Rattle.nam_script.specs.declared.script.ScriptTxn.{ScriptTxn}
use Rattle.nam_script.specs.declared.script.Stint.{Stint}
use Rattle.nam_script.specs.declared.draft.Body.{Body}
use Rattle.nam_script.specs.declared.stage.Stage.{Stage}
use Rattle.nam_script.specs.declared.stage.Stage.TheVariants.{Overflow, Tables, Rows, Open, Between, Turns, Seed}
use Rattle.nam_script.specs.Stages.{rank, is_at, takes_table, takes_row, is_loaded, takes_turns}
use Rattle.nam_script.specs.Checks.{is_given, rows_in, ops_cost, txns_cost, op_cost, keys_with, steps_of}
use Rattle.nam_script.specs.Admit.{no_body, is_held}
use Rattle.nam_script.specs.Limits.{IsNamed, Fits64Bits, RowsFit, AreDistinct, OpsFit, TxnFits, StintFits}
use Rattle.nam_script.proofs.Chains.{at_is, either, same_Ok}

-- ---- which parts are empty at a stage

abbrev pub InOrder : Stage → Shape → Body → Type 0
InOrder Tables s b = (fault_of s ≡ None) × (b ≡ no_body)
InOrder Rows s b = (fault_of s ≡ None) × (b.txns ≡ []) × (b.ops ≡ []) × (b.stints ≡ [])
InOrder Open s b = (fault_of s ≡ None) × (b.stints ≡ [])
InOrder Between s b = (fault_of s ≡ None) × (b.ops ≡ []) × (b.stints ≡ [])
InOrder Turns s b = (fault_of s ≡ None) × (b.ops ≡ [])
InOrder Seed s b = (fault_of s ≡ None) × (b.ops ≡ []) × (b.stints ≡ [])
InOrder _ s b = (s.tables ≡ []) × (b ≡ no_body)

-- the settings stand, and neither is a transaction open nor a seed given
pub record Late (st : Stage) : Type 0 where
  pub full : 7 ≤ rank st
  pub closed : is_at st Open ≡ false
  pub unpicked : is_at st Seed ≡ false

pub late_tables : Late Tables
late_tables = record { full = omega arith; closed = refl; unpicked = refl }

pub late_overflow : Late Overflow
late_overflow = record { full = omega arith; closed = refl; unpicked = refl }

pub late_rows : Late Rows
late_rows = record { full = omega arith; closed = refl; unpicked = refl }

pub late_between : Late Between
late_between = record { full = omega arith; closed = refl; unpicked = refl }

pub late_turns : Late Turns
late_turns = record { full = omega arith; closed = refl; unpicked = refl }

pub record BeforeTable (st : Stage) (s : Shape) (b : Body) : Type 0 where
  pub late : Late st
  pub body : b ≡ no_body

pub before_table : (st : Stage) (s : Shape) (b : Body) → takes_table st ≡ true → InOrder st s b → BeforeTable st s b
before_table st s b t o = elim (either _ _ t) [
  | inl x ↦ (let at = at_is st Overflow x in record
      { late = subst Late (sym at) late_overflow; body = (subst (λ (y : Stage). InOrder y s b) at o).1 })
  | inr x ↦ (let at = at_is st Tables x in record
      { late = subst Late (sym at) late_tables; body = (subst (λ (y : Stage). InOrder y s b) at o).1 })
]

pub record BeforeRow (st : Stage) (s : Shape) (b : Body) : Type 0 where
  pub late : Late st
  pub shape : fault_of s ≡ None
  pub txns : b.txns ≡ []
  pub ops : b.ops ≡ []
  pub stints : b.stints ≡ []

pub before_row : (st : Stage) (s : Shape) (b : Body) → takes_row st ≡ true → InOrder st s b → BeforeRow st s b
before_row st s b t o = elim (either _ _ t) [
  | inl x ↦ (
      let at = at_is st Tables x in
      let h = subst (λ (y : Stage). InOrder y s b) at o in
      record {
        late = subst Late (sym at) late_tables;
        shape = h.0;
        txns = ap (λ (c : Body). c.txns) h.1;
        ops = ap
            (λ (c : Body). c.ops) h.1;
        stints = ap (λ (c : Body). c.stints) h.1;
      })
  | inr x ↦ (
      let at = at_is st Rows x in
      let h = subst (λ (y : Stage). InOrder y s b) at o in
      record { late = subst Late (sym at) late_rows; shape = h.0; txns = h.1; ops = h.2; stints = h.3 })
]

pub record BeforeTxn (st : Stage) (s : Shape) (b : Body) : Type 0 where
  pub late : Late st
  pub shape : fault_of s ≡ None
  pub ops : b.ops ≡ []
  pub stints : b.stints ≡ []

pub before_txn : (st : Stage) (s : Shape) (b : Body) → is_loaded st ≡ true → InOrder st s b → BeforeTxn st s b
before_txn st s b t o = elim (either (takes_row st) _ t) [
  | inl x ↦ (let h = before_row st s b x o in record { late = h.late; shape = h.shape; ops = h.ops; stints = h.stints })
  | inr x ↦ (
      let at = at_is st Between x in
      let h = subst (λ (y : Stage). InOrder y s b) at o in
      record { late = subst Late (sym at) late_between; shape = h.0; ops = h.1; stints = h.2 })
]

pub record BeforeTurns (st : Stage) (s : Shape) (b : Body) : Type 0 where
  pub late : Late st
  pub shape : fault_of s ≡ None
  pub ops : b.ops ≡ []

pub before_turns : (st : Stage) (s : Shape) (b : Body) → takes_turns st ≡ true → InOrder st s b → BeforeTurns st s b
before_turns st s b t o = elim (either (is_loaded st) _ t) [
  | inl x ↦ (let h = before_txn st s b x o in record { late = h.late; shape = h.shape; ops = h.ops })
  | inr x ↦ (
      let at = at_is st Turns x in
      let h = subst (λ (y : Stage). InOrder y s b) at o in
      record { late = subst Late (sym at) late_turns; shape = h.0; ops = h.1 })
]

-- ---- limits

-- is a transaction open
abbrev pub opened : Stage → ℕ
opened st = cond (is_at st Open) 1 0

pub record Kept (st : Stage) (s : Shape) (b : Body) : Type 0 where
  pub few_tables : length s.tables ≤ 8
  pub fit_tables : AllByRecursion FitsTable s.tables
  pub names : AllByRecursion IsNamed s.tables
  pub form : is_held s.form ≡ false
  pub rows : RowsFit s.tables b.rows
  pub few : length b.txns + opened st ≤ 8192
  pub txns : AllByRecursion (TxnFits s.workers s.tables) b.txns
  pub worker : is_at st Open ≡ true → (1 ≤ b.worker) × (b.worker ≤ s.workers)
  pub ops : OpsFit s.tables b.ops
  pub keys : b.keys ≡ keys_from key_claimed [] b.ops
  pub cost : b.cost ≡ txns_cost (capacities_of s.tables) b.txns + ops_cost (capacities_of s.tables) b.ops
  pub most_cost : b.cost ≤ 65536
  pub stints : AllByRecursion (StintFits s.workers) b.stints
  pub steps : b.steps ≡ steps_of b.stints
  pub most_steps : b.steps ≤ 10000000
  pub seed : Fits64Bits b.seed
  pub picks : b.picks ≤ 1000000

few_opened : (st : Stage) → is_at st Open ≡ false → opened st ≡ 0
few_opened st e = rw e refl

differ : (x : Bool) → x ≡ false → x ≡ true → ⊥
differ true e t = absurd cc
differ false e t = absurd cc

pub absent_worker : (st : Stage) (P : Type 0) → is_at st Open ≡ false → is_at st Open ≡ true → P
absent_worker st P e t = absurd (differ (is_at st Open) e t)

pub no_rows_fit : (s : Shape) → RowsFit s.tables []
no_rows_fit s = record { fit = tt; numbers = tt; distinct = tt; loaded = λ t lt. omega arith }

pub no_ops_fit : (s : Shape) → OpsFit s.tables []
no_ops_fit s = record { fit = tt; numbers = tt; few = omega arith; claims = omega arith }

pub bare_kept : (st : Stage) (s : Shape) → length s.tables ≤ 8 → AllByRecursion FitsTable s.tables
    → AllByRecursion IsNamed s.tables → is_held s.form ≡ false → is_at st Open ≡ false → Kept st s no_body
bare_kept st s few fit names form closed = record {
  few_tables = few;
  fit_tables = fit;
  names = names;
  form = form;
  rows = no_rows_fit s;
  few = omega (arith, few_opened st closed);
  txns = tt;
  worker = λ t. absent_worker st _ closed t;
  ops = no_ops_fit s;
  keys = refl;
  cost = refl;
  most_cost = omega arith;
  stints = tt;
  steps = refl;
  most_steps = omega arith;
  seed = omega arith;
  picks = omega arith;
}

-- ---- one more

pub all_more : {X : Type 0} (P : X → Type 0) (xs : List X) (x : X) → AllByRecursion P xs → P x
    → AllByRecursion P (xs ++ x ∷ [])
all_more P [] x h p = (p, tt)
all_more P (y ∷ xs) x h p = (h.0, all_more P xs x h.1 p)

pub all_both : {X : Type 0} (P : X → Type 0) (xs ys : List X) → AllByRecursion P xs → AllByRecursion P ys
    → AllByRecursion P (xs ++ ys)
all_both P [] ys h k = k
all_both P (x ∷ xs) ys h k = (h.0, all_both P xs ys h.1 k)

neither : (x y : Bool) → (x || y) ≡ false → (x ≡ false) × (y ≡ false)
neither true y e = absurd cc
neither false y e = (refl, e)

and_flip : (x y x1 y1 : Bool) → x ≡ x1 → y ≡ y1 → (x && y) ≡ (x1 && y1)
and_flip x y x1 y1 ex ey = rw (ex, ey) refl

pub distinct_more : (rs : List Row) (r : Row) → AreDistinct rs → is_given rs r.table r.key ≡ false
    → AreDistinct (rs ++ r ∷ [])
distinct_more [] r h e = (tt, tt)
distinct_more (q ∷ rs) r h e =
    let p = neither _ (is_given rs r.table r.key) e in
    (all_more (λ x. same_key (row_key q) (row_key x) ≡ false) rs r h.0 p.0, distinct_more rs r h.1 p.1)

pub rows_in_both : (rs qs : List Row) (t : ℕ) → rows_in (rs ++ qs) t ≡ rows_in rs t + rows_in qs t
rows_in_both [] qs t = omega arith
rows_in_both (r ∷ rs) qs t = omega (arith, rows_in_both rs qs t)

pub rows_in_more : (rs : List Row) (r : Row) (t : ℕ)
    → rows_in (rs ++ r ∷ []) t ≡ rows_in rs t + cond (eqb r.table t) 1 0
rows_in_more rs r t = omega (arith, rows_in_both rs (r ∷ []) t)

pub loaded_at : (x : Bool) (n m : ℕ) → (x ≡ true → n < m) → n ≤ m → n + cond x 1 0 ≤ m
loaded_at true n m h le = omega (arith, h refl)
loaded_at false n m h le = omega arith

-- the keys with one more
abbrev pub with_key : List Key → Option Key → List Key
with_key ks o = elim o [ None ↦ ks | Some key ↦ with_guard ks key ]

pub keys_both : (f : Op → Option Key) (ks : List Key) (ops more : List Op)
    → keys_from f ks (ops ++ more) ≡ keys_from f (keys_from f ks ops) more
keys_both f ks [] more = refl
keys_both f ks (o ∷ ops) more = keys_both f (with_key ks (f o)) ops more

room_for : (c : Bool) (ks : List Key) (key : Key) (qs : List Key) → has_key ks key ≡ false → ltb (length ks) 16 ≡ c
    → cond c (Ok (ks ++ key ∷ [])) (Err kind.Size) ≡ Ok qs → (qs ≡ with_guard ks key) × (length qs ≤ 16)
room_for true ks key qs has lt e1 =
    subst (λ (x : List Key). (x ≡ with_guard ks key) × (length x ≤ 16)) (same_Ok _ _ e1)
    (sym (guarded_new ks key has), omega (arith, length-append ks (key ∷ []), ltb-true _ _ lt))
room_for false ks key qs has lt e1 = absurd cc

new_key : (b : Bool) (ks : List Key) (key : Key) (qs : List Key) → has_key ks key ≡ b
    → cond b (Ok ks) (cond (ltb (length ks) 16) (Ok (ks ++ key ∷ [])) (Err kind.Size)) ≡ Ok qs → length ks ≤ 16
    → (qs ≡ with_guard ks key) × (length qs ≤ 16)
new_key true ks key qs has e few =
    subst (λ (x : List Key). (x ≡ with_guard ks key) × (length x ≤ 16)) (same_Ok _ _ e) (sym (guarded_has ks key has), few)
new_key false ks key qs has e few = room_for (ltb (length ks) 16) ks key qs has refl e

pub keys_are : (ks : List Key) (o : Option Key) (qs : List Key) → keys_with ks o ≡ Ok qs → length ks ≤ 16
    → (qs ≡ with_key ks o) × (length qs ≤ 16)
keys_are ks None qs e few = subst (λ (x : List Key). (x ≡ ks) × (length x ≤ 16)) (same_Ok _ _ e) (refl, few)
keys_are ks (Some key) qs e few = new_key (has_key ks key) ks key qs refl e few

pub ops_cost_both : (caps : List ℕ) (ops more : List Op)
    → ops_cost caps (ops ++ more) ≡ ops_cost caps ops + ops_cost caps more
ops_cost_both caps [] more = omega arith
ops_cost_both caps (o ∷ ops) more = omega (arith, ops_cost_both caps ops more)

pub ops_cost_more : (caps : List ℕ) (ops : List Op) (op : Op)
    → ops_cost caps (ops ++ op ∷ []) ≡ ops_cost caps ops + op_cost caps op
ops_cost_more caps ops op = omega (arith, ops_cost_both caps ops (op ∷ []))

pub txns_cost_both : (caps : List ℕ) (xs more : List ScriptTxn)
    → txns_cost caps (xs ++ more) ≡ txns_cost caps xs + txns_cost caps more
txns_cost_both caps [] more = omega arith
txns_cost_both caps (x ∷ xs) more = omega (arith, txns_cost_both caps xs more)

pub txns_cost_more : (caps : List ℕ) (xs : List ScriptTxn) (x : ScriptTxn)
    → txns_cost caps (xs ++ x ∷ []) ≡ txns_cost caps xs + ops_cost caps x.ops
txns_cost_more caps xs x = omega (arith, txns_cost_both caps xs (x ∷ []))

pub steps_both : (ss ts : List Stint) → steps_of (ss ++ ts) ≡ steps_of ss + steps_of ts
steps_both ss ts = sum_by-append (λ (s : Stint). s.steps) ss ts
