-- A line that is admitted is the next of the draft's lines, and the lines keep to their limits.
use Rattle.std.proofs.Common.{◌≡◌, ℕ, zero, suc, ◌+◌, ◌<◌, ◌≤◌, Bool, true, false, cond, ltb, not, List, [], ◌∷◌}
use Rattle.std.proofs.Common.{◌++◌, map, length, take, Option, Some, None, Ok, refl, sym, ap, ◌∙◌, subst, arith}
use Rattle.std.proofs.Common.{length-append}
use Rattle.std.specs.Prelude.{is_some, slice_index}
use Rattle.std.specs.List.{AllByRecursion, flat_map}
use Rattle.std.proofs.lemmas.Bool.{ltb-true}
use Rattle.std.proofs.lemmas.List.{append-nil, take_all, length-map}
use Rattle.std.proofs.lemmas.List.Elements.{recursion_from_All}
use Rattle.std.proofs.lemmas.Grind.{flat_map-append}
use Rattle.si_model.specs.declared.row.Row.{Row}
use Rattle.si_model.specs.declared.op.Op.{Op}
use Rattle.si_model.specs.declared.op.Op.TheVariants as op
use Rattle.si_model.specs.Evaluation.{IsTable, OpFits, key_claimed, keys_from}
use Rattle.nam_catalog.specs.declared.shape.Shape.{Shape}
use Rattle.nam_catalog.specs.declared.shape.Table.{Table}
use Rattle.nam_catalog.specs.declared.fault.ShapeFault.{ShapeFault}
use Rattle.nam_catalog.specs.Fits.{FitsTable}
use Rattle.nam_catalog.specs.Tables.{widths_of, capacities_of}
use Rattle.nam_catalog.specs.Limits.{fault_of}
use Rattle.nam_catalog.proofs.FitsLemmas.{fits_limits}
use Rattle.nam_script.specs.declared.refusal.Kind.TheVariants as kind
use Rattle.nam_script.specs.Line.{Line}
use Rattle.nam_script.specs.Line as line
use Rattle.nam_script.specs.declared.script.ScriptTxn.{ScriptTxn}
use Rattle.nam_script.specs.declared.script.Stint.{Stint}
use Rattle.nam_script.specs.declared.checks.Found.{Found}
use Rattle.nam_script.specs.declared.draft.Body.{Body}
use Rattle.nam_script.specs.declared.draft.Draft.{Draft}
use Rattle.nam_script.specs.declared.stage.Stage.{Stage}
use Rattle.nam_script.specs.declared.stage.Stage.TheVariants as stage
use Rattle.nam_script.specs.Stages.{rank, is_at, takes_table, takes_row, is_loaded, takes_turns}
use Rattle.nam_script.specs.Checks.{small, op_cost, total_within, keys_after, steps_of}
use Rattle.nam_script.specs.Admit.{no_body, is_held, with_table, push_op}
use Rattle.nam_script.specs.Limits.{IsNamed, Fits64Bits, RowsFit, OpNumbersFit, TxnFits, StintFits}
use Rattle.nam_text.specs.Spelling.{IsWord}
use Rattle.nam_script.specs.Lines.{spelt_line}
use Rattle.nam_script.specs.Spelling.{LineIsSmall, somes, spelt, setting_lines, table_line, row_line, op_line}
use Rattle.nam_script.specs.Spelling.{turns_line, lines_of_draft}
use Rattle.nam_script.proofs.Chains.{ok_then, must_then, same_Ok, total_is, IsFound, at_is}
use Rattle.nam_script.proofs.Concat.{joined, same_parts, setting_more, table_more, row_more, txn_more, op_more}
use Rattle.nam_script.proofs.Concat.{end_more, turns_more, seed_more}
use Rattle.nam_script.proofs.Kept.{InOrder, Late, late_rows, late_between, late_turns, before_table, before_row}
use Rattle.nam_script.proofs.Kept.{before_txn, before_turns, opened, Kept, bare_kept, absent_worker, all_more}
use Rattle.nam_script.proofs.Kept.{all_both, keys_both, with_key, keys_are, ops_cost_more, txns_cost_more, steps_both}

-- the stints in groups of 1 to 64
abbrev pub AreGroups : List (List Stint) → List Stint → Type 0
AreGroups gs ss = (flat_map (λ g. g) gs ≡ ss) × AllByRecursion (λ g. (1 ≤ length g) × (length g ≤ 64)) gs

none : (x : Stint) (xs : List Stint) → x ∷ xs ≡ [] → ⊥
none x xs e = cc

pub no_groups : (gs : List (List Stint)) (ss : List Stint) → AreGroups gs ss → ss ≡ [] → gs ≡ []
no_groups [] ss a e = refl
no_groups ([] ∷ gs) ss a e = absurd (omega (arith, a.1.0.0))
no_groups ((s ∷ g) ∷ gs) ss a e = absurd (none s (g ++ flat_map (λ g. g) gs) (a.0 ∙ e))

-- with a line more
pub record Told (d : Draft) (l : Line) (e : Draft) (gs : List (List Stint)) : Type 0 where
  pub groups : List (List Stint)
  pub are : AreGroups groups e.body.stints
  pub lines : lines_of_draft e groups ≡ lines_of_draft d gs ++ l ∷ []

-- the lines so far stand in order and keep to their limits
pub record Stands (d : Draft) : Type 0 where
  pub order : InOrder d.stage d.shape d.body
  pub kept : Kept d.stage d.shape d.body
  pub tries : (1 ≤ d.policy.tries) × (d.policy.tries ≤ 16)

pub record Follows (d : Draft) (l : Line) (e : Draft) : Type 0 where
  pub small : LineIsSmall l
  pub told : (gs : List (List Stint)) → AreGroups gs d.body.stints → Told d l e gs
  pub stands : Stands e

-- ---- the lines of a draft by their parts

pub if_none : (b : Bool) (x : List Line) → b ≡ false → cond b x [] ≡ []
if_none b x e = rw e refl

pub if_some : (b : Bool) (x : List Line) → b ≡ true → cond b x [] ≡ x
if_some b x e = rw e refl

-- before the first row
pub bare_parts : (d : Draft) (gs : List (List Stint)) (h : List Line)
    → take (rank d.stage) (setting_lines d.shape d.policy) ≡ h → d.body ≡ no_body → is_at d.stage stage.Open ≡ false
    → is_at d.stage stage.Seed ≡ false → gs ≡ [] → lines_of_draft d gs ≡ joined h d.shape.tables [] [] [] [] []
bare_parts d gs h eh eb closed unpicked eg =
    same_parts _ h d.shape.tables _ [] _ [] _ [] gs [] _ [] eh (ap (λ (b : Body). b.rows) eb)
    (ap (λ (b : Body). b.txns) eb) (if_none _ _ closed) eg (if_none _ _ unpicked)

pub late_settings : (d : Draft) → 7 ≤ rank d.stage
    → take (rank d.stage) (setting_lines d.shape d.policy) ≡ setting_lines d.shape d.policy
late_settings d full = take_all (rank d.stage) (setting_lines d.shape d.policy) full

pub late_parts : (d : Draft) (gs fs : List (List Stint)) (xs : List ScriptTxn) → Late d.stage → d.body.txns ≡ xs
    → gs ≡ fs → lines_of_draft d gs ≡ joined (setting_lines d.shape d.policy) d.shape.tables d.body.rows xs [] fs []
late_parts d gs fs xs late ex eg =
    same_parts _ _ d.shape.tables _ d.body.rows _ xs _ [] gs fs _ [] (late_settings d late.full) refl ex
    (if_none _ _ late.closed) eg (if_none _ _ late.unpicked)

pub open_parts : (d : Draft) (gs fs : List (List Stint)) → d.stage ≡ stage.Open → gs ≡ fs
    → lines_of_draft d gs
    ≡ joined (setting_lines d.shape d.policy) d.shape.tables d.body.rows d.body.txns
    (line.Txn (Some d.body.worker) ∷ map (op_line d.shape.tables) d.body.ops) fs []
open_parts d gs fs at eg =
    same_parts _ _ d.shape.tables _ d.body.rows _ d.body.txns _
    (line.Txn (Some d.body.worker) ∷ map (op_line d.shape.tables) d.body.ops) gs fs _ []
    (late_settings d (subst (λ (y : Stage). 7 ≤ rank y) (sym at) (omega arith))) refl refl
    (if_some _ _ (ap (λ (y : Stage). is_at y stage.Open) at)) eg
    (if_none _ _ (ap (λ (y : Stage). is_at y stage.Seed) at))

-- ---- settings

pub setting_follows : (d e : Draft) (l : Line) (h : List Line) (st : Stage) → d.stage ≡ st → d.shape.tables ≡ []
    → d.body ≡ no_body → is_at st stage.Open ≡ false → is_at st stage.Seed ≡ false → is_at e.stage stage.Open ≡ false
    → is_at e.stage stage.Seed ≡ false → e.shape.tables ≡ d.shape.tables → e.body ≡ d.body
    → take (rank st) (setting_lines d.shape d.policy) ≡ h
    → take (rank e.stage) (setting_lines e.shape e.policy) ≡ h ++ l ∷ [] → is_held e.shape.form ≡ false
    → (1 ≤ e.policy.tries) × (e.policy.tries ≤ 16)
    → (e.shape.tables ≡ [] → e.body ≡ no_body → InOrder e.stage e.shape e.body) → LineIsSmall l → Follows d l e
setting_follows d e l h st at et eb closed unpicked closed' unpicked' same_ts same_b before after form tries order small
    =
    let et' = same_ts ∙ et in
    let eb' = same_b ∙ eb in
    record {
      small = small;
      told = λ gs a.
          let eg = no_groups gs d.body.stints a (ap (λ (b : Body). b.stints) eb) in
          let start = ap (λ (y : Stage). take (rank y) (setting_lines d.shape d.policy)) at ∙ before in
          let was = bare_parts d gs h start eb (ap (λ (y : Stage). is_at y stage.Open) at ∙ closed)
          (ap (λ (y : Stage). is_at y stage.Seed) at ∙ unpicked) eg
          ∙ ap (λ (ts : List Table). joined h ts [] [] [] [] []) et in
          let is = bare_parts e gs (h ++ l ∷ []) after eb' closed' unpicked' eg
          ∙ ap (λ (ts : List Table). joined (h ++ l ∷ []) ts [] [] [] [] []) et' in
          record {
            groups = gs;
            are = (a.0 ∙ ap (λ (b : Body). b.stints) (sym same_b), a.1);
            lines = is ∙ setting_more h l ∙ ap (λ (x : List Line). x ++ l ∷ []) (sym was);
          };
      stands = record {
        order = order et' eb';
        kept = subst (λ (b : Body). Kept e.stage e.shape b) (sym eb') (bare_kept e.stage e.shape
            (omega (arith, ap length et')) (subst (λ (ts : List Table). AllByRecursion FitsTable ts) (sym et') tt)
            (subst (λ (ts : List Table). AllByRecursion IsNamed ts) (sym et') tt) form closed');
        tries = tries;
      };
    }

-- ---- tables, rows and transactions

pub not_true : (b : Bool) → not b ≡ true → b ≡ false
not_true true e = absurd cc
not_true false e = refl

pub none_some : (o : Option ShapeFault) → not (is_some o) ≡ true → o ≡ None
none_some None e = refl
none_some (Some x) e = absurd cc

pub table_follows : (d e : Draft) (t : Table) (l : Line) → Stands d → takes_table d.stage ≡ true
    → length d.shape.tables < 8 → fault_of (with_table d.shape t) ≡ None → IsNamed t
    → e ≡ record d { stage = stage.Tables; shape = with_table d.shape t } → table_line t ≡ l → LineIsSmall l
    → Follows d l e
table_follows d e t l s y few good named is spelt small =
    let b = before_table d.stage d.shape d.body y s.order in
    let next : Draft = record d { stage = stage.Tables; shape = with_table d.shape t } in
    let made : Follows d (table_line t) next = record {
      small = subst LineIsSmall (sym spelt) small;
      told = λ gs a.
          let eg = no_groups gs d.body.stints a (ap (λ (b : Body). b.stints) b.body) in
          record {
            groups = gs;
            are = a;
            lines = bare_parts next gs (setting_lines d.shape d.policy) refl b.body refl refl eg
                ∙ table_more (setting_lines d.shape d.policy) d.shape.tables t
                ∙ ap (λ (x : List Line). x ++ table_line t ∷ []) (sym (bare_parts d gs (setting_lines d.shape d.policy)
                (late_settings d b.late.full) b.body b.late.closed b.late.unpicked eg));
          };
      stands = record {
        order = (good, b.body);
        kept = subst (λ (b : Body). Kept stage.Tables (with_table d.shape t) b) (sym b.body) (bare_kept stage.Tables
            (with_table d.shape t) (omega (arith, length-append d.shape.tables (t ∷ [])))
            (recursion_from_All FitsTable (d.shape.tables ++ t ∷ []) (fits_limits (with_table d.shape t) good).tables)
            (all_more IsNamed d.shape.tables t s.kept.names named) s.kept.form refl);
        tries = s.tries;
      };
    } in
    subst (λ (x : Draft). Follows d l x) (sym is) (subst (λ (m : Line). Follows d m next) spelt made)

pub row_follows : (d : Draft) (r : Row) → Stands d → takes_row d.stage ≡ true
    → RowsFit d.shape.tables (d.body.rows ++ r ∷ []) → LineIsSmall (row_line d.shape.tables r)
    → Follows d (row_line d.shape.tables r)
    (record d { stage = stage.Rows; body = record d.body { rows = d.body.rows ++ r ∷ [] } })
row_follows d r s y fit small =
    let b = before_row d.stage d.shape d.body y s.order in
    let next : Draft = record d { stage = stage.Rows; body = record d.body { rows = d.body.rows ++ r ∷ [] } } in
    let k = s.kept in
    record {
      small = small;
      told = λ gs a.
          let eg = no_groups gs d.body.stints a b.stints in
          record {
            groups = gs;
            are = a;
            lines = late_parts next gs [] [] late_rows b.txns eg
                ∙ row_more (setting_lines d.shape d.policy) d.shape.tables d.body.rows r
                ∙ ap (λ (x : List Line). x ++ row_line d.shape.tables r ∷ [])
                (sym (late_parts d gs [] [] b.late b.txns eg));
          };
      stands = record {
        order = (b.shape, b.txns, b.ops, b.stints);
        kept = record {
          few_tables = k.few_tables;
          fit_tables = k.fit_tables;
          names = k.names;
          form = k.form;
          rows = fit;
          few = omega (arith, k.few);
          txns = k.txns;
          worker = λ t. absent_worker stage.Rows _ refl t;
          ops = k.ops;
          keys = k.keys;
          cost = k.cost;
          most_cost = k.most_cost;
          stints = k.stints;
          steps = k.steps;
          most_steps = k.most_steps;
          seed = k.seed;
          picks = k.picks;
        };
        tries = s.tries;
      };
    }

pub txn_follows : (d : Draft) (w : ℕ) → Stands d → is_loaded d.stage ≡ true → (1 ≤ w) × (w ≤ d.shape.workers)
    → length d.body.txns < 8192
    → Follows d (line.Txn (Some w)) (record d { stage = stage.Open; body = record d.body { worker = w } })
unfolding spelt_line
txn_follows d w s y range few =
    let b = before_txn d.stage d.shape d.body y s.order in
    let next : Draft = record d { stage = stage.Open; body = record d.body { worker = w } } in
    let k = s.kept in
    record {
      small = tt;
      told = λ gs a.
          let eg = no_groups gs d.body.stints a b.stints in
          let h = setting_lines d.shape d.policy in
          record {
            groups = gs;
            are = a;
            lines = open_parts next gs [] refl eg
                ∙ ap (λ (os : List Op). joined h d.shape.tables d.body.rows d.body.txns
                (line.Txn (Some w) ∷ map (op_line d.shape.tables) os) [] []) b.ops
                ∙ txn_more h d.shape.tables d.body.rows d.body.txns w
                ∙ ap (λ (x : List Line). x ++ line.Txn (Some w) ∷ [])
                (sym (late_parts d gs [] d.body.txns b.late refl eg));
          };
      stands = record {
        order = (b.shape, b.stints);
        kept = record {
          few_tables = k.few_tables;
          fit_tables = k.fit_tables;
          names = k.names;
          form = k.form;
          rows = k.rows;
          few = omega (arith, few);
          txns = k.txns;
          worker = λ t. range;
          ops = k.ops;
          keys = k.keys;
          cost = k.cost;
          most_cost = k.most_cost;
          stints = k.stints;
          steps = k.steps;
          most_steps = k.most_steps;
          seed = k.seed;
          picks = k.picks;
        };
        tries = s.tries;
      };
    }

-- ---- operations

width_most : (ts : List Table) → AllByRecursion FitsTable ts → (i : ℕ) → slice_index (widths_of ts) i ≤ 8
width_most [] h i = omega arith
width_most (t ∷ ts) h zero = h.0.most_width
width_most (t ∷ ts) h (suc i) = width_most ts h.1 i

pub table_is : (s : Shape) (name : List ℕ) (f : Found) → fault_of s ≡ None → IsFound s.tables name f
    → IsTable (widths_of s.tables) f.table
table_is s name f good is =
    let all = recursion_from_All FitsTable s.tables (fits_limits s good).tables in
    (omega (arith, length-map s.tables (λ (t : Table). t.width), is.within), width_most s.tables all f.table)

pub all_somes : (ms : List ℕ) → AllByRecursion IsWord (somes ms)
all_somes [] = tt
all_somes (m ∷ ms) = (tt, all_somes ms)

pub all_spelt : (ms : List Stint) → AllByRecursion (λ s. IsWord s.worker × IsWord s.steps) (map spelt ms)
all_spelt [] = tt
all_spelt (m ∷ ms) = ((tt, tt), all_spelt ms)

op_small : (ts : List Table) (o : Op) → LineIsSmall (op_line ts o)
unfolding spelt_line
op_small ts (op.Get t k) = (tt, tt)
op_small ts (op.Put t k v) = (tt, (tt, all_somes v))
op_small ts (op.Add t k f up by) = (tt, (tt, (tt, tt)))
op_small ts (op.Del t k) = (tt, tt)
op_small ts (op.Need t k f least) = (tt, (tt, (tt, tt)))
op_small ts (op.Guard t k) = (tt, tt)
op_small ts (op.Scan t low high) = (tt, (tt, tt))

pub pushes : (d : Draft) (o : Op) (cost : ℕ) (e : Draft) (l : Line) → Stands d → is_at d.stage stage.Open ≡ true
    → push_op d o cost ≡ Ok e → OpFits (widths_of d.shape.tables) o → OpNumbersFit o
    → op_cost (capacities_of d.shape.tables) o ≡ cost → op_line d.shape.tables o ≡ l → Follows d l e
pushes d o cost e l s y given fit has costs spelt =
    must_then (ltb (length d.body.ops) 32) kind.Size _ e given (λ room e1.
    ok_then (total_within d.body.cost cost 65536) _ e e1 (λ sum es e2.
    ok_then (keys_after d.body.keys o) _ e e2 (λ ks ek e3.
    let k = s.kept in
    let at = at_is d.stage stage.Open y in
    let order = subst (λ (y : Stage). InOrder y d.shape d.body) at s.order in
    let c = total_is d.body.cost cost 65536 sum es in
    let q = keys_are d.body.keys (key_claimed o) ks ek (subst (λ (x : _). length x ≤ 16) (sym k.keys) k.ops.claims) in
    let more = keys_both key_claimed [] d.body.ops (o ∷ []) in
    let keyed : ks ≡ keys_from key_claimed [] (d.body.ops ++ o ∷ []) = q.0
    ∙ ap (λ (x : _). with_key x (key_claimed o)) k.keys ∙ sym more in
    let next : Draft = record d { body = record d.body { ops = d.body.ops ++ o ∷ []; keys = ks; cost = sum } } in
    let made : Follows d (op_line d.shape.tables o) next = record {
      small = op_small d.shape.tables o;
      told = λ gs a.
          let eg = no_groups gs d.body.stints a order.1 in
          record {
            groups = gs;
            are = a;
            lines = open_parts next gs [] at eg
                ∙ op_more (setting_lines d.shape d.policy) d.shape.tables d.body.rows d.body.txns d.body.worker
                d.body.ops o
                ∙ ap (λ (x : List Line). x ++ op_line d.shape.tables o ∷ []) (sym (open_parts d gs [] at eg));
          };
      stands = record {
        order = subst (λ (y : Stage). InOrder y d.shape next.body) (sym at) (order.0, order.1);
        kept = record {
          few_tables = k.few_tables;
          fit_tables = k.fit_tables;
          names = k.names;
          form = k.form;
          rows = k.rows;
          few = k.few;
          txns = k.txns;
          worker = k.worker;
          ops = record {
            fit = all_more (OpFits (widths_of d.shape.tables)) d.body.ops o k.ops.fit fit;
            numbers = all_more OpNumbersFit d.body.ops o k.ops.numbers has;
            few = omega (arith, length-append d.body.ops (o ∷ []), ltb-true _ _ room);
            claims = subst (λ (x : _). length x ≤ 16) keyed q.1;
          };
          keys = keyed;
          cost = omega (arith, c.0, k.cost, costs, ops_cost_more (capacities_of d.shape.tables) d.body.ops o);
          most_cost = c.1;
          stints = k.stints;
          steps = k.steps;
          most_steps = k.most_steps;
          seed = k.seed;
          picks = k.picks;
        };
        tries = s.tries;
      };
    } in
    subst (λ (x : Draft). Follows d l x) (same_Ok _ _ e3) (subst (λ (m : Line). Follows d m next) spelt made))))

pub end_follows : (d : Draft) → Stands d → is_at d.stage stage.Open ≡ true → 0 < length d.body.ops
    → Follows d line.End (record d {
      stage = stage.Between;
      body = record d.body
          { txns = d.body.txns ++ (record { worker = d.body.worker; ops = d.body.ops }) ∷ []; ops = []; keys = [] };
    })
unfolding spelt_line
end_follows d s y some =
    let k = s.kept in
    let at = at_is d.stage stage.Open y in
    let order = subst (λ (y : Stage). InOrder y d.shape d.body) at s.order in
    let x : ScriptTxn = record { worker = d.body.worker; ops = d.body.ops } in
    let next : Draft = record d
    { stage = stage.Between; body = record d.body { txns = d.body.txns ++ x ∷ []; ops = []; keys = [] } } in
    record {
      small = tt;
      told = λ gs a.
          let eg = no_groups gs d.body.stints a order.1 in
          record {
            groups = gs;
            are = a;
            lines = late_parts next gs [] (d.body.txns ++ x ∷ []) late_between refl eg
                ∙ end_more (setting_lines d.shape d.policy) d.shape.tables d.body.rows d.body.txns d.body.worker
                d.body.ops
                ∙ ap (λ (z : List Line). z ++ line.End ∷ []) (sym (open_parts d gs [] at eg));
          };
      stands = record {
        order = (order.0, refl, order.1);
        kept = record {
          few_tables = k.few_tables;
          fit_tables = k.fit_tables;
          names = k.names;
          form = k.form;
          rows = k.rows;
          few = omega (arith, k.few, ap opened at, length-append d.body.txns (x ∷ []));
          txns = all_more (TxnFits d.shape.workers d.shape.tables) d.body.txns x k.txns
              (record { worker = k.worker y; some = omega (arith, some); ops = k.ops });
          worker = λ t. absent_worker stage.Between _ refl t;
          ops = record { fit = tt; numbers = tt; few = omega arith; claims = omega arith };
          keys = refl;
          cost = omega (arith, k.cost, txns_cost_more (capacities_of d.shape.tables) d.body.txns x);
          most_cost = k.most_cost;
          stints = k.stints;
          steps = k.steps;
          most_steps = k.most_steps;
          seed = k.seed;
          picks = k.picks;
        };
        tries = s.tries;
      };
    }

pub turns_follow : (d : Draft) (ms : List Stint) (sum : ℕ) → Stands d → takes_turns d.stage ≡ true
    → AllByRecursion (StintFits d.shape.workers) ms → (1 ≤ length ms) × (length ms ≤ 64)
    → sum ≡ d.body.steps + steps_of ms → sum ≤ 10000000
    → Follows d (turns_line ms)
    (record d { stage = stage.Turns; body = record d.body { stints = d.body.stints ++ ms; steps = sum } })
unfolding spelt_line
turns_follow d ms sum s y fit short is most =
    let b = before_turns d.stage d.shape d.body y s.order in
    let k = s.kept in
    let next : Draft = record d
    { stage = stage.Turns; body = record d.body { stints = d.body.stints ++ ms; steps = sum } } in
    record {
      small = all_spelt ms;
      told = λ gs a.
          record {
            groups = gs ++ ms ∷ [];
            are = (
              flat_map-append (λ g. g) gs (ms ∷ []) ∙ ap (λ (x : List Stint). flat_map (λ g. g) gs ++ x)
                  (append-nil ms) ∙ ap (λ (x : List Stint). x ++ ms) a.0,
              all_more (λ g. (1 ≤ length g) × (length g ≤ 64))
                  gs ms a.1 short,
            );
            lines = late_parts next (gs ++ ms ∷ []) (gs ++ ms ∷ []) d.body.txns late_turns refl refl
                ∙ turns_more (setting_lines d.shape d.policy) d.shape.tables d.body.rows d.body.txns gs ms
                ∙ ap (λ (x : List Line). x ++ turns_line ms ∷ [])
                (sym (late_parts d gs gs d.body.txns b.late refl refl));
          };
      stands = record {
        order = (b.shape, b.ops);
        kept = record {
          few_tables = k.few_tables;
          fit_tables = k.fit_tables;
          names = k.names;
          form = k.form;
          rows = k.rows;
          few = omega (arith, k.few);
          txns = k.txns;
          worker = λ t. absent_worker stage.Turns _ refl t;
          ops = k.ops;
          keys = k.keys;
          cost = k.cost;
          most_cost = k.most_cost;
          stints = all_both (StintFits d.shape.workers) d.body.stints ms k.stints fit;
          steps = omega (arith, is, k.steps, steps_both d.body.stints ms);
          most_steps = most;
          seed = k.seed;
          picks = k.picks;
        };
        tries = s.tries;
      };
    }

pub seed_follows : (d : Draft) (seed picks : ℕ) → Stands d → is_loaded d.stage ≡ true → Fits64Bits seed
    → picks ≤ 1000000
    → Follows d (line.Seed (Some seed) (Some picks))
    (record d { stage = stage.Seed; body = record d.body { seed = seed; picks = picks } })
unfolding spelt_line
seed_follows d seed picks s y word most =
    let b = before_txn d.stage d.shape d.body y s.order in
    let k = s.kept in
    let l : Line = line.Seed (Some seed) (Some picks) in
    let next : Draft = record d { stage = stage.Seed; body = record d.body { seed = seed; picks = picks } } in
    let h = setting_lines d.shape d.policy in
    record {
      small = (tt, tt);
      told = λ gs a.
          let eg = no_groups gs d.body.stints a b.stints in
          record {
            groups = gs;
            are = a;
            lines = same_parts _ h d.shape.tables _ d.body.rows _ d.body.txns _ [] gs [] _ (l ∷ []) refl refl refl refl
                eg refl
                ∙ seed_more h d.shape.tables d.body.rows d.body.txns l
                ∙ ap (λ (x : List Line). x ++ l ∷ []) (sym (late_parts d gs [] d.body.txns b.late refl eg));
          };
      stands = record {
        order = (b.shape, b.ops, b.stints);
        kept = record {
          few_tables = k.few_tables;
          fit_tables = k.fit_tables;
          names = k.names;
          form = k.form;
          rows = k.rows;
          few = omega (arith, k.few);
          txns = k.txns;
          worker = λ t. absent_worker stage.Seed _ refl t;
          ops = k.ops;
          keys = k.keys;
          cost = k.cost;
          most_cost = k.most_cost;
          stints = k.stints;
          steps = k.steps;
          most_steps = k.most_steps;
          seed = word;
          picks = most;
        };
        tries = s.tries;
      };
    }
