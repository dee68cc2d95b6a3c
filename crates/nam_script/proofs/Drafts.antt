-- The drafts on the way from none to a script, by the lines so far.
use Rattle.std.proofs.Common.{◌≡◌, ℕ, ◌+◌, ◌≤◌, Bool, true, false, List, [], ◌∷◌, ◌++◌, length}
use Rattle.std.proofs.Common.{refl, arith}
use Rattle.std.specs.List.{flat_map}
use Rattle.si_model.specs.declared.row.Row.{Row}
use Rattle.si_model.specs.declared.op.Op.{Op}
use Rattle.si_model.specs.Evaluation.{key_claimed, keys_from}
use Rattle.nam_catalog.specs.declared.shape.Table.{Table}
use Rattle.nam_catalog.specs.Tables.{capacities_of}
use Rattle.nam_script.specs.declared.script.ScriptTxn.{ScriptTxn}
use Rattle.nam_script.specs.declared.script.Stint.{Stint}
use Rattle.nam_script.specs.declared.script.Script.{Script}
use Rattle.nam_script.specs.declared.draft.Draft.{Draft}
use Rattle.nam_script.specs.declared.stage.Stage.{Stage}
use Rattle.nam_script.specs.declared.stage.Stage.TheVariants as stage
use Rattle.nam_script.specs.Checks.{steps_of, ops_cost, txns_cost}
use Rattle.nam_script.specs.Admit.{no_body}

-- ---- stages

-- the stage after as many of these as there are, each of which leads to one stage
abbrev pub after : {A : Type 0} → Stage → Stage → List A → Stage
after from to [] = from
after from to (x ∷ xs) = to

pub after_more : {A : Type 0} (from to : Stage) (xs : List A) (x : A) → after from to (xs ++ x ∷ []) ≡ to
after_more from to [] x = refl
after_more from to (y ∷ xs) x = refl

pub after_some : {A : Type 0} (from to : Stage) (xs : List A) → 1 ≤ length xs → after from to xs ≡ to
after_some from to [] some = absurd (omega arith)
after_some from to (x ∷ xs) some = refl

-- a test that both stages pass
pub after_passes : {A : Type 0} (test : Stage → Bool) (from to : Stage) (xs : List A) → test from ≡ true
    → test to ≡ true
    → test (after from to xs) ≡ true
after_passes test from to [] f t = f
after_passes test from to (x ∷ xs) f t = t

pub after_fails : {A : Type 0} (test : Stage → Bool) (from to : Stage) (xs : List A) → test from ≡ false
    → test to ≡ false
    → test (after from to xs) ≡ false
after_fails test from to [] f t = f
after_fails test from to (x ∷ xs) f t = t

-- the stages at the ends of rows, transactions and turns
abbrev pub loaded : Script → Stage
loaded s = after stage.Tables stage.Rows s.rows

abbrev pub ended : Script → Stage
ended s = after (loaded s) stage.Between s.txns

-- ---- the drafts on the way, with so many tables, rows, transactions, operations and lines of turns

abbrev pub tabled : Script → List Table → Draft
tabled s ts = record {
  stage = after stage.Overflow stage.Tables ts;
  shape = record s.shape { tables = ts };
  policy = s.policy;
  body = no_body;
}

abbrev pub rowed : Script → List Row → Draft
rowed s rs = record {
  stage = after stage.Tables stage.Rows rs;
  shape = s.shape;
  policy = s.policy;
  body = record no_body { rows = rs };
}

abbrev pub last_worker : ℕ → List ScriptTxn → ℕ
last_worker w [] = w
last_worker w (x ∷ xs) = last_worker x.worker xs

pub last_more : (w : ℕ) (xs : List ScriptTxn) (x : ScriptTxn) → last_worker w (xs ++ x ∷ []) ≡ x.worker
last_more w [] x = refl
last_more w (y ∷ xs) x = last_more y.worker xs x

abbrev pub ran : Script → List ScriptTxn → Draft
ran s xs = record {
  stage = after (loaded s) stage.Between xs;
  shape = s.shape;
  policy = s.policy;
  body = record no_body {
    rows = s.rows;
    txns = xs;
    worker = last_worker 0 xs;
    cost = txns_cost (capacities_of s.shape.tables) xs;
  };
}

abbrev pub opened : Script → List ScriptTxn → ℕ → List Op → Draft
opened s xs w ops = record {
  stage = stage.Open;
  shape = s.shape;
  policy = s.policy;
  body = record no_body {
    rows = s.rows;
    txns = xs;
    worker = w;
    ops = ops;
    keys = keys_from key_claimed [] ops;
    cost = txns_cost (capacities_of s.shape.tables) xs + ops_cost (capacities_of s.shape.tables) ops;
  };
}

abbrev pub in_all : List (List Stint) → List Stint
in_all gs = flat_map (λ g. g) gs

abbrev pub turned : Script → List (List Stint) → Draft
turned s gs = record {
  stage = after (ended s) stage.Turns gs;
  shape = s.shape;
  policy = s.policy;
  body = record (ran s s.txns).body { stints = in_all gs; steps = steps_of (in_all gs) };
}

abbrev pub seeded : Script → ℕ → ℕ → Draft
seeded s seed picks = record (ran s s.txns) {
  stage = stage.Seed;
  body = record (ran s s.txns).body { seed = seed; picks = picks };
}
