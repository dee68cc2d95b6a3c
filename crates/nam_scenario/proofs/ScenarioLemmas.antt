-- Each script within the limits makes a scenario that fits.
use Rattle.std.proofs.Common.{List, [], ◌∷◌, arith}
use Rattle.std.specs.Prelude.{map}
use Rattle.std.specs.List.{AllByRecursion}
use Rattle.si_model.specs.declared.op.Op.{Op}
use Rattle.si_model.specs.declared.op.Op.TheVariants.{Get, Put, Add, Del, Need, Guard, Scan}
use Rattle.si_model.specs.Evaluation.{op_key}
use Rattle.nam_catalog.specs.declared.shape.Shape.{Shape}
use Rattle.nam_catalog.proofs.FitsLemmas.{fits_limits}
use Rattle.nam_calls.specs.Holds.{IsWord}
use Rattle.nam_calls.specs.Words.{key_word}
use Rattle.nam_script.specs.declared.script.ScriptTxn.{ScriptTxn}
use Rattle.nam_script.specs.Limits.{OpNumbersFit, TxnFits}
use Rattle.nam_protocol.specs.Schedule.{Owned}
use Rattle.nam_protocol.specs.SessionFits.{OpsFit}
use Rattle.nam_protocol.proofs.EndsWorld.{runs_end}
use Rattle.nam_scenario.specs.Scenario.{owned_of, scenario_of}
use Rattle.nam_scenario.specs.ScenarioLaw.{ScriptFitsLaw, ScriptRunsLaw}

-- the word of an operation's key
op_word : (op : Op) → OpNumbersFit op → IsWord (key_word (op_key op).key)
op_word (Get t k) fits = omega arith
op_word (Put t k v) fits = let key = fits.0 in omega arith
op_word (Add t k f up by) fits = let key = fits.0 in omega arith
op_word (Del t k) fits = omega arith
op_word (Need t k f least) fits = let key = fits.0 in omega arith
op_word (Guard t k) fits = omega arith
op_word (Scan t low high) fits = let order = fits.0 in let key = fits.1 in omega arith

op_words : (ops : List Op) → AllByRecursion OpNumbersFit ops
    → AllByRecursion (λ op. IsWord (key_word (op_key op).key)) ops
op_words [] all = tt
op_words (op ∷ ops) all = (op_word op all.0, op_words ops all.1)

txns_fit : (shape : Shape) (txns : List ScriptTxn)
    → AllByRecursion (TxnFits shape.workers shape.tables) txns
    → AllByRecursion (λ (txn : Owned). OpsFit shape txn.ops) (map owned_of txns)
txns_fit shape [] all = tt
txns_fit shape (txn ∷ txns) all = (
  record { fit = all.0.ops.fit; keys = op_words txn.ops all.0.ops.numbers; few = all.0.ops.claims },
  txns_fit shape txns all.1,
)

pub scripts_fit : ScriptFitsLaw
scripts_fit script is = record {
  limits = fits_limits script.shape is.shape;
  tries = is.tries.0;
  txns = txns_fit script.shape script.txns is.txns;
}

pub scripts_run : ScriptRunsLaw
scripts_run script is lines = runs_end (scenario_of script) (scripts_fit script is) lines _ (omega arith)
