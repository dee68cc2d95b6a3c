-- A small script, of one transaction that moves 10 from one row to another: it is within the limits, and what is
-- simulated of it.
use Rattle.std.proofs.Common.{◌≡◌, ℕ, zero, suc, ◌<◌, ◌≤◌, true, false, [], ◌∷◌, Some, refl, arith}
use Rattle.std.specs.Prelude.{slice_index}
use Rattle.si_model.specs.declared.op.Op.TheVariants.{Need, Add}
use Rattle.si_model.specs.declared.log.Event.TheVariants.{Tried}
use Rattle.si_model.specs.declared.log.Outcome.TheVariants.{Commit}
use Rattle.nam_catalog.specs.declared.form.Form.TheVariants.{Narrow}
use Rattle.nam_script.specs.declared.script.Script.{Script}
use Rattle.nam_script.specs.declared.script.Turns.TheVariants as turns
use Rattle.nam_script.specs.Checks.{rows_in}
use Rattle.nam_script.specs.Limits.{IsScript}
use Rattle.nam_protocol.specs.Schedule.{Stints, stint_workers, after_workers, until_ended}
use Rattle.nam_protocol.specs.Session.{settle}
use Rattle.nam_protocol.specs.Opening.{copies, load_from}
use Rattle.nam_protocol.specs.Closed.{closed}
use Rattle.nam_scenario.specs.Scenario.{scenario_of}
use Rattle.nam_scenario.specs.ScenarioLaw.{script_run}

-- the script of examples/transfer.script, with three turns of its worker before the rounds
unfoldable transfer : Script
transfer = record {
  shape = record {
    form = Narrow;
    workers = 1;
    tables = record { name = 97 ∷ 99 ∷ 99 ∷ 116 ∷ []; width = 1; capacity = 2; ring = 1 } ∷ [];
    buckets = 1;
    cells = 1;
    start = 0;
  };
  policy = record { tries = 1; tidy = false };
  rows = record { table = 0; key = 0; value = 100 ∷ [] } ∷ record { table = 0; key = 1; value = 0 ∷ [] } ∷ [];
  txns = record { worker = 1; ops = Need 0 0 1 10 ∷ Add 0 0 1 false 10 ∷ Add 0 1 1 true 10 ∷ [] } ∷ [];
  turns = turns.List (record { worker = 1; steps = 3 } ∷ []);
}

-- both rows are of table 0
loaded_within : (t : ℕ) → t < 1 → rows_in transfer.rows t ≤ slice_index (2 ∷ []) t
unfolding transfer
loaded_within zero l = omega arith
loaded_within (suc t) l = absurd (omega arith)

transfer_is : IsScript transfer
unfolding transfer
transfer_is = record {
  shape = refl;
  form = refl;
  few_tables = omega arith;
  names = (refl, tt);
  tries = (omega arith, omega arith);
  rows = record {
    fit = (((omega arith, omega arith), refl), (((omega arith, omega arith), refl), tt));
    numbers = ((omega arith, (omega arith, tt)), ((omega arith, (omega arith, tt)), tt));
    distinct = ((refl, tt), (tt, tt));
    loaded = loaded_within;
  };
  few = omega arith;
  txns = (
    record {
      worker = (omega arith, omega arith);
      some = omega arith;
      ops = record {
        fit = (
          ((omega arith, omega arith), (omega arith, omega arith)),
          (
            ((omega arith, omega arith), (omega arith, omega arith)),
            (((omega arith, omega arith), (omega arith, omega arith)), tt),
          ),
        );
        numbers = (
          (omega arith, omega arith),
          ((omega arith, omega arith, λ down. omega arith), ((omega arith, omega arith, λ down. omega arith), tt)),
        );
        few = omega arith;
        claims = omega arith;
      };
    },
    tt,
  );
  cost = omega arith;
  turns = (((omega arith, omega arith, omega arith, omega arith), tt), omega arith);
}

scenario_of_transfer : scenario_of transfer ≡ record {
  shape = transfer.shape;
  rows = transfer.rows;
  policy = record { tries = 1; tidy = false };
  txns = record { worker = 1; ops = Need 0 0 1 10 ∷ Add 0 0 1 false 10 ∷ Add 0 1 1 true 10 ∷ [] } ∷ [];
  schedule = Stints (record { worker = 1; steps = 3 } ∷ []);
}
unfolding transfer
scenario_of_transfer = refl

-- the run's log and the rows in the end
run_of_transfer : closed transfer.shape (script_run transfer []).world ≡ record {
  logs = record {
    events = Tried record {
      txn = 1;
      nth = 1;
      prefix = Some 0;
      reads = 3;
      locks = 2;
      writes = 2;
      outcome = Commit 1;
    } ∷ [];
    reads = record { table = 0; key = 0; value = Some (100 ∷ []) } ∷ record {
      table = 0;
      key = 0;
      value = Some (100 ∷ []);
    } ∷ record { table = 0; key = 1; value = Some (0 ∷ []) } ∷ [];
    locks = record { table = 0; key = 0; stamp = record { thread = 0; number = 0 } } ∷ record {
      table = 0;
      key = 1;
      stamp = record { thread = 0; number = 0 };
    } ∷ [];
    writes = record { table = 0; key = 0; value = Some (90 ∷ []) } ∷ record {
      table = 0;
      key = 1;
      value = Some (10 ∷ []);
    } ∷ [];
    snaps = (0 ∷ []) ∷ [];
  } ∷ [];
  audit = record { table = 0; key = 0; value = Some (90 ∷ []); locked = false } ∷ record {
    table = 0;
    key = 1;
    value = Some (10 ∷ []);
    locked = false;
  } ∷ [];
}
unfolding transfer stint_workers after_workers until_ended settle copies load_from
run_of_transfer = refl
