-- Small reports that are runs: a commit was cut under its first lock, and another worker meets the lock, or the version
-- that the stopped worker had begun to write; or the stopped worker is finished.
use Rattle.std.proofs.Common.{true, false, List, [], ◌∷◌, refl, arith, Some, inr}
use Rattle.std.proofs.lemmas.Bool.Decides.{nat_tests}
use Rattle.std.specs.Prelude.{slice_index_or}
use Rattle.si_model.specs.declared.op.Op.TheVariants.{Put}
use Rattle.si_model.specs.declared.log.Outcome.{Outcome}
use Rattle.si_model.specs.declared.log.Outcome.TheVariants.{Cut, Locked, Newer}
use Rattle.si_model.specs.declared.log.Finish.TheVariants.{Undone}
use Rattle.si_model.specs.declared.log.Event.TheVariants.{Finished}
use Rattle.si_model.specs.declared.report.Report.{Report}
use Rattle.si_model.specs.Rows.{key_at, rows_of}
use Rattle.si_model.specs.Setting.{Setting}
use Rattle.si_model.specs.Tells.{Tell}
use Rattle.si_model.specs.View.{View, by_history}
use Rattle.si_model.specs.Tries.Part.{attempted, stopped}
use Rattle.si_model.specs.Run.{IsRun, IsWorkerRun, tells_in_report}
use Rattle.si_model.proofs.ExampleWords.{row, item, lock, tried, log, audited, marked, unmarked, setting_with}
use Rattle.si_model.proofs.ChangedReports.{in_log, with_events}

abbrev pub setting : Setting
setting = setting_with 2 1 false 2 2 (row 0 0 0 ∷ row 0 1 0 ∷ []) ((Put 0 0 (1 ∷ []) ∷ Put 0 1 (1 ∷ []) ∷ [])
    ∷ (Put 0 1 (7 ∷ []) ∷ Put 0 0 (7 ∷ []) ∷ []) ∷ []) (1 ∷ 2 ∷ [])

-- where the second worker met this
abbrev pub report : Outcome → Report
report met = record {
  history = [];
  logs = log (tried 1 1 (Some 0) 0 1 Cut ∷ []) [] (lock 0 0 0 0 ∷ [])
      ∷ log (tried 2 1 (Some 0) 0 1 met ∷ []) [] (lock 0 1 0 0 ∷ []) ∷ [];
  audit = marked 0 0 0 ∷ audited 0 1 0 ∷ [];
}

abbrev told : Outcome → List (List Tell)
told met = tells_in_report setting (report met)

abbrev view : View
view = by_history (rows_of setting.rows) 2 0 []

run_of : (met : Outcome) → IsWorkerRun setting view (told met) 2 (slice_index_or (told met) 1 [])
    → IsRun setting (report met)
run_of met second = record {
  one_log_each = refl;
  legal = tt;
  numbered = tt;
  workers = (
    record {
      sees = (((omega arith, (omega arith, (omega arith, tt))), tt), tt);
      follows = record { parts = attempted _ ∷ []; read = refl; settled = refl; fulls = λ no_tidy. absurd cc };
      answers = (
        (
          (([], refl), inr (item 0 0 1 ∷ item 0 1 1 ∷ [], [], refl, (omega arith, (key_at 0 1 ∷ [], refl)))),
          (refl, tt),
        ),
        tt,
      );
      causes = (tt, tt);
    },
    (second, tt),
  );
  listed = tt;
  audit = record {
    state = record { ordered = ((refl, tt), (tt, tt)); same = λ key. grind (arith, nat_tests) };
    lines = (record { absent = λ none. absurd cc; locked = λ yes. refl }, (unmarked _ 0 1 0, tt));
  };
}

locked : IsRun setting (report (Locked (lock 0 0 0 0)))
locked = run_of (Locked (lock 0 0 0 0)) (record {
  sees = (((omega arith, (omega arith, (omega arith, tt))), tt), tt);
  follows = record { parts = attempted _ ∷ []; read = refl; settled = refl; fulls = λ no_tidy. absurd cc };
  answers = (((item 0 1 7 ∷ item 0 0 7 ∷ [], [], refl, (omega arith, [], refl)), (refl, tt)), tt);
  causes = ((refl, λ version. refl), tt);
})

newer : IsRun setting (report (Newer (lock 0 0 1 1)))
newer = run_of (Newer (lock 0 0 1 1)) (record {
  sees = (((omega arith, (omega arith, (omega arith, tt))), tt), tt);
  follows = record { parts = attempted _ ∷ []; read = refl; settled = refl; fulls = λ no_tidy. absurd cc };
  answers = (((item 0 1 7 ∷ item 0 0 7 ∷ [], [], refl, (omega arith, [], refl)), (refl, tt)), tt);
  causes = ((omega arith, refl, inr (refl, refl)), tt);
})

abbrev pub held_setting : Setting
held_setting = record setting { held = true }

-- the stopped worker's lock was given back
abbrev pub finished : Report
finished = record (in_log 1 (with_events (tried 1 1 (Some 0) 0 1 Cut ∷ Finished Undone ∷ []))
    (report (Locked (lock 0 0 0 0)))) { audit = audited 0 0 0 ∷ audited 0 1 0 ∷ [] }

finished_run : IsRun held_setting finished
finished_run = record {
  one_log_each = refl;
  legal = tt;
  numbered = tt;
  workers = (
    record {
      sees = (((omega arith, (omega arith, (omega arith, tt))), tt), (tt, tt));
      follows = record {
        parts = attempted _ ∷ stopped _ ∷ [];
        read = refl;
        settled = refl;
        fulls = λ no_tidy. absurd cc;
      };
      answers = (
        (
          (([], refl), inr (item 0 0 1 ∷ item 0 1 1 ∷ [], [], refl, (omega arith, (key_at 0 1 ∷ [], refl)))),
          (refl, tt),
        ),
        (tt, tt),
      );
      causes = (tt, ((refl, refl), tt));
    },
    (
      record {
        sees = (((omega arith, (omega arith, (omega arith, tt))), tt), tt);
        follows = record { parts = attempted _ ∷ []; read = refl; settled = refl; fulls = λ no_tidy. absurd cc };
        answers = (((item 0 1 7 ∷ item 0 0 7 ∷ [], [], refl, (omega arith, [], refl)), (refl, tt)), tt);
        causes = ((refl, λ version. refl), tt);
      },
      tt,
    ),
  );
  listed = tt;
  audit = record {
    state = record { ordered = ((refl, tt), (tt, tt)); same = λ key. grind (arith, nat_tests) };
    lines = (unmarked _ 0 0 0, (unmarked _ 0 1 0, tt));
  };
}
