-- One line of the worked row 'fuse, verb by verb' is a run: a commit was cut right after its locks, another worker
-- meets them, and the audit marks them.
use Rattle.std.proofs.Common.{false, [], ◌∷◌, refl, arith, Some, inr}
use Rattle.std.proofs.lemmas.Bool.Decides.{nat_tests}
use Rattle.si_model.specs.declared.op.Op.TheVariants.{Put}
use Rattle.si_model.specs.declared.log.Outcome.TheVariants.{Cut, Locked}
use Rattle.si_model.specs.declared.report.Report.{Report}
use Rattle.si_model.specs.Setting.{Setting}
use Rattle.si_model.specs.Tries.Part.{attempted}
use Rattle.si_model.specs.Run.{IsRun}
use Rattle.si_model.proofs.ExampleWords.{row, item, lock, tried, log, marked, setting_with}

abbrev pub setting : Setting
setting = setting_with 2 1 false 2 2 (row 0 0 0 ∷ row 0 1 0 ∷ []) ((Put 0 0 (1 ∷ []) ∷ Put 0 1 (1 ∷ []) ∷ [])
    ∷ (Put 0 0 (7 ∷ []) ∷ []) ∷ []) (1 ∷ 2 ∷ [])

abbrev pub report : Report
report = record {
  history = [];
  logs = log (tried 1 1 (Some 0) 0 2 Cut ∷ []) [] (lock 0 0 0 0 ∷ lock 0 1 0 0 ∷ [])
      ∷ log (tried 2 1 (Some 0) 0 0 (Locked (lock 0 0 0 0)) ∷ []) [] [] ∷ [];
  audit = marked 0 0 0 ∷ marked 0 1 0 ∷ [];
}

run : IsRun setting report
run = record {
  one_log_each = refl;
  legal = tt;
  numbered = tt;
  workers = (
    record {
      sees = (((omega arith, (omega arith, (omega arith, tt))), tt), tt);
      follows = record { parts = attempted _ ∷ []; read = refl; settled = refl; fulls = λ no_tidy. absurd cc };
      answers = (
        (
          (([], refl), inr (item 0 0 1 ∷ item 0 1 1 ∷ [], [], refl, (omega arith, ([], refl)))),
          (refl, (refl, tt)),
        ),
        tt,
      );
      causes = (tt, tt);
    },
    (
      record {
        sees = (((omega arith, (omega arith, (omega arith, tt))), tt), tt);
        follows = record { parts = attempted _ ∷ []; read = refl; settled = refl; fulls = λ no_tidy. absurd cc };
        answers = (((item 0 0 7 ∷ [], [], refl, (omega arith, [], refl)), tt), tt);
        causes = ((refl, λ version. refl), tt);
      },
      tt,
    ),
  );
  listed = tt;
  audit = record {
    state = record { ordered = ((refl, tt), (tt, tt)); same = λ key. grind (arith, nat_tests) };
    lines = (
      record { absent = λ none. absurd cc; locked = λ yes. refl },
      (record { absent = λ none. absurd cc; locked = λ yes. refl }, tt),
    );
  };
}
