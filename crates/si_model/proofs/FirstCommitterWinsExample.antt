-- The worked row 'first committer wins' is a run.
use Rattle.std.proofs.Common.{false, true, [], ◌∷◌, refl, arith, Some, inl, inr}
use Rattle.std.proofs.lemmas.Bool.Decides.{nat_tests}
use Rattle.si_model.specs.declared.op.Op.TheVariants.{Add}
use Rattle.si_model.specs.declared.log.Outcome.TheVariants.{Commit, Newer}
use Rattle.si_model.specs.declared.report.Report.{Report}
use Rattle.si_model.specs.Setting.{Setting}
use Rattle.si_model.specs.Tries.Part.{attempted}
use Rattle.si_model.specs.Run.{IsRun}
use Rattle.si_model.proofs.ExampleWords.{row, item, lock, tried, entry, log, audited, unmarked, setting_with}

abbrev pub setting : Setting
setting = setting_with 2 2 false 4 2 (row 0 0 100 ∷ []) ((Add 0 0 1 true 5 ∷ []) ∷ (Add 0 0 1 true 7 ∷ []) ∷ []) (1 ∷ 2
    ∷ [])

abbrev pub report : Report
report = record {
  history = entry 1 1 0 1 (item 0 0 105 ∷ []) ∷ entry 2 1 1 2 (item 0 0 112 ∷ []) ∷ [];
  logs =
      log (tried 1 1 (Some 0) 1 1 (Commit 1) ∷ []) (item 0 0 100 ∷ []) (lock 0 0 0 0 ∷ [])
      ∷ log (tried 2 1 (Some 0) 1 0 (Newer (lock 0 0 1 1)) ∷ tried 2 2 (Some 1) 1 1 (Commit 1) ∷ []) (item 0 0 100
      ∷ item 0 0 105 ∷ []) (lock 0 0 1 1 ∷ [])
      ∷ [];
  audit = audited 0 0 112 ∷ [];
}

pub run : IsRun setting report
run = record {
  one_log_each = refl;
  legal = (
    record {
      job = (omega arith, omega arith);
      prefix = omega arith;
      reads = item 0 0 100 ∷ [];
      guards = [];
      evaluates = refl;
      writes = omega arith;
      first_wins = refl;
    },
    (
      record {
        job = (omega arith, omega arith);
        prefix = omega arith;
        reads = item 0 0 105 ∷ [];
        guards = [];
        evaluates = refl;
        writes = omega arith;
        first_wins = refl;
      },
      tt,
    ),
  );
  numbered = (refl, (refl, tt));
  workers = (
    record {
      sees = (((omega arith, (omega arith, (omega arith, tt))), tt), tt);
      follows = record { parts = attempted _ ∷ []; read = refl; settled = refl; fulls = λ no_tidy. absurd cc };
      answers = ((((item 0 0 105 ∷ [], [], refl, (inl refl, refl))), (refl, tt)), tt);
      causes = (tt, tt);
    },
    (
      record {
        sees = (
          ((omega arith, (omega arith, (omega arith, tt))), tt),
          (((omega arith, (omega arith, (omega arith, tt))), tt), tt),
        );
        follows = record {
          parts = attempted _ ∷ attempted _ ∷ [];
          read = refl;
          settled = refl;
          fulls = λ no_tidy. absurd cc;
        };
        answers = (
          ((item 0 0 107 ∷ [], [], refl, (omega arith, [], refl)), tt),
          ((((item 0 0 112 ∷ [], [], refl, (inr (inl refl), refl))), (refl, tt)), tt),
        );
        causes = ((omega arith, refl, inl refl), (tt, tt));
      },
      tt,
    ),
  );
  listed = (refl, (refl, tt));
  audit = record {
    state = record { ordered = (tt, tt); same = λ key. grind (arith, nat_tests) };
    lines = (unmarked _ 0 0 112, tt);
  };
}
