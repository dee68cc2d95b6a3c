-- A small report that is a run: a worker reads before and after another's commit.
use Rattle.std.proofs.Common.{false, true, [], ◌∷◌, refl, arith, Some, inl}
use Rattle.std.proofs.lemmas.Bool.Decides.{nat_tests}
use Rattle.si_model.specs.declared.op.Op.TheVariants.{Add, Get}
use Rattle.si_model.specs.declared.log.Outcome.TheVariants.{Commit, ReadOnly}
use Rattle.si_model.specs.declared.report.Report.{Report}
use Rattle.si_model.specs.Setting.{Setting}
use Rattle.si_model.specs.Tries.Part.{attempted}
use Rattle.si_model.specs.Run.{IsRun}
use Rattle.si_model.proofs.ExampleWords.{row, item, lock, tried, entry, log, audited, unmarked, setting_with}

abbrev pub setting : Setting
setting = setting_with 2 1 false 4 2 (row 0 0 100 ∷ []) ((Get 0 0 ∷ []) ∷ (Get 0 0 ∷ []) ∷ (Add 0 0 1 true 1 ∷ []) ∷ [])
    (1 ∷ 1 ∷ 2 ∷ [])

abbrev pub report : Report
report = record {
  history = entry 2 1 0 3 (item 0 0 101 ∷ []) ∷ [];
  logs =
      log (tried 1 1 (Some 0) 1 0 ReadOnly ∷ tried 2 1 (Some 1) 1 0 ReadOnly ∷ []) (item 0 0 100 ∷ item 0 0 101 ∷ []) []
      ∷ log (tried 3 1 (Some 0) 1 1 (Commit 1) ∷ []) (item 0 0 100 ∷ []) (lock 0 0 0 0 ∷ [])
      ∷ [];
  audit = audited 0 0 101 ∷ [];
}

run : IsRun setting report
run = record {
  one_log_each = refl;
  legal = (
    record {
      job = (omega arith, omega arith);
      prefix = omega arith;
      reads = item 0 0 100 ∷ [];
      guards = [];
      evaluates = refl;
      writes = omega arith;
      first_wins = refl;
    },
    tt,
  );
  numbered = (refl, tt);
  workers = (
    record {
      sees = (
        ((omega arith, (omega arith, (omega arith, tt))), tt),
        (((omega arith, (omega arith, (omega arith, tt))), tt), tt),
      );
      follows = record {
        parts = attempted _ ∷ attempted _ ∷ [];
        read = refl;
        settled = refl;
        fulls = λ no_tidy. absurd cc;
      };
      answers = ((([], refl, refl), tt), ((([], refl, refl), tt), tt));
      causes = (tt, (tt, tt));
    },
    (
      record {
        sees = (((omega arith, (omega arith, (omega arith, tt))), tt), tt);
        follows = record { parts = attempted _ ∷ []; read = refl; settled = refl; fulls = λ no_tidy. absurd cc };
        answers = (((item 0 0 101 ∷ [], [], refl, (inl refl, refl)), (refl, tt)), tt);
        causes = (tt, tt);
      },
      tt,
    ),
  );
  listed = (refl, tt);
  audit = record {
    state = record { ordered = (tt, tt); same = λ key. grind (arith, nat_tests) };
    lines = (unmarked _ 0 0 101, tt);
  };
}
