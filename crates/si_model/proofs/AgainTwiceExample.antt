-- A small report that is a run: a snapshot is taken again twice, since another worker commits twice.
use Rattle.std.proofs.Common.{false, true, [], ◌∷◌, refl, arith, Some, None, inl, inr}
use Rattle.std.proofs.lemmas.Bool.Decides.{nat_tests}
use Rattle.si_model.specs.declared.op.Op.TheVariants.{Add, Get}
use Rattle.si_model.specs.declared.log.Outcome.TheVariants.{Commit, ReadOnly, Again}
use Rattle.si_model.specs.declared.report.Report.{Report}
use Rattle.si_model.specs.Setting.{Setting}
use Rattle.si_model.specs.Tries.Part.{attempted}
use Rattle.si_model.specs.Run.{IsRun}
use Rattle.si_model.proofs.ExampleWords.{row, item, lock, tried, entry, log, audited, unmarked, setting_with}

abbrev pub setting : Setting
setting = setting_with 2 3 false 4 2 (row 0 0 100 ∷ [])
    ((Get 0 0 ∷ []) ∷ (Add 0 0 1 true 1 ∷ []) ∷ (Add 0 0 1 true 1 ∷ []) ∷ []) (1 ∷ 2 ∷ 2 ∷ [])

abbrev pub report : Report
report = record {
  history = entry 2 1 0 2 (item 0 0 101 ∷ []) ∷ entry 2 2 1 3 (item 0 0 102 ∷ []) ∷ [];
  logs =
      log (tried 1 1 None 0 0 (Again 2 0 1) ∷ tried 1 2 None 0 0 (Again 2 1 2) ∷ tried 1 3 (Some 2) 1 0 ReadOnly ∷ [])
      (item 0 0 102 ∷ []) []
      ∷ log (tried 2 1 (Some 0) 1 1 (Commit 1) ∷ tried 3 1 (Some 1) 1 1 (Commit 2) ∷ [])
      (item 0 0 100 ∷ item 0 0 101 ∷ []) (lock 0 0 0 0 ∷ lock 0 0 2 1 ∷ [])
      ∷ [];
  audit = audited 0 0 102 ∷ [];
}

run : IsRun setting report
run = record {
  one_log_each = refl;
  legal = (
    record {
      job = (omega arith, omega arith);
      prefix = omega arith;
      reads = item 0 0 100 ∷ [];
      guards = [];
      evaluates = refl;
      writes = omega arith;
      first_wins = refl;
    },
    (
      record {
        job = (omega arith, omega arith);
        prefix = omega arith;
        reads = item 0 0 101 ∷ [];
        guards = [];
        evaluates = refl;
        writes = omega arith;
        first_wins = refl;
      },
      tt,
    ),
  );
  numbered = (refl, (refl, tt));
  workers = (
    record {
      sees = (
        (tt, (omega arith, omega arith, omega arith)),
        (
          (tt, (omega arith, omega arith, omega arith)),
          (((omega arith, (omega arith, (omega arith, tt))), tt), tt),
        ),
      );
      follows = record {
        parts = attempted _ ∷ attempted _ ∷ attempted _ ∷ [];
        read = refl;
        settled = refl;
        fulls = λ no_tidy. absurd cc;
      };
      answers = ((refl, refl), ((refl, refl), ((([], refl, refl), tt), tt)));
      causes = ((omega arith, omega arith, refl), ((omega arith, omega arith, refl), (tt, tt)));
    },
    (
      record {
        sees = (
          ((omega arith, (omega arith, (omega arith, tt))), tt),
          (((omega arith, (omega arith, (omega arith, tt))), tt), tt),
        );
        follows = record {
          parts = attempted _ ∷ attempted _ ∷ [];
          read = refl;
          settled = refl;
          fulls = λ no_tidy. absurd cc;
        };
        answers = (
          ((item 0 0 101 ∷ [], [], refl, (inl refl, refl)), (refl, tt)),
          (((item 0 0 102 ∷ [], [], refl, (inr (inl refl), refl)), (refl, tt)), tt),
        );
        causes = (tt, (tt, tt));
      },
      tt,
    ),
  );
  listed = (refl, (refl, tt));
  audit = record {
    state = record { ordered = (tt, tt); same = λ key. grind (arith, nat_tests) };
    lines = (unmarked _ 0 0 102, tt);
  };
}
