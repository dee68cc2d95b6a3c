-- A small report that is a run: a ring is full of another worker's version, after the worker moved the one before.
use Rattle.std.proofs.Common.{true, [], ◌∷◌, refl, arith, Some, inl, inr}
use Rattle.std.proofs.lemmas.Bool.Decides.{nat_tests}
use Rattle.si_model.specs.declared.op.Op.TheVariants.{Put}
use Rattle.si_model.specs.declared.log.Outcome.TheVariants.{Commit, Full}
use Rattle.si_model.specs.declared.report.Report.{Report}
use Rattle.si_model.specs.Rows.{key_at}
use Rattle.si_model.specs.Setting.{Setting}
use Rattle.si_model.specs.Tries.Part.{attempted, tidied}
use Rattle.si_model.specs.Run.{IsRun}
use Rattle.si_model.proofs.ExampleWords.{row, item, lock, tried, moved, entry, log, audited, unmarked, setting_with}

abbrev pub setting : Setting
setting = setting_with 2 1 true 1 1 (row 0 0 0 ∷ []) ((Put 0 0 (1 ∷ []) ∷ []) ∷ (Put 0 0 (2 ∷ []) ∷ [])
    ∷ (Put 0 0 (3 ∷ []) ∷ []) ∷ []) (1 ∷ 2 ∷ 1 ∷ [])

abbrev pub report : Report
report = record {
  history = entry 1 1 0 1 (item 0 0 1 ∷ []) ∷ entry 2 1 1 2 (item 0 0 2 ∷ []) ∷ [];
  logs =
      log (tried 1 1 (Some 0) 0 1 (Commit 1) ∷ moved 0 0 0 0 0 ∷ tried 3 1 (Some 2) 0 1 (Full (lock 0 0 1 1)) ∷ []) []
      (lock 0 0 0 0 ∷ lock 0 0 2 1 ∷ [])
      ∷ log (tried 2 1 (Some 1) 0 1 (Commit 1) ∷ []) [] (lock 0 0 1 1 ∷ [])
      ∷ [];
  audit = audited 0 0 2 ∷ [];
}

run : IsRun setting report
run = record {
  one_log_each = refl;
  legal = (
    record {
      job = (omega arith, omega arith);
      prefix = omega arith;
      reads = [];
      guards = [];
      evaluates = refl;
      writes = omega arith;
      first_wins = refl;
    },
    (
      record {
        job = (omega arith, omega arith);
        prefix = omega arith;
        reads = [];
        guards = [];
        evaluates = refl;
        writes = omega arith;
        first_wins = refl;
      },
      tt,
    ),
  );
  numbered = (refl, (refl, tt));
  workers = (
    record {
      sees = (
        ((omega arith, (omega arith, (omega arith, tt))), tt),
        (tt, (((omega arith, (omega arith, (omega arith, tt))), tt), tt)),
      );
      follows = record {
        parts = attempted _ ∷ tidied (key_at 0 0) (_ ∷ []) ∷ attempted _ ∷ [];
        read = refl;
        settled = refl;
        fulls = λ tidy. (tt, (tt, ((λ own. absurd (omega (arith, own))), tt)));
      };
      answers = (
        ((item 0 0 1 ∷ [], [], refl, (inl refl, refl)), (refl, tt)),
        (tt, (((item 0 0 3 ∷ [], [], refl, (refl, refl)), (refl, tt)), tt)),
      );
      causes = (tt, ((refl, refl, λ back. absurd cc), ((refl, omega arith, refl), tt)));
    },
    (
      record {
        sees = (((omega arith, (omega arith, (omega arith, tt))), tt), tt);
        follows = record {
          parts = attempted _ ∷ tidied (key_at 0 0) [] ∷ [];
          read = refl;
          settled = refl;
          fulls = λ tidy. (tt, (tt, tt));
        };
        answers = (((item 0 0 2 ∷ [], [], refl, (inr (inl refl), refl)), (refl, tt)), tt);
        causes = (tt, tt);
      },
      tt,
    ),
  );
  listed = (refl, (refl, tt));
  audit = record {
    state = record { ordered = (tt, tt); same = λ key. grind (arith, nat_tests) };
    lines = (unmarked _ 0 0 2, tt);
  };
}
