-- A small report that is a run: a reader is below the horizon of a collect, though not below a later one.
use Rattle.std.proofs.Common.{true, [], ◌∷◌, refl, arith, Some, inl, inr}
use Rattle.std.proofs.lemmas.Bool.Decides.{nat_tests}
use Rattle.si_model.specs.declared.op.Op.TheVariants.{Put, Get}
use Rattle.si_model.specs.declared.log.Outcome.TheVariants.{Commit, TooOld}
use Rattle.si_model.specs.declared.log.Event.TheVariants.{NoRoom}
use Rattle.si_model.specs.declared.report.Report.{Report}
use Rattle.si_model.specs.Rows.{key_at}
use Rattle.si_model.specs.Setting.{Setting}
use Rattle.si_model.specs.Tries.Part.{attempted, tidied}
use Rattle.si_model.specs.Run.{IsRun}
use Rattle.si_model.proofs.ExampleWords.{row, item, lock, tried, moved, collected, entry, log, audited, unmarked}
use Rattle.si_model.proofs.ExampleWords.{setting_with}

abbrev pub setting : Setting
setting = setting_with 2 1 true 2 1 (row 0 0 5 ∷ row 0 1 6 ∷ []) ((Put 0 0 (7 ∷ []) ∷ []) ∷ (Put 0 0 (8 ∷ []) ∷ [])
    ∷ (Put 0 1 (9 ∷ []) ∷ []) ∷ (Get 0 0 ∷ []) ∷ []) (1 ∷ 1 ∷ 2 ∷ 2 ∷ [])

abbrev pub report : Report
report = record {
  history = entry 2 1 0 3 (item 0 1 9 ∷ []) ∷ entry 1 1 1 1 (item 0 0 7 ∷ []) ∷ entry 1 2 2 2 (item 0 0 8 ∷ []) ∷ [];
  logs =
      log
      (
      tried 1 1 (Some 1) 0 1 (Commit 1)
      ∷ NoRoom 0
      ∷ collected 0 2 (1 ∷ 1 ∷ [])
      ∷ tried 2 1 (Some 2) 0 1 (Commit 2)
      ∷ []
      )
      [] (lock 0 0 0 0 ∷ lock 0 0 1 1 ∷ [])
      ∷ log (tried 3 1 (Some 0) 0 1 (Commit 1) ∷ moved 0 0 1 0 0 ∷ tried 4 1 (Some 1) 0 0 (TooOld 1 0 1) ∷ []) []
      (lock 0 1 0 0 ∷ [])
      ∷ [];
  audit = audited 0 0 8 ∷ audited 0 1 9 ∷ [];
}

run : IsRun setting report
run = record {
  one_log_each = refl;
  legal = (
    record {
      job = (omega arith, omega arith);
      prefix = omega arith;
      reads = [];
      guards = [];
      evaluates = refl;
      writes = omega arith;
      first_wins = refl;
    },
    (
      record {
        job = (omega arith, omega arith);
        prefix = omega arith;
        reads = [];
        guards = [];
        evaluates = refl;
        writes = omega arith;
        first_wins = refl;
      },
      (
        record {
          job = (omega arith, omega arith);
          prefix = omega arith;
          reads = [];
          guards = [];
          evaluates = refl;
          writes = omega arith;
          first_wins = refl;
        },
        tt,
      ),
    ),
  );
  numbered = (refl, (refl, (refl, tt)));
  workers = (
    record {
      sees = (
        ((omega arith, (omega arith, (omega arith, tt))), tt),
        (
          tt,
          (
            (omega arith, (omega arith, (omega arith, tt))),
            (((omega arith, (omega arith, (omega arith, tt))), tt), tt),
          ),
        ),
      );
      follows = record {
        parts =
            attempted _ ∷ tidied (key_at 0 0) (_ ∷ _ ∷ []) ∷ attempted _ ∷ tidied (key_at 0 0) [] ∷ [];
        read = refl;
        settled = refl;
        fulls = λ tidy. (tt, (tt, (tt, (tt, tt))));
      };
      answers = (
        ((item 0 0 7 ∷ [], [], refl, (inr (inl refl), refl)), (refl, tt)),
        (tt, (tt, (((item 0 0 8 ∷ [], [], refl, (inr (inr (inl refl)), refl)), (refl, tt)), tt))),
      );
      causes = (tt, (inl (omega arith), (refl, (tt, tt))));
    },
    (
      record {
        sees = (
          ((omega arith, (omega arith, (omega arith, tt))), tt),
          (tt, (((omega arith, (omega arith, (omega arith, tt))), (omega arith, omega arith)), tt)),
        );
        follows = record {
          parts = attempted _ ∷ tidied (key_at 0 1) (_ ∷ []) ∷ attempted _ ∷ [];
          read = refl;
          settled = refl;
          fulls = λ tidy. (tt, (tt, (tt, tt)));
        };
        answers = (
          ((item 0 1 9 ∷ [], [], refl, (inl refl, refl)), (refl, tt)),
          (tt, (((0, Get 0 0, ([], refl), refl, (refl, refl), refl), tt), tt)),
        );
        causes = (tt, ((refl, refl, λ back. absurd cc), ((omega arith, refl, omega arith, refl), tt)));
      },
      tt,
    ),
  );
  listed = (refl, (refl, (refl, tt)));
  audit = record {
    state = record { ordered = ((refl, tt), (tt, tt)); same = λ key. grind (arith, nat_tests) };
    lines = (unmarked _ 0 0 8, (unmarked _ 0 1 9, tt));
  };
}
