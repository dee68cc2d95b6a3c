-- The worked row 'reader is too old' is a run: moves, a full bucket, a collect, and a read whose version is given up.
use Rattle.std.proofs.Common.{true, [], ◌∷◌, refl, arith, Some, inl, inr}
use Rattle.std.proofs.lemmas.Bool.Decides.{nat_tests}
use Rattle.si_model.specs.declared.op.Op.TheVariants.{Add, Get}
use Rattle.si_model.specs.declared.log.Outcome.TheVariants.{Commit, TooOld}
use Rattle.si_model.specs.declared.log.Event.TheVariants.{NoRoom}
use Rattle.si_model.specs.declared.report.Report.{Report}
use Rattle.si_model.specs.Rows.{key_at}
use Rattle.si_model.specs.Setting.{Setting}
use Rattle.si_model.specs.Tries.Part.{attempted, tidied}
use Rattle.si_model.specs.Run.{IsRun}
use Rattle.si_model.proofs.ExampleWords.{row, item, lock, tried, moved, collected, entry, log, audited, unmarked}
use Rattle.si_model.proofs.ExampleWords.{setting_with}

abbrev pub setting : Setting
setting = setting_with 2 1 true 1 1 (row 0 0 5 ∷ []) ((Add 0 0 1 true 1 ∷ []) ∷ (Add 0 0 1 true 1 ∷ []) ∷ (Get 0 0 ∷ [])
    ∷ []) (1 ∷ 1 ∷ 2 ∷ [])

abbrev pub report : Report
report = record {
  history = entry 1 1 0 1 (item 0 0 6 ∷ []) ∷ entry 1 2 1 2 (item 0 0 7 ∷ []) ∷ [];
  logs =
      log
      (
      tried 1 1 (Some 0) 1 1 (Commit 1)
      ∷ moved 0 0 0 0 0
      ∷ tried 2 1 (Some 1) 1 1 (Commit 2)
      ∷ NoRoom 0
      ∷ collected 0 2 (2 ∷ 0 ∷ [])
      ∷ moved 0 0 0 1 1
      ∷ []
      )
      (item 0 0 5 ∷ item 0 0 6 ∷ []) (lock 0 0 0 0 ∷ lock 0 0 1 1 ∷ [])
      ∷ log (tried 3 1 (Some 0) 0 0 (TooOld 1 0 2) ∷ []) [] []
      ∷ [];
  audit = audited 0 0 7 ∷ [];
}

pub run : IsRun setting report
run = record {
  one_log_each = refl;
  legal = (
    record {
      job = (omega arith, omega arith);
      prefix = omega arith;
      reads = item 0 0 5 ∷ [];
      guards = [];
      evaluates = refl;
      writes = omega arith;
      first_wins = refl;
    },
    (
      record {
        job = (omega arith, omega arith);
        prefix = omega arith;
        reads = item 0 0 6 ∷ [];
        guards = [];
        evaluates = refl;
        writes = omega arith;
        first_wins = refl;
      },
      tt,
    ),
  );
  numbered = (refl, (refl, tt));
  workers = (
    record {
      sees = (
        ((omega arith, (omega arith, (omega arith, tt))), tt),
        (
          tt,
          (
            ((omega arith, (omega arith, (omega arith, tt))), tt),
            (tt, ((omega arith, (omega arith, (omega arith, tt))), (tt, tt))),
          ),
        ),
      );
      follows = record {
        parts = attempted _ ∷ tidied (key_at 0 0) (_ ∷ []) ∷ attempted _ ∷ tidied (key_at 0 0) (_ ∷ _ ∷ _ ∷ []) ∷ [];
        read = refl;
        settled = refl;
        fulls = λ tidy. (tt, (tt, (tt, (tt, tt))));
      };
      answers = (
        ((item 0 0 6 ∷ [], [], refl, (inl refl, refl)), (refl, tt)),
        (tt, (((item 0 0 7 ∷ [], [], refl, (inr (inl refl), refl)), (refl, tt)), (tt, (tt, (tt, tt))))),
      );
      causes = (
        tt,
        (
          (refl, refl, λ back. absurd cc),
          (tt, (inl (omega arith), (refl, ((refl, refl, λ back. absurd cc), tt)))),
        ),
      );
    },
    (
      record {
        sees = (((omega arith, (omega arith, (omega arith, tt))), (omega arith, omega arith)), tt);
        follows = record { parts = attempted _ ∷ []; read = refl; settled = refl; fulls = λ tidy. (tt, tt) };
        answers = (((0, Get 0 0, ([], refl), refl, (refl, refl), refl), tt), tt);
        causes = ((omega arith, refl, omega arith, refl), tt);
      },
      tt,
    ),
  );
  listed = (refl, (refl, tt));
  audit = record {
    state = record { ordered = (tt, tt); same = λ key. grind (arith, nat_tests) };
    lines = (unmarked _ 0 0 7, tt);
  };
}
