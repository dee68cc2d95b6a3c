-- A small report that is a run: a reader is too old for one key, and not for another.
use Rattle.std.proofs.Common.{true, [], ◌∷◌, refl, arith, Some, inl, inr}
use Rattle.std.proofs.lemmas.Bool.Decides.{nat_tests}
use Rattle.si_model.specs.declared.op.Op.{Op}
use Rattle.si_model.specs.declared.op.Op.TheVariants.{Put, Get}
use Rattle.si_model.specs.declared.log.Outcome.TheVariants.{Commit, TooOld}
use Rattle.si_model.specs.declared.log.Event.TheVariants.{NoRoom}
use Rattle.si_model.specs.declared.report.Report.{Report}
use Rattle.si_model.specs.Rows.{key_at}
use Rattle.si_model.specs.Setting.{Setting}
use Rattle.si_model.specs.Tries.Part.{attempted, tidied}
use Rattle.si_model.specs.Run.{IsRun}
use Rattle.si_model.proofs.ExampleWords.{row, item, lock, tried, moved, collected, entry, log, audited, unmarked}
use Rattle.si_model.proofs.ExampleWords.{setting_with}

-- where the reader begins with this operation
abbrev pub setting : Op → Setting
setting op = setting_with 2 1 true 2 1 (row 0 0 5 ∷ row 0 1 6 ∷ [])
    ((Put 0 0 (7 ∷ []) ∷ []) ∷ (Put 0 1 (8 ∷ []) ∷ []) ∷ (op ∷ Get 0 0 ∷ []) ∷ []) (1 ∷ 1 ∷ 2 ∷ [])

abbrev pub report : Report
report = record {
  history = entry 1 1 0 1 (item 0 0 7 ∷ []) ∷ entry 1 2 1 2 (item 0 1 8 ∷ []) ∷ [];
  logs =
      log
      (
      tried 1 1 (Some 0) 0 1 (Commit 1)
      ∷ moved 0 0 0 0 0
      ∷ tried 2 1 (Some 1) 0 1 (Commit 2)
      ∷ NoRoom 0
      ∷ collected 0 2 (2 ∷ 0 ∷ [])
      ∷ moved 0 0 1 0 0
      ∷ []
      )
      [] (lock 0 0 0 0 ∷ lock 0 1 0 0 ∷ [])
      ∷ log (tried 3 1 (Some 1) 0 0 (TooOld 1 1 2) ∷ []) [] []
      ∷ [];
  audit = audited 0 0 7 ∷ audited 0 1 8 ∷ [];
}

run : IsRun (setting (Get 0 1)) report
run = record {
  one_log_each = refl;
  legal = (
    record {
      job = (omega arith, omega arith);
      prefix = omega arith;
      reads = [];
      guards = [];
      evaluates = refl;
      writes = omega arith;
      first_wins = refl;
    },
    (
      record {
        job = (omega arith, omega arith);
        prefix = omega arith;
        reads = [];
        guards = [];
        evaluates = refl;
        writes = omega arith;
        first_wins = refl;
      },
      tt,
    ),
  );
  numbered = (refl, (refl, tt));
  workers = (
    record {
      sees = (
        ((omega arith, (omega arith, (omega arith, tt))), tt),
        (
          tt,
          (
            ((omega arith, (omega arith, (omega arith, tt))), tt),
            (tt, ((omega arith, (omega arith, (omega arith, tt))), (tt, tt))),
          ),
        ),
      );
      follows = record {
        parts = attempted _ ∷ tidied (key_at 0 0) (_ ∷ []) ∷ attempted _ ∷ tidied (key_at 0 1) (_ ∷ _ ∷ _ ∷ []) ∷ [];
        read = refl;
        settled = refl;
        fulls = λ tidy. (tt, (tt, (tt, (tt, tt))));
      };
      answers = (
        ((item 0 0 7 ∷ [], [], refl, (inl refl, refl)), (refl, tt)),
        (tt, (((item 0 1 8 ∷ [], [], refl, (inr (inl refl), refl)), (refl, tt)), (tt, (tt, (tt, tt))))),
      );
      causes = (
        tt,
        (
          (refl, refl, λ back. absurd cc),
          (tt, (inl (omega arith), (refl, ((refl, refl, λ back. absurd cc), tt)))),
        ),
      );
    },
    (
      record {
        sees = (((omega arith, (omega arith, (omega arith, tt))), (omega arith, omega arith)), tt);
        follows = record { parts = attempted _ ∷ []; read = refl; settled = refl; fulls = λ tidy. (tt, tt) };
        answers = (((0, Get 0 1, (Get 0 0 ∷ [], refl), refl, (refl, refl), refl), tt), tt);
        causes = ((omega arith, refl, omega arith, refl), tt);
      },
      tt,
    ),
  );
  listed = (refl, (refl, tt));
  audit = record {
    state = record { ordered = ((refl, tt), (tt, tt)); same = λ key. grind (arith, nat_tests) };
    lines = (unmarked _ 0 0 7, (unmarked _ 0 1 8, tt));
  };
}
