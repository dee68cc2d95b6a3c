-- A small report that is a run: a worker's ring is full of its own version, whose tidying failed, while its tidying of
-- another key went well.
use Rattle.std.proofs.Common.{true, [], ◌∷◌, refl, arith, Some, inl, inr}
use Rattle.std.proofs.lemmas.Bool.Decides.{nat_tests}
use Rattle.si_model.specs.declared.op.Op.TheVariants.{Put}
use Rattle.si_model.specs.declared.log.Outcome.TheVariants.{Commit, Full}
use Rattle.si_model.specs.declared.log.Event.TheVariants.{NoRoom}
use Rattle.si_model.specs.declared.report.Report.{Report}
use Rattle.si_model.specs.Rows.{key_at}
use Rattle.si_model.specs.Setting.{Setting}
use Rattle.si_model.specs.Tries.Part.{attempted, tidied}
use Rattle.si_model.specs.Run.{IsRun}
use Rattle.si_model.proofs.ExampleWords.{row, item, lock, tried, moved, collected, entry, log, audited, unmarked}
use Rattle.si_model.proofs.ExampleWords.{setting_with}

abbrev pub setting : Setting
setting = setting_with 2 1 true 4 1 (row 0 0 0 ∷ row 0 1 0 ∷ row 0 2 0 ∷ []) ((Put 0 0 (1 ∷ []) ∷ Put 0 1 (1 ∷ []) ∷ [])
    ∷ (Put 0 0 (2 ∷ []) ∷ Put 0 1 (2 ∷ []) ∷ []) ∷ (Put 0 1 (5 ∷ []) ∷ Put 0 2 (5 ∷ []) ∷ []) ∷ []) (1 ∷ 1 ∷ 2 ∷ [])

abbrev pub report : Report
report = record {
  history = entry 2 1 0 3 (item 0 1 5 ∷ item 0 2 5 ∷ []) ∷ entry 1 1 1 1 (item 0 0 1 ∷ item 0 1 1 ∷ []) ∷ [];
  logs =
      log
      (
      tried 1 1 (Some 1) 0 2 (Commit 1)
      ∷ NoRoom 0
      ∷ collected 0 2 (1 ∷ 1 ∷ [])
      ∷ NoRoom 0
      ∷ moved 1 0 1 2 1
      ∷ tried 2 1 (Some 2) 0 2 (Full (lock 0 0 0 0))
      ∷ []
      )
      [] (lock 0 0 0 0 ∷ lock 0 1 2 1 ∷ lock 0 0 1 1 ∷ lock 0 1 1 1 ∷ [])
      ∷ log (tried 3 1 (Some 0) 0 2 (Commit 1) ∷ moved 1 0 1 0 0 ∷ moved 0 0 2 0 0 ∷ []) []
      (lock 0 1 0 0 ∷ lock 0 2 0 0 ∷ [])
      ∷ [];
  audit = audited 0 0 1 ∷ audited 0 1 1 ∷ audited 0 2 5 ∷ [];
}

run : IsRun setting report
run = record {
  one_log_each = refl;
  legal = (
    record {
      job = (omega arith, omega arith);
      prefix = omega arith;
      reads = [];
      guards = [];
      evaluates = refl;
      writes = omega arith;
      first_wins = refl;
    },
    (
      record {
        job = (omega arith, omega arith);
        prefix = omega arith;
        reads = [];
        guards = [];
        evaluates = refl;
        writes = omega arith;
        first_wins = refl;
      },
      tt,
    ),
  );
  numbered = (refl, (refl, tt));
  workers = (
    record {
      sees = (
        ((omega arith, (omega arith, (omega arith, tt))), tt),
        (
          tt,
          (
            (omega arith, (omega arith, (omega arith, tt))),
            (tt, (tt, (((omega arith, (omega arith, (omega arith, tt))), tt), tt))),
          ),
        ),
      );
      follows = record {
        parts =
            attempted _
            ∷ tidied (key_at 0 0) (_ ∷ _ ∷ _ ∷ [])
            ∷ tidied (key_at 0 1) (_ ∷ [])
            ∷ attempted _
            ∷ [];
        read = refl;
        settled = refl;
        fulls = λ tidy. (tt, (tt, (tt, ((λ own. refl), tt))));
      };
      answers = (
        ((item 0 0 1 ∷ item 0 1 1 ∷ [], [], refl, (inr (inl refl), refl)), (refl, (refl, tt))),
        (
          tt,
          (
            tt,
            (
              tt,
              (tt, (((item 0 0 2 ∷ item 0 1 2 ∷ [], [], refl, (refl, refl)), (refl, (refl, tt))), tt)),
            ),
          ),
        ),
      );
      causes = (
        tt,
        (
          inl (omega arith),
          (
            refl,
            (
              inl (omega arith),
              ((refl, refl, λ back. absurd cc), ((refl, omega arith, refl), tt)),
            ),
          ),
        ),
      );
    },
    (
      record {
        sees = (((omega arith, (omega arith, (omega arith, tt))), tt), (tt, (tt, tt)));
        follows = record {
          parts = attempted _ ∷ tidied (key_at 0 1) (_ ∷ []) ∷ tidied (key_at 0 2) (_ ∷ []) ∷ [];
          read = refl;
          settled = refl;
          fulls = λ tidy. (tt, (tt, (tt, tt)));
        };
        answers = (
          ((item 0 1 5 ∷ item 0 2 5 ∷ [], [], refl, (inl refl, refl)), (refl, (refl, tt))),
          (tt, (tt, tt)),
        );
        causes = (tt, ((refl, refl, λ back. absurd cc), ((refl, refl, λ back. absurd cc), tt)));
      },
      tt,
    ),
  );
  listed = (refl, (refl, tt));
  audit = record {
    state = record { ordered = ((refl, (refl, tt)), ((refl, tt), (tt, tt))); same = λ key. grind (arith, nat_tests) };
    lines = (unmarked _ 0 0 1, (unmarked _ 0 1 1, (unmarked _ 0 2 5, tt)));
  };
}
