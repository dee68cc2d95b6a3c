-- The worked row 'numbers are spent' is a run: the last number is given out, and then a commit is spent.
use Rattle.std.proofs.Common.{false, [], ◌∷◌, refl, arith, Some, inl}
use Rattle.std.proofs.lemmas.Bool.Decides.{nat_tests}
use Rattle.si_model.specs.declared.op.Op.TheVariants.{Get, Put}
use Rattle.si_model.specs.declared.log.Outcome.TheVariants.{Commit, ReadOnly, Spent}
use Rattle.si_model.specs.declared.report.Report.{Report}
use Rattle.si_model.specs.Setting.{Setting}
use Rattle.si_model.specs.Tries.Part.{attempted}
use Rattle.si_model.specs.Run.{IsRun}
use Rattle.si_model.proofs.ExampleWords.{row, item, lock, tried, entry, log, audited, unmarked, setting_with}

abbrev pub setting : Setting
setting = record (setting_with 1 1 false 1 1 (row 0 0 1 ∷ []) ((Put 0 0 (2 ∷ []) ∷ []) ∷ (Put 0 0 (3 ∷ []) ∷ [])
    ∷ (Get 0 0 ∷ []) ∷ []) (1 ∷ 1 ∷ 1 ∷ [])) { start = 4294967294 }

abbrev pub report : Report
report = record {
  history = entry 1 4294967295 0 1 (item 0 0 2 ∷ []) ∷ [];
  logs =
      log (tried 1 1 (Some 0) 0 1 (Commit 4294967295) ∷ tried 2 1 (Some 1) 0 0 Spent ∷ tried 3 1 (Some 1) 1 0 ReadOnly
      ∷ [])
      (item 0 0 2 ∷ []) (lock 0 0 0 0 ∷ [])
      ∷ [];
  audit = audited 0 0 2 ∷ [];
}

run : IsRun setting report
run = record {
  one_log_each = refl;
  legal = (
    record {
      job = (omega arith, omega arith);
      prefix = omega arith;
      reads = [];
      guards = [];
      evaluates = refl;
      writes = omega arith;
      first_wins = refl;
    },
    tt,
  );
  numbered = (refl, tt);
  workers = (
    record {
      sees = (
        ((omega arith, (omega arith, tt)), tt),
        (((omega arith, (omega arith, tt)), tt), (((omega arith, (omega arith, tt)), tt), tt)),
      );
      follows = record {
        parts = attempted _ ∷ attempted _ ∷ attempted _ ∷ [];
        read = refl;
        settled = refl;
        fulls = λ no_tidy. absurd cc;
      };
      answers = (
        ((item 0 0 2 ∷ [], [], refl, (inl refl, refl)), (refl, tt)),
        (((item 0 0 3 ∷ [], [], refl, (omega arith, refl)), tt), ((([], refl, refl), tt), tt)),
      );
      causes = (tt, (refl, (tt, tt)));
    },
    tt,
  );
  listed = (refl, tt);
  audit = record {
    state = record { ordered = (tt, tt); same = λ key. grind (arith, nat_tests) };
    lines = (unmarked _ 0 0 2, tt);
  };
}
