-- The worked row 'guard forbids skew' is a run: with guards the second commit of a write skew meets a newer version.
use Rattle.std.proofs.Common.{false, [], ◌∷◌, refl, arith, Some, inl}
use Rattle.std.proofs.lemmas.Bool.Decides.{nat_tests}
use Rattle.si_model.specs.declared.op.Op.TheVariants.{Add, Need, Guard}
use Rattle.si_model.specs.declared.log.Outcome.TheVariants.{Commit, Newer}
use Rattle.si_model.specs.declared.report.Report.{Report}
use Rattle.si_model.specs.Rows.{key_at}
use Rattle.si_model.specs.Setting.{Setting}
use Rattle.si_model.specs.Tries.Part.{attempted}
use Rattle.si_model.specs.Run.{IsRun}
use Rattle.si_model.proofs.ExampleWords.{row, item, lock, tried, entry, log, audited, unmarked, setting_with}

abbrev pub setting : Setting
setting =
    setting_with 2 1 false 4 2 (row 0 0 60 ∷ row 0 1 60 ∷ [])
    (
    (Need 0 0 1 60 ∷ Need 0 1 1 60 ∷ Guard 0 1 ∷ Add 0 0 1 false 60 ∷ [])
    ∷ (Need 0 0 1 60 ∷ Need 0 1 1 60 ∷ Guard 0 0 ∷ Add 0 1 1 false 60 ∷ [])
    ∷ []
    )
    (1 ∷ 2 ∷ [])

abbrev pub report : Report
report = record {
  history = entry 1 1 0 1 (item 0 0 0 ∷ []) ∷ [];
  logs =
      log (tried 1 1 (Some 0) 4 2 (Commit 1) ∷ []) (item 0 0 60 ∷ item 0 1 60 ∷ item 0 1 60 ∷ item 0 0 60 ∷ [])
      (lock 0 0 0 0 ∷ lock 0 1 0 0 ∷ [])
      ∷ log (tried 2 1 (Some 0) 4 1 (Newer (lock 0 0 1 1)) ∷ []) (item 0 0 60 ∷ item 0 1 60 ∷ item 0 0 60 ∷ item 0 1 60
      ∷ []) (lock 0 1 0 0 ∷ [])
      ∷ [];
  audit = audited 0 0 0 ∷ audited 0 1 60 ∷ [];
}

pub run : IsRun setting report
run = record {
  one_log_each = refl;
  legal = (
    record {
      job = (omega arith, omega arith);
      prefix = omega arith;
      reads = item 0 0 60 ∷ item 0 1 60 ∷ item 0 1 60 ∷ item 0 0 60 ∷ [];
      guards = key_at 0 1 ∷ [];
      evaluates =
          refl;
      writes = omega arith;
      first_wins = refl;
    },
    tt,
  );
  numbered = (refl, tt);
  workers = (
    record {
      sees = (((omega arith, (omega arith, (omega arith, tt))), tt), tt);
      follows = record { parts = attempted _ ∷ []; read = refl; settled = refl; fulls = λ no_tidy. absurd cc };
      answers = (((item 0 0 0 ∷ [], key_at 0 1 ∷ [], refl, (inl refl, refl)), (refl, (refl, tt))), tt);
      causes = (tt, tt);
    },
    (
      record {
        sees = (((omega arith, (omega arith, (omega arith, tt))), tt), tt);
        follows = record { parts = attempted _ ∷ []; read = refl; settled = refl; fulls = λ no_tidy. absurd cc };
        answers = (((item 0 1 0 ∷ [], key_at 0 0 ∷ [], refl, (omega arith, [], refl)), (refl, tt)), tt);
        causes = ((omega arith, refl, inl refl), tt);
      },
      tt,
    ),
  );
  listed = (refl, tt);
  audit = record {
    state = record { ordered = ((refl, tt), (tt, tt)); same = λ key. grind (arith, nat_tests) };
    lines = (unmarked _ 0 0 0, (unmarked _ 0 1 60, tt));
  };
}
