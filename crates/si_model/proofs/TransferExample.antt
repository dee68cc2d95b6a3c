-- The worked row 'transfer' is a run.
use Rattle.std.proofs.Common.{false, [], ◌∷◌, true, refl, arith, Some, inl}
use Rattle.std.proofs.lemmas.Bool.Decides.{nat_tests}
use Rattle.si_model.specs.declared.op.Op.TheVariants.{Add, Need}
use Rattle.si_model.specs.declared.log.Outcome.TheVariants.{Commit}
use Rattle.si_model.specs.declared.report.Report.{Report}
use Rattle.si_model.specs.Setting.{Setting}
use Rattle.si_model.specs.Tries.Part.{attempted}
use Rattle.si_model.specs.Run.{IsRun}
use Rattle.si_model.proofs.ExampleWords.{row, item, lock, tried, entry, log, audited, unmarked, setting_with}

abbrev pub setting : Setting
setting = setting_with 1 1 false 2 1 (row 0 0 100 ∷ row 0 1 0 ∷ [])
    ((Need 0 0 1 10 ∷ Add 0 0 1 false 10 ∷ Add 0 1 1 true 10 ∷ []) ∷ []) (1 ∷ [])

abbrev pub report : Report
report = record {
  history = entry 1 1 0 1 (item 0 0 90 ∷ item 0 1 10 ∷ []) ∷ [];
  logs = log (tried 1 1 (Some 0) 3 2 (Commit 1) ∷ []) (item 0 0 100 ∷ item 0 0 100 ∷ item 0 1 0 ∷ []) (lock 0 0 0 0
      ∷ lock 0 1 0 0 ∷ []) ∷ [];
  audit = audited 0 0 90 ∷ audited 0 1 10 ∷ [];
}

pub run : IsRun setting report
run = record {
  one_log_each = refl;
  legal = (
    record {
      job = (omega arith, omega arith);
      prefix = omega arith;
      reads = item 0 0 100 ∷ item 0 0 100 ∷ item 0 1 0 ∷ [];
      guards = [];
      evaluates = refl;
      writes =
          omega arith;
      first_wins = refl;
    },
    tt,
  );
  numbered = (refl, tt);
  workers = (
    record {
      sees = (((omega arith, (omega arith, tt)), tt), tt);
      follows = record { parts = attempted _ ∷ []; read = refl; settled = refl; fulls = λ no_tidy. absurd cc };
      answers = ((((item 0 0 90 ∷ item 0 1 10 ∷ [], [], refl, (inl refl, refl))), (refl, (refl, tt))), tt);
      causes = (tt, tt);
    },
    tt,
  );
  listed = (refl, tt);
  audit = record {
    state = record { ordered = ((refl, tt), (tt, tt)); same = λ key. grind (arith, nat_tests) };
    lines = (unmarked _ 0 0 90, (unmarked _ 0 1 10, tt));
  };
}
