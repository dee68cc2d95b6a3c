-- The worked row 'declined' is a run: a need that fails, an add above 2^64 - 1 and one below 0.
use Rattle.std.proofs.Common.{false, true, [], ◌∷◌, refl, arith, Some}
use Rattle.std.proofs.lemmas.Bool.Decides.{nat_tests}
use Rattle.si_model.specs.declared.op.Op.TheVariants.{Add, Need}
use Rattle.si_model.specs.declared.log.Outcome.TheVariants.{Declined}
use Rattle.si_model.specs.declared.report.Report.{Report}
use Rattle.si_model.specs.Setting.{Setting}
use Rattle.si_model.specs.Tries.Part.{attempted}
use Rattle.si_model.specs.Run.{IsRun}
use Rattle.si_model.proofs.ExampleWords.{row, item, tried, log, audited, unmarked, setting_with}

abbrev pub setting : Setting
setting =
    setting_with 1 1 false 1 1 (row 0 0 5 ∷ [])
    ((Need 0 0 1 6 ∷ []) ∷ (Add 0 0 1 true 18446744073709551615 ∷ []) ∷ (Add 0 0 1 false 6 ∷ []) ∷ [])
    (1 ∷ 1 ∷ 1 ∷ [])

abbrev pub report : Report
report = record {
  history = [];
  logs =
      log (tried 1 1 (Some 0) 1 0 (Declined 1) ∷ tried 2 1 (Some 0) 1 0 (Declined 1)
      ∷ tried 3 1 (Some 0) 1 0 (Declined 1) ∷ [])
      (item 0 0 5 ∷ item 0 0 5 ∷ item 0 0 5 ∷ []) []
      ∷ [];
  audit = audited 0 0 5 ∷ [];
}

run : IsRun setting report
run = record {
  one_log_each = refl;
  legal = tt;
  numbered = tt;
  workers = (
    record {
      sees = (
        ((omega arith, (omega arith, tt)), tt),
        (((omega arith, (omega arith, tt)), tt), (((omega arith, (omega arith, tt)), tt), tt)),
      );
      follows = record {
        parts = attempted _ ∷ attempted _ ∷ attempted _ ∷ [];
        read = refl;
        settled = refl;
        fulls = λ no_tidy. absurd cc;
      };
      answers = (((refl, refl), tt), (((refl, refl), tt), (((refl, refl), tt), tt)));
      causes = (tt, (tt, (tt, tt)));
    },
    tt,
  );
  listed = tt;
  audit = record {
    state = record { ordered = (tt, tt); same = λ key. grind (arith, nat_tests) };
    lines = (unmarked _ 0 0 5, tt);
  };
}
