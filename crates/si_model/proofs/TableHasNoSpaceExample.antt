-- The worked row 'table has no space' is a run.
use Rattle.std.proofs.Common.{false, [], ◌∷◌, refl, arith, Some}
use Rattle.std.proofs.lemmas.Bool.Decides.{nat_tests}
use Rattle.si_model.specs.declared.op.Op.TheVariants.{Get, Put}
use Rattle.si_model.specs.declared.log.Outcome.TheVariants.{NoSpace}
use Rattle.si_model.specs.declared.report.Report.{Report}
use Rattle.si_model.specs.Rows.{key_at}
use Rattle.si_model.specs.Setting.{Setting}
use Rattle.si_model.specs.Tries.Part.{attempted}
use Rattle.si_model.specs.Run.{IsRun}
use Rattle.si_model.proofs.ExampleWords.{row, gone, tried, log, audited, unmarked, setting_with}

abbrev pub setting : Setting
setting = setting_with 1 1 false 2 1 (row 0 0 1 ∷ row 0 1 1 ∷ []) ((Get 0 2 ∷ Put 0 2 (9 ∷ []) ∷ []) ∷ []) (1 ∷ [])

abbrev pub report : Report
report = record {
  history = [];
  logs = log (tried 1 1 (Some 0) 1 0 (NoSpace 0) ∷ []) (gone 0 2 ∷ []) [] ∷ [];
  audit = audited 0 0 1 ∷ audited 0 1 1 ∷ [];
}

run : IsRun setting report
run = record {
  one_log_each = refl;
  legal = tt;
  numbered = tt;
  workers = (
    record {
      sees = (((omega arith, (omega arith, tt)), tt), tt);
      follows = record { parts = attempted _ ∷ []; read = refl; settled = refl; fulls = λ no_tidy. absurd cc };
      answers = (
        ((1, Put 0 2 (9 ∷ []), ([], refl), (key_at 0 2, (refl, refl, refl), refl), (refl, refl), refl), tt),
        tt,
      );
      causes = (tt, tt);
    },
    tt,
  );
  listed = tt;
  audit = record {
    state = record { ordered = ((refl, tt), (tt, tt)); same = λ key. grind (arith, nat_tests) };
    lines = (unmarked _ 0 0 1, (unmarked _ 0 1 1, tt));
  };
}
