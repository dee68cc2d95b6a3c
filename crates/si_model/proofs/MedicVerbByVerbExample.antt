-- One line of the worked row 'medic, verb by verb' is a run: a stopped commit was rolled on.
use Rattle.std.proofs.Common.{true, false, [], ◌∷◌, refl, arith, Some, inl}
use Rattle.std.proofs.lemmas.Bool.Decides.{nat_tests}
use Rattle.si_model.specs.declared.op.Op.TheVariants.{Get, Put}
use Rattle.si_model.specs.declared.log.Outcome.TheVariants.{Commit, ReadOnly}
use Rattle.si_model.specs.declared.log.Finish.TheVariants.{RolledOn}
use Rattle.si_model.specs.declared.log.Event.TheVariants.{Finished}
use Rattle.si_model.specs.declared.report.Report.{Report}
use Rattle.si_model.specs.Setting.{Setting}
use Rattle.si_model.specs.Tries.Part.{attempted, stopped}
use Rattle.si_model.specs.Run.{IsRun}
use Rattle.si_model.proofs.ExampleWords.{row, item, lock, tried, entry, log, audited, unmarked, setting_with}

abbrev pub setting : Setting
setting = record (setting_with 2 1 false 2 2 (row 0 0 0 ∷ row 0 1 0 ∷ []) ((Put 0 0 (1 ∷ []) ∷ Put 0 1 (1 ∷ []) ∷ [])
    ∷ (Get 0 0 ∷ Get 0 1 ∷ []) ∷ []) (1 ∷ 2 ∷ [])) { held = true }

abbrev pub report : Report
report = record {
  history = entry 1 1 0 1 (item 0 0 1 ∷ item 0 1 1 ∷ []) ∷ [];
  logs =
      log (tried 1 1 (Some 0) 0 2 (Commit 1) ∷ Finished RolledOn ∷ []) [] (lock 0 0 0 0 ∷ lock 0 1 0 0 ∷ [])
      ∷ log (tried 2 1 (Some 1) 2 0 ReadOnly ∷ []) (item 0 0 1 ∷ item 0 1 1 ∷ []) []
      ∷ [];
  audit = audited 0 0 1 ∷ audited 0 1 1 ∷ [];
}

run : IsRun setting report
run = record {
  one_log_each = refl;
  legal = (
    record {
      job = (omega arith, omega arith);
      prefix = omega arith;
      reads = [];
      guards = [];
      evaluates = refl;
      writes = omega arith;
      first_wins = refl;
    },
    tt,
  );
  numbered = (refl, tt);
  workers = (
    record {
      sees = (((omega arith, (omega arith, (omega arith, tt))), tt), (tt, tt));
      follows = record {
        parts = attempted _ ∷ stopped _ ∷ [];
        read = refl;
        settled = refl;
        fulls = λ no_tidy. absurd cc;
      };
      answers = (((item 0 0 1 ∷ item 0 1 1 ∷ [], [], refl, (inl refl, refl)), (refl, (refl, tt))), (tt, tt));
      causes = (tt, ((refl, refl), tt));
    },
    (
      record {
        sees = (((omega arith, (omega arith, (omega arith, tt))), tt), tt);
        follows = record { parts = attempted _ ∷ []; read = refl; settled = refl; fulls = λ no_tidy. absurd cc };
        answers = ((([], refl, refl), tt), tt);
        causes = (tt, tt);
      },
      tt,
    ),
  );
  listed = (refl, tt);
  audit = record {
    state = record { ordered = ((refl, tt), (tt, tt)); same = λ key. grind (arith, nat_tests) };
    lines = (unmarked _ 0 0 1, (unmarked _ 0 1 1, tt));
  };
}
