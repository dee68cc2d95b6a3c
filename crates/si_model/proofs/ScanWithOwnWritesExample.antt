-- The worked row 'scan with own writes' is a run: a scan after a put and a delete, and one over all keys.
use Rattle.std.proofs.Common.{◌≡◌, zero, suc, false, [], ◌∷◌, ◌++◌, refl, ap, sym, arith, Some, inl}
use Rattle.std.proofs.lemmas.Bool.Decides.{nat_tests}
use Rattle.std.specs.List.Sorted.{IsStrictlyIncreasing}
use Rattle.std.proofs.lemmas.Map.Keys.{sorted_from_strictly_increasing}
use Rattle.si_model.specs.declared.op.Op.TheVariants.{Put, Del, Scan}
use Rattle.si_model.specs.declared.log.Outcome.TheVariants.{Commit, ReadOnly}
use Rattle.si_model.specs.declared.evaluated.Evaluated.TheVariants.{Done}
use Rattle.si_model.specs.declared.report.Report.{Report}
use Rattle.si_model.specs.Rows.{rows_of, overlay, items_from}
use Rattle.si_model.specs.Evaluation.{evaluation_of}
use Rattle.si_model.specs.Setting.{Setting}
use Rattle.si_model.specs.Tries.Part.{attempted}
use Rattle.si_model.specs.Run.{IsRun}
use Rattle.si_model.proofs.ExampleWords.{row, item, gone, lock, tried, entry, log, audited, unmarked, setting_with}
use Rattle.si_model.proofs.RangeLemmas.{items_between-by_keys}

abbrev pub setting : Setting
setting =
    setting_with 1 1 false 4 1 (row 0 3 30 ∷ row 0 1 10 ∷ row 0 7 70 ∷ [])
    ((Put 0 2 (20 ∷ []) ∷ Del 0 1 ∷ Scan 0 1 3 ∷ []) ∷ (Scan 0 0 18446744073709551614 ∷ []) ∷ [])
    (1 ∷ 1 ∷ [])

abbrev pub report : Report
report = record {
  history = entry 1 1 0 1 (item 0 2 20 ∷ gone 0 1 ∷ []) ∷ [];
  logs =
      log (tried 1 1 (Some 0) 2 2 (Commit 1) ∷ tried 2 1 (Some 1) 3 0 ReadOnly ∷ [])
      (item 0 2 20 ∷ item 0 3 30 ∷ item 0 2 20 ∷ item 0 3 30 ∷ item 0 7 70 ∷ []) (lock 0 2 0 0 ∷ lock 0 1 0 0 ∷ [])
      ∷ [];
  audit = audited 0 2 20 ∷ audited 0 3 30 ∷ audited 0 7 70 ∷ [];
}

short_scan : evaluation_of (1 ∷ []) (rows_of setting.rows) (Put 0 2 (20 ∷ []) ∷ Del 0 1 ∷ Scan 0 1 3 ∷ [])
    ≡ Done (item 0 2 20 ∷ item 0 3 30 ∷ []) (item 0 2 20 ∷ gone 0 1 ∷ []) []
unfolding items_from
short_scan = refl

rising : IsStrictlyIncreasing (1 ∷ 2 ∷ 3 ∷ 7 ∷ [])
rising zero within = omega arith
rising (suc zero) within = omega arith
rising (suc (suc zero)) within = omega arith
rising (suc (suc (suc k))) within = absurd (omega arith)

-- of all keys only four are looked at
long_scan : evaluation_of (1 ∷ []) (overlay (item 0 2 20 ∷ gone 0 1 ∷ []) (rows_of setting.rows))
    (Scan 0 0 18446744073709551614 ∷ [])
    ≡ Done (item 0 2 20 ∷ item 0 3 30 ∷ item 0 7 70 ∷ []) [] []
long_scan =
    ap (λ is. Done (is ++ []) [] [])
    (sym (items_between-by_keys (rows_of setting.rows) (item 0 2 20 ∷ gone 0 1 ∷ []) 0 0 18446744073709551614 (1 ∷ 2 ∷ 3
    ∷ 7 ∷ [])
    (sorted_from_strictly_increasing (1 ∷ 2 ∷ 3 ∷ 7 ∷ []) rising) (λ key. grind (arith, nat_tests))))

run : IsRun setting report
run = record {
  one_log_each = refl;
  legal = (
    record {
      job = (omega arith, omega arith);
      prefix = omega arith;
      reads = item 0 2 20 ∷ item 0 3 30 ∷ [];
      guards = [];
      evaluates = short_scan;
      writes = omega arith;
      first_wins = refl;
    },
    tt,
  );
  numbered = (refl, tt);
  workers = (
    record {
      sees = (((omega arith, (omega arith, tt)), tt), (((omega arith, (omega arith, tt)), tt), tt));
      follows = record {
        parts = attempted _ ∷ attempted _ ∷ [];
        read = refl;
        settled = refl;
        fulls = λ no_tidy. absurd cc;
      };
      answers = (
        ((item 0 2 20 ∷ gone 0 1 ∷ [], [], short_scan, (inl refl, refl)), (refl, (refl, tt))),
        ((([], long_scan, refl), tt), tt),
      );
      causes = (tt, (tt, tt));
    },
    tt,
  );
  listed = (refl, tt);
  audit = record {
    state = record { ordered = ((refl, (refl, tt)), ((refl, tt), (tt, tt))); same = λ key. grind (arith, nat_tests) };
    lines = (unmarked _ 0 2 20, (unmarked _ 0 3 30, (unmarked _ 0 7 70, tt)));
  };
}
