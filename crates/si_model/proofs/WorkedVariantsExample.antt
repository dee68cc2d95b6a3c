-- Worked rows with one thing changed that are runs still.
use Rattle.std.proofs.Common.{true, [], ◌∷◌, refl, arith, Some, inl, inr}
use Rattle.std.proofs.lemmas.Bool.Decides.{nat_tests}
use Rattle.si_model.specs.declared.log.Outcome.TheVariants.{Commit, Cut, Locked, ReadOnly, TooOld}
use Rattle.si_model.specs.declared.log.Event.TheVariants.{TailCut}
use Rattle.si_model.specs.declared.report.Report.{Report}
use Rattle.si_model.specs.Rows.{key_at}
use Rattle.si_model.specs.Setting.{Setting}
use Rattle.si_model.specs.Tries.Part.{attempted, tidied, stopped}
use Rattle.si_model.specs.Run.{IsRun}
use Rattle.si_model.proofs.ExampleWords.{item, lock, tried, log, audited, marked, unmarked}
use Rattle.si_model.proofs.ChangedReports.{in_log, event_at, with_events}
use Rattle.si_model.proofs.FirstCommitterWinsExample as first
use Rattle.si_model.proofs.TransferExample as transfer
use Rattle.si_model.proofs.ReaderTooOldExample as old
use Rattle.si_model.proofs.GuardForbidsSkewExample as skew

-- ---- first committer wins, where the second worker met the first one's lock

abbrev pub lock_met : Report
lock_met = in_log 2 (event_at 1 (tried 2 1 (Some 0) 1 0 (Locked (lock 0 0 0 0)))) first.report

lock_met_run : IsRun first.setting lock_met
lock_met_run = record {
  one_log_each = refl;
  legal = first.run.legal;
  numbered = first.run.numbered;
  workers = (
    record {
      sees = first.run.workers.0.sees;
      follows = first.run.workers.0.follows;
      answers = first.run.workers.0.answers;
      causes = (tt, tt);
    },
    (
      record {
        sees = first.run.workers.1.0.sees;
        follows = record {
          parts = attempted _ ∷ attempted _ ∷ [];
          read = refl;
          settled = refl;
          fulls = λ no_tidy. absurd cc;
        };
        answers = first.run.workers.1.0.answers;
        causes = ((refl, λ version. refl), (tt, tt));
      },
      tt,
    ),
  );
  listed = (refl, (refl, tt));
  audit = record { state = first.run.audit.state; lines = (unmarked _ 0 0 112, tt) };
}

-- ---- transfer, cut after two reads

abbrev pub cut_reading : Report
cut_reading = record {
  history = [];
  logs = log (tried 1 1 (Some 0) 2 0 Cut ∷ []) (item 0 0 100 ∷ item 0 0 100 ∷ []) [] ∷ [];
  audit = audited 0 0 100 ∷ audited 0 1 0 ∷ [];
}

cut_reading_run : IsRun transfer.setting cut_reading
cut_reading_run = record {
  one_log_each = refl;
  legal = tt;
  numbered = tt;
  workers = (
    record {
      sees = (((omega arith, (omega arith, tt)), tt), tt);
      follows = record { parts = attempted _ ∷ []; read = refl; settled = refl; fulls = λ no_tidy. absurd cc };
      answers = ((((item 0 1 0 ∷ [], refl), inl refl), tt), tt);
      causes = (tt, tt);
    },
    tt,
  );
  listed = tt;
  audit = record {
    state = record { ordered = ((refl, tt), (tt, tt)); same = λ key. grind (arith, nat_tests) };
    lines = (unmarked _ 0 0 100, (unmarked _ 0 1 0, tt));
  };
}

-- ---- transfer, cut under its first lock

abbrev pub cut_locking : Report
cut_locking = record cut_reading {
  logs = log (tried 1 1 (Some 0) 3 1 Cut ∷ []) (item 0 0 100 ∷ item 0 0 100 ∷ item 0 1 0 ∷ []) (lock 0 0 0 0 ∷ []) ∷ [];
}

cut_locking_run : IsRun transfer.setting cut_locking
cut_locking_run = record {
  one_log_each = refl;
  legal = tt;
  numbered = tt;
  workers = (
    record {
      sees = cut_reading_run.workers.0.sees;
      follows = record { parts = attempted _ ∷ []; read = refl; settled = refl; fulls = λ no_tidy. absurd cc };
      answers = (
        (
          (([], refl), inr (item 0 0 90 ∷ item 0 1 10 ∷ [], [], refl, (omega arith, (key_at 0 1 ∷ [], refl)))),
          (refl, tt),
        ),
        tt,
      );
      causes = (tt, tt);
    },
    tt,
  );
  listed = tt;
  audit = record { state = cut_reading_run.audit.state; lines = (unmarked _ 0 0 100, (unmarked _ 0 1 0, tt)) };
}

-- ---- reader is too old, with a second try

abbrev pub two_tries : Setting
two_tries = record old.setting { policy = record { tries = 2; tidy = true } }

abbrev pub old_then_read : Report
old_then_read = in_log 2 (λ l. log (tried 3 1 (Some 0) 0 0 (TooOld 1 0 2) ∷ tried 3 2 (Some 2) 1 0 ReadOnly ∷ [])
    (item 0 0 7 ∷ []) []) old.report

old_then_read_run : IsRun two_tries old_then_read
old_then_read_run = record {
  one_log_each = refl;
  legal = old.run.legal;
  numbered = old.run.numbered;
  workers = (
    record {
      sees = old.run.workers.0.sees;
      follows = record {
        parts = attempted _ ∷ tidied (key_at 0 0) (_ ∷ []) ∷ attempted _ ∷ tidied (key_at 0 0) (_ ∷ _ ∷ _ ∷ []) ∷ [];
        read = refl;
        settled = refl;
        fulls = λ tidy. (tt, (tt, (tt, (tt, tt))));
      };
      answers = old.run.workers.0.answers;
      causes = old.run.workers.0.causes;
    },
    (
      record {
        sees = (old.run.workers.1.0.sees.0, (((omega arith, (omega arith, (omega arith, tt))), tt), tt));
        follows = record {
          parts = attempted _ ∷ attempted _ ∷ [];
          read = refl;
          settled = refl;
          fulls = λ tidy. (tt, (tt, tt));
        };
        answers = (old.run.workers.1.0.answers.0, ((([], refl, refl), tt), tt));
        causes = (old.run.workers.1.0.causes.0, (tt, tt));
      },
      tt,
    ),
  );
  listed = (refl, (refl, tt));
  audit = record { state = old.run.audit.state; lines = (unmarked _ 0 0 7, tt) };
}

-- ---- guard forbids skew, stopped before the guard's lock was given back

abbrev pub guard_left : Report
guard_left = record (in_log 1 (with_events (tried 1 1 (Some 0) 4 2 (Commit 1) ∷ TailCut ∷ [])) skew.report) {
  audit = audited 0 0 0 ∷ marked 0 1 60 ∷ [];
}

guard_left_run : IsRun skew.setting guard_left
guard_left_run = record {
  one_log_each = refl;
  legal = skew.run.legal;
  numbered = skew.run.numbered;
  workers = (
    record {
      sees = (skew.run.workers.0.sees.0, (tt, tt));
      follows = record {
        parts = attempted _ ∷ stopped _ ∷ [];
        read = refl;
        settled = refl;
        fulls = λ no_tidy. absurd cc;
      };
      answers = (skew.run.workers.0.answers.0, (tt, tt));
      causes = (tt, (refl, tt));
    },
    (
      record {
        sees = skew.run.workers.1.0.sees;
        follows = skew.run.workers.1.0.follows;
        answers = skew.run.workers.1.0.answers;
        causes = ((omega arith, refl, inl refl), tt);
      },
      tt,
    ),
  );
  listed = (refl, tt);
  audit = record {
    state = record { ordered = ((refl, tt), (tt, tt)); same = λ key. grind (arith, nat_tests) };
    lines = (unmarked _ 0 0 0, (record { absent = λ none. absurd cc; locked = λ yes. refl }, tt));
  };
}
