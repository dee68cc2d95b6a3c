-- The definition of a run of the snapshot isolation machine.
use Rattle.std.specs.Prelude.{ℕ, suc, ◌+◌, ◌≡◌, ◌==◌, ◌&&◌, Bool, false, List, [], ◌∷◌, length, map, filter, replicate}
use Rattle.std.specs.Prelude.{Some, None}
use Rattle.std.specs.List.{AllByRecursion}
use Rattle.si_model.specs.declared.log.Attempt.{Attempt}
use Rattle.si_model.specs.declared.report.CommitLine.{CommitLine}
use Rattle.si_model.specs.declared.report.Report.{Report}
use Rattle.si_model.specs.Rows.{rows_of}
use Rattle.si_model.specs.State.{state_at}
use Rattle.si_model.specs.History.{IsLegal, IsNumbered}
use Rattle.si_model.specs.Tells.{Tell, tells_of, attempt_in, number_in}
use Rattle.si_model.specs.View.{View, by_history}
use Rattle.si_model.specs.Setting.{Setting, by_script}
use Rattle.si_model.specs.Knowledge.{SeesForward}
use Rattle.si_model.specs.Tries.{FollowsPolicy}
use Rattle.si_model.specs.Answers.{AnswersMatch}
use Rattle.si_model.specs.Causes.{HaveCauses}
use Rattle.si_model.specs.Audit.{IsAudit}

-- what worker j listed is what it may list, in the logs of all workers and in the view
pub record IsWorkerRun (s : Setting) (v : View) (tss : List (List Tell)) (j : ℕ) (ts : List Tell) : Type 0 where
  pub sees : SeesForward v j (replicate s.workers s.start) ts
  pub follows : FollowsPolicy s v j ts
  pub answers : AnswersMatch s (by_script s) v j ts
  pub causes : HaveCauses s v tss j ts

-- the same of each worker from number j on
abbrev pub AreWorkerRuns : Setting → View → List (List Tell) → ℕ → List (List Tell) → Type 0
AreWorkerRuns s v tss j [] = Unit {0}
AreWorkerRuns s v tss j (ts ∷ more) = IsWorkerRun s v tss j ts × AreWorkerRuns s v tss (suc j) more

-- is the attempt of worker j the entry: its number, prefix and transaction
abbrev pub is_entry_of : CommitLine → ℕ → Attempt → Bool
is_entry_of e j a =
    (e.worker == j) && elim (number_in a.outcome) [ None ↦ false | Some n ↦ n == e.number ]
    && elim a.prefix [ None ↦ false | Some p ↦ p == e.prefix ] && (a.txn == e.txn)

-- is the event of worker j the entry
abbrev pub is_listed_as : CommitLine → ℕ → Tell → Bool
is_listed_as e j t = elim (attempt_in t.event) [ None ↦ false | Some a ↦ is_entry_of e j a ]

-- how often workers from number j on list the entry
abbrev pub times_listed : CommitLine → ℕ → List (List Tell) → ℕ
times_listed e j [] = 0
times_listed e j (ts ∷ tss) = length (filter (is_listed_as e j) ts) + times_listed e (suc j) tss

-- what each log of a report tells
abbrev pub tells_in_report : Setting → Report → List (List Tell)
tells_in_report s r = map (tells_of s.jobs) r.logs

-- the report is a run of the snapshot isolation machine
pub record IsRun (s : Setting) (r : Report) : Type 0 where
  pub one_log_each : length r.logs ≡ s.workers
  pub legal : IsLegal s.widths (rows_of s.rows) s.jobs r.history
  pub numbered : IsNumbered s.start r.history
  pub workers : AreWorkerRuns s (by_history (rows_of s.rows) s.workers s.start r.history) (tells_in_report s r) 1
      (tells_in_report s r)
  -- each entry is exactly one listed commit
  pub listed : AllByRecursion (λ e. times_listed e 1 (tells_in_report s r) ≡ 1) r.history
  pub audit : IsAudit (state_at (rows_of s.rows) r.history) (tells_in_report s r) r.audit
