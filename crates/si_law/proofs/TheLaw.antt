-- Consistent logs with the history arranged from them are a run.
use Rattle.std.proofs.Common.{◌≡◌, ℕ, suc, true, false, inl, inr, List, [], ◌∷◌, refl, ap, sym, ◌∙◌, subst, arith}
use Rattle.std.specs.Prelude.{map}
use Rattle.std.proofs.lemmas.List.{length-map}
use Rattle.si_model.specs.declared.log.Log.{Log}
use Rattle.si_model.specs.declared.report.AuditRow.{AuditRow}
use Rattle.si_model.specs.Lists.{Listed}
use Rattle.si_model.specs.Rows.{rows_of}
use Rattle.si_model.specs.State.{state_at}
use Rattle.si_model.specs.History.{stamp_of}
use Rattle.si_model.specs.Tells.{Tell, tells_of}
use Rattle.si_model.specs.Commits.{Published, entry_of, published_by}
use Rattle.si_model.specs.Snapshots.{contains}
use Rattle.si_model.specs.View.{View, by_history}
use Rattle.si_model.specs.Setting.{Setting, Asked, by_script}
use Rattle.si_model.specs.Consistency.{AreConsistent, AreConsistentFor, AreSound, FollowPolicies, view_by}
use Rattle.si_model.specs.Audit.{IsAudit}
use Rattle.si_model.specs.Run.{times_listed, AreWorkerRuns, IsRun}
use Rattle.si_model.proofs.ListLemmas.{All-from_listed, All-map}
use Rattle.si_law.specs.Views.{AsksMore, AgreeOn, KeepCauses}
use Rattle.si_law.specs.Law.{ArrangedIsRun, ConsistentArrange, ConsistentNoCircle, StateIsNewest}
use Rattle.si_law.proofs.Standing.{tell_stands, commit_ops}
use Rattle.si_law.proofs.Counted.{IsOrdered, ordered_lines, from_history, length_within}
use Rattle.si_law.proofs.Order.{no_circle, state_is}
use Rattle.si_law.proofs.Legal.{legal}
use Rattle.si_law.proofs.Numbers.{numbered}
use Rattle.si_law.proofs.Moved.{moved_sound}
use Rattle.si_law.proofs.Agree.{extends, agrees}
use Rattle.si_law.proofs.ListedOnce.{listed_once}
use Rattle.si_law.proofs.Fulls.{moved_policy}

-- the logs keep what they rest on themselves
keep_causes : (s : Setting) (w : View) (tss : List (List Tell)) (j : ℕ) (ts : List Tell) → KeepCauses s w tss tss j ts
keep_causes s w tss j ts = record {
  locks = λ key q h. h;
  entries = λ i n h. h;
  collects = λ h. h;
  done = λ key q h. h;
  moves = λ b. omega arith;
  all_moves = λ b. omega arith;
  buckets = λ b key m h. h;
  stops = λ key q m other h n. inr (h, n);
}

module _ (s : Setting) (asked : Asked) (tss : List (List Tell)) (ok : AreConsistent s asked tss) where
  own : (c : Published) → Listed c (published_by tss) → contains c.snap (stamp_of c.line) ≡ false
  own c l = (ok.published c l).own

  module _ (history : List Published) (arr : IsOrdered s.start tss history) where
    abbrev w : View
    w = by_history (rows_of s.rows) s.workers s.start (map entry_of history)

    agree_on : (ts : List Tell) → Listed ts tss → AgreeOn (view_by s tss) w ts
    agree_on ts l t m p e =
        let here = tell_stands s.start 1 tss ok.order.owned ts l t m p e in
        agrees s.start tss ok.order own ok.first_wins history arr (rows_of s.rows) s.workers t p e here.0 here.1
        (length_within s.start t.snap tss (ok.order.within t.snap here.0) ∙ ok.one_log_each)

    worker_runs : asked ≡ by_script s → (j : ℕ) (more : List (List Tell))
        → ((ts : List Tell) → Listed ts more → Listed ts tss)
        → AreSound s asked (view_by s tss) tss j more → FollowPolicies s (view_by s tss) j more
        → AreWorkerRuns s w tss j more
    worker_runs script j [] among sound policies = tt
    worker_runs script j (ts ∷ more) among sound policies =
        let agree = agree_on ts (among ts (inl refl)) in
        let asks : AsksMore asked (by_script s) =
        record {
          ops = λ op l. subst (λ a. Listed op a.ops) script l;
          by_calls = λ h. subst (λ a. a.by_calls ≡ true) script h;
        } in
        let moved = moved_sound s asked (by_script s) (view_by s tss) w tss tss j ts asks
        (extends s.start tss ok.order own ok.first_wins history arr (rows_of s.rows) s.workers)
        (keep_causes s w tss j ts) agree sound.0 in (
          record {
            sees = moved.sees;
            follows = moved_policy s asked (view_by s tss) w j ts agree sound.0.answers policies.0;
            answers = moved.answers;
            causes = moved.causes;
          },
          worker_runs script (suc j) more (λ us l. among us (inr l)) sound.1 policies.1,
        )

run_of : (s : Setting) (logs : List Log) (history : List Published) (audit : List AuditRow) → AreConsistentFor s logs
    → IsOrdered s.start (map (tells_of s.jobs) logs) history
    → IsAudit (state_at (rows_of s.rows) (map entry_of history)) (map (tells_of s.jobs) logs) audit
    → IsRun s (record { history = map entry_of history; logs = logs; audit = audit })
run_of s logs history audit consistent arr is_audit =
    let tss = map (tells_of s.jobs) logs in
    let ok = consistent.calls in
    let owns = own s (by_script s) tss ok in
    record {
      one_log_each = sym (length-map logs (tells_of s.jobs)) ∙ ok.one_log_each;
      legal =
          legal s.start tss ok.order owns ok.first_wins ok.guards history arr s.widths (rows_of s.rows) s.jobs
          ok.published consistent.jobs_in_range (commit_ops s.jobs 1 logs);
      numbered = numbered s (by_script s) (rows_of s.rows) tss ok.one_log_each ok.order owns ok.sound history arr;
      workers = worker_runs s (by_script s) tss ok history arr refl 1 tss (λ ts l. l) ok.sound consistent.policies;
      listed =
          let once = λ (c : Published) (l : Listed c history). listed_once s.start tss ok.order.owned c
          (from_history s.start tss ok.order history arr c l) in
          All-map entry_of (λ e. times_listed e 1 tss ≡ 1) history
          (All-from_listed (λ c. times_listed c.line 1 tss ≡ 1) history once);
      audit = is_audit;
    }

-- consistent logs with their arranged history and an audit of its state are a run
pub arranged_is_run : ArrangedIsRun
arranged_is_run s logs lines audit consistent arranged is_audit =
    let h = ordered_lines s.start (map (tells_of s.jobs) logs) lines arranged in
    subst (λ es. IsAudit (state_at (rows_of s.rows) es) (map (tells_of s.jobs) logs) audit
    → IsRun s (record { history = es; logs = logs; audit = audit })) h.2
    (run_of s logs h.0 audit consistent h.1) is_audit

-- consistent logs have no circle of guards in a level
pub consistent_no_circle : ConsistentNoCircle
consistent_no_circle s asked tss ok = no_circle s.start tss ok.order (own s asked tss ok) ok.no_circle

-- and so can be arranged
pub consistent_arrange : ConsistentArrange
consistent_arrange s logs consistent = record {
  order = consistent.calls.order;
  jobs_in_range = consistent.jobs_in_range;
  no_circle = consistent_no_circle s (by_script s) (map (tells_of s.jobs) logs) consistent.calls;
}

-- the state after an arranged history, by the newest commits
pub state_is_newest : StateIsNewest
state_is_newest s asked tss lines rows ok arranged =
    let h = ordered_lines s.start tss lines arranged in
    ap (state_at rows) (sym h.2) ∙ state_is s.start tss ok.order (own s asked tss ok) ok.first_wins h.0 h.1 rows
