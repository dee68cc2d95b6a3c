-- The report of a simulated run fits its script, and there is one for each script and lines.
use Rattle.std.proofs.Common.{ℕ, zero, suc, List, [], ◌∷◌, map, take, drop, refl, sym, ap, subst, ◌∙◌}
use Rattle.std.proofs.Common.{Option, Some, None}
use Rattle.std.specs.List.{AllByRecursion}
use Rattle.si_model.specs.declared.row.Item.{Item}
use Rattle.si_model.specs.declared.op.Op.{Op}
use Rattle.si_model.specs.declared.log.Attempt.{Attempt}
use Rattle.si_model.specs.declared.log.Event.{Event}
use Rattle.si_model.specs.declared.log.Event.TheVariants.{Tried}
use Rattle.si_model.specs.declared.log.Lock.{Lock}
use Rattle.si_model.specs.declared.log.Log.{Log}
use Rattle.si_model.specs.declared.log.Outcome.{Outcome}
use Rattle.si_model.specs.declared.log.Outcome.TheVariants.{Commit}
use Rattle.si_model.specs.Commits.{Published, entry_of, published_at, published_by, published_from, published_in}
use Rattle.si_model.specs.Commits.{published_of}
use Rattle.si_model.specs.Tells.{Tell, locks_in, reads_in, snaps_in, tells_each, tells_of, writes_in}
use Rattle.si_model.proofs.ListLemmas.{All-append, All-map, All-from_listed, All-listed, listed_permutation}
use Rattle.std.proofs.lemmas.List.Sorted.{IsPermutation-sym}
use Rattle.nam_catalog.specs.Tables.{widths_of}
use Rattle.nam_catalog.specs.declared.shape.Shape.{Shape}
use Rattle.nam_script.specs.ScriptSetting.{setting_of}
use Rattle.nam_protocol.specs.Closed.{closed}
use Rattle.nam_protocol.specs.Schedule.{Run}
use Rattle.nam_report.specs.Arranging.{PublishedLaw, arranged}
use Rattle.nam_report.specs.Fits.{EntryFits, FitsScript, ItemFits, LogFits}
use Rattle.nam_report.specs.Numbers.{NumbersFit}
use Rattle.nam_scenario.specs.Scenario.{scenario_of}
use Rattle.nam_scenario.specs.ScenarioLaw.{script_run}
use Rattle.nam_scenario.proofs.ScenarioLemmas.{scripts_fit, scripts_run}
use Rattle.nam_simulated.specs.LogLaw.{LogIsOf}
use Rattle.nam_simulated.specs.RunLaw.{ClosedIsOf}
use Rattle.nam_simulated.specs.ReportLaw.{OneReportLaw, ReportFitsLaw, SimulatedFitsLaw, report_of}
use Rattle.nam_simulated.specs.ReportLaw.{told_of}
use Rattle.nam_simulated.proofs.WorldKept.{runs_fit}

-- 1. What is true of each write of a log is true of each that its events own

module _ {X : Type 0} (P : X → Type 0) where
  all_take : (n : ℕ) (xs : List X) → AllByRecursion P xs → AllByRecursion P (take n xs)
  all_take zero xs all = tt
  all_take (suc n) [] all = tt
  all_take (suc n) (x ∷ xs) all = (all.0, all_take n xs all.1)

  all_drop : (n : ℕ) (xs : List X) → AllByRecursion P xs → AllByRecursion P (drop n xs)
  all_drop zero xs all = all
  all_drop (suc n) [] all = tt
  all_drop (suc n) (x ∷ xs) all = all_drop n xs all.1

module _ (P : Item → Type 0) where
  abbrev Writes : Tell → Type 0
  Writes t = AllByRecursion P t.writes

  abbrev Enters : Published → Type 0
  Enters c = AllByRecursion P c.line.writes

  tells_write : (opss : List (List Op)) (es : List Event) (rs : List Item) (ls : List Lock) (ws : List Item)
      (ss : List (List ℕ)) → AllByRecursion P ws → AllByRecursion Writes (tells_each opss es rs ls ws ss)
  tells_write opss [] rs ls ws ss all = tt
  tells_write opss (e ∷ es) rs ls ws ss all = (
    all_take P (writes_in e) ws all,
    tells_write (drop 1 opss) es (drop (reads_in e) rs) (drop (locks_in e) ls) (drop (writes_in e) ws)
        (drop (snaps_in e) ss) (all_drop P (writes_in e) ws all),
  )

  in_enters : (j : ℕ) (t : Tell) (a : Attempt) (prefix : Option ℕ) (outcome : Outcome) → Writes t
      → AllByRecursion Enters (published_in j t a prefix outcome)
  in_enters j t a (Some p) (Commit number) all = (all, tt)
  in_enters j t a None outcome all = tt
  in_enters j t a (Some p) _ all = tt

  at_enters : (j : ℕ) (t : Tell) (e : Event) → Writes t → AllByRecursion Enters (published_at j t e)
  at_enters j t (Tried a) all = in_enters j t a a.prefix a.outcome all
  at_enters j t _ all = tt

  of_enters : (j : ℕ) (ts : List Tell) → AllByRecursion Writes ts → AllByRecursion Enters (published_of j ts)
  of_enters j [] all = tt
  of_enters j (t ∷ ts) all =
      All-append Enters (published_at j t t.event) (published_of j ts) (at_enters j t t.event all.0)
      (of_enters j ts all.1)

  from_enters : (jobs : List (List Op)) (j : ℕ) (logs : List Log)
      → AllByRecursion (λ (log : Log). AllByRecursion P log.writes) logs
      → AllByRecursion Enters (published_from j (map (tells_of jobs) logs))
  from_enters jobs j [] all = tt
  from_enters jobs j (log ∷ logs) all =
      All-append Enters (published_of j (tells_of jobs log)) (published_from (suc j) (map (tells_of jobs) logs))
      (of_enters j (tells_of jobs log)
      (tells_write _ log.events log.reads log.locks log.writes log.snaps all.0))
      (from_enters jobs (suc j) logs all.1)

-- 2. A report

logs_write : (shape : Shape) (logs : List Log) → AllByRecursion (LogIsOf shape) logs
    → AllByRecursion (λ (log : Log). AllByRecursion (ItemFits (widths_of shape.tables)) log.writes) logs
logs_write shape [] all = tt
logs_write shape (log ∷ logs) all = (all.0.writes, logs_write shape logs all.1)

logs_are_fit : (shape : Shape) (logs : List Log) → AllByRecursion (LogIsOf shape) logs
    → AllByRecursion (LogFits shape.workers (widths_of shape.tables)) logs
logs_are_fit shape [] all = tt
logs_are_fit shape (log ∷ logs) all = (all.0.fits, logs_are_fit shape logs all.1)

pub reports_fit : ReportFitsLaw
reports_fit script left history is commits numbers =
    let widths = widths_of script.shape.tables in
    let entries = map entry_of (published_by (told_of script left.logs)) in
    let each : AllByRecursion (EntryFits widths) entries =
    All-map entry_of (EntryFits widths) (published_by (told_of script left.logs))
    (from_enters (ItemFits widths) (setting_of script).jobs 1 left.logs (logs_write script.shape left.logs is.logs)) in
    record {
      workers = is.many;
      history =
          All-from_listed (EntryFits widths) history
          (λ line listed. All-listed (EntryFits widths) entries line each
          (listed_permutation history entries line (IsPermutation-sym entries history commits) listed));
      logs = logs_are_fit script.shape left.logs is.logs;
      audit = is.audit;
      numbers = numbers;
    }

-- 3. The report of a simulated run

pub one_report : OneReportLaw
one_report script is lines =
    let end = scripts_run script is lines in
    record {
      is = record { run = script_run script lines; simulated = end.is; report_is = refl };
      only = λ other o.
          o.report_is
          ∙ ap (λ (run : Run). report_of script (closed script.shape run.world)) (end.only o.run o.simulated);
    }

pub simulated_fit : PublishedLaw → SimulatedFitsLaw
simulated_fit published script is lines report of_ numbers =
    let left = closed script.shape of_.run.world in
    let fits = subst (λ (run : Run). ClosedIsOf script.shape (closed script.shape run.world)) of_.simulated.run_is
    (runs_fit (scenario_of script) (scripts_fit script is) lines of_.simulated.rounds) in
    subst (FitsScript script) (sym of_.report_is)
    (reports_fit script left (arranged script.shape.start (told_of script left.logs)) fits
    (published script.shape.start (told_of script left.logs)) (subst NumbersFit of_.report_is numbers))
