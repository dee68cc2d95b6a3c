-- Which reports fit a script.
use Rattle.std.specs.Prelude.{ℕ, ◌≡◌, ◌<◌, List, length, slice_index, Option, IfSome}
use Rattle.std.specs.List.{AllByRecursion}
use Rattle.si_model.specs.declared.row.Item.{Item}
use Rattle.si_model.specs.declared.log.Lock.{Lock}
use Rattle.si_model.specs.declared.log.Outcome.{Outcome}
use Rattle.si_model.specs.declared.log.Outcome.TheVariants.{Commit, ReadOnly, Declined, NoSpace, Spent, Again, Locked}
use Rattle.si_model.specs.declared.log.Outcome.TheVariants.{Newer, TooOld, Full, Cut, Left}
use Rattle.si_model.specs.declared.log.Event.{Event}
use Rattle.si_model.specs.declared.log.Event.TheVariants.{Tried, NoRoom, Moved, Collected, CollectAgain, CollectCut}
use Rattle.si_model.specs.declared.log.Event.TheVariants.{TidyCut, TailCut, Finished}
use Rattle.si_model.specs.declared.log.Log.{Log}
use Rattle.si_model.specs.declared.report.CommitLine.{CommitLine}
use Rattle.si_model.specs.declared.report.AuditRow.{AuditRow}
use Rattle.si_model.specs.declared.report.Report.{Report}
use Rattle.si_model.specs.Tells.{reads_in, locks_in, total}
use Rattle.nam_catalog.specs.Tables.{widths_of}
use Rattle.nam_script.specs.declared.script.Script.{Script}
use Rattle.nam_report.specs.Numbers.{NumbersFit}

-- the number is one of the tables'
abbrev pub NamesTable : List ℕ → ℕ → Type 0
NamesTable widths t = t < length widths

-- the number is a table's, and the value, if there is one, has the table's width
abbrev pub HasWidth : List ℕ → ℕ → Option (List ℕ) → Type 0
HasWidth widths t value = NamesTable widths t × IfSome value (λ v. length v ≡ slice_index widths t)

abbrev pub ItemFits : List ℕ → Item → Type 0
ItemFits widths i = HasWidth widths i.table i.value

abbrev pub LockFits : List ℕ → Lock → Type 0
LockFits widths l = NamesTable widths l.table

abbrev pub OutcomeFits : List ℕ → Outcome → Type 0
OutcomeFits widths (Commit number) = Unit {0}
OutcomeFits widths ReadOnly = Unit {0}
OutcomeFits widths (Declined op) = Unit {0}
OutcomeFits widths (NoSpace t) = NamesTable widths t
OutcomeFits widths Spent = Unit {0}
OutcomeFits widths (Again j first second) = Unit {0}
OutcomeFits widths (Locked l) = LockFits widths l
OutcomeFits widths (Newer l) = LockFits widths l
OutcomeFits widths (TooOld j entry horizon) = Unit {0}
OutcomeFits widths (Full l) = LockFits widths l
OutcomeFits widths Cut = Unit {0}
OutcomeFits widths Left = Unit {0}

-- the tables are among the script's, and a snapshot has an entry for each worker
abbrev pub EventFits : ℕ → List ℕ → Event → Type 0
EventFits workers widths (Tried a) = OutcomeFits widths a.outcome
EventFits workers widths (NoRoom b) = Unit {0}
EventFits workers widths (Moved b t k stamp how) = NamesTable widths t
EventFits workers widths (Collected b p entries cut) = length entries ≡ workers
EventFits workers widths (CollectAgain b j first second) = Unit {0}
EventFits workers widths (CollectCut b) = Unit {0}
EventFits workers widths (TidyCut t k) = NamesTable widths t
EventFits workers widths TailCut = Unit {0}
EventFits workers widths (Finished how) = Unit {0}

-- the events own all reads and locks of the log, and no more
pub record ItemsFit (l : Log) : Type 0 where
  pub reads : total reads_in l.events ≡ length l.reads
  pub locks : total locks_in l.events ≡ length l.locks

pub record LogFits (workers : ℕ) (widths : List ℕ) (l : Log) : Type 0 where
  pub events : AllByRecursion (EventFits workers widths) l.events
  pub reads : AllByRecursion (ItemFits widths) l.reads
  pub locks : AllByRecursion (LockFits widths) l.locks
  pub counts : ItemsFit l

abbrev pub EntryFits : List ℕ → CommitLine → Type 0
EntryFits widths c = AllByRecursion (ItemFits widths) c.writes

abbrev pub AuditRowFits : List ℕ → AuditRow → Type 0
AuditRowFits widths a = HasWidth widths a.table a.value

-- the report has a log for each worker, and speaks of the script's tables; its numbers fit their fields
pub record FitsScript (s : Script) (r : Report) : Type 0 where
  pub workers : length r.logs ≡ s.shape.workers
  pub history : AllByRecursion (EntryFits (widths_of s.shape.tables)) r.history
  pub logs : AllByRecursion (LogFits s.shape.workers (widths_of s.shape.tables)) r.logs
  pub audit : AllByRecursion (AuditRowFits (widths_of s.shape.tables)) r.audit
  pub numbers : NumbersFit r
