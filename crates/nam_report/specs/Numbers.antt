-- The ranges of a report's numbers: each fits the type of the field that holds it.
use Rattle.std.specs.Prelude.{ℕ, ◌^◌, ◌<◌, List, length, IfSome}
use Rattle.std.specs.List.{AllByRecursion}
use Rattle.si_model.specs.declared.row.Item.{Item}
use Rattle.si_model.specs.declared.log.Lock.{Lock}
use Rattle.si_model.specs.declared.log.Stamp.{Stamp}
use Rattle.si_model.specs.declared.log.Attempt.{Attempt}
use Rattle.si_model.specs.declared.log.Outcome.{Outcome}
use Rattle.si_model.specs.declared.log.Outcome.TheVariants.{Commit, ReadOnly, Declined, NoSpace, Spent, Again, Locked}
use Rattle.si_model.specs.declared.log.Outcome.TheVariants.{Newer, TooOld, Full, Cut, Left}
use Rattle.si_model.specs.declared.log.Event.{Event}
use Rattle.si_model.specs.declared.log.Event.TheVariants.{Tried, NoRoom, Moved, Collected, CollectAgain, CollectCut}
use Rattle.si_model.specs.declared.log.Event.TheVariants.{TidyCut, TailCut, Finished}
use Rattle.si_model.specs.declared.log.Log.{Log}
use Rattle.si_model.specs.declared.report.CommitLine.{CommitLine}
use Rattle.si_model.specs.declared.report.AuditRow.{AuditRow}
use Rattle.si_model.specs.declared.report.Report.{Report}

abbrev pub IsU32 : ℕ → Type 0
IsU32 n = n < 2 ^ 32

abbrev pub IsU64 : ℕ → Type 0
IsU64 n = n < 2 ^ 64

abbrev pub WordsFit : List ℕ → Type 0
WordsFit words = AllByRecursion IsU64 words

abbrev pub ItemNumbersFit : Item → Type 0
ItemNumbersFit i = IsU64 i.key × IfSome i.value WordsFit

abbrev pub StampNumbersFit : Stamp → Type 0
StampNumbersFit s = IsU32 s.thread × IsU64 s.number

abbrev pub LockNumbersFit : Lock → Type 0
LockNumbersFit l = IsU64 l.key × StampNumbersFit l.stamp

abbrev pub OutcomeNumbersFit : Outcome → Type 0
OutcomeNumbersFit (Commit number) = IsU64 number
OutcomeNumbersFit ReadOnly = Unit {0}
OutcomeNumbersFit (Declined op) = IsU32 op
OutcomeNumbersFit (NoSpace t) = Unit {0}
OutcomeNumbersFit Spent = Unit {0}
OutcomeNumbersFit (Again j first second) = IsU32 j × IsU64 first × IsU64 second
OutcomeNumbersFit (Locked l) = LockNumbersFit l
OutcomeNumbersFit (Newer l) = LockNumbersFit l
OutcomeNumbersFit (TooOld j entry horizon) = IsU32 j × IsU64 entry × IsU64 horizon
OutcomeNumbersFit (Full l) = LockNumbersFit l
OutcomeNumbersFit Cut = Unit {0}
OutcomeNumbersFit Left = Unit {0}

abbrev pub AttemptNumbersFit : Attempt → Type 0
AttemptNumbersFit a = IsU32 a.txn × IsU32 a.nth × IfSome a.prefix IsU64 × OutcomeNumbersFit a.outcome

abbrev pub EventNumbersFit : Event → Type 0
EventNumbersFit (Tried a) = AttemptNumbersFit a
EventNumbersFit (NoRoom b) = IsU32 b
EventNumbersFit (Moved b t k stamp how) = IsU32 b × IsU64 k × StampNumbersFit stamp
EventNumbersFit (Collected b p entries cut) = IsU32 b × IsU64 p × WordsFit entries
EventNumbersFit (CollectAgain b j first second) = IsU32 b × IsU32 j × IsU64 first × IsU64 second
EventNumbersFit (CollectCut b) = IsU32 b
EventNumbersFit (TidyCut t k) = IsU64 k
EventNumbersFit TailCut = Unit {0}
EventNumbersFit (Finished how) = Unit {0}

pub record LogNumbersFit (l : Log) : Type 0 where
  pub few : IsU64 (length l.events)
  pub events : AllByRecursion EventNumbersFit l.events
  pub reads : AllByRecursion ItemNumbersFit l.reads
  pub locks : AllByRecursion LockNumbersFit l.locks

pub record EntryNumbersFit (c : CommitLine) : Type 0 where
  pub worker : IsU32 c.worker
  pub number : IsU64 c.number
  pub prefix : IsU64 c.prefix
  pub txn : IsU32 c.txn
  pub writes : AllByRecursion ItemNumbersFit c.writes

abbrev pub RowNumbersFit : AuditRow → Type 0
RowNumbersFit a = IsU64 a.key × IfSome a.value WordsFit

-- each number that the text of the report shows fits its field, and each length that it shows is one that a list can have
pub record NumbersFit (r : Report) : Type 0 where
  pub entries : IsU64 (length r.history)
  pub history : AllByRecursion EntryNumbersFit r.history
  pub logs : AllByRecursion LogNumbersFit r.logs
  pub rows : IsU64 (length r.audit)
  pub audit : AllByRecursion RowNumbersFit r.audit
