-- Which answers a call has, and which jobs a driver takes.
use Rattle.std.specs.Prelude.{◌≡◌, ◌≤◌, ◌<◌, ◌^◌, if◌then◌else◌, Bool, true, false, List, length, Option, Some, None}
use Rattle.std.specs.List.{AllByRecursion}
use Rattle.si_model.specs.Evaluation.{written_keys}
use Rattle.nam_protocol.specs.declared.txn.TxnAnswer.{TxnAnswer}
use Rattle.nam_protocol.specs.declared.txn.TxnAnswer.TheVariants.{Committed, ReadOnly, TooOld, NoSpace, Declined, Spent}
use Rattle.nam_protocol.specs.declared.txn.TxnAnswer.TheVariants.{Locked, Newer, Full, Astray}
use Rattle.nam_protocol.specs.declared.txn.TxnCall.{TxnCall}
use Rattle.nam_protocol.specs.declared.txn.TxnCall.TheVariants.{Commit}
use Rattle.nam_protocol.specs.declared.client.Call.{Call}
use Rattle.nam_protocol.specs.declared.client.Call.TheVariants as call
use Rattle.nam_protocol.specs.declared.client.Answer.{Answer}
use Rattle.nam_protocol.specs.declared.client.Answer.TheVariants.{Begun, Again, Scanned, Moved, Back, Nothing, NoRoom}
use Rattle.nam_protocol.specs.declared.client.Answer.TheVariants.{Collected}
use Rattle.nam_protocol.specs.declared.client.Answer.TheVariants as answer
use Rattle.nam_protocol.specs.declared.session.Job.{Job}
use Rattle.nam_protocol.specs.AttemptLaw.{has_passed}

-- 1. Answers

-- a read, of an operation or of a scan, may find its snapshot too old
abbrev pub ends_read : TxnAnswer → Bool
ends_read (TooOld worker entry horizon) = true
ends_read Astray = true
ends_read _ = false

-- an operation passes, or doesn't find what it needs
abbrev pub ends_op : TxnAnswer → Bool
ends_op (NoSpace table) = true
ends_op Declined = true
ends_op end = if has_passed end then true else ends_read end

abbrev pub ends_commit : TxnAnswer → Bool
ends_commit (Committed number) = true
ends_commit ReadOnly = true
ends_commit Spent = true
ends_commit (Locked lock) = true
ends_commit (Newer lock) = true
ends_commit (Full lock) = true
ends_commit _ = false

abbrev pub IsTxnAnswer : TxnCall → TxnAnswer → Type 0
IsTxnAnswer Commit end = ends_commit end ≡ true
IsTxnAnswer op end = ends_op end ≡ true

-- the answer is one to the call
abbrev pub IsAnswerTo : Call → Answer → Type 0
IsAnswerTo (call.Begin txn nth) (Begun prefix) = Unit {0}
IsAnswerTo (call.Begin txn nth) (Again worker first second) = Unit {0}
IsAnswerTo (call.Txn op) (answer.Txn end) = IsTxnAnswer op end
IsAnswerTo (call.Scan table low high) (Scanned items) = Unit {0}
IsAnswerTo (call.Scan table low high) (answer.Txn end) = ends_read end ≡ true
IsAnswerTo (call.Tidy table key) Moved = Unit {0}
IsAnswerTo (call.Tidy table key) Back = Unit {0}
IsAnswerTo (call.Tidy table key) Nothing = Unit {0}
IsAnswerTo (call.Tidy table key) (NoRoom bucket) = Unit {0}
IsAnswerTo (call.Collect bucket) (Collected known) = Unit {0}
IsAnswerTo (call.Collect bucket) (Again worker first second) = Unit {0}
IsAnswerTo _ _ = ⊥

-- does the operation after it follow
abbrev pub goes_on : Answer → Bool
goes_on (answer.Txn end) = has_passed end
goes_on _ = true

-- there is a next call, and the answer is one to it
abbrev pub AnswersNext : Option Call → Answer → Type 0
AnswersNext None end = ⊥
AnswersNext (Some next) end = IsAnswerTo next end

-- 2. Jobs

-- it has a number of operations that a word of 32 bits bears, and writes no more keys than a transaction may
pub record IsJob (job : Job) : Type 0 where
  pub short : length job.ops < 2 ^ 32
  pub few : length (written_keys job.ops) ≤ 16

pub record AreJobs (jobs : List Job) : Type 0 where
  pub many : length jobs < 2 ^ 32
  pub each : AllByRecursion IsJob jobs
