-- A commit as its registers have it: where it stands, beside the transaction.
use Rattle.std.specs.Prelude.{◌≡◌, ℕ, List, Option, Some, None, Bool, true, false}
use Rattle.nam_verbs.specs.declared.now.Now.{Now}
use Rattle.nam_verbs.specs.declared.now.Now.TheVariants.{At, Over}
use Rattle.nam_verbs.specs.declared.verb.Verb.{Verb}
use Rattle.nam_verbs.specs.Now.{FitsNow, verb_now, left_now}
use Rattle.nam_catalog.specs.declared.form.Form.TheVariants.{Held}
use Rattle.nam_catalog.specs.declared.shape.Shape.{Shape}
use Rattle.nam_catalog.specs.Fits.{FitsLimits}
use Rattle.nam_layout.specs.declared.field.Field.TheVariants.{Intent}
use Rattle.nam_layout.specs.Address.{address}
use Rattle.nam_calls.specs.Memory.{verb_there}
use Rattle.nam_protocol.specs.declared.txn.TxnState.{TxnState}
use Rattle.nam_protocol.specs.declared.txn.TxnPoint.{TxnPoint}
use Rattle.nam_protocol.specs.declared.txn.TxnPoint.TheVariants.{Committing}
use Rattle.nam_protocol.specs.declared.txn.TxnAnswer.{TxnAnswer}
use Rattle.nam_protocol.specs.declared.txn.TxnAnswer.TheVariants as answer
use Rattle.nam_protocol.specs.declared.txn.CommitPoint.{CommitPoint}
use Rattle.nam_protocol.specs.declared.txn.CommitPoint.TheVariants as point
use Rattle.nam_protocol.specs.Txn.{Stepped, over}
use Rattle.nam_protocol.specs.Commit.{commit_verb, commit_after, refusal_answer}
use Rattle.nam_protocol.specs.Bound.{commit_left}
use Rattle.nam_protocol.specs.TxnFits.{StateFits, CommitFits}
use Rattle.nam_protocol.specs.declared.txn.ListPoint.{ListPoint}
use Rattle.nam_protocol.specs.declared.txn.ListPoint.TheVariants.{ListRow, ListKind, ListData, ListNumber, ListState}
use Rattle.nam_protocol.specs.declared.txn.Refusal.{Refusal}
use Rattle.nam_protocol.specs.declared.txn.Refusal.TheVariants as refusal
use Rattle.nam_commit.specs.declared.step.ListStep.{ListStep}
use Rattle.nam_commit.specs.declared.step.ListStep.TheVariants as list_step
use Rattle.nam_commit.specs.declared.step.Loss.{Loss}
use Rattle.nam_commit.specs.declared.step.Loss.TheVariants as lost
use Rattle.nam_commit.specs.declared.step.Step.{Step}
use Rattle.nam_commit.specs.declared.step.Step.TheVariants as step

-- 1. What a committer is

-- what is at hand beside the transaction: the address of the worker's intent, and where the commit stands
pub record Commits : Type 0 where
  pub intent_at : ℕ
  pub state : Now CommitPoint TxnAnswer

abbrev pub commits_at : ℕ → Now CommitPoint TxnAnswer → Commits
commits_at intent_at state = record { intent_at = intent_at; state = state }

-- no commit was asked yet
abbrev pub resting : Commits
resting = commits_at 0 (Over answer.ReadOnly)

-- where the transaction's call stands
abbrev pub call_of : Now CommitPoint TxnAnswer → Now TxnPoint TxnAnswer
call_of (At place) = At (Committing place)
call_of (Over end) = Over end

-- the transaction with its commit
abbrev pub committed : TxnState → Commits → Stepped
committed state a = record { state = state; call = call_of a.state }

-- only guards' headers, or the intent's end, are to be written: the worker's entry was
abbrev pub has_published : Now CommitPoint TxnAnswer → Bool
has_published (At (point.Freeing nth)) = true
has_published (At point.Ending) = true
has_published _ = false

-- 2. By the step, and the words got or the old ones in the buffer

abbrev pub list_of : ListStep → ListPoint
list_of (list_step.Row nth) = ListRow nth
list_of (list_step.Kind nth) = ListKind nth
list_of (list_step.Data nth word) = ListData nth word
list_of list_step.Number = ListNumber
list_of list_step.State = ListState

abbrev pub refusal_of : Loss → Refusal
refusal_of (lost.Locked lock) = refusal.Locked lock
refusal_of (lost.Newer lock) = refusal.Newer lock
refusal_of (lost.Full lock) = refusal.Full lock

abbrev pub now_of : Step → List ℕ → Now CommitPoint TxnAnswer
now_of (step.Listing at) words = At (point.Listing (list_of at))
now_of (step.Locking at) words = At (point.Locking at)
now_of (step.Checking at) words = At (point.Checking at)
now_of (step.Returning given full) words = At (point.Returning given full)
now_of (step.Counting nth) words = At (point.Counting nth)
now_of step.Deciding words = At point.Deciding
now_of (step.Saving nth) words = At (point.Saving nth words)
now_of (step.Copying nth at) words = At (point.Copying nth words at)
now_of (step.Installing nth at) words = At (point.Installing nth at)
now_of step.Publishing words = At point.Publishing
now_of (step.Freeing nth) words = At (point.Freeing nth)
now_of (step.Clearing loss) words = At (point.Clearing (refusal_of loss))
now_of step.Ending words = At point.Ending
now_of (step.Refused loss) words = Over (refusal_answer (refusal_of loss))
now_of (step.Committed number) words = Over (answer.Committed number)
now_of step.ReadOnly words = Over answer.ReadOnly
now_of step.Spent words = Over answer.Spent

abbrev pub stepped_by : TxnState → Step → List ℕ → Stepped
stepped_by state step words = record { state = state; call = call_of (now_of step words) }

-- 3. What follows a word, and the number of a commit that is done

abbrev pub commits_after : TxnState → Now CommitPoint TxnAnswer → ℕ → Stepped
commits_after state (At at) found = commit_after state at found
commits_after state (Over end) found = over state end

abbrev pub number_of : Now CommitPoint TxnAnswer → Option ℕ
number_of (Over (answer.Committed number)) = Some number
number_of _ = None

-- 4. What holds of the transaction and its commit in a store of this shape

pub record CommitsFit (shape : Shape) (state : TxnState) (a : Commits) : Type 0 where
  pub limits : FitsLimits shape
  pub state_fits : StateFits shape state
  pub point : FitsNow (CommitFits shape state) a.state
  pub intent : shape.form ≡ Held → a.intent_at ≡ address shape (Intent state.worker 0)

-- it holds of some shape
abbrev pub CommitsStand : TxnState → Commits → Type 0
CommitsStand state a = (shape : Shape) × CommitsFit shape state a

-- the verb that stands, at its address
abbrev pub commits_verb : Shape → TxnState → Commits → Option Verb
commits_verb shape state a = verb_now (λ at. verb_there shape (commit_verb state at)) a.state

-- how many verbs are to come at the most
abbrev pub commits_left : TxnState → Commits → ℕ
commits_left state a = left_now (commit_left state) a.state
