-- Where a driver stands that has a next call.
use Rattle.std.proofs.Common.{◌≡◌, ℕ, ◌<◌, ◌+◌, ◌^◌, List, [], length, true, refl, arith, Option, Some, None}
use Rattle.std.proofs.Common.{subst, sym}
use Rattle.std.specs.Prelude.{slice_get}
use Rattle.std.specs.List.{AllByRecursion}
use Rattle.std.proofs.lemmas.Option.{slice_get_within}
use Rattle.std.proofs.lemmas.Bool.{false≢true}
use Rattle.si_model.specs.declared.op.Op.{Op}
use Rattle.nam_catalog.specs.declared.form.Form.TheVariants.{Narrow}
use Rattle.nam_catalog.specs.declared.shape.Shape.{Shape}
use Rattle.nam_protocol.specs.declared.client.Call.{Call}
use Rattle.nam_protocol.specs.declared.txn.TxnAnswer.{TxnAnswer}
use Rattle.nam_protocol.specs.declared.client.Answer.{Answer}
use Rattle.nam_protocol.specs.declared.session.Job.{Job}
use Rattle.nam_protocol.specs.declared.session.DriverState.{DriverState}
use Rattle.nam_protocol.specs.declared.session.DriverPoint.TheVariants.{ToAsk}
use Rattle.nam_protocol.proofs.EndsSession.{nth_holds}
use Rattle.nam_protocol.specs.Driver.{driver_next, driver_take, job_call, op_call, place_call}
use Rattle.nam_protocol.specs.RoomLaw.{DriverCounts}
use Rattle.nam_protocol.proofs.RoomDriver.{room_suffices}
use Rattle.nam_protocol.specs.AttemptLaw.{has_passed}
use Rattle.nam_worker.specs.Answering.{AnswersNext, IsAnswerTo, IsJob, goes_on, ends_commit}
use Rattle.nam_protocol.specs.declared.txn.TxnAnswer.TheVariants as txn_answer
use Rattle.nam_protocol.specs.declared.client.Answer.TheVariants as answer

-- it stands at a job
job_at : (jobs : List Job) (driver : DriverState) (o : Option Job) (end : Answer) → slice_get jobs driver.job ≡ o
    → AnswersNext (job_call driver o) end → driver.job < length jobs
job_at jobs driver None end here asked = absurd asked
job_at jobs driver (Some job) end here asked = slice_get_within jobs driver.job job here

pub job_follows : (jobs : List Job) (driver : DriverState) (end : Answer) → length jobs < 2 ^ 32
    → AnswersNext (driver_next jobs driver) end → driver.job + 1 < 2 ^ 32
job_follows jobs driver end many asked =
    let l = job_at jobs driver (slice_get jobs driver.job) end refl asked in omega arith

no_commit_passes : (end : TxnAnswer) → ends_commit end ≡ true → has_passed end ≡ true → ⊥
no_commit_passes (txn_answer.Value value) e more = false≢true e
no_commit_passes txn_answer.Written e more = false≢true e
no_commit_passes (txn_answer.Added n) e more = false≢true e
no_commit_passes txn_answer.Met e more = false≢true e
no_commit_passes _ e more = false≢true more

-- the call of an operation that passed is no commit's, so the operation is there
op_here : (ops : List Op) (nth : ℕ) (o : Option Op) (end : Answer) → slice_get ops nth ≡ o
    → IsAnswerTo (op_call o) end → goes_on end ≡ true → nth < length ops
op_here ops nth None (answer.Txn end) here answers more = absurd (no_commit_passes end answers more)
op_here ops nth None end here answers more = absurd answers
op_here ops nth (Some op) end here answers more = slice_get_within ops nth op here

more_at : (jobs : List Job) (driver : DriverState) (nth : ℕ) (o : Option Job) (end : Answer)
    → slice_get jobs driver.job ≡ o → driver.place ≡ ToAsk nth → AllByRecursion IsJob jobs
    → AnswersNext (job_call driver o) end → goes_on end ≡ true → nth + 1 < 2 ^ 32
more_at jobs driver nth None end here stands all asked more = absurd asked
more_at jobs driver nth (Some job) end here stands all asked more =
    let is = nth_holds IsJob jobs driver.job job all here in
    let short = is.short in
    let asked_op = subst (λ p. IsAnswerTo (place_call job driver.nth p) end) stands asked in
    let l = op_here job.ops nth (slice_get job.ops nth) end refl asked_op more in
    omega arith

pub more_follow : (jobs : List Job) (driver : DriverState) (nth : ℕ) (end : Answer)
    → driver.place ≡ ToAsk nth → AllByRecursion IsJob jobs → AnswersNext (driver_next jobs driver) end
    → goes_on end ≡ true → nth + 1 < 2 ^ 32
more_follow jobs driver nth end stands all asked more =
    more_at jobs driver nth (slice_get jobs driver.job) end refl stands all asked more

-- the counts of a driver are those of some room, whatever the shape is
some_shape : Shape
some_shape = record { form = Narrow; workers = 1; tables = []; buckets = 1; cells = 1; start = 0 }

counts_by : (jobs : List Job) (driver : DriverState) (end : Answer) (next : Option Call)
    → driver_next jobs driver ≡ next → DriverCounts driver → AnswersNext next end
    → DriverCounts (driver_take jobs driver end)
counts_by jobs driver end None is counts asked = absurd asked
counts_by jobs driver end (Some call) is counts asked =
    ((room_suffices some_shape).1 jobs driver call end counts is).0

pub counts_taken : (jobs : List Job) (driver after : DriverState) (end : Answer) → DriverCounts driver
    → AnswersNext (driver_next jobs driver) end → after ≡ driver_take jobs driver end → DriverCounts after
counts_taken jobs driver after end counts asked is =
    subst DriverCounts (sym is) (counts_by jobs driver end (driver_next jobs driver) refl counts asked)
