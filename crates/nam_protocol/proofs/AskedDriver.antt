-- A driver asks an attempt's calls in their order.
use Rattle.std.proofs.Common.{◌≡◌, ◌⊎◌, inl, inr, ⊎_elim, ℕ, zero, suc, ◌+◌, ◌≤◌, Bool, true, false, List, [], ◌∷◌}
use Rattle.std.proofs.Common.{◌++◌, map, length, drop, Some, refl, sym, ap, subst, ◌∙◌, arith}
use Rattle.std.proofs.Math.Numerals.{add-one}
use Rattle.std.specs.Prelude.{if◌then◌else◌, slice_get}
use Rattle.std.proofs.lemmas.Bool.{false≢true}
use Rattle.si_model.specs.declared.op.Op.{Op}
use Rattle.si_model.specs.Lists.{IsFront}
use Rattle.nam_protocol.specs.declared.client.Answer.{Answer}
use Rattle.nam_protocol.specs.declared.client.Call.{Call}
use Rattle.nam_protocol.specs.declared.session.DriverPoint.TheVariants.{ToAsk}
use Rattle.nam_protocol.specs.declared.session.DriverState.{DriverState}
use Rattle.nam_protocol.specs.declared.session.Job.{Job}
use Rattle.nam_protocol.specs.declared.txn.TxnAnswer.{TxnAnswer}
use Rattle.nam_protocol.specs.declared.txn.TxnCall.TheVariants.{Commit}
use Rattle.nam_protocol.specs.AskedLaw.{DriverAsksLaw, attempt_calls, calls_until_over, listed_call}
use Rattle.nam_protocol.specs.Driver.{call_of, driver_next, driver_take, job_call, on_ask, on_begin, on_txn, op_call}
use Rattle.nam_protocol.specs.Driver.{place_call, place_taken}
use Rattle.nam_protocol.specs.SessionKeeps.{is_asking}
use Rattle.nam_protocol.proofs.OpensDriver.{Rests, commit_rests, full_rests, retried_rests}
use Rattle.nam_protocol.specs.declared.client.Answer.TheVariants as answer
use Rattle.nam_protocol.specs.declared.client.Call.TheVariants as call
use Rattle.nam_protocol.specs.declared.txn.TxnAnswer.TheVariants as txn_answer

-- 1. After an answer the driver asks the next operation of the same try, or its attempt is over

abbrev pub GoesTo : DriverState → ℕ → DriverState → Type 0
GoesTo driver nth next = (next ≡ record driver { place = ToAsk nth }) ⊎ Rests next

module _ (jobs : List Job) (driver : DriverState) where
  pub begin_goes_to : (end : Answer) → GoesTo driver 0 (on_begin driver end)
  begin_goes_to (answer.Begun prefix) = inl refl
  begin_goes_to (answer.Again worker first second) = inr (retried_rests driver)
  begin_goes_to (answer.Txn end) = inr (retried_rests driver)
  begin_goes_to (answer.Scanned items) = inr (retried_rests driver)
  begin_goes_to answer.Moved = inr (retried_rests driver)
  begin_goes_to answer.Back = inr (retried_rests driver)
  begin_goes_to answer.Nothing = inr (retried_rests driver)
  begin_goes_to (answer.NoRoom bucket) = inr (retried_rests driver)
  begin_goes_to (answer.Collected known) = inr (retried_rests driver)

  txn_goes_to : (nth : ℕ) (end : TxnAnswer) → GoesTo driver (nth + 1) (on_txn jobs driver nth end)
  txn_goes_to nth (txn_answer.Value value) = inl refl
  txn_goes_to nth txn_answer.Written = inl refl
  txn_goes_to nth (txn_answer.Added n) = inl refl
  txn_goes_to nth txn_answer.Met = inl refl
  txn_goes_to nth (txn_answer.Committed number) = inr (commit_rests jobs driver)
  txn_goes_to nth txn_answer.ReadOnly = inr refl
  txn_goes_to nth (txn_answer.TooOld worker entry horizon) = inr (retried_rests driver)
  txn_goes_to nth (txn_answer.NoSpace table) = inr refl
  txn_goes_to nth txn_answer.Declined = inr refl
  txn_goes_to nth txn_answer.Spent = inr refl
  txn_goes_to nth (txn_answer.Locked lock) = inr (retried_rests driver)
  txn_goes_to nth (txn_answer.Newer lock) = inr (retried_rests driver)
  txn_goes_to nth (txn_answer.Full lock) = inr (full_rests driver lock)
  txn_goes_to nth txn_answer.Astray = inr refl

  pub ask_goes_to : (nth : ℕ) (end : Answer) → GoesTo driver (nth + 1) (on_ask jobs driver nth end)
  ask_goes_to nth (answer.Txn end) = txn_goes_to nth end
  ask_goes_to nth (answer.Begun prefix) = inl refl
  ask_goes_to nth (answer.Again worker first second) = inl refl
  ask_goes_to nth (answer.Scanned items) = inl refl
  ask_goes_to nth answer.Moved = inl refl
  ask_goes_to nth answer.Back = inl refl
  ask_goes_to nth answer.Nothing = inl refl
  ask_goes_to nth (answer.NoRoom bucket) = inl refl
  ask_goes_to nth (answer.Collected known) = inl refl

-- 2. The calls from an operation on

abbrev last_call : List Call
last_call = call.Txn Commit ∷ []

-- the next call, and those after it
next_is : (ops : List Op) (nth : ℕ) → nth ≤ length ops
    → (rest : List Call) × (drop nth (map call_of ops ++ last_call) ≡ op_call (slice_get ops nth) ∷ rest)
next_is [] zero l = ([], refl)
next_is [] (suc nth) l = absurd (omega arith)
next_is (op ∷ ops) zero l = (map call_of ops ++ last_call, refl)
next_is (op ∷ ops) (suc nth) l = next_is ops nth (omega arith)

drop_next : {A : Type 0} (xs : List A) (nth : ℕ) (x : A) (rest : List A) → drop nth xs ≡ x ∷ rest
    → drop (nth + 1) xs ≡ rest
drop_next [] zero x rest e = absurd (cc)
drop_next [] (suc nth) x rest e = absurd (cc)
drop_next (y ∷ ys) zero x rest e = tail_is e
  where
    tail_of : {A : Type 0} → List A → List A
    tail_of [] = []
    tail_of (z ∷ zs) = zs

    tail_is : y ∷ ys ≡ x ∷ rest → ys ≡ rest
    tail_is f = ap tail_of f
drop_next (y ∷ ys) (suc nth) x rest e = rw add-one (rw add-one at (drop_next ys nth x rest e))

module _ (jobs : List Job) (job : Job) where
  abbrev op_calls : List Call
  op_calls = map call_of job.ops ++ last_call

  -- the call, and those after it where the attempt goes on
  front_of : (asked : Call) (next : DriverState) (more rest : List Call)
      → (is_asking next.place ≡ true → IsFront more rest)
      → IsFront (asked ∷ (if is_asking next.place then more else [])) (asked ∷ rest)
  front_of asked next more rest front = by_place (is_asking next.place) front
    where
      by_place : (asking : Bool) → (asking ≡ true → IsFront more rest)
          → IsFront (asked ∷ (if asking then more else [])) (asked ∷ rest)
      by_place true f = ((f refl).0, ap (λ calls. asked ∷ calls) (f refl).1)
      by_place false f = (rest, refl)

  -- what is asked first, and after the answer
  begins_front : (driver : DriverState) (end : Answer) (ends : List Answer) (asked : Call) (rest all : List Call)
      → driver_next jobs driver ≡ Some asked → all ≡ asked ∷ rest
      → (is_asking (driver_take jobs driver end).place ≡ true
      → IsFront (calls_until_over jobs (driver_take jobs driver end) ends) rest)
      → IsFront (calls_until_over jobs driver (end ∷ ends)) all
  begins_front driver end ends asked rest all asks whole later =
      let next = driver_take jobs driver end in
      let more = calls_until_over jobs next ends in
      subst (λ o. IsFront (listed_call o ++ (if is_asking next.place then more else [])) all) (sym asks)
      (subst (IsFront (asked ∷ (if is_asking next.place then more else []))) (sym whole)
      (front_of asked next more rest later))

  asks_on : (answers : List Answer) (driver : DriverState) (nth : ℕ) → slice_get jobs driver.job ≡ Some job
      → driver.place ≡ ToAsk nth → nth + length answers ≤ length job.ops
      → IsFront (calls_until_over jobs driver answers) (drop nth op_calls)
  asks_on [] driver nth here at l =
      let n = next_is job.ops nth (omega arith) in (
        n.0,
        ap (λ o. listed_call o ++ n.0)
            (ap (job_call driver) here ∙ ap (λ place. Some (place_call job driver.nth place)) at) ∙ sym n.1,
      )
  asks_on (end ∷ ends) driver nth here at l =
      let n = next_is job.ops nth (omega arith) in
      let next = driver_take jobs driver end in
      let asked = op_call (slice_get job.ops nth) in
      let goes = subst (λ place. GoesTo driver (nth + 1) (place_taken jobs driver place end)) (sym at)
      (ask_goes_to jobs driver nth end) in
      begins_front driver end ends asked n.0 (drop nth op_calls)
      (ap (job_call driver) here ∙ ap (λ place. Some (place_call job driver.nth place)) at) n.1
      (λ asking. ⊎_elim
      (λ e. subst (IsFront (calls_until_over jobs next ends)) (drop_next op_calls nth asked n.0 n.1)
      (asks_on ends next (nth + 1) (subst (λ (d : DriverState). slice_get jobs d.job ≡ Some job) (sym e) here)
      (ap (λ (d : DriverState). d.place) e) (omega arith)))
      (λ rests. absurd (false≢true (sym rests ∙ asking))) goes)

pub driver_asks : DriverAsksLaw
driver_asks jobs driver job [] here at l = (
  op_calls jobs job,
  ap (λ o. listed_call o ++ op_calls jobs job)
      (ap (job_call driver) here ∙ ap (λ place. Some (place_call job driver.nth place)) at),
)
driver_asks jobs driver job (end ∷ ends) here at l =
    let next = driver_take jobs driver end in
    let goes = subst (λ place. GoesTo driver 0 (place_taken jobs driver place end)) (sym at)
    (begin_goes_to jobs driver end) in
    begins_front jobs job driver end ends (call.Begin job.txn driver.nth) (op_calls jobs job)
    (attempt_calls job driver.nth)
    (ap (job_call driver) here ∙ ap (λ place. Some (place_call job driver.nth place)) at) refl
    (λ asking. ⊎_elim
    (λ e. asks_on jobs job ends next 0 (subst (λ (d : DriverState). slice_get jobs d.job ≡ Some job) (sym e) here)
    (ap (λ (d : DriverState). d.place) e) (omega arith))
    (λ rests. absurd (false≢true (sym rests ∙ asking))) goes)
