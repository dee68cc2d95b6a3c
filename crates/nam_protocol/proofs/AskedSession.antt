-- The call that runs in a session is the one that its driver asks, and the open transaction is its driver's try.
use Rattle.std.proofs.Common.{◌≡◌, inr, ⊎_elim, ℕ, zero, suc, ◌+◌, Bool, true, false, List, [], ◌∷◌}
use Rattle.std.proofs.Common.{length, take, Option, Some, None, refl, sym, ap, subst, ◌∙◌}
use Rattle.std.proofs.lemmas.Bool.{false≢true}
use Rattle.std.proofs.Math.Numerals.{add-one}
use Rattle.std.proofs.lemmas.List.{length_push}
use Rattle.std.specs.Prelude.{slice_get, is_some, IsSome}
use Rattle.si_model.specs.declared.op.Op.{Op}
use Rattle.si_model.specs.declared.op.Op.TheVariants as op
use Rattle.nam_verbs.specs.declared.now.Now.{Now}
use Rattle.nam_verbs.specs.declared.now.Now.TheVariants.{At, Over}
use Rattle.nam_catalog.specs.declared.shape.Shape.{Shape}
use Rattle.nam_protocol.specs.declared.client.Answer.{Answer}
use Rattle.nam_protocol.specs.declared.client.Call.{Call}
use Rattle.nam_protocol.specs.declared.client.CallPoint.{CallPoint}
use Rattle.nam_protocol.specs.declared.client.CallPoint.TheVariants.{Beginning, InTxn, Scanning, Seeking, Moving}
use Rattle.nam_protocol.specs.declared.client.CallPoint.TheVariants.{Snapping, Collecting}
use Rattle.nam_protocol.specs.declared.client.ClientState.{ClientState}
use Rattle.nam_protocol.specs.declared.client.Open.{Open}
use Rattle.nam_protocol.specs.declared.scan.ScanPoint.{ScanPoint}
use Rattle.nam_protocol.specs.declared.session.DriverPoint.{DriverPoint}
use Rattle.nam_protocol.specs.declared.session.DriverPoint.TheVariants.{ToBegin, ToAsk, ToTidy, ToCollect}
use Rattle.nam_protocol.specs.declared.session.DriverState.{DriverState}
use Rattle.nam_protocol.specs.declared.session.Job.{Job}
use Rattle.nam_protocol.specs.declared.session.SessionState.{SessionState}
use Rattle.nam_protocol.specs.declared.txn.TxnCall.TheVariants.{Get, Put, Add, Del, Need, Guard, Commit}
use Rattle.nam_protocol.specs.declared.txn.TxnPoint.{TxnPoint}
use Rattle.nam_protocol.specs.declared.txn.TxnPoint.TheVariants.{Finding, Reading, Claiming, Committing}
use Rattle.nam_protocol.specs.AskedLaw.{IsTry, SessionAsksLaw, call_at, ops_asked}
use Rattle.nam_protocol.specs.Client.{call_after, client_after, client_ask, take_scan, take_txn}
use Rattle.nam_protocol.specs.Client.{after_call, with_call}
use Rattle.nam_protocol.specs.ClientEvents.{NowLists, is_open_after}
use Rattle.nam_protocol.specs.ClientFits.{CallPointFits, NowFits}
use Rattle.nam_protocol.specs.Commit.{ask_commit}
use Rattle.nam_protocol.specs.Driver.{call_of, driver_take, job_call, op_call, place_call, place_taken}
use Rattle.nam_protocol.specs.SessionFits.{NowRuns, PlaceRuns, SessionFits, is_running, ops_of}
use Rattle.nam_protocol.specs.SessionKeeps.{OpensAsked, is_asking}
use Rattle.nam_protocol.specs.Telling.{stepped}
use Rattle.nam_protocol.specs.Txn.{Stepped, ask_op}
use Rattle.nam_protocol.specs.TxnCalls.{txn_after}
use Rattle.nam_protocol.proofs.AskedDriver.{GoesTo, ask_goes_to, begin_goes_to}
use Rattle.nam_protocol.proofs.OpensDriver.{asks_after, tidying_rests}
use Rattle.nam_protocol.proofs.GoesClient.{begin_goes, collect_goes, move_goes, on_answer_goes, scan_goes, seek_goes}
use Rattle.nam_protocol.proofs.GoesClient.{snap_goes, step_lists, step_opens, stepped_goes}
use Rattle.nam_protocol.proofs.GoesCommit.{ask_commit_goes, commit_goes}
use Rattle.nam_protocol.proofs.GoesSession.{NextHolds, SessionKeeps, Steps, reached_kept}
use Rattle.nam_protocol.proofs.GoesTxn.{ask_goes, claiming_goes, finding_goes, reading_goes}
use Rattle.nam_protocol.proofs.RunsClient.{NowDoes, take_more}
use Rattle.nam_protocol.specs.declared.client.Answer.TheVariants as answer
use Rattle.nam_protocol.specs.declared.client.Call.TheVariants as call

-- 1. A call stays itself while it runs

abbrev pub NowOf : Call → Option (Now CallPoint Answer) → Type 0
NowOf asked (Some (At place)) = call_at place ≡ asked
NowOf asked _ = Unit {0}

abbrev pub IsOf : Call → ClientState → Type 0
IsOf asked client = NowOf asked client.call

module _ (shape : Shape) where
  txn_word_of : (client : ClientState) (place : TxnPoint) (attempt : Open) (before found : ℕ)
      → IsOf (call_at (InTxn place)) (stepped client attempt before (txn_after shape attempt.state place found))
  txn_word_of client (Finding op passed) attempt before found =
      finding_goes shape (λ step. IsOf (call_of op) (stepped client attempt before step)) op attempt.state passed found
      (λ next e. refl) (λ position e. refl) (λ e f. refl) (λ e end s. tt)
  txn_word_of client (Reading op position at) attempt before found =
      reading_goes shape (λ step. IsOf (call_of op) (stepped client attempt before step)) op attempt.state position at
      found (λ next e. refl) (λ value e f. refl) (λ value e end s. tt) (λ worker entry horizon e. tt) (λ e. tt)
  txn_word_of client (Claiming op at) attempt before found =
      claiming_goes shape (λ step. IsOf (call_of op) (stepped client attempt before step)) op attempt.state at found
      (λ next e. refl) (λ e. tt) (λ position e end s f. tt)
  txn_word_of client (Committing at) attempt before found =
      commit_goes (λ step. IsOf (call.Txn Commit) (stepped client attempt before step)) attempt.state at found
      (λ next to. refl) (λ header next e to. refl) (λ place count next e to. refl) (λ end ends. tt)

  take_txn_of : (client : ClientState) (place : TxnPoint) (opened : Option Open) (found : ℕ) → IsSome opened
      → IsOf (call_at (InTxn place)) (take_txn shape client place opened found)
  take_txn_of client place None found some = absurd (cc)
  take_txn_of client place (Some attempt) found some = txn_word_of client place attempt _ found

  take_scan_of : (client : ClientState) (table low high : ℕ) (at : ScanPoint) (opened : Option Open) (found : ℕ)
      → IsSome opened → IsOf (call.Scan table low high) (take_scan shape client table low high at opened found)
  take_scan_of client table low high at None found some = absurd (cc)
  take_scan_of client table low high at (Some attempt) found some =
      scan_goes (IsOf (call.Scan table low high)) shape client attempt table low high _ _ (λ next e. refl)
      (λ key e. refl) (λ rows e. refl) (λ rows. tt) (λ how end e. tt)

  -- a transaction's calls need one that is open
  abbrev NeedsTxn : CallPoint → Option Open → Type 0
  NeedsTxn (InTxn at) opened = IsSome opened
  NeedsTxn (Scanning table low high at) opened = IsSome opened
  NeedsTxn _ opened = Unit {0}

  word_of : (client : ClientState) (place : CallPoint) (found : ℕ) → NeedsTxn place client.txn
      → IsOf (call_at place) (call_after shape client place found)
  word_of client (Beginning txn nth at) found needs =
      begin_goes (IsOf (call.Begin txn nth)) shape client txn nth _ (λ next e. refl) (λ seen e. tt)
      (λ worker first second e. tt)
  word_of client (InTxn at) found needs = take_txn_of client at client.txn found needs
  word_of client (Scanning table low high at) found needs =
      take_scan_of client table low high at client.txn found needs
  word_of client (Seeking table key passed) found needs =
      seek_goes (IsOf (call.Tidy table key)) shape client table key _ (λ next e. refl) (λ position e. refl) (λ e. tt)
  word_of client (Moving table key position at) found needs =
      move_goes (IsOf (call.Tidy table key)) shape client table key position _ _ (λ next e. refl) (λ stamp e. tt)
      (λ stamp e. tt) (λ e. tt) (λ full e. tt)
  word_of client (Snapping bucket at) found needs =
      snap_goes (IsOf (call.Collect bucket)) shape client bucket _ (λ next e. refl) (λ seen e. refl)
      (λ worker first second e. tt)
  word_of client (Collecting bucket prefix seen at) found needs =
      collect_goes (IsOf (call.Collect bucket)) shape client bucket prefix seen _ (λ next e. refl) (λ known e. tt)

  -- 2. It is asked

  op_asked_of : (client : ClientState) (attempt again : Open) (op : Op)
      → IsOf (call_of op) (stepped client again 0 (ask_op shape attempt.state op))
  op_asked_of client attempt again op =
      ask_goes shape (λ step. IsOf (call_of op) (stepped client again 0 step)) op attempt.state (λ e f. tt) (λ e f. tt)
      (λ e f. refl) (λ e f. refl)

  asked_of : (client : ClientState) (o : Option Op) (opened : Option Open) → IsSome opened
      → IsOf (op_call o) (client_ask shape (record client { txn = opened }) (op_call o))
  asked_of client o None some = absurd (cc)
  asked_of client None (Some attempt) some =
      ask_commit_goes (λ step. IsOf (call.Txn Commit) (stepped (record client { txn = Some attempt }) attempt 0 step))
      attempt.state shape (λ e. tt) (λ e f. tt) (λ e f t. refl) (λ e f t. refl)
  asked_of client (Some (op.Get t k)) (Some attempt) some =
      op_asked_of (record client { txn = Some attempt }) attempt (with_call attempt (Get t k)) (op.Get t k)
  asked_of client (Some (op.Put t k v)) (Some attempt) some =
      op_asked_of (record client { txn = Some attempt }) attempt (with_call attempt (Put t k v)) (op.Put t k v)
  asked_of client (Some (op.Add t k f up by)) (Some attempt) some =
      op_asked_of (record client { txn = Some attempt }) attempt (with_call attempt (Add t k f up by))
      (op.Add t k f up by)
  asked_of client (Some (op.Del t k)) (Some attempt) some =
      op_asked_of (record client { txn = Some attempt }) attempt (with_call attempt (Del t k)) (op.Del t k)
  asked_of client (Some (op.Need t k f least)) (Some attempt) some =
      op_asked_of (record client { txn = Some attempt }) attempt (with_call attempt (Need t k f least))
      (op.Need t k f least)
  asked_of client (Some (op.Guard t k)) (Some attempt) some =
      op_asked_of (record client { txn = Some attempt }) attempt (with_call attempt (Guard t k)) (op.Guard t k)
  asked_of client (Some (op.Scan t low high)) (Some attempt) some = refl

-- 3. The try of a job

abbrev pub OpenTry : Job → ℕ → ℕ → Option Open → Type 0
OpenTry job nth asked None = Unit {0}
OpenTry job nth asked (Some attempt) = IsTry job nth asked attempt

module _ (shape : Shape) (job : Job) (nth asked : ℕ) where
  abbrev OnTry : ClientState → Type 0
  OnTry client = OpenTry job nth asked client.txn

  stepped_try : (client : ClientState) (attempt : Open) (before : ℕ) (step : Stepped) → IsTry job nth asked attempt
      → OnTry (stepped client attempt before step)
  stepped_try client attempt before step is =
      stepped_goes OnTry client attempt before step
      (λ place e. record { txn = is.txn; try = is.try; ops = is.ops })
      (λ end e. on_answer_goes OnTry (step_lists client before step) (step_opens attempt before step) end
      (λ f. record { txn = is.txn; try = is.try; ops = is.ops }) (λ how f. tt) (λ how f. tt) (λ number f. tt))

  take_txn_try : (client : ClientState) (at : TxnPoint) (opened : Option Open) (found : ℕ) → IsSome opened
      → OpenTry job nth asked opened → OnTry (take_txn shape client at opened found)
  take_txn_try client at None found some is = absurd (cc)
  take_txn_try client at (Some attempt) found some is = stepped_try client attempt _ _ is

  take_scan_try : (client : ClientState) (table low high : ℕ) (at : ScanPoint) (opened : Option Open) (found : ℕ)
      → IsSome opened → OnTry client → OpenTry job nth asked opened
      → OnTry (take_scan shape client table low high at opened found)
  take_scan_try client table low high at None found some on is = absurd (cc)
  take_scan_try client table low high at (Some attempt) found some on is =
      scan_goes OnTry shape client attempt table low high _ _ (λ next e. on) (λ key e. on) (λ rows e. on)
      (λ rows. record { txn = is.txn; try = is.try; ops = is.ops }) (λ how end e. tt)

  -- a begin is that of this try
  abbrev BeginsTry : CallPoint → Type 0
  BeginsTry (Beginning t n at) = (t ≡ job.txn) × (n ≡ nth) × (0 ≡ asked)
  BeginsTry _ = Unit {0}

  word_try : (client : ClientState) (place : CallPoint) (found : ℕ) → NeedsTxn shape place client.txn
      → BeginsTry place → OnTry client → OnTry (call_after shape client place found)
  word_try client (Beginning t n at) found needs begins on =
      begin_goes OnTry shape client t n _ (λ next e. on)
      (λ seen e. record { txn = begins.0; try = begins.1; ops = begins.2 }) (λ worker first second e. on)
  word_try client (InTxn at) found needs begins on = take_txn_try client at client.txn found needs on
  word_try client (Scanning table low high at) found needs begins on =
      take_scan_try client table low high at client.txn found needs on on
  word_try client (Seeking table key passed) found needs begins on =
      seek_goes OnTry shape client table key _ (λ next e. on) (λ position e. on) (λ e. on)
  word_try client (Moving table key position at) found needs begins on =
      move_goes OnTry shape client table key position _ _ (λ next e. on) (λ stamp e. on) (λ stamp e. on) (λ e. on)
      (λ full e. on)
  word_try client (Snapping bucket at) found needs begins on =
      snap_goes OnTry shape client bucket _ (λ next e. on) (λ seen e. on) (λ worker first second e. on)
  word_try client (Collecting bucket prefix seen at) found needs begins on =
      collect_goes OnTry shape client bucket prefix seen _ (λ next e. on) (λ known e. on)

-- one operation more, or the commit after all of them
counted : (ops : List Op) (nth : ℕ) (op : Op) → slice_get ops nth ≡ Some op
    → length (take nth ops) + 1 ≡ length (take (nth + 1) ops)
counted ops nth op here = sym (length_push (take nth ops) op) ∙ ap length (sym (take_more ops nth op here))

none_more : (ops : List Op) (nth : ℕ) → slice_get ops nth ≡ None → take nth ops ≡ take (nth + 1) ops
none_more [] zero here = refl
none_more [] (suc nth) here = rw add-one refl
none_more (op ∷ ops) zero here = absurd (cc)
none_more (op ∷ ops) (suc nth) here =
    rw add-one (ap (λ more. op ∷ more) (rw add-one at (none_more ops nth here)))

module _ (shape : Shape) (job : Job) (try : ℕ) (ops : List Op) (nth : ℕ) where
  op_try : (client : ClientState) (attempt again : Open) (op : Op) → slice_get ops nth ≡ Some op
      → IsTry job try (length (take nth ops)) attempt → again.txn ≡ attempt.txn → again.nth ≡ attempt.nth
      → again.ops ≡ attempt.ops + 1
      → OnTry shape job try (length (take (nth + 1) ops)) (stepped client again 0 (ask_op shape attempt.state op))
  op_try client attempt again op here is txn same more =
      stepped_try shape job try (length (take (nth + 1) ops)) client again 0 (ask_op shape attempt.state op) record {
        txn = txn ∙ is.txn;
        try = same ∙ is.try;
        ops = more ∙ ap (λ n. n + 1) is.ops ∙ counted ops nth op here;
      }

  asked_try : (client : ClientState) (o : Option Op) (opened : Option Open) → slice_get ops nth ≡ o → IsSome opened
      → OpenTry job try (length (take nth ops)) opened
      → OnTry shape job try (length (take (nth + 1) ops))
      (client_ask shape (record client { txn = opened }) (op_call o))
  asked_try client o None here some is = absurd (cc)
  asked_try client None (Some attempt) here some is =
      stepped_try shape job try (length (take (nth + 1) ops)) (record client { txn = Some attempt }) attempt 0
      (ask_commit shape attempt.state)
      record { txn = is.txn; try = is.try; ops = is.ops ∙ ap length (none_more ops nth here) }
  asked_try client (Some (op.Get t k)) (Some attempt) here some is =
      op_try (record client { txn = Some attempt }) attempt (with_call attempt (Get t k)) (op.Get t k) here is refl refl
      refl
  asked_try client (Some (op.Put t k v)) (Some attempt) here some is =
      op_try (record client { txn = Some attempt }) attempt (with_call attempt (Put t k v)) (op.Put t k v) here is refl
      refl refl
  asked_try client (Some (op.Add t k f up by)) (Some attempt) here some is =
      op_try (record client { txn = Some attempt }) attempt (with_call attempt (Add t k f up by)) (op.Add t k f up by)
      here is refl refl refl
  asked_try client (Some (op.Del t k)) (Some attempt) here some is =
      op_try (record client { txn = Some attempt }) attempt (with_call attempt (Del t k)) (op.Del t k) here is refl refl
      refl
  asked_try client (Some (op.Need t k f least)) (Some attempt) here some is =
      op_try (record client { txn = Some attempt }) attempt (with_call attempt (Need t k f least))
      (op.Need t k f least) here is refl refl refl
  asked_try client (Some (op.Guard t k)) (Some attempt) here some is =
      op_try (record client { txn = Some attempt }) attempt (with_call attempt (Guard t k)) (op.Guard t k) here is refl
      refl refl
  asked_try client (Some (op.Scan t low high)) (Some attempt) here some is = record {
    txn = is.txn;
    try = is.try;
    ops = ap (λ n. n + 1) is.ops ∙ counted ops nth (op.Scan t low high) here;
  }

-- 4. A session

-- so many operations were asked, with the one that runs, if one does
abbrev pub asked_now : List Op → DriverPoint → Bool → ℕ
asked_now ops place true = ops_asked ops place
asked_now ops (ToAsk nth) false = length (take nth ops)
asked_now ops _ false = 0

-- the next operation after an answer, where the attempt goes on
abbrev next_op : DriverPoint → ℕ
next_op (ToAsk nth) = nth + 1
next_op _ = 0

goes_to : (jobs : List Job) (driver : DriverState) (place : DriverPoint) (end : Answer)
    → GoesTo driver (next_op place) (place_taken jobs driver place end)
goes_to jobs driver ToBegin end = begin_goes_to jobs driver end
goes_to jobs driver (ToAsk nth) end = ask_goes_to jobs driver nth end
goes_to jobs driver (ToTidy keys nth true retry) end = inr (tidying_rests driver keys (nth + 1) retry)
goes_to jobs driver (ToTidy keys nth false retry) (answer.NoRoom bucket) = inr refl
goes_to jobs driver (ToTidy keys nth false retry) _ = inr (tidying_rests driver keys (nth + 1) retry)
goes_to jobs driver (ToCollect bucket keys nth retry) end = inr refl

asked_next : (ops : List Op) (place : DriverPoint) → ops_asked ops place ≡ length (take (next_op place) ops)
asked_next ops ToBegin = refl
asked_next ops (ToAsk nth) = refl
asked_next ops (ToTidy keys nth again retry) = refl
asked_next ops (ToCollect bucket keys nth retry) = refl

pub record AsksSo (session : SessionState) : Type 0 where
  pub opened : OpensAsked session
  pub attempt : (job : Job) → slice_get session.jobs session.driver.job ≡ Some job
      → OpenTry job session.driver.nth (asked_now job.ops session.driver.place (is_running session.client.call))
      session.client.txn
  pub call : (job : Job) → slice_get session.jobs session.driver.job ≡ Some job
      → IsOf (place_call job session.driver.nth session.driver.place) session.client

none_try : (job : Job) (nth asked : ℕ) (opened : Option Open) → is_some opened ≡ false → OpenTry job nth asked opened
none_try job nth asked None e = tt
none_try job nth asked (Some attempt) e = absurd (false≢true (sym e))

module _ (shape : Shape) where
  -- 5. The client has taken a word, or was asked

  module _ (session : SessionState) (job : Job) (here : slice_get session.jobs session.driver.job ≡ Some job)
      (opened : OpensAsked session) (client : ClientState)
      (try : OpenTry job session.driver.nth (ops_asked job.ops session.driver.place) client.txn) where
    abbrev driver : DriverState
    driver = session.driver

    same_job : (j : Job) → slice_get session.jobs driver.job ≡ Some j → job ≡ j
    same_job j h = cc

    -- it goes on with an operation of the same try
    goes_on_try : (k : ℕ) → ops_asked job.ops driver.place ≡ length (take k job.ops) → is_running client.call ≡ false
        → (j : Job) → slice_get session.jobs driver.job ≡ Some j
        → OpenTry j driver.nth (asked_now j.ops (ToAsk k) (is_running client.call)) client.txn
    goes_on_try k same rests j h =
        subst (λ (x : Job). OpenTry x driver.nth (asked_now x.ops (ToAsk k) (is_running client.call)) client.txn)
        (same_job j h)
        (subst (λ running. OpenTry job driver.nth (asked_now job.ops (ToAsk k) running) client.txn) (sym rests)
        (subst (λ n. OpenTry job driver.nth n client.txn) same try))

    next_asks : (now : Option (Now CallPoint Answer)) → client.call ≡ now
        → NowOf (place_call job driver.nth driver.place) now → NowDoes shape driver.place job.ops client.txn now
        → NowLists (length session.client.log.events) (is_some session.client.txn) client.log.events client.txn now
        → NextHolds shape AsksSo session client now
    next_asks None e of does lists = tt
    next_asks (Some (At at)) e of does lists = record {
      opened = lists.1 ∙ opened;
      attempt = λ j h.
          subst (λ (x : Job). OpenTry x driver.nth (asked_now x.ops driver.place (is_running client.call)) client.txn)
          (same_job j h)
          (subst (λ running. OpenTry job driver.nth (asked_now job.ops driver.place running) client.txn)
          (sym (ap is_running e)) try);
      call = λ j h.
          subst (λ (x : Job). IsOf (place_call x driver.nth driver.place) client) (same_job j h)
          (subst (NowOf (place_call job driver.nth driver.place)) (sym e) of);
    }
    next_asks (Some (Over end)) e of does lists =
        let next = driver_take session.jobs driver end in
        let asks = asks_after shape session.jobs driver job.ops client.txn driver.place end does in
        let opens = lists.1 ∙ ap (λ was. is_open_after was end) opened ∙ sym asks in
        record {
          opened = opens;
          attempt =
              ⊎_elim
              (λ same. subst (λ (d : DriverState). (j : Job) → slice_get session.jobs d.job ≡ Some j
              → OpenTry j d.nth (asked_now j.ops d.place (is_running client.call)) client.txn) (sym same)
              (goes_on_try (next_op driver.place) (asked_next job.ops driver.place) (ap is_running e)))
              (λ rests. λ j h. none_try j next.nth _ client.txn (opens ∙ rests))
              (goes_to session.jobs driver driver.place end);
          call = λ j h. subst (NowOf (place_call j next.nth next.place)) (sym e) tt;
        }

  -- 6. A word

  needs_of : (place : CallPoint) (opened : Option Open) → CallPointFits shape opened place
      → NeedsTxn shape place opened
  needs_of (Beginning txn nth at) opened fits = tt
  needs_of (InTxn at) None fits = absurd fits
  needs_of (InTxn at) (Some attempt) fits = refl
  needs_of (Scanning table low high at) opened fits = fits.0
  needs_of (Seeking table key passed) opened fits = tt
  needs_of (Moving table key position at) opened fits = tt
  needs_of (Snapping bucket at) opened fits = tt
  needs_of (Collecting bucket prefix seen at) opened fits = tt

  begins_of : (txn nth t n : ℕ) → call.Begin t n ≡ call.Begin txn nth → (t ≡ txn) × (n ≡ nth)
  begins_of txn nth t n e = (cc, cc)

  begins_try : (job : Job) (nth : ℕ) (at : DriverPoint) (txn : Option Open) (place : CallPoint)
      → PlaceRuns at job.ops txn place → call_at place ≡ place_call job nth at
      → BeginsTry shape job nth (ops_asked job.ops at) place
  begins_try job nth ToBegin txn (Beginning t n at) runs e =
      let same = begins_of job.txn nth t n e in (same.0, same.1, refl)
  begins_try job nth (ToAsk k) txn (Beginning t n at) runs e = absurd runs
  begins_try job nth (ToTidy keys k again retry) txn (Beginning t n at) runs e = absurd runs
  begins_try job nth (ToCollect bucket keys k retry) txn (Beginning t n at) runs e = absurd runs
  begins_try job nth at txn (InTxn place) runs e = tt
  begins_try job nth at txn (Scanning table low high place) runs e = tt
  begins_try job nth at txn (Seeking table key passed) runs e = tt
  begins_try job nth at txn (Moving table key position place) runs e = tt
  begins_try job nth at txn (Snapping bucket place) runs e = tt
  begins_try job nth at txn (Collecting bucket prefix seen place) runs e = tt

  word_asks : (session : SessionState) (place : CallPoint) (found : ℕ) (job : Job) → SessionFits shape session
      → session.client.call ≡ Some (At place) → AsksSo session
      → let after = client_after shape session.client found in Steps shape session job after
      → NextHolds shape AsksSo session after after.call
  word_asks session place found job fits e asks s =
      let driver = session.driver in
      let client = session.client in
      let after = client_after shape client found in
      let same : call_after shape client place found ≡ after =
      ap (λ (now : Option (Now CallPoint Answer)). after_call shape client now found) (sym e) in
      let needs = needs_of place client.txn (subst (NowFits shape client.txn) e fits.client.2) in
      let runs = subst (λ o. NowRuns driver.place (ops_of o) client.txn (Some (At place))) s.here
      (subst (NowRuns driver.place (ops_of (slice_get session.jobs driver.job)) client.txn) e fits.runs) in
      let asked = place_call job driver.nth driver.place in
      let is : call_at place ≡ asked = subst (NowOf asked) e (asks.call job s.here) in
      let n = ops_asked job.ops driver.place in
      let on = subst (λ running. OpenTry job driver.nth (asked_now job.ops driver.place running) client.txn)
      (ap is_running e) (asks.attempt job s.here) in
      let try = subst (OnTry shape job driver.nth n) same
      (word_try shape job driver.nth n client place found needs
      (begins_try job driver.nth driver.place client.txn place runs is) on) in
      let of = subst (λ c. IsOf c after) is
      (subst (IsOf (call_at place)) same (word_of shape client place found needs)) in
      next_asks session job s.here asks.opened after try after.call refl of s.does s.lists

  -- 7. A call

  place_of_call : (client : ClientState) (job : Job) (nth : ℕ) (at : DriverPoint) → is_some client.txn ≡ is_asking at
      → IsOf (place_call job nth at) (client_ask shape client (place_call job nth at))
  place_of_call client job nth ToBegin opened = refl
  place_of_call client job nth (ToAsk k) opened = asked_of shape client (slice_get job.ops k) client.txn opened
  place_of_call client job nth (ToTidy keys k again retry) opened = refl
  place_of_call client job nth (ToCollect bucket keys k retry) opened = refl

  place_try : (client : ClientState) (job : Job) (nth : ℕ) (at : DriverPoint) → is_some client.txn ≡ is_asking at
      → OpenTry job nth (asked_now job.ops at false) client.txn
      → OnTry shape job nth (ops_asked job.ops at) (client_ask shape client (place_call job nth at))
  place_try client job nth ToBegin opened try = try
  place_try client job nth (ToAsk k) opened try =
      asked_try shape job nth job.ops k client (slice_get job.ops k) client.txn refl opened try
  place_try client job nth (ToTidy keys k again retry) opened try = try
  place_try client job nth (ToCollect bucket keys k retry) opened try = try

  pub session_asks : SessionKeeps shape AsksSo
  session_asks = record {
    word = λ session place found job fits uncut e asks s. word_asks session place found job fits e asks s;
    asked = λ session job ready uncut asks s.
        let driver = session.driver in
        let client = session.client in
        let after = client_ask shape client (place_call job driver.nth driver.place) in
        let on = subst (λ running. OpenTry job driver.nth (asked_now job.ops driver.place running) client.txn)
        ready.rests (asks.attempt job s.here) in
        next_asks session job s.here asks.opened after
        (place_try client job driver.nth driver.place asks.opened on) after.call refl
        (place_of_call client job driver.nth driver.place asks.opened) s.does s.lists;
    cut = λ session asks. record { opened = asks.opened; attempt = asks.attempt; call = asks.call };
    treated = λ session medic asks. record { opened = asks.opened; attempt = asks.attempt; call = asks.call };
  }

-- 8. The law

pub job_is : (o : Option Job) → is_some o ≡ true → (job : Job) × (o ≡ Some job)
job_is None e = absurd (false≢true e)
job_is (Some job) e = (job, refl)

pub session_runs_asked : SessionAsksLaw
session_runs_asked shape limits worker start jobs policy is number fit least session reached place e =
    let s = reached_kept shape limits AsksSo (session_asks shape) worker start jobs policy is number fit least
    record { opened = refl; attempt = λ job h. tt; call = λ job h. tt } session reached in
    let driver = session.driver in
    let job = job_is (slice_get session.jobs driver.job) (sym s.0.stands ∙ ap is_running e) in
    record {
      call = ap (job_call driver) job.1 ∙ ap (λ asked. Some asked)
          (sym (subst (NowOf (place_call job.0 driver.nth driver.place)) e (s.1.call job.0 job.1)));
      opened = s.1.opened;
      attempt = λ j attempt h open_is.
          subst (OpenTry j driver.nth (ops_asked j.ops driver.place)) open_is
          (subst (λ running. OpenTry j driver.nth (asked_now j.ops driver.place running) session.client.txn)
          (ap is_running e) (s.1.attempt j h));
    }
