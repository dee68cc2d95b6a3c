-- The registers whose transaction's call was asked: their room, and the client that has asked.
use Rattle.std.specs.Prelude.{IsSome, Option, Some, None, drop, if◌then◌else◌, min}
use Rattle.std.proofs.Common.{Bool, List, [], ◌∷◌, ◌++◌, ap, length, refl, sym}
use Rattle.std.proofs.Common.{subst, true, false, ℕ, ◌+◌, ◌-◌, ◌≤◌, ◌<◌, ◌^◌}
use Rattle.std.proofs.Common.{◌≡◌, ◌∙◌, arith}
use Rattle.std.proofs.lemmas.Bool.{false≢true}
use Rattle.std.proofs.lemmas.List.{append-nil}
use Rattle.si_model.specs.declared.log.Lock.{Lock}
use Rattle.si_model.specs.declared.op.Op.{Op}
use Rattle.si_model.specs.declared.op.Op.TheVariants as op
use Rattle.si_model.specs.Evaluation.{op_key}
use Rattle.nam_verbs.specs.declared.now.Now.{Now}
use Rattle.nam_verbs.specs.declared.now.Now.TheVariants.{At, Over}
use Rattle.nam_catalog.specs.declared.bounds.TheConstants.{MOST_CAPACITY}
use Rattle.nam_catalog.specs.declared.shape.Shape.{Shape}
use Rattle.nam_protocol.specs.declared.client.Answer.{Answer}
use Rattle.nam_protocol.specs.declared.client.Call.TheVariants.{Txn}
use Rattle.nam_protocol.specs.declared.client.CallPoint.{CallPoint}
use Rattle.nam_protocol.specs.declared.client.ClientState.{ClientState}
use Rattle.nam_protocol.specs.declared.client.Open.{Open}
use Rattle.nam_protocol.specs.declared.txn.Record.{Record}
use Rattle.nam_protocol.specs.declared.txn.TxnAnswer.{TxnAnswer}
use Rattle.nam_protocol.specs.declared.txn.TxnCall.{TxnCall}
use Rattle.nam_protocol.specs.declared.txn.TxnCall.TheVariants.{Get, Put, Add, Del, Need, Guard, Commit}
use Rattle.nam_protocol.specs.declared.txn.TxnPoint.{TxnPoint}
use Rattle.nam_protocol.specs.declared.txn.TxnState.{TxnState}
use Rattle.nam_protocol.specs.Client.{ask_txn, client_ask, with_call}
use Rattle.nam_protocol.specs.ClientFits.{OpenCallFits}
use Rattle.nam_protocol.specs.Log.{with_locks}
use Rattle.nam_protocol.specs.Own.{MayAsk, Rests}
use Rattle.nam_protocol.specs.RoomLaw.{call_room}
use Rattle.nam_protocol.specs.Telling.{locks_from, stepped}
use Rattle.nam_protocol.specs.Txn.{Stepped, ask_op}
use Rattle.nam_protocol.specs.TxnCalls.{txn_ask}
use Rattle.nam_protocol.specs.TxnFits.{TxnCallFits}
use Rattle.nam_protocol.proofs.GoesCommit.{ask_commit_goes}
use Rattle.nam_protocol.proofs.GoesTxn.{ask_goes}
use Rattle.nam_txn.specs.Txn.{IsAt, IsTxnOf, Runs, Transacting}
use Rattle.nam_client.specs.declared.registers.Registers.{Registers}
use Rattle.nam_client.specs.Ending.{CanGoOn, call_counted, op_count}
use Rattle.nam_client.specs.Fits.{IsClientOf}
use Rattle.nam_client.specs.Registers.{call_of, client_of, open_of, with_new_locks}
use Rattle.nam_client.specs.Room.{HasRoom, Holds, positions}
use Rattle.nam_client.proofs.StepRoom.{EndsAs, OpenRoom, RoomBy, call_or, can_go_on, ends_as, open_is, room_by, runs_as}
use Rattle.nam_client.proofs.SteppedLemmas.{finished, none_new, stepped_is, with_txn}
use Rattle.nam_client.proofs.TxnSteps.{Quiet, ReadsWithin, Steps, owed_now}
use Rattle.nam_client.proofs.TxnSteps.{owed_now_once, quiet_owes, quiet_reads, reads_once}

-- 1. What asking does with a transaction

abbrev KeepsKeys : TxnState → Stepped → Type 0
KeepsKeys state next = (next.state.claims ≡ state.claims) × (next.state.held ≡ [])

abbrev AsksCommit : TxnState → Stepped → Type 0
AsksCommit state next = KeepsKeys state next × Quiet state next next.call

module _ (shape : Shape) (state : TxnState) (none : state.held ≡ []) where
  op_asked : (o : Op) → Steps state 1 (ask_op shape state o)
  op_asked o =
      let next = ask_op shape state o in
      let keeps =
      ask_goes shape (KeepsKeys state) o state (λ e f. (refl, none)) (λ e f. (refl, none)) (λ e f. (refl, none))
      (λ e f. (refl, none)) in
      let once = owed_now_once next.call in
      let claims = ap (λ (cs : List Record). length cs) keeps.0 in
      let now = ap (λ (hs : List ℕ). length hs) keeps.1 in
      let before = ap (λ (hs : List ℕ). length hs) none in
      record {
        owed_less = once;
        claims = omega arith;
        reads = reads_once next next.call;
        least = omega arith;
        most = omega arith;
        held = omega arith;
      }

  commit_asked : Steps state 0 (txn_ask shape state Commit)
  commit_asked =
      let next = txn_ask shape state Commit in
      let asks =
      ask_commit_goes (AsksCommit state) state shape (λ e. ((refl, none), refl)) (λ e f. ((refl, none), refl))
      (λ e f g. ((refl, refl), refl)) (λ e f g. ((refl, refl), refl)) in
      let owes = quiet_owes state next next.call asks.1 in
      let claims = ap (λ (cs : List Record). length cs) asks.0.0 in
      let now = ap (λ (hs : List ℕ). length hs) asks.0.1 in
      let before = ap (λ (hs : List ℕ). length hs) none in
      record {
        owed_less = omega arith;
        claims = omega arith;
        reads = quiet_reads state next next.call asks.1;
        least = omega arith;
        most = omega arith;
        held = omega arith;
      }

  call_asked : (call : TxnCall) → Steps state (op_count call) (txn_ask shape state call)
  call_asked (Get t k) = op_asked (op.Get t k)
  call_asked (Put t k v) = op_asked (op.Put t k v)
  call_asked (Add t k f up by) = op_asked (op.Add t k f up by)
  call_asked (Del t k) = op_asked (op.Del t k)
  call_asked (Need t k f least) = op_asked (op.Need t k f least)
  call_asked (Guard t k) = op_asked (op.Guard t k)
  call_asked Commit = commit_asked

  -- no locks are held then
  op_held : (o : Op) → (ask_op shape state o).state.held ≡ []
  op_held o =
      ask_goes shape (λ (s : Stepped). s.state.held ≡ []) o state (λ e f. none) (λ e f. none) (λ e f. none)
      (λ e f. none)

  asked_held : (call : TxnCall) → (txn_ask shape state call).state.held ≡ []
  asked_held (Get t k) = op_held (op.Get t k)
  asked_held (Put t k v) = op_held (op.Put t k v)
  asked_held (Add t k f up by) = op_held (op.Add t k f up by)
  asked_held (Del t k) = op_held (op.Del t k)
  asked_held (Need t k f least) = op_held (op.Need t k f least)
  asked_held (Guard t k) = op_held (op.Guard t k)
  asked_held Commit =
      ask_commit_goes (λ (s : Stepped). s.state.held ≡ []) state shape (λ e. none) (λ e f. none) (λ e f g. refl)
      (λ e f g. refl)

-- 2. Where no lock is new

unlocked : (b : Registers) → length b.txn.state.held ≡ b.attempt.locks → with_new_locks b ≡ b
unlocked b held =
    let with = λ (locks : List Lock) (room count : ℕ). record b {
      log = record { log = record b.log.log { locks = locks }; room = record b.log.room { locks = room } };
      attempt = record b.attempt { locks = count };
    } in
    let n = b.attempt.locks in
    let room = b.log.room.locks in
    ap (λ (locks : List Lock). with (b.log.log.locks ++ locks) (room - length locks) (n + length locks))
    (none_new b.txn.state n held)
    ∙ ap (λ (locks : List Lock). with locks (room - 0) (n + 0)) (append-nil b.log.log.locks)
    ∙ ap (λ (left : ℕ). with b.log.log.locks left (n + 0)) (omega arith)
    ∙ ap (λ (count : ℕ). with b.log.log.locks room count) (omega arith)

no_length : (xs : List ℕ) → length xs ≡ 0 → xs ≡ []
no_length [] e = refl
no_length (x ∷ xs) e = absurd (omega (arith, e))

-- 3. The room before, and with the call counted

resting_room : (a : Registers) (call : Option (Now CallPoint Answer)) → Rests call → RoomBy a true call
    → OpenRoom a 0 × (a.attempt.locks ≡ 0)
resting_room a (Some (At place)) rests by = absurd rests
resting_room a None rests by =
    let counts = by.6 refl in
    let claims = counts.claims in
    let listed = counts.reads in
    let events = by.0 in
    let snaps = by.4 in (
      record {
        events = omega arith;
        closes = by.7 (omega arith);
        written = counts.written;
        reads = by.1;
        locks = by.2;
        writes = by.3;
        snaps = omega arith;
        scanned = by.5;
        ops = counts.ops;
        word = counts.word;
        claims = counts.claims;
        listed = counts.reads;
        held = counts.held;
      },
      counts.locks,
    )
resting_room a (Some (Over end)) rests by =
    let counts = by.6 refl in
    let claims = counts.claims in
    let listed = counts.reads in
    let events = by.0 in
    let snaps = by.4 in (
      record {
        events = omega arith;
        closes = by.7 (omega arith);
        written = counts.written;
        reads = by.1;
        locks = by.2;
        writes = by.3;
        snaps = omega arith;
        scanned = by.5;
        ops = counts.ops;
        word = counts.word;
        claims = counts.claims;
        listed = counts.reads;
        held = counts.held;
      },
      counts.locks,
    )

counted_room : (a : Registers) (call : TxnCall) → op_count call ≤ a.spare.ops
    → a.attempt.ops_so_far + op_count call < 2 ^ 32 → OpenRoom a 0 → OpenRoom (call_counted a call) (op_count call)
counted_room a call spare counted room =
    let reads = room.reads in
    let locks = room.locks in
    let writes = room.writes in
    let scanned = room.scanned in
    let ops = room.ops in
    let claims = room.claims in
    let listed = room.listed in
    let written = room.written in
    record {
      events = room.events;
      closes = room.closes;
      written = omega arith;
      reads = omega arith;
      locks = omega arith;
      writes = omega arith;
      snaps = room.snaps;
      scanned = omega arith;
      ops = omega arith;
      word = counted;
      claims = omega arith;
      listed = omega arith;
      held = room.held;
    }

-- the open transaction with the call
counted_open : (a : Registers) (call : TxnCall) → with_call (open_of a) call ≡ open_of (call_counted a call)
counted_open a (Get t k) = refl
counted_open a (Put t k v) = refl
counted_open a (Add t k f up by) = refl
counted_open a (Del t k) = refl
counted_open a (Need t k f least) = refl
counted_open a (Guard t k) = refl
counted_open a Commit =
    let with = λ (ops so_far : ℕ). record (open_of a) { ops = ops; ops_so_far = so_far } in
    ap (λ (ops : ℕ). with ops a.attempt.ops_so_far) (omega arith)
    ∙ ap (λ (so_far : ℕ). with (a.attempt.ops + 0) so_far) (omega arith)

pub room_of_call : (shape : Shape) (call : TxnCall) → (call_room shape (Txn call)).ops ≡ op_count call
room_of_call shape (Get t k) = refl
room_of_call shape (Put t k v) = refl
room_of_call shape (Add t k f up by) = refl
room_of_call shape (Del t k) = refl
room_of_call shape (Need t k f least) = refl
room_of_call shape (Guard t k) = refl
room_of_call shape Commit = refl

open_call : (shape : Shape) (attempt : Open) (is_open : Bool) (call : TxnCall)
    → OpenCallFits shape (if is_open then Some attempt else None) call
    → (is_open ≡ true) × TxnCallFits shape attempt.state call
open_call shape attempt true call fits = (refl, fits)
open_call shape attempt false call fits = absurd fits

-- 4. The call is asked

module _ (shape : Shape) (a : Registers) (call : TxnCall) (may : MayAsk shape (client_of a) (Txn call))
    (holds : Holds a)
  where
    pub is_open : a.is_open ≡ true
    is_open = (open_call shape (open_of a) a.is_open call may.fits).0

    pub call_fits : TxnCallFits shape a.txn.state call
    call_fits = (open_call shape (open_of a) a.is_open call may.fits).1

    room_before : OpenRoom a 0 × (a.attempt.locks ≡ 0)
    room_before =
        resting_room a (call_of a.step a) may.rests
        (subst (λ (o : Bool). RoomBy a o (call_of a.step a)) is_open (room_by a holds.room))

    pub none_held : a.txn.state.held ≡ []
    none_held =
        let same = room_before.0.held in
        let none = room_before.1 in
        no_length a.txn.state.held (omega arith)

    pub few_ops : op_count call ≤ a.spare.ops → a.attempt.ops_so_far + op_count call < 2 ^ 32
        → a.attempt.ops + op_count call < 2 ^ 32
    few_ops spare counted = let ops = room_before.0.ops in omega arith

    module _ (t : Transacting) (at : IsAt t (txn_ask shape a.txn.state call)) (of : IsTxnOf shape t) where
      after_locks : with_txn (call_counted a call) t ≡ record (call_counted a call) { txn = t }
      after_locks =
          let none = room_before.1 in
          let held =
          ap (λ (s : TxnState). length s.held) at.state
          ∙ ap (λ (hs : List ℕ). length hs) (asked_held shape a.txn.state none_held call) in
          unlocked (record (call_counted a call) { txn = t }) (omega arith)

      pub ready_asked : op_count call ≤ a.spare.ops → a.attempt.ops_so_far + op_count call < 2 ^ 32
          → CanGoOn (record (call_counted a call) { txn = t }) t.call
      ready_asked spare counted =
          subst (λ (b : Registers). CanGoOn b t.call) after_locks
          (can_go_on shape (call_counted a call) t (op_count call) is_open refl of
          (counted_room a call spare counted room_before.0) (txn_ask shape a.txn.state call) at
          (call_asked shape a.txn.state none_held call))

      pub asked_is : (now : Now TxnPoint TxnAnswer) → t.call ≡ Some now
          → let b = record (call_counted a call) { txn = t } in
          client_ask shape (client_of a) (Txn call) ≡ finished (client_of b) (open_of b) now
      asked_is now called =
          let next = txn_ask shape a.txn.state call in
          let none = room_before.1 in
          ap (λ (o : Bool). ask_txn shape (client_of a) call (if o then Some (open_of a) else None)) is_open
          ∙ ap (λ (attempt : Open). stepped (client_of a) attempt 0 next) (counted_open a call)
          ∙ stepped_is (call_counted a call) t shape next 0 (client_of a).txn (client_of a).call at of is_open refl
          (sym none)
          ∙ ap (λ (b : Registers). finished (client_of b) (open_of b) next.call) after_locks
          ∙ ap (λ (n : Now TxnPoint TxnAnswer). let b = record (call_counted a call) { txn = t } in
          finished (client_of b) (open_of b) n)
          (ap (call_or now) (sym at.call ∙ called))

    module _ (b : Registers) (is : b ≡ record (call_counted a call) { txn = b.txn })
        (at : IsAt b.txn (txn_ask shape a.txn.state call)) (of : IsTxnOf shape b.txn) where
      asks_as : (now : Now TxnPoint TxnAnswer) → b.txn.call ≡ Some now
          → client_ask shape (client_of a) (Txn call) ≡ finished (client_of b) (open_of b) now
      asks_as now called =
          asked_is b.txn at of now called ∙ ap (λ (r : Registers). finished (client_of r) (open_of r) now) (sym is)

      pub ask_runs : Runs b.txn.call → client_of b ≡ client_ask shape (client_of a) (Txn call)
      ask_runs goes = runs_as b b.txn.call refl goes (client_ask shape (client_of a) (Txn call)) asks_as

      pub ask_ends : (Runs b.txn.call → ⊥) → (after : ClientState) → EndsAs b after
          → after ≡ client_ask shape (client_of a) (Txn call)
      ask_ends rests after ends =
          ends_as b b.txn.call refl rests (subst (λ (c : Option (Now TxnPoint TxnAnswer)). IsSome c) (sym at.call) refl)
          (client_ask shape (client_of a) (Txn call)) after asks_as ends
