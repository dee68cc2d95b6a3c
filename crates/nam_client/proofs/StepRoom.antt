-- The room that the registers have after a step of their transaction.
use Rattle.std.specs.Prelude.{IsSome, IsTrue, Option, Some, None, drop, if◌then◌else◌, min}
use Rattle.std.proofs.Common.{Bool, List, [], ◌∷◌, ap, length, refl, sym}
use Rattle.std.proofs.Common.{subst, true, false, ℕ, ◌+◌, ◌-◌, ◌≤◌, ◌<◌, ◌^◌}
use Rattle.std.proofs.Common.{◌≡◌, ◌∙◌, arith}
use Rattle.std.proofs.lemmas.Bool.{false≢true}
use Rattle.nam_verbs.specs.declared.now.Now.{Now}
use Rattle.nam_verbs.specs.declared.now.Now.TheVariants.{At, Over}
use Rattle.nam_catalog.specs.declared.bounds.TheConstants.{MOST_CAPACITY}
use Rattle.nam_catalog.specs.declared.shape.Shape.{Shape}
use Rattle.nam_protocol.specs.declared.client.Answer.{Answer}
use Rattle.nam_protocol.specs.declared.client.Answer.TheVariants as answer
use Rattle.nam_protocol.specs.declared.client.CallPoint.{CallPoint}
use Rattle.nam_protocol.specs.declared.client.CallPoint.TheVariants.{InTxn}
use Rattle.nam_protocol.specs.declared.client.ClientState.{ClientState}
use Rattle.nam_protocol.specs.declared.client.Open.{Open}
use Rattle.nam_protocol.specs.declared.txn.TxnAnswer.{TxnAnswer}
use Rattle.nam_protocol.specs.declared.txn.TxnAnswer.TheVariants as txn_answer
use Rattle.nam_protocol.specs.declared.txn.TxnPoint.{TxnPoint}
use Rattle.nam_protocol.specs.declared.txn.TxnPoint.TheVariants.{Finding, Reading, Claiming, Committing}
use Rattle.nam_protocol.specs.declared.txn.TxnState.{TxnState}
use Rattle.nam_protocol.specs.AttemptLaw.{has_passed}
use Rattle.nam_protocol.specs.Telling.{on_answer, with_answer}
use Rattle.nam_protocol.specs.Txn.{Stepped}
use Rattle.nam_protocol.specs.Client.{after_call, client_after, take_txn}
use Rattle.nam_protocol.specs.Own.{IsOpenNow}
use Rattle.nam_protocol.specs.TxnCalls.{taken_at, txn_after}
use Rattle.nam_protocol.proofs.FewLemmas.{few_keys}
use Rattle.nam_txn.specs.Txn.{CallFits as TxnCallFits, HeldFits, IsAt, IsTxnOf, Runs, Transacting, after_of, answer_in}
use Rattle.nam_client.specs.declared.registers.Registers.{Registers}
use Rattle.nam_client.specs.declared.registers.Step.{Step}
use Rattle.nam_client.specs.declared.registers.Step.TheVariants as step
use Rattle.nam_client.specs.Ending.{CanGoOn}
use Rattle.nam_client.specs.Fits.{HandFits, IsClientOf}
use Rattle.nam_client.specs.Registers.{call_of, client_of, in_txn, open_of, with_new_locks}
use Rattle.nam_client.specs.Room.{CanList, CanRead, Counts, HasAnswered, HasRoom}
use Rattle.nam_client.specs.Room.{Holds, by_point, lists_read, owed_event, owed_keys}
use Rattle.nam_client.specs.Room.{owed_reads, positions, reads_at_hand, reads_of_point, snap_of_point, taken_in}
use Rattle.nam_client.proofs.SteppedLemmas.{finished, held_of, new_length, stepped_is, taken_held, with_txn}
use Rattle.nam_client.proofs.TxnSteps.{ReadsWithin, Steps, owed_at, owed_now, steps}

-- 1. The room of registers whose transaction is open, by its call

-- as it is owed by a call that stands there
abbrev pub RoomBy : Registers → Bool → Option (Now CallPoint Answer) → Type 0
RoomBy a is_open call =
    (a.spare.attempts + a.spare.tidies + owed_event is_open call + a.closing ≤ a.log.room.events)
    × (a.spare.ops + by_point (reads_of_point a.scan) call ≤ a.log.room.reads)
    × (a.spare.ops + (if is_open then a.attempt.ops_so_far else 0)
    ≤ a.log.room.locks + (if is_open then a.attempt.locks else 0))
    × (a.spare.ops + (if is_open then a.attempt.ops_so_far else 0) ≤ a.log.room.writes)
    × (a.spare.attempts + a.spare.tidies + by_point snap_of_point call ≤ a.log.room.snaps)
    × (min (a.spare.ops + positions a.scan) MOST_CAPACITY ≤ length a.scanned.items + a.scanned.room)
    × (is_open ≡ true → Counts (open_of a) (by_point (reads_of_point a.scan) call) call)
    × (0 < a.spare.attempts + a.spare.tidies + owed_event is_open call → a.closing ≡ 2)

pub room_by : (a : Registers) → HasRoom a → RoomBy a a.is_open (call_of a.step a)
room_by a room =
    (room.events, room.reads, room.locks, room.writes, room.snaps, room.scanned, room.counts, room.closes)

pub has_room : (a : Registers) → RoomBy a a.is_open (call_of a.step a) → HasRoom a
has_room a room = record {
  events = room.0;
  reads = room.1;
  locks = room.2;
  writes = room.3;
  snaps = room.4;
  scanned = room.5;
  counts = room.6;
  closes = room.7;
}

-- an operation owes a read, a commit none
reads_owed : (a : Registers) (at : TxnPoint) → by_point (reads_of_point a.scan) (Some (At (InTxn at))) ≡ owed_at at
reads_owed a (Finding op passed) = refl
reads_owed a (Reading op position at) = refl
reads_owed a (Claiming op at) = refl
reads_owed a (Committing at) = refl

taken_is : (state : TxnState) (at : TxnPoint) → taken_in state (Some (At (InTxn at))) ≡ length (taken_at state at)
taken_is state (Finding op passed) = refl
taken_is state (Reading op position at) = refl
taken_is state (Claiming op at) = refl
taken_is state (Committing at) = refl

-- where the transaction is open, and its call is of it
pub record OpenRoom (a : Registers) (owed : ℕ) : Type 0 where
  pub events : a.spare.attempts + a.spare.tidies + 1 + a.closing ≤ a.log.room.events
  pub closes : a.closing ≡ 2
  pub written : length a.txn.state.writes ≤ a.attempt.ops_so_far
  pub reads : a.spare.ops + owed ≤ a.log.room.reads
  pub locks : a.spare.ops + a.attempt.ops_so_far ≤ a.log.room.locks + a.attempt.locks
  pub writes : a.spare.ops + a.attempt.ops_so_far ≤ a.log.room.writes
  pub snaps : a.spare.attempts + a.spare.tidies ≤ a.log.room.snaps
  pub scanned : min (a.spare.ops + positions a.scan) MOST_CAPACITY ≤ length a.scanned.items + a.scanned.room
  pub ops : a.attempt.ops ≤ a.attempt.ops_so_far
  pub word : a.attempt.ops_so_far < 2 ^ 32
  pub claims : length a.txn.state.claims + owed ≤ a.attempt.ops_so_far
  pub listed : a.attempt.reads + owed ≤ a.attempt.ops_so_far
  pub held : length a.txn.state.held ≡ a.attempt.locks

module _ (a : Registers) (opened : a.is_open ≡ true) (at : TxnPoint)
    (is : call_of a.step a ≡ Some (At (InTxn at))) where
  pub open_room : HasRoom a → OpenRoom a (owed_at at)
  open_room room =
      let by = subst (λ c. RoomBy a true c) is
      (subst (λ (o : Bool). RoomBy a o (call_of a.step a)) opened (room_by a room)) in
      let counts = by.6 refl in
      let owed = reads_owed a at in
      let events = by.0 in
      let reads = by.1 in
      let snaps = by.4 in
      let claims = counts.claims in
      let listed = counts.reads in
      record {
        events = omega arith;
        closes = by.7 (omega arith);
        written = counts.written;
        reads = omega arith;
        locks = by.2;
        writes = by.3;
        snaps = omega arith;
        scanned = by.5;
        ops = counts.ops;
        word = counts.word;
        claims = omega arith;
        listed = omega arith;
        held = counts.held;
      }

  pub room_of_open : OpenRoom a (owed_at at) → a.attempt.locks ≡ length (taken_at a.txn.state at) → HasRoom a
  room_of_open room taken =
      let owed = reads_owed a at in
      let events = room.events in
      let reads = room.reads in
      let snaps = room.snaps in
      let claims = room.claims in
      let listed = room.listed in
      has_room a (subst (λ (o : Bool). RoomBy a o (call_of a.step a)) (sym opened)
      (subst (λ (c : Option (Now CallPoint Answer)). RoomBy a true c) (sym is) (
        omega arith,
        omega arith,
        room.locks,
        room.writes,
        omega arith,
        room.scanned,
        λ e. record {
          ops = room.ops;
          word = room.word;
          claims = omega arith;
          reads = omega arith;
          locks = taken ∙ sym (taken_is a.txn.state at);
          held = room.held;
          written = room.written;
        },
        λ e. room.closes,
      )))

-- 2. An answer

-- what has passed holds no locks
passed_held : (state : TxnState) (end : TxnAnswer) → HeldFits state (Over end) → has_passed end ≡ true
    → length state.held ≡ 0
passed_held state (txn_answer.Value value) held passed = ap (λ (hs : List ℕ). length hs) held
passed_held state txn_answer.Written held passed = ap (λ (hs : List ℕ). length hs) held
passed_held state (txn_answer.Added n) held passed = ap (λ (hs : List ℕ). length hs) held
passed_held state txn_answer.Met held passed = ap (λ (hs : List ℕ). length hs) held
passed_held state (txn_answer.Committed n) held passed = absurd (false≢true passed)
passed_held state txn_answer.ReadOnly held passed = absurd (false≢true passed)
passed_held state (txn_answer.TooOld w e h) held passed = absurd (false≢true passed)
passed_held state (txn_answer.NoSpace table) held passed = absurd (false≢true passed)
passed_held state txn_answer.Declined held passed = absurd (false≢true passed)
passed_held state txn_answer.Spent held passed = absurd (false≢true passed)
passed_held state (txn_answer.Locked lock) held passed = absurd (false≢true passed)
passed_held state (txn_answer.Newer lock) held passed = absurd (false≢true passed)
passed_held state (txn_answer.Full lock) held passed = absurd (false≢true passed)
passed_held state txn_answer.Astray held passed = absurd (false≢true passed)

-- 3. A step

-- how many locks the transaction has then
pub record LocksFit (a : Registers) (t : Transacting) : Type 0 where
  pub least : a.attempt.locks ≤ length t.state.held
  pub most : length t.state.held ≤ a.attempt.locks + 1
  pub word : length t.state.held < 2 ^ 32
  pub room : length t.state.held ≤ a.log.room.locks + a.attempt.locks

module _ (shape : Shape) (a : Registers) (t : Transacting) (owed : ℕ) (opened : a.is_open ≡ true)
    (stands : a.step ≡ step.InTxn) (of : IsTxnOf shape t) (room : OpenRoom a owed) where
  locks_of : (next : Stepped) → t.state ≡ next.state → Steps a.txn.state owed next → LocksFit a t
  locks_of next is steps =
      let same = ap (λ (s : TxnState). length s.held) is in
      let least = steps.least in
      let most = steps.most in
      let within = steps.held in
      let claims = room.claims in
      let word = room.word in
      let locks = room.locks in
      let held = room.held in
      record { least = omega arith; most = omega arith; word = omega arith; room = omega arith }

  locks_are : LocksFit a t → (with_txn a t).attempt.locks ≡ length t.state.held
  locks_are fit =
      let least = fit.least in
      let many = new_length t.state a.attempt.locks in
      omega arith

  locks_room : LocksFit a t → a.log.room.locks + a.attempt.locks
      ≡ (with_txn a t).log.room.locks + (with_txn a t).attempt.locks
  locks_room fit =
      let least = fit.least in
      let most = fit.room in
      let many = new_length t.state a.attempt.locks in
      omega arith

  -- what was read, by the answer
  abbrev ReadsIn : Option (Now TxnPoint TxnAnswer) → Type 0
  ReadsIn None = Unit {0}
  ReadsIn (Some now) = ReadsWithin owed (record { state = t.state; call = now }) now

  goes_on : (call : Now TxnPoint TxnAnswer) → t.call ≡ Some call → LocksFit a t
      → Steps a.txn.state owed (record { state = t.state; call = call }) → CanGoOn (with_txn a t) (Some call)
  goes_on (At at) is fit steps =
      let b = with_txn a t in
      let less = steps.owed_less in
      let more = steps.claims in
      let claims = room.claims in
      let reads = room.reads in
      let listed = room.listed in
      let locks = room.locks in
      let now = locks_are fit in
      let left = locks_room fit in
      let exact = (few_keys shape t.state of.fits).exact in
      room_of_open b opened at
      (ap (λ (s : Step). call_of s b) stands ∙ ap in_txn is)
      (record {
        events = room.events;
        closes = room.closes;
        written = omega arith;
        reads = omega arith;
        locks = omega arith;
        writes = room.writes;
        snaps = room.snaps;
        scanned = room.scanned;
        ops = room.ops;
        word = room.word;
        claims = omega arith;
        listed = omega arith;
        held = sym now;
      })
      (now ∙ sym (ap (λ (hs : List ℕ). length hs) (taken_held t.state (At at) (held_of shape t (At at) of is))))
  goes_on (Over end) is fit steps =
      let more = steps.claims in
      let claims = room.claims in
      let reads = room.reads in
      let listed = room.listed in
      let locks = room.locks in
      let now = locks_are fit in
      let left = locks_room fit in
      let within = steps.held in
      let exact = (few_keys shape t.state of.fits).exact in
      record {
        is_open = opened;
        in_txn = stands;
        events = room.events;
        closes = room.closes;
        reads = omega arith;
        locks = omega arith;
        writes = room.writes;
        snaps = room.snaps;
        scanned = room.scanned;
        ops = room.ops;
        word = room.word;
        claims = omega arith;
        written = omega arith;
        reading = λ e answered lists.
            let most = (subst ReadsIn answered (subst ReadsIn (sym is) steps.reads)) lists in
            record { room = omega arith; so_far = omega arith };
        held = sym now;
        few = omega arith;
        passes = λ e answered passed. now ∙ passed_held t.state e (held_of shape t (Over e) of answered) passed;
      }

  stepped_here : (next : Stepped) → IsAt t next → Steps a.txn.state owed next
      → Steps a.txn.state owed (record { state = t.state; call = next.call })
  stepped_here next at steps =
      subst (λ (s : TxnState). Steps a.txn.state owed (record { state = s; call = next.call })) (sym at.state) steps

  pub can_go_on : (next : Stepped) → IsAt t next → Steps a.txn.state owed next → CanGoOn (with_txn a t) t.call
  can_go_on next at steps =
      let here = stepped_here next at steps in
      subst (λ (c : Option (Now TxnPoint TxnAnswer)). CanGoOn (with_txn a t) c) (sym at.call)
      (goes_on next.call at.call (locks_of next at.state steps) here)

-- 4. A word

abbrev pub call_or : Now TxnPoint TxnAnswer → Option (Now TxnPoint TxnAnswer) → Now TxnPoint TxnAnswer
call_or other None = other
call_or other (Some now) = now

pub open_is : (attempt : Open) (is_open : Bool) → IsSome (if is_open then Some attempt else None) → is_open ≡ true
open_is attempt true some = refl
open_is attempt false some = absurd (false≢true some)

module _ (shape : Shape) (a : Registers) (found : ℕ) (of : IsClientOf shape a) (holds : Holds a)
    (stands : a.step ≡ step.InTxn) where
  called : (at : TxnPoint) → a.txn.call ≡ Some (At at) → call_of a.step a ≡ Some (At (InTxn at))
  called at is = ap (λ (s : Step). call_of s a) stands ∙ ap in_txn is

  pub opened_at : (at : TxnPoint) → a.txn.call ≡ Some (At at) → a.is_open ≡ true
  opened_at at is =
      open_is (open_of a) a.is_open
      (subst (λ (c : Option (Now CallPoint Answer)). IsOpenNow (client_of a).txn c) (called at is) holds.opened)

  room_at : (at : TxnPoint) → a.txn.call ≡ Some (At at) → OpenRoom a (owed_at at)
  room_at at is = open_room a (opened_at at is) at (called at is) holds.room

  steps_at : (at : TxnPoint) → a.txn.call ≡ Some (At at)
      → Steps a.txn.state (owed_at at) (txn_after shape a.txn.state at found)
  steps_at at is =
      let txn = of.txn (opened_at at is) in
      let fits =
      subst (λ (c : Option (Now TxnPoint TxnAnswer)). TxnCallFits shape a.txn.state a.txn.hand c) is txn.call in
      steps shape a.txn.state at found txn.fits fits.0 fits.2

  -- the locks after the word, and how the registers go on
  abbrev pub IsReady : Transacting → Type 0
  IsReady t = LocksFit a t × CanGoOn (with_txn a t) t.call

  ready_by : (t : Transacting) (call : Option (Now TxnPoint TxnAnswer)) → a.txn.call ≡ call → Runs call
      → IsAt t (after_of shape a.txn.state call found) → IsTxnOf shape t → IsReady t
  ready_by t None is runs at txn = absurd runs
  ready_by t (Some (Over end)) is runs at txn = absurd runs
  ready_by t (Some (At place)) is runs at txn =
      let opened = opened_at place is in
      let room = room_at place is in
      let stepped = steps_at place is in (
        locks_of shape a t (owed_at place) opened stands txn room (txn_after shape a.txn.state place found) at.state
            stepped,
        can_go_on shape a t (owed_at place) opened stands txn room (txn_after shape a.txn.state place found) at
            stepped,
      )

  pub ready : (t : Transacting) → Runs a.txn.call → IsAt t (after_of shape a.txn.state a.txn.call found)
      → IsTxnOf shape t → IsReady t
  ready t runs at txn = ready_by t a.txn.call refl runs at txn

  -- the client has stepped
  stepped_by : (t : Transacting) (call : Option (Now TxnPoint TxnAnswer)) → a.txn.call ≡ call → Runs call
      → IsAt t (after_of shape a.txn.state call found) → IsTxnOf shape t
      → client_after shape (client_of a) found
      ≡ finished (client_of (with_txn a t)) (open_of (with_txn a t)) (after_of shape a.txn.state call found).call
  stepped_by t None is runs at txn = absurd runs
  stepped_by t (Some (Over end)) is runs at txn = absurd runs
  stepped_by t (Some (At place)) is runs at txn =
      let opened = opened_at place is in
      let room = room_at place is in
      let held = held_of shape a.txn (At place) (of.txn opened) is in
      let before = ap (λ (hs : List ℕ). length hs) (taken_held a.txn.state (At place) held) ∙ room.held in
      ap (λ (c : Option (Now CallPoint Answer)). after_call shape (client_of a) c found) (called place is)
      ∙ ap (λ (is_open : Bool). take_txn shape (client_of a) place (if is_open then Some (open_of a) else None) found)
      opened
      ∙ stepped_is a t shape (txn_after shape a.txn.state place found) (length (taken_at a.txn.state place))
      (client_of a).txn (client_of a).call at txn opened stands before

  pub stepped_as : (t : Transacting) (end : Now TxnPoint TxnAnswer) → Runs a.txn.call
      → IsAt t (after_of shape a.txn.state a.txn.call found) → IsTxnOf shape t → t.call ≡ Some end
      → client_after shape (client_of a) found
      ≡ finished (client_of (with_txn a t)) (open_of (with_txn a t)) end
  stepped_as t end runs at txn is =
      stepped_by t a.txn.call refl runs at txn
      ∙ ap (λ (now : Now TxnPoint TxnAnswer). finished (client_of (with_txn a t)) (open_of (with_txn a t)) now)
      (ap (call_or end) (sym at.call ∙ is))

-- 5. What follows the word

going_room : (a : Registers) (call : Option (Now TxnPoint TxnAnswer)) → CanGoOn a call → Runs call → HasRoom a
going_room a None ready runs = absurd runs
going_room a (Some (At at)) ready runs = ready
going_room a (Some (Over end)) ready runs = absurd runs

answered_list : (a : Registers) (call : Option (Now TxnPoint TxnAnswer)) → CanGoOn a call → (Runs call → ⊥) → CanList a
answered_list a None ready rests = absurd ready
answered_list a (Some (At at)) ready rests = absurd (rests tt)
answered_list a (Some (Over end)) ready rests = ready

answered_some : (a : Registers) (call : Option (Now TxnPoint TxnAnswer)) → CanGoOn a call → (Runs call → ⊥)
    → IsSome (answer_in call)
answered_some a None ready rests = absurd ready
answered_some a (Some (At at)) ready rests = absurd (rests tt)
answered_some a (Some (Over end)) ready rests = refl

-- it stands, so there is room
pub room_going : (a : Registers) → CanGoOn a a.txn.call → Runs a.txn.call → HasRoom a
room_going a ready runs = going_room a a.txn.call ready runs

-- it was answered, so the answer can be listed
pub can_list : (a : Registers) → CanGoOn a a.txn.call → (Runs a.txn.call → ⊥) → CanList a
can_list a ready rests = answered_list a a.txn.call ready rests

pub is_answered : (a : Registers) → CanGoOn a a.txn.call → (Runs a.txn.call → ⊥) → IsSome (answer_in a.txn.call)
is_answered a ready rests = answered_some a a.txn.call ready rests

-- a call of the transaction has nothing else at hand
hand_txn : (shape : Shape) (a : Registers) (call : Option (Now TxnPoint TxnAnswer)) → HandFits shape a (in_txn call)
hand_txn shape a None = tt
hand_txn shape a (Some (At at)) = tt
hand_txn shape a (Some (Over end)) = tt

pub hand_fits : (shape : Shape) (a : Registers) → a.step ≡ step.InTxn → HandFits shape a (call_of a.step a)
hand_fits shape a stands =
    subst (λ (s : Step). HandFits shape a (call_of s a)) (sym stands) (hand_txn shape a a.txn.call)

-- how a call that was answered ends the client
abbrev pub EndsAs : Registers → ClientState → Type 0
EndsAs b client =
    (end : TxnAnswer) → HasAnswered b end
    → client ≡ with_answer (on_answer (client_of b) (open_of b) end) (answer.Txn end)

module _ (b : Registers) where
  pub runs_as : (call : Option (Now TxnPoint TxnAnswer)) → b.txn.call ≡ call → Runs call
      → (client : ClientState)
      → ((now : Now TxnPoint TxnAnswer) → b.txn.call ≡ Some now → client ≡ finished (client_of b) (open_of b) now)
      → client_of b ≡ client
  runs_as None is runs client steps = absurd runs
  runs_as (Some (At at)) is runs client steps = sym (steps (At at) is)
  runs_as (Some (Over end)) is runs client steps = absurd runs

  pub ends_as : (call : Option (Now TxnPoint TxnAnswer)) → b.txn.call ≡ call → (Runs call → ⊥) → IsSome call
      → (client after : ClientState)
      → ((now : Now TxnPoint TxnAnswer) → b.txn.call ≡ Some now → client ≡ finished (client_of b) (open_of b) now)
      → EndsAs b after → after ≡ client
  ends_as None is rests some client after steps ends = absurd (false≢true some)
  ends_as (Some (At at)) is rests some client after steps ends = absurd (rests tt)
  ends_as (Some (Over end)) is rests some client after steps ends = ends end is ∙ sym (steps (Over end) is)

module _ (shape : Shape) (a b : Registers) (found : ℕ) (of : IsClientOf shape a) (holds : Holds a)
    (stands : a.step ≡ step.InTxn) (runs : Runs a.txn.call) (is : b ≡ with_txn a b.txn)
    (at : IsAt b.txn (after_of shape a.txn.state a.txn.call found)) (txn : IsTxnOf shape b.txn) where
  steps_as : (now : Now TxnPoint TxnAnswer) → b.txn.call ≡ Some now
      → client_after shape (client_of a) found ≡ finished (client_of b) (open_of b) now
  steps_as now called =
      stepped_as shape a found of holds stands b.txn now runs at txn called
      ∙ ap (λ (r : Registers). finished (client_of r) (open_of r) now) (sym is)

  pub client_runs : Runs b.txn.call → client_of b ≡ client_after shape (client_of a) found
  client_runs goes = runs_as b b.txn.call refl goes (client_after shape (client_of a) found) steps_as

  pub client_ends : (Runs b.txn.call → ⊥) → (after : ClientState) → EndsAs b after
      → after ≡ client_after shape (client_of a) found
  client_ends rests after ends =
      ends_as b b.txn.call refl rests (subst (λ (c : Option (Now TxnPoint TxnAnswer)). IsSome c) (sym at.call) refl)
      (client_after shape (client_of a) found) after steps_as ends

  pub stays_in : b.step ≡ step.InTxn
  stays_in = ap (λ (r : Registers). r.step) is ∙ stands
