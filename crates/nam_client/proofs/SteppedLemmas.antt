-- The registers whose transaction has stepped, and whose new locks are listed, are the client that has stepped.
use Rattle.std.specs.Prelude.{IsSome, Option, Some, None, drop, slice_index, if◌then◌else◌}
use Rattle.std.proofs.Common.{Bool, List, [], ◌∷◌, ◌++◌, ap, length, refl}
use Rattle.std.proofs.Common.{sym, subst, true, false, ℕ, ◌+◌, ◌-◌, ◌≤◌, ◌∙◌}
use Rattle.std.proofs.Common.{◌≡◌, arith, suc, zero}
use Rattle.std.proofs.Math.Seq.{drop-length}
use Rattle.std.proofs.lemmas.List.{length-drop}
use Rattle.si_model.specs.declared.log.Lock.{Lock}
use Rattle.nam_verbs.specs.declared.now.Now.{Now}
use Rattle.nam_verbs.specs.declared.now.Now.TheVariants.{At, Over}
use Rattle.nam_catalog.specs.declared.shape.Shape.{Shape}
use Rattle.nam_protocol.specs.declared.client.Answer.{Answer}
use Rattle.nam_protocol.specs.declared.client.Answer.TheVariants as answer
use Rattle.nam_protocol.specs.declared.client.CallPoint.{CallPoint}
use Rattle.nam_protocol.specs.declared.client.CallPoint.TheVariants.{InTxn}
use Rattle.nam_protocol.specs.declared.client.ClientState.{ClientState}
use Rattle.nam_protocol.specs.declared.client.Open.{Open}
use Rattle.nam_protocol.specs.declared.txn.TxnAnswer.{TxnAnswer}
use Rattle.nam_protocol.specs.declared.txn.TxnAnswer.TheVariants as txn_answer
use Rattle.nam_protocol.specs.declared.txn.TxnPoint.{TxnPoint}
use Rattle.nam_protocol.specs.declared.txn.TxnPoint.TheVariants.{Finding, Reading, Claiming, Committing}
use Rattle.nam_protocol.specs.declared.txn.TxnState.{TxnState}
use Rattle.nam_protocol.specs.Client.{client_after}
use Rattle.nam_protocol.specs.Commit.{lock_at}
use Rattle.nam_protocol.specs.Log.{with_locks}
use Rattle.nam_protocol.specs.Own.{OpenClient}
use Rattle.nam_protocol.specs.Telling.{locks_from, on_answer, on_call, stepped, with_answer}
use Rattle.nam_protocol.specs.Txn.{Stepped}
use Rattle.nam_protocol.specs.TxnCalls.{taken_at, taken_now, txn_after}
use Rattle.nam_txn.specs.Txn.{CallFits, HeldFits, IsAt, IsTxnOf, Runs, Transacting, after_of}
use Rattle.nam_client.specs.declared.registers.Registers.{Registers}
use Rattle.nam_client.specs.declared.registers.Step.{Step}
use Rattle.nam_client.specs.declared.registers.Step.TheVariants as step
use Rattle.nam_client.specs.Registers.{call_of, client_of, open_of, runs, with_new_locks}

-- 1. The locks that are listed

pub none_new : (state : TxnState) (n : ℕ) → length state.held ≡ n → locks_from state n (drop n state.held) ≡ []
none_new state n e =
    subst (λ m. locks_from state m (drop m state.held) ≡ []) e
    (ap (λ headers. locks_from state (length state.held) headers) (drop-length state.held))

last_of : (xs : List ℕ) (n : ℕ) → length xs ≡ n + 1 → drop n xs ≡ slice_index xs n ∷ []
last_of [] n e = absurd (omega (arith, e))
last_of (x ∷ []) zero e = refl
last_of (x ∷ y ∷ ys) zero e = absurd (omega (arith, e))
last_of (x ∷ xs) (suc n) e = last_of xs n (omega (arith, e))

pub one_new : (state : TxnState) (n : ℕ) → length state.held ≡ n + 1
    → locks_from state n (drop n state.held) ≡ lock_at state n (slice_index state.held n) ∷ []
one_new state n e = ap (λ headers. locks_from state n headers) (last_of state.held n e)

from_length : (state : TxnState) (n : ℕ) (headers : List ℕ) → length (locks_from state n headers) ≡ length headers
from_length state n [] = refl
from_length state n (header ∷ headers) = ap (λ m. suc m) (from_length state (n + 1) headers)

pub new_length : (state : TxnState) (n : ℕ)
    → length (locks_from state n (drop n state.held)) ≡ length state.held - n
new_length state n = from_length state n (drop n state.held) ∙ length-drop n state.held

-- 2. What follows where the call was answered

abbrev pub finished : ClientState → Open → Now TxnPoint TxnAnswer → ClientState
finished client attempt (At at) = client
finished client attempt (Over end) = with_answer (on_answer client attempt end) (answer.Txn end)

-- the client with this transaction and its call
abbrev pub running : ClientState → Open → Now TxnPoint TxnAnswer → ClientState
running client attempt call = record client { txn = Some attempt; call = runs InTxn answer.Txn call }

called_is : (client : ClientState) (attempt : Open) (call : Now TxnPoint TxnAnswer)
    → on_call client attempt call ≡ finished (running client attempt call) attempt call
called_is client attempt (At at) = refl
called_is client attempt (Over (txn_answer.Value value)) = refl
called_is client attempt (Over txn_answer.Written) = refl
called_is client attempt (Over (txn_answer.Added n)) = refl
called_is client attempt (Over txn_answer.Met) = refl
called_is client attempt (Over (txn_answer.Committed n)) = refl
called_is client attempt (Over txn_answer.ReadOnly) = refl
called_is client attempt (Over (txn_answer.TooOld w e h)) = refl
called_is client attempt (Over (txn_answer.NoSpace table)) = refl
called_is client attempt (Over txn_answer.Declined) = refl
called_is client attempt (Over txn_answer.Spent) = refl
called_is client attempt (Over (txn_answer.Locked lock)) = refl
called_is client attempt (Over (txn_answer.Newer lock)) = refl
called_is client attempt (Over (txn_answer.Full lock)) = refl
called_is client attempt (Over txn_answer.Astray) = refl

-- 3. The locks taken are those held

held_in : (shape : Shape) (t : Transacting) (call : Now TxnPoint TxnAnswer) → CallFits shape t.state t.hand (Some call)
    → HeldFits t.state call
held_in shape t (At at) fits = fits.2
held_in shape t (Over end) fits = fits.1

pub taken_held : (state : TxnState) (call : Now TxnPoint TxnAnswer) → HeldFits state call
    → taken_now state call ≡ state.held
taken_held state (At (Finding op passed)) held = sym held
taken_held state (At (Reading op position at)) held = sym held
taken_held state (At (Claiming op at)) held = sym held
taken_held state (At (Committing at)) held = refl
taken_held state (Over end) held = refl

pub held_of : (shape : Shape) (t : Transacting) (call : Now TxnPoint TxnAnswer) → IsTxnOf shape t
    → t.call ≡ Some call → HeldFits t.state call
held_of shape t call of is = held_in shape t call (subst (λ c. CallFits shape t.state t.hand c) is of.call)

-- 4. The client

module _ (a : Registers) (t : Transacting) where
  -- the registers with this transaction, whose new locks are listed
  abbrev pub with_txn : Registers
  with_txn = with_new_locks (record a { txn = t })

  -- the client before the step, whatever its call was
  abbrev pub before_step : Option Open → Option (Now CallPoint Answer) → ClientState
  before_step opened call = record (client_of a) { txn = opened; call = call }

  running_is : (client : ClientState) (call : Now TxnPoint TxnAnswer) → a.is_open ≡ true → a.step ≡ step.InTxn
      → t.call ≡ Some call
      → running (client_of with_txn) (open_of with_txn) call ≡ client_of with_txn
  running_is client call opened in_txn is =
      let b = with_txn in
      let o = ap (λ (is_open : Bool). if is_open then Some (open_of b) else None) opened in
      let c =
      ap (λ (s : Step). call_of s b) in_txn
      ∙ ap (λ (x : Option (Now TxnPoint TxnAnswer)). call_of step.InTxn (record b { txn = record t { call = x } }))
      is in
      ap (λ (x : Option Open). record (client_of b) { txn = x; call = runs InTxn answer.Txn call }) (sym o)
      ∙ ap (λ (y : Option (Now CallPoint Answer)). record (client_of b) { call = y }) (sym c)

  pub stepped_is : (shape : Shape) (next : Stepped) (before : ℕ) (opened : Option Open)
      (called : Option (Now CallPoint Answer)) → IsAt t next → IsTxnOf shape t
      → a.is_open ≡ true → a.step ≡ step.InTxn → before ≡ a.attempt.locks
      → stepped (before_step opened called) (open_of a) before next
      ≡ finished (client_of with_txn) (open_of with_txn) next.call
  stepped_is shape next before x y at of opened in_txn b =
      let held = taken_held t.state next.call (held_of shape t next.call of at.call) in
      let from = λ (state : TxnState) (n : ℕ) (headers : List ℕ).
      let locks = locks_from state n (drop n headers) in
      on_call (record (before_step x y) { log = with_locks a.log.log locks })
      (record (open_of a) { locks = a.attempt.locks + length locks; state = state }) next.call in
      ap (λ (state : TxnState). from state before (taken_now state next.call)) (sym at.state)
      ∙ ap (λ (headers : List ℕ). from t.state before headers) held
      ∙ ap (λ (n : ℕ). from t.state n t.state.held) b
      ∙ called_is (record (before_step x y) { log = with_txn.log.log }) (open_of with_txn) next.call
      ∙ ap (λ (client : ClientState). finished client (open_of with_txn) next.call)
      (running_is (client_of with_txn) next.call opened in_txn at.call)
