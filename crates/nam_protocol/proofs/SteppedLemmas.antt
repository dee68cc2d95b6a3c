-- A client whose transaction has stepped, seen by what its call has come to.
use Rattle.std.proofs.Common.{List, Option, Some, [], ap, append-nil, arith, length, refl, ℕ, ◌+◌, ◌∙◌, ◌≡◌}
use Rattle.std.proofs.Common.{None, ◌++◌, ◌∷◌}
use Rattle.std.proofs.Math.Seq.{drop-append_seam, drop-length}
use Rattle.si_model.specs.declared.log.Lock.{Lock}
use Rattle.nam_verbs.specs.declared.now.Now.{Now}
use Rattle.nam_verbs.specs.declared.now.Now.TheVariants.{At, Over}
use Rattle.nam_protocol.specs.declared.client.Answer.{Answer}
use Rattle.nam_protocol.specs.declared.client.CallPoint.{CallPoint}
use Rattle.nam_protocol.specs.declared.client.CallPoint.TheVariants.{InTxn}
use Rattle.nam_protocol.specs.declared.client.ClientState.{ClientState}
use Rattle.nam_protocol.specs.declared.client.Open.{Open}
use Rattle.nam_protocol.specs.declared.txn.CommitPoint.{CommitPoint}
use Rattle.nam_protocol.specs.declared.txn.TxnAnswer.{TxnAnswer}
use Rattle.nam_protocol.specs.declared.txn.TxnPoint.{TxnPoint}
use Rattle.nam_protocol.specs.declared.txn.TxnPoint.TheVariants.{Committing}
use Rattle.nam_protocol.specs.declared.txn.TxnState.{TxnState}
use Rattle.nam_protocol.specs.Client.{abandon_open, client_abandon}
use Rattle.nam_protocol.specs.Commit.{lock_at}
use Rattle.nam_protocol.specs.Log.{with_locks}
use Rattle.nam_protocol.specs.Own.{Rests}
use Rattle.nam_protocol.specs.Telling.{locks_from, new_locks, stepped, on_call}
use Rattle.nam_protocol.specs.Txn.{Stepped, at}
use Rattle.nam_protocol.specs.TxnCalls.{taken_at, taken_now}
use Rattle.nam_protocol.proofs.GoesClient.{step_opens}
use Rattle.nam_protocol.specs.declared.client.Answer.TheVariants as client_answer

-- 1. A view that looks at the call and the transaction's state alone: what it says of each point, and of an answered
-- client

module _ {A : Type 0} (view : Option (Now CallPoint Answer) → Option Open → A) (of_place : TxnState → TxnPoint → A)
    (at_rest : A) where
  abbrev pub view_now : TxnState → Now TxnPoint TxnAnswer → A
  view_now state (At place) = of_place state place
  view_now state (Over answer) = at_rest

  pub stepped_view : ((attempt : Open) (place : TxnPoint)
      → view (Some (At (InTxn place))) (Some attempt) ≡ of_place attempt.state place)
      → ((answer : Answer) (opened : Option Open) → view (Some (Over answer)) opened ≡ at_rest)
      → (client : ClientState) (attempt : Open) (before : ℕ) (step : Stepped)
      → let d = stepped client attempt before step in view d.call d.txn ≡ view_now step.state step.call
  stepped_view places rests client attempt before step = by_call step.state step.call
    where
      by_call : (state : TxnState) (call : Now TxnPoint TxnAnswer)
          → let d = stepped client attempt before record { state = state; call = call } in
          view d.call d.txn ≡ view_now state call
      by_call state (At place) = places (step_opens attempt before record { state = state; call = At place }) place
      by_call state (Over answer) = rests (client_answer.Txn answer) _

-- 2. A step that takes no lock lists none

module _ (client : ClientState) (attempt : Open) where
  no_new : (step : Stepped) (held : List ℕ) → taken_now step.state step.call ≡ held
      → new_locks step.state (length held) (taken_now step.state step.call) ≡ []
  no_new step held same =
      ap (λ (headers : List ℕ). new_locks step.state (length held) headers) same
      ∙ ap (λ (headers : List ℕ). locks_from step.state (length held) headers) (drop-length held)

  pub quiet_step : (step : Stepped) (held : List ℕ) → taken_now step.state step.call ≡ held
      → stepped client attempt (length held) step ≡ on_call client (record attempt { state = step.state }) step.call
  quiet_step step held same =
      let none : attempt.locks + 0 ≡ attempt.locks = omega arith in
      ap (λ (locks : List Lock). on_call (record client { log = with_locks client.log locks })
      (record attempt { locks = attempt.locks + length locks; state = step.state }) step.call) (no_new step held same)
      ∙ ap (λ (locks : List Lock). on_call (record client { log = record client.log { locks = locks } })
      (record attempt { locks = attempt.locks + 0; state = step.state }) step.call) (append-nil client.log.locks)
      ∙ ap (λ (locks : ℕ). on_call client (record attempt { locks = locks; state = step.state }) step.call) none

  -- the state is as it was
  pub quiet : (place : TxnPoint)
      → stepped client attempt (length (taken_at attempt.state place)) (at attempt.state place)
      ≡ record client { txn = Some attempt; call = Some (At (InTxn place)) }
  quiet place = quiet_step (at attempt.state place) (taken_at attempt.state place) refl

  -- 3. A step that takes a lock lists it

  pub locked : (header : ℕ) (next : CommitPoint)
      → let state = record attempt.state { held = attempt.state.held ++ header ∷ [] } in
      stepped client attempt (length attempt.state.held) (at state (Committing next))
      ≡ record client {
        log = with_locks client.log (lock_at state (length attempt.state.held) header ∷ []);
        txn = Some (record attempt { locks = attempt.locks + 1; state = state });
        call = Some (At (InTxn (Committing next)));
      }
  locked header next = rw (drop-append_seam attempt.state.held (header ∷ [])) refl

-- 4. A client at rest, and after it has given its transaction up

module _ (View : Option (Now CallPoint Answer) → Option Open → Type 0)
    (none : (opened : Option Open) → View None opened)
    (over : (answer : Answer) (opened : Option Open) → View (Some (Over answer)) opened) where
  pub rested_view : (call : Option (Now CallPoint Answer)) (opened : Option Open) → Rests call → View call opened
  rested_view None opened rests = none opened
  rested_view (Some (Over answer)) opened rests = over answer opened
  rested_view (Some (At place)) opened rests = absurd rests

  abandoned_at : (client : ClientState) (opened : Option Open) → Rests client.call
      → let d = abandon_open client opened in View d.call d.txn
  abandoned_at client None rests = rested_view client.call client.txn rests
  abandoned_at client (Some attempt) rests = rested_view client.call None rests

  pub abandoned_view : (client : ClientState) → Rests client.call
      → let d = client_abandon client in View d.call d.txn
  abandoned_view client rests = abandoned_at client client.txn rests
