-- A client that runs no commit holds nothing and changes no chain; and a step of a transaction, seen as a holder.
use Rattle.std.proofs.Common.{None, Option, Some, ap, refl, sym, ℕ, ◌≡◌}
use Rattle.nam_catalog.specs.declared.shape.Shape.{Shape}
use Rattle.nam_ghost.specs.Copiers.{copier_in, copier_of}
use Rattle.nam_ghost.specs.Holders.{holder_in, holder_now, holder_of, no_holder}
use Rattle.nam_ghost.specs.Idle.{Idles, IsIdle}
use Rattle.nam_ghost.specs.Steps.{chains_after}
use Rattle.nam_ghost.specs.Versions.{Chain}
use Rattle.nam_protocol.proofs.GoesClient.{begin_goes, on_answer_goes, snap_goes, step_lists, step_opens}
use Rattle.nam_protocol.specs.Client.{on_begin, on_snap}
use Rattle.nam_protocol.specs.Own.{Rests}
use Rattle.nam_protocol.specs.Plain.{IsAside}
use Rattle.nam_protocol.specs.Telling.{go, stepped}
use Rattle.nam_protocol.specs.Txn.{Stepped}
use Rattle.nam_protocol.specs.declared.client.Answer.{Answer}
use Rattle.nam_protocol.specs.declared.client.CallPoint.{CallPoint}
use Rattle.nam_protocol.specs.declared.client.CallPoint.TheVariants.{InTxn}
use Rattle.nam_protocol.specs.declared.client.ClientState.{ClientState}
use Rattle.nam_protocol.specs.declared.client.Open.{Open}
use Rattle.nam_protocol.specs.declared.txn.TxnAnswer.{TxnAnswer}
use Rattle.nam_protocol.specs.declared.txn.TxnPoint.{TxnPoint}
use Rattle.nam_protocol.specs.declared.txn.TxnPoint.TheVariants.{Committing}
use Rattle.nam_protocol.specs.declared.txn.TxnState.{TxnState}
use Rattle.nam_vector.specs.declared.snap.SnapEnd.{SnapEnd}
use Rattle.nam_vector.specs.declared.snap.SnapPoint.{SnapPoint}
use Rattle.nam_verbs.specs.declared.now.Now.{Now}
use Rattle.nam_verbs.specs.declared.now.Now.TheVariants.{At, Over}

-- 1. Which clients are idle

pub aside_idle : (call : Option (Now CallPoint Answer)) → IsAside call → IsIdle call
aside_idle None aside = tt
aside_idle (Some (Over answer)) aside = tt
aside_idle (Some (At (InTxn (Committing at)))) aside = aside
aside_idle (Some (At (InTxn _))) aside = tt
aside_idle (Some (At _)) aside = tt

pub rests_aside : (call : Option (Now CallPoint Answer)) → Rests call → IsAside call
rests_aside None rests = tt
rests_aside (Some (Over answer)) rests = tt
rests_aside (Some (At place)) rests = absurd rests

-- 2. What they hold and change

pub idle_holder : (worker : ℕ) (call : Option (Now CallPoint Answer)) (opened : Option Open) → IsIdle call
    → holder_in worker call opened ≡ no_holder worker
idle_holder worker None opened idle = refl
idle_holder worker (Some (Over answer)) opened idle = refl
idle_holder worker (Some (At (InTxn (Committing at)))) opened idle = absurd idle
idle_holder worker (Some (At (InTxn _))) opened idle = refl
idle_holder worker (Some (At _)) opened idle = refl

pub idle_chains : (opened : Option Open) (place : CallPoint) (found : ℕ) (chains : ℕ → Chain)
    → IsIdle (Some (At place)) → chains_after opened place found chains ≡ chains
idle_chains opened (InTxn (Committing at)) found chains idle = absurd idle
idle_chains None (InTxn _) found chains idle = refl
idle_chains (Some attempt) (InTxn _) found chains idle = refl
idle_chains None _ found chains idle = refl
idle_chains (Some attempt) _ found chains idle = refl

-- 3. A step of a transaction, seen as a holder

-- where it ends the client is the same worker's
pub ended_worker : (client : ClientState) (attempt : Open) (before : ℕ) (state : TxnState) (answer : TxnAnswer)
    → (stepped client attempt before record { state = state; call = Over answer }).worker ≡ client.worker
ended_worker client attempt before state answer =
    let step : Stepped = record { state = state; call = Over answer } in
    on_answer_goes (λ (c : ClientState). c.worker ≡ client.worker) (step_lists client before step)
    (step_opens attempt before step) answer (λ e. refl) (λ outcome e. refl) (λ outcome e. refl) (λ number e. refl)

pub stepped_holder : (client : ClientState) (attempt : Open) (before : ℕ) (step : Stepped)
    → holder_of (stepped client attempt before step) ≡ holder_now client.worker step.state step.call
stepped_holder client attempt before step = by_call step.state step.call
  where
    by_call : (state : TxnState) (call : Now TxnPoint TxnAnswer)
        → holder_of (stepped client attempt before record { state = state; call = call })
        ≡ holder_now client.worker state call
    by_call state (At (Committing at)) = refl
    by_call state (At _) = refl
    by_call state (Over answer) = ap no_holder (ended_worker client attempt before state answer)

-- a copier holds what it holds as a holder
pub copier_holds : (client : ClientState) → (copier_of client).holder ≡ holder_of client
copier_holds client = by_call client.worker client.call client.txn
  where
    by_call : (worker : ℕ) (call : Option (Now CallPoint Answer)) (opened : Option Open)
        → (copier_in worker call opened).holder ≡ holder_in worker call opened
    by_call worker None opened = refl
    by_call worker (Some (Over answer)) opened = refl
    by_call worker (Some (At (InTxn (Committing at)))) None = refl
    by_call worker (Some (At (InTxn (Committing at)))) (Some attempt) = refl
    by_call worker (Some (At (InTxn _))) opened = refl
    by_call worker (Some (At _)) opened = refl

-- 4. Points of calls

abbrev RunsAt : CallPoint → Option (Now CallPoint Answer)
RunsAt place = Some (At place)

-- where two points are of one call
pub same_place : (place point : CallPoint) → RunsAt point ≡ RunsAt place → place ≡ point
same_place place point e = ap place_in (sym e)
  where
    place_in : Option (Now CallPoint Answer) → CallPoint
    place_in (Some (At place)) = place
    place_in _ = point

-- a client at a point, as the client that it is
pub place_is : (client : ClientState) (place : CallPoint) → client.call ≡ Some (At place) → go client place ≡ client
place_is client place e = ap (λ (call : Option (Now CallPoint Answer)). record client { call = call }) (sym e)

-- 5. A snapshot that is taken is no commit

pub begins_idle : (shape : Shape) (client : ClientState) (txn nth : ℕ) (now : Now SnapPoint SnapEnd)
    → Idles client (on_begin shape client txn nth now)
begins_idle shape client txn nth now =
    begin_goes (Idles client) shape client txn nth now (λ next e. (tt, refl)) (λ seen e. (tt, refl))
    (λ worker first second e. (tt, refl))

pub snaps_idle : (shape : Shape) (client : ClientState) (bucket : ℕ) (now : Now SnapPoint SnapEnd)
    → Idles client (on_snap shape client bucket now)
snaps_idle shape client bucket now =
    snap_goes (Idles client) shape client bucket now (λ next e. (tt, refl)) (λ seen e. (tt, refl))
    (λ worker first second e. (tt, refl))
