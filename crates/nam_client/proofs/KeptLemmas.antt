-- What a client keeps with each word, and with each call that it is asked.
use Rattle.std.specs.Prelude.{IsSome, None, Option, Some, if◌then◌else◌, option_map}
use Rattle.std.proofs.Common.{Bool, ap, false, refl, subst, sym, true, ℕ, ◌<◌, ◌≤◌, ◌∙◌, ◌≡◌}
use Rattle.std.proofs.lemmas.Bool.{false≢true}
use Rattle.si_model.specs.declared.log.Finish.{Finish}
use Rattle.nam_verbs.specs.declared.now.Now.{Now}
use Rattle.nam_verbs.specs.declared.now.Now.TheVariants.{At, Over}
use Rattle.nam_catalog.specs.declared.shape.Shape.{Shape}
use Rattle.nam_calls.specs.declared.medic.MedicPoint.{MedicPoint}
use Rattle.nam_calls.specs.Memory.{verb_there}
use Rattle.nam_protocol.specs.declared.client.Call.{Call}
use Rattle.nam_protocol.specs.declared.client.Call.TheVariants as call
use Rattle.nam_protocol.specs.declared.client.Open.{Open}
use Rattle.nam_vector.specs.declared.snap.SnapPoint.{SnapPoint}
use Rattle.nam_vector.specs.declared.snap.SnapEnd.{SnapEnd}
use Rattle.nam_protocol.specs.declared.client.CallPoint.{CallPoint}
use Rattle.nam_protocol.specs.declared.client.CallPoint.TheVariants.{Beginning}
use Rattle.nam_protocol.specs.declared.client.Answer.{Answer}
use Rattle.nam_protocol.specs.declared.txn.TxnAnswer.{TxnAnswer}
use Rattle.nam_protocol.specs.declared.txn.TxnCall.{TxnCall}
use Rattle.nam_protocol.specs.declared.txn.TxnPoint.{TxnPoint}
use Rattle.nam_protocol.specs.Client.{client_after, client_ask, verb_of as verb_in}
use Rattle.nam_protocol.specs.ClientFits.{CallFits, CallStands, ClientFits, OpenCallFits, call_bound}
use Rattle.nam_protocol.specs.Left.{client_left}
use Rattle.nam_protocol.specs.Own.{MayAsk, OpenClient, Rests as ClientRests}
use Rattle.nam_protocol.proofs.FallsClient.{client_begins, client_falls}
use Rattle.nam_protocol.proofs.OpenLemmas.{open_asked, open_word}
use Rattle.nam_protocol.proofs.StaysLemmas.{asked_stays, word_stays}
use Rattle.nam_txn.specs.Txn.{CallFits as TxnCallFits, IsTxnOf, Rests}
use Rattle.nam_client.specs.declared.registers.Registers.{Registers}
use Rattle.nam_client.specs.declared.registers.Step.{Step}
use Rattle.nam_client.specs.declared.registers.Step.TheVariants as step
use Rattle.nam_client.specs.Client.{verb_of}
use Rattle.nam_client.specs.Registers.{begun, call_of, client_of, in_txn, medic_of, open_of, runs as runs_now}
use Rattle.nam_client.specs.Fits.{HandFits, IsClientOf, IsFresh}
use Rattle.nam_client.specs.Room.{HasRoom, Holds, StepHolds, TxnRests}
use Rattle.nam_client.proofs.ScanLemmas.{opened_by}
use Rattle.nam_protocol.specs.SessionFits.{is_running}

-- no medic has finished it
unfinished : (finish : Option Finish) → medic_of finish ≡ None → finish ≡ None
unfinished None e = refl
unfinished (Some how) e = absurd (cc)

-- a client that isn't cut is not finished
unfinished_uncut : (a : Registers) → Holds a → a.is_cut ≡ false → a.finish ≡ None
unfinished_uncut a holds uncut = by_finish a.finish refl
  where
    by_finish : (finish : Option Finish) → a.finish ≡ finish → finish ≡ None
    by_finish None e = refl
    by_finish (Some how) e = absurd (false≢true (sym uncut ∙ (holds.finishes (rw e refl)).0))

-- and what isn't finished need not be cut
still_finishes : (a : Registers) → a.finish ≡ None
    → IsSome a.finish → (a.is_cut ≡ true) × (is_running (call_of a.step a) ≡ true)
still_finishes a none some = absurd (cc)

-- a call runs, and the client isn't cut
record IsGoing (a : Registers) : Type 0 where
  uncut : a.is_cut ≡ false
  at : CallPoint
  stands : call_of a.step a ≡ Some (At at)

module _ (shape : Shape) (a : Registers) where
  going_by : (call : Option (Now CallPoint Answer)) → a.is_cut ≡ false → call_of a.step a ≡ call
      → IsSome (option_map (verb_there shape) (verb_in shape (client_of a) call)) → IsGoing a
  going_by None uncut is some = absurd (cc)
  going_by (Some (Over end)) uncut is some = absurd (cc)
  going_by (Some (At at)) uncut is some = record { uncut = uncut; at = at; stands = is }

  going_unless : (cut : Bool) → a.is_cut ≡ cut
      → IsSome (option_map (verb_there shape)
      (if cut then None else verb_in shape (client_of a) (call_of a.step a))) → IsGoing a
  going_unless true is some = absurd (cc)
  going_unless false is some = going_by (call_of a.step a) is refl some

  going : IsSome (verb_of shape a) → IsGoing a
  going some = going_unless a.is_cut refl some

-- the snapshot of a begin that runs is of the shape's workers
module _ (shape : Shape) (a : Registers) (of : IsClientOf shape a) (some : IsSome (verb_of shape a)) (txn nth : ℕ)
    (at : a.step ≡ step.Beginning txn nth) where
  workers_by : (state : Now SnapPoint SnapEnd)
      → HandFits shape a (runs_now (Beginning txn nth) (begun a.attempt.prefix) state)
      → runs_now (Beginning txn nth) (begun a.attempt.prefix) state ≡ Some (At (going shape a some).at)
      → a.snapper.workers ≡ shape.workers
  workers_by (At place) hand is = hand
  workers_by (Over end) hand is = absurd (cc)

  pub begin_workers : a.snapper.workers ≡ shape.workers
  begin_workers =
      workers_by a.snapper.state (rw at at of.hand)
      (sym (ap (λ (s : Step). call_of s a) at) ∙ (going shape a some).stands)

-- 1. With a word

module _ (shape : Shape) (a b : Registers) (of : IsClientOf shape a) (found : ℕ) (some : IsSome (verb_of shape a))
    (goes : client_of b ≡ client_after shape (client_of a) found) where
  runs : IsGoing a
  runs = going shape a some

  word_fits : ClientFits shape (client_of b)
  word_fits =
      subst (λ client. ClientFits shape client) (sym goes)
      (client_falls shape of.limits (client_of a) runs.at found of.fits runs.uncut runs.stands).0

  pub word_kept : (b.is_open ≡ true → IsTxnOf shape b.txn) → HandFits shape b (call_of b.step b) → IsClientOf shape b
  word_kept txn hand = record { limits = of.limits; fits = word_fits; txn = txn; hand = hand }

  pub word_falls : client_left shape (client_of b) < client_left shape (client_of a)
  word_falls =
      subst (λ client. client_left shape client < client_left shape (client_of a)) (sym goes)
      (client_falls shape of.limits (client_of a) runs.at found of.fits runs.uncut runs.stands).1

  pub word_holds : Holds a → HasRoom b → StepHolds b.step b → (b.is_open ≡ true → TxnRests b.step b.txn.call)
      → Holds b
  word_holds holds room at calm = record {
    room = room;
    opened = subst (λ client. OpenClient client) (sym goes) (open_word shape (client_of a) found holds.opened);
    at = at;
    calm = calm;
    finishes =
        still_finishes b
        (unfinished b.finish
        (ap (λ client. client.medic) goes ∙ (word_stays shape (client_of a) found).1
        ∙ ap medic_of (unfinished_uncut a holds runs.uncut)));
  }

  -- a transaction that was just begun is one of the store
  pub word_fresh : (b.is_open ≡ true → IsFresh b.txn) → b.is_open ≡ true → IsTxnOf shape b.txn
  word_fresh is_fresh opened =
      let fresh = is_fresh opened in
      record {
        limits = of.limits;
        fits = rw opened at word_fits.1;
        call = subst (λ call. TxnCallFits shape b.txn.state b.txn.hand call) (sym fresh.call) (fresh.held, fresh.read);
      }

-- 2. With a call

-- a call that may be asked stands
stands : (shape : Shape) (opened : Option Open) (asked : Call) → CallFits shape opened asked
    → CallStands shape opened asked
stands shape opened (call.Begin txn nth) fits = tt
stands shape opened (call.Txn asked) fits = fits
stands shape opened (call.Scan table low high) fits = fits
stands shape opened (call.Tidy table key) fits = fits.1
stands shape opened (call.Collect bucket) fits = fits.1

module _ (shape : Shape) (a b : Registers) (of : IsClientOf shape a) (asked : Call)
    (may : MayAsk shape (client_of a) asked) (goes : client_of b ≡ client_ask shape (client_of a) asked) where
  falls_to : ClientFits shape (client_ask shape (client_of a) asked)
      × (client_left shape (client_ask shape (client_of a) asked) ≤ call_bound shape (client_of a) asked)
  falls_to =
      client_begins shape of.limits (client_of a) asked of.fits (stands shape (client_of a).txn asked may.fits)

  pub asked_kept : (b.is_open ≡ true → IsTxnOf shape b.txn) → HandFits shape b (call_of b.step b)
      → IsClientOf shape b
  asked_kept txn hand = record {
    limits = of.limits;
    fits = subst (λ client. ClientFits shape client) (sym goes) falls_to.0;
    txn = txn;
    hand = hand;
  }

  pub asked_left : client_left shape (client_of b) ≤ call_bound shape (client_of a) asked
  asked_left =
      subst (λ client. client_left shape client ≤ call_bound shape (client_of a) asked) (sym goes) falls_to.1

  pub asked_holds : Holds a → HasRoom b → StepHolds b.step b → (b.is_open ≡ true → TxnRests b.step b.txn.call)
      → Holds b
  asked_holds holds room at calm = record {
    room = room;
    opened = subst (λ client. OpenClient client) (sym goes) (open_asked shape (client_of a) asked may);
    at = at;
    calm = calm;
    finishes =
        still_finishes b
        (unfinished b.finish
        (ap (λ client. client.medic) goes ∙ (asked_stays shape (client_of a) asked).1
        ∙ ap medic_of (unfinished_uncut a holds may.runs)));
  }

-- 3. The open transaction rests where a call may be asked

rests_by : (now : Option (Now TxnPoint TxnAnswer)) → ClientRests (in_txn now) → Rests now
rests_by None rests = tt
rests_by (Some (At at)) rests = absurd rests
rests_by (Some (Over end)) rests = tt

rests_in : (a : Registers) (s : Step) → TxnRests s a.txn.call → ClientRests (call_of s a) → Rests a.txn.call
rests_in a step.InTxn calm rests = rests_by a.txn.call rests
rests_in a step.Resting calm rests = calm
rests_in a (step.Beginning txn nth) calm rests = calm
rests_in a step.Scanning calm rests = calm
rests_in a (step.Seeking table key passed) calm rests = calm
rests_in a (step.Moving table key position) calm rests = calm
rests_in a (step.Snapping bucket) calm rests = calm
rests_in a (step.Collecting bucket prefix) calm rests = calm
rests_in a (step.Answered end) calm rests = calm

open_call : (shape : Shape) (opens : Bool) (attempt : Open) (asked : TxnCall)
    → OpenCallFits shape (if opens then Some attempt else None) asked → opens ≡ true
open_call shape true attempt asked fits = refl
open_call shape false attempt asked fits = absurd fits

module _ (shape : Shape) (a : Registers) (holds : Holds a) where
  pub rests_call : (asked : TxnCall) → MayAsk shape (client_of a) (call.Txn asked) → Rests a.txn.call
  rests_call asked may =
      rests_in a a.step (holds.calm (open_call shape a.is_open (open_of a) asked may.fits)) may.rests

  pub rests_scan : (table low high : ℕ) → MayAsk shape (client_of a) (call.Scan table low high) → Rests a.txn.call
  rests_scan table low high may = rests_in a a.step (holds.calm (opened_by a may.fits.0)) may.rests

-- 4. A call of the transaction is in its step

module _ (a : Registers) (at : a.step ≡ step.InTxn) where
  pub in_txn_holds : StepHolds a.step a
  in_txn_holds = rw at tt

  pub in_txn_calm : a.is_open ≡ true → TxnRests a.step a.txn.call
  in_txn_calm opened = rw at tt
