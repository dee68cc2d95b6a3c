-- Each step of a client, and each call that it is asked, keeps what is its own.
use Rattle.std.proofs.Common.{List, None, Option, Some, [], inl, refl, subst, sym, ℕ, ◌++◌, ◌∙◌, ◌∷◌, ◌≡◌}
use Rattle.si_model.specs.Lists.{Listed}
use Rattle.si_model.proofs.ListLemmas.{listed_append_left, listed_append_right}
use Rattle.nam_verbs.specs.declared.now.Now.{Now}
use Rattle.nam_verbs.specs.declared.now.Now.TheVariants.{At}
use Rattle.nam_catalog.specs.declared.shape.Shape.{Shape}
use Rattle.nam_catalog.specs.Fits.{FitsLimits}
use Rattle.nam_vector.specs.declared.snap.SnapEnd.{SnapEnd}
use Rattle.nam_vector.specs.declared.snap.SnapPoint.{SnapPoint}
use Rattle.nam_protocol.specs.declared.client.Call.{Call}
use Rattle.nam_protocol.specs.declared.client.CallPoint.{CallPoint}
use Rattle.nam_protocol.specs.declared.client.CallPoint.TheVariants.{Beginning, InTxn, Snapping}
use Rattle.nam_protocol.specs.declared.client.ClientState.{ClientState}
use Rattle.nam_protocol.specs.declared.client.Open.{Open}
use Rattle.nam_protocol.specs.declared.txn.CommitPoint.{CommitPoint}
use Rattle.nam_protocol.specs.declared.txn.TxnAnswer.{TxnAnswer}
use Rattle.nam_protocol.specs.declared.txn.TxnPoint.{TxnPoint}
use Rattle.nam_protocol.specs.declared.txn.TxnState.{TxnState}
use Rattle.nam_protocol.specs.Client.{abandon_open, client_abandon, client_after, client_ask, on_begin, on_snap}
use Rattle.nam_protocol.specs.ClientFits.{CallFits, CallStands, NowFits}
use Rattle.nam_protocol.specs.ClientFits.{ClientFits}
use Rattle.nam_protocol.specs.Commit.{ask_commit, commit_after}
use Rattle.nam_protocol.specs.CutClient.{client_cut}
use Rattle.nam_protocol.specs.Own.{MayAsk, OwnOk, OwnOpen, OwnsOpen}
use Rattle.nam_protocol.specs.Own.{Rests}
use Rattle.nam_protocol.specs.Plain.{KeepsOpen, Plain, SameBegin}
use Rattle.nam_protocol.specs.Sorts.{AskOf, StepOf, committing_at, AsksPlain, AsksBegin, AsksCollect, AsksCommit, Finds}
use Rattle.nam_protocol.specs.Sorts.{Reads, Moves, Collects, Begins, Snaps, Commits}
use Rattle.nam_protocol.specs.Telling.{go, with_answer, stepped, on_answer, items_of, unread, with_read, new_client}
use Rattle.nam_protocol.specs.Txn.{Stepped}
use Rattle.nam_protocol.proofs.FallsClient.{client_begins}
use Rattle.nam_protocol.proofs.GoesClient.{begin_goes, snap_goes, on_answer_goes, step_lists, step_opens, stepped_goes}
use Rattle.nam_protocol.proofs.GoesCommit.{ask_commit_goes, commit_goes}
use Rattle.nam_protocol.proofs.PlainLemmas.{same_begin, unread_same}
use Rattle.nam_protocol.proofs.SortsLemmas.{ask_sort, word_sort}
use Rattle.nam_protocol.proofs.SteppedLemmas.{rested_view}
use Rattle.nam_protocol.specs.declared.client.Answer.TheVariants as client_answer
use Rattle.nam_protocol.specs.declared.client.Call.TheVariants as call

-- 1. Plain steps

owns_kept : (worker last : ℕ) (snaps : List (List ℕ)) (attempt later : Open) → SameBegin attempt.state later.state
    → OwnsOpen worker last snaps attempt → OwnsOpen worker last snaps later
owns_kept worker last snaps attempt later same own = record {
  worker_is = same.worker ∙ own.worker_is;
  last_is = same.last ∙ own.last_is;
  listed = subst (λ seen. Listed seen snaps) (sym same.seen) own.listed;
}

open_kept : (worker last : ℕ) (snaps : List (List ℕ)) (was later : Option Open) → KeepsOpen was later
    → OwnOpen worker last snaps was → OwnOpen worker last snaps later
open_kept worker last snaps was None kept own = tt
open_kept worker last snaps None (Some later) kept own = absurd kept
open_kept worker last snaps (Some attempt) (Some later) kept own = owns_kept worker last snaps attempt later kept own

module _ (shape : Shape) (worker : ℕ) where
  abbrev Own : ClientState → Type 0
  Own = OwnOk shape worker

  pub plain_own : (before after : ClientState) → Plain before after → Own before → Own after
  plain_own before after plain own = record {
    worker_is = plain.worker ∙ own.worker_is;
    start_is = plain.start ∙ own.start_is;
    opened =
        subst (λ w. OwnOpen w after.last after.log.snaps after.txn) (sym plain.worker)
        (subst (λ n. OwnOpen before.worker n after.log.snaps after.txn) (sym plain.last)
        (subst (λ snaps. OwnOpen before.worker before.last snaps after.txn) (sym plain.snaps)
        (open_kept before.worker before.last before.log.snaps before.txn after.txn plain.opened own.opened)));
  }

  -- 2. Snapshots and commits

  -- one more snapshot is listed
  more_snaps : (w last : ℕ) (snaps : List (List ℕ)) (seen : List ℕ) (opened : Option Open)
      → OwnOpen w last snaps opened → OwnOpen w last (snaps ++ seen ∷ []) opened
  more_snaps w last snaps seen None own = tt
  more_snaps w last snaps seen (Some attempt) own = record {
    worker_is = own.worker_is;
    last_is = own.last_is;
    listed = listed_append_left snaps (seen ∷ []) attempt.state.seen own.listed;
  }

  begins_own : (client : ClientState) (txn nth : ℕ) (now : Now SnapPoint SnapEnd) → Own client
      → Own (on_begin shape client txn nth now)
  begins_own client txn nth now own =
      begin_goes Own shape client txn nth now
      (λ next e. record { worker_is = own.worker_is; start_is = own.start_is; opened = own.opened })
      (λ seen e. record {
        worker_is = own.worker_is;
        start_is = own.start_is;
        opened = record {
          worker_is = refl;
          last_is = refl;
          listed = listed_append_right client.log.snaps (seen ∷ []) seen (inl refl);
        };
      })
      (λ w first second e. record { worker_is = own.worker_is; start_is = own.start_is; opened = own.opened })

  snaps_own : (client : ClientState) (bucket : ℕ) (now : Now SnapPoint SnapEnd) → Own client
      → Own (on_snap shape client bucket now)
  snaps_own client bucket now own =
      snap_goes Own shape client bucket now
      (λ next e. record { worker_is = own.worker_is; start_is = own.start_is; opened = own.opened })
      (λ seen e. record {
        worker_is = own.worker_is;
        start_is = own.start_is;
        opened = more_snaps client.worker client.last client.log.snaps seen client.txn own.opened;
      })
      (λ w first second e. record { worker_is = own.worker_is; start_is = own.start_is; opened = own.opened })

  module _ (client : ClientState) (attempt : Open) (before : ℕ) (own : Own client)
      (opened : OwnsOpen client.worker client.last client.log.snaps attempt) where
    -- the commit goes on, or it has ended
    goes_own : (step : Stepped) → SameBegin attempt.state step.state → (place : TxnPoint) → step.call ≡ At place
        → Own
        (go (record (step_lists client before step) { txn = Some (step_opens attempt before step) }) (InTxn place))
    goes_own step same place e = record {
      worker_is = own.worker_is;
      start_is = own.start_is;
      opened =
          owns_kept client.worker client.last client.log.snaps attempt (step_opens attempt before step) same opened;
    }

    ends_own : (step : Stepped) → SameBegin attempt.state step.state → (answer : TxnAnswer)
        → Own (with_answer (on_answer (step_lists client before step) (step_opens attempt before step) answer)
        (client_answer.Txn answer))
    ends_own step same answer =
        on_answer_goes (λ c. Own (with_answer c (client_answer.Txn answer))) (step_lists client before step)
        (step_opens attempt before step) answer
        (λ e. record {
          worker_is = own.worker_is;
          start_is = own.start_is;
          opened =
              owns_kept client.worker client.last client.log.snaps attempt
              (with_read (unread (step_opens attempt before step)) (items_of step.state.read))
              (unread_same attempt.state step.state same) opened;
        })
        (λ outcome e. record { worker_is = own.worker_is; start_is = own.start_is; opened = tt })
        (λ outcome e. record { worker_is = own.worker_is; start_is = own.start_is; opened = tt })
        (λ number e. record { worker_is = own.worker_is; start_is = own.start_is; opened = tt })

    stepped_own : (step : Stepped) → SameBegin attempt.state step.state → Own (stepped client attempt before step)
    stepped_own step same =
        stepped_goes Own client attempt before step (goes_own step same) (λ answer e. ends_own step same answer)

  commit_same : (state : TxnState) (at : CommitPoint) (found : ℕ)
      → SameBegin state (commit_after state at found).state
  commit_same state at found =
      commit_goes (λ step. SameBegin state step.state) state at found (λ next to. same_begin state)
      (λ header next e to. record { worker = refl; last = refl; seen = refl })
      (λ place count next e to. record { worker = refl; last = refl; seen = refl })
      (λ answer ends. same_begin state)

  asked_same : (state : TxnState) → SameBegin state (ask_commit shape state).state
  asked_same state =
      ask_commit_goes (λ step. SameBegin state step.state) state shape
      (λ e. record { worker = refl; last = refl; seen = refl })
      (λ e f. record { worker = refl; last = refl; seen = refl })
      (λ e f t. record { worker = refl; last = refl; seen = refl })
      (λ e f t. record { worker = refl; last = refl; seen = refl })

  -- 3. By the sorts

  pub own_step : (found : ℕ) (before after : ClientState) → StepOf shape found before after → Own before → Own after
  own_step found _ _ (Finds client place is plain anew) own = plain_own _ _ plain own
  own_step found _ _ (Reads client place reader is plain on) own = plain_own _ _ plain own
  own_step found _ _ (Moves client table key position at plain) own = plain_own _ _ plain own
  own_step found _ _ (Collects client bucket prefix seen at plain) own = plain_own _ _ plain own
  own_step found _ _ (Begins client txn nth at) own = begins_own (go client (Beginning txn nth at)) txn nth _ own
  own_step found _ _ (Snaps client bucket at) own = snaps_own (go client (Snapping bucket at)) bucket _ own
  own_step found _ _ (Commits client attempt at) own =
      stepped_own (committing_at client attempt at) attempt _ own own.opened (commit_after attempt.state at found)
      (commit_same attempt.state at found)

  pub own_ask : (before after : ClientState) → AskOf shape before after → Own before → Own after
  own_ask _ _ (AsksPlain client asked plain none) own = plain_own _ _ plain own
  own_ask _ _ (AsksBegin client txn nth) own =
      record { worker_is = own.worker_is; start_is = own.start_is; opened = own.opened }
  own_ask _ _ (AsksCollect client bucket) own =
      record { worker_is = own.worker_is; start_is = own.start_is; opened = own.opened }
  own_ask _ _ (AsksCommit client attempt) own =
      stepped_own (record client { txn = Some attempt }) attempt 0 own own.opened (ask_commit shape attempt.state)
      (asked_same attempt.state)

  -- 4. Of any client

  pub own_word : (client : ClientState) (place : CallPoint) (found : ℕ) → ClientFits shape client
      → client.call ≡ Some (At place) → Own client → Own (client_after shape client found)
  own_word client place found fits e own = own_step found client _ (word_sort shape found client place fits e) own

  pub own_asked : (client : ClientState) (asked : Call) → MayAsk shape client asked → Own client
      → Own (client_ask shape client asked)
  own_asked client asked may own = own_ask client _ (ask_sort shape client asked may.fits) own

  pub own_abandoned : (client : ClientState) → Own client → Own (client_abandon client)
  own_abandoned client own = abandoned client.txn
    where
      abandoned : (opened : Option Open) → Own (abandon_open client opened)
      abandoned None = own
      abandoned (Some attempt) = record { worker_is = own.worker_is; start_is = own.start_is; opened = tt }

  pub own_cut : (client : ClientState) → Own client → Own (client_cut client)
  own_cut client own = record { worker_is = own.worker_is; start_is = own.start_is; opened = own.opened }

  pub own_new : Own (new_client worker shape.start)
  own_new = record { worker_is = refl; start_is = refl; opened = tt }

-- 5. It fits

module _ (shape : Shape) where
  stands : (opened : Option Open) (asked : Call) → CallFits shape opened asked → CallStands shape opened asked
  stands opened (call.Begin txn nth) fits = tt
  stands opened (call.Txn asked) fits = fits
  stands opened (call.Scan table low high) fits = fits
  stands opened (call.Tidy table key) fits = fits.1
  stands opened (call.Collect bucket) fits = fits.1

  pub fits_asked : FitsLimits shape → (client : ClientState) (asked : Call) → MayAsk shape client asked
      → ClientFits shape client → ClientFits shape (client_ask shape client asked)
  fits_asked limits client asked may fits =
      (client_begins shape limits client asked fits (stands client.txn asked may.fits)).0

  pub fits_abandoned : (client : ClientState) → Rests client.call → ClientFits shape client
      → ClientFits shape (client_abandon client)
  fits_abandoned client rests fits = abandoned client.txn
    where
      abandoned : (opened : Option Open) → ClientFits shape (abandon_open client opened)
      abandoned None = fits
      abandoned (Some attempt) = (
        fits.0,
        tt,
        rested_view (λ call opened. NowFits shape opened call) (λ opened. tt) (λ answer opened. tt) client.call None
            rests,
        fits.3,
      )
