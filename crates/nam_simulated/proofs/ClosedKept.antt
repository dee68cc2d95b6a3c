-- The log of a client that is closed fits, and its events own all that it lists.
use Rattle.nam_calls.proofs.FallsTests.{either}
use Rattle.nam_calls.specs.Fits.{IsTableOf}
use Rattle.nam_calls.specs.Mover.{move_claimed}
use Rattle.nam_catalog.specs.Tables.{widths_of}
use Rattle.nam_catalog.specs.declared.shape.Shape.{Shape}
use Rattle.nam_layout.specs.Place.{bucket_of, place_of}
use Rattle.nam_protocol.proofs.KeptSession.{reached_holds}
use Rattle.nam_protocol.specs.ClientFits.{CallPointFits, NowFits, OpenFits, OpenPointFits}
use Rattle.nam_protocol.specs.CutClient.{closed_call, closed_client, cut_call, cut_in_txn, cut_move, cut_open, cut_tail}
use Rattle.nam_protocol.specs.CutClient.{finish_of, finished_call, finished_in_txn, has_committed, left_open}
use Rattle.nam_protocol.specs.Own.{IsOpenAt, IsOpenNow}
use Rattle.nam_protocol.specs.Session.{session_log}
use Rattle.nam_protocol.specs.Telling.{with_commit, with_end}
use Rattle.nam_protocol.specs.TxnFits.{StateFits}
use Rattle.nam_protocol.specs.declared.client.Answer.{Answer}
use Rattle.nam_protocol.specs.declared.client.CallPoint.{CallPoint}
use Rattle.nam_protocol.specs.declared.client.CallPoint.TheVariants.{Beginning, Collecting, InTxn, Moving, Scanning}
use Rattle.nam_protocol.specs.declared.client.CallPoint.TheVariants.{Seeking, Snapping}
use Rattle.nam_protocol.specs.declared.client.ClientState.{ClientState}
use Rattle.nam_protocol.specs.declared.client.Open.{Open}
use Rattle.nam_protocol.specs.declared.txn.CommitPoint.{CommitPoint}
use Rattle.nam_protocol.specs.declared.txn.CommitPoint.TheVariants.{Ending, Freeing}
use Rattle.nam_protocol.specs.declared.txn.TxnPoint.{TxnPoint}
use Rattle.nam_protocol.specs.declared.txn.TxnPoint.TheVariants.{Claiming, Committing, Finding, Reading}
use Rattle.nam_report.specs.Fits.{OutcomeFits}
use Rattle.nam_simulated.proofs.ClientSo.{NowSo, OpenSo, open_before}
use Rattle.nam_simulated.proofs.ItemsFit.{table_named}
use Rattle.nam_simulated.proofs.LogGrows.{LogSo, commit_so, end_so, event_so, log_is_of}
use Rattle.nam_simulated.proofs.WordKept.{Keeps, new_keeps}
use Rattle.nam_simulated.specs.LogLaw.{SessionLogLaw}
use Rattle.nam_verbs.specs.declared.now.Now.{Now}
use Rattle.nam_verbs.specs.declared.now.Now.TheVariants.{At, Over}
use Rattle.si_model.specs.declared.log.Event.TheVariants.{CollectCut, Collected, Finished, Moved, TailCut, TidyCut}
use Rattle.si_model.specs.declared.log.Finish.{Finish}
use Rattle.si_model.specs.declared.log.Outcome.{Outcome}
use Rattle.si_model.specs.declared.log.Outcome.TheVariants.{Cut, Left}
use Rattle.si_model.specs.declared.log.Stamp.{Stamp}
use Rattle.std.proofs.Common.{Bool, None, Option, Some, false, refl, true, ℕ, ◌+◌}
use Rattle.nam_simulated.proofs.ItemsFit.{writes_fit}
use Rattle.nam_simulated.proofs.WordKept.{client_keeps}
use Rattle.nam_protocol.specs.Log.{unbegun}
use Rattle.std.specs.Prelude.{if◌then◌else◌}
use Rattle.si_model.specs.declared.log.Event.TheVariants as event
use Rattle.si_model.specs.declared.log.MoveEnd.TheVariants as moved
use Rattle.si_model.specs.declared.log.Outcome.TheVariants as outcome

module _ (shape : Shape) (client : ClientState) where
  -- 1. The attempt ends

  abbrev Closes : ClientState → Type 0
  Closes after = LogSo shape after.log 0 0 0

  ended : (attempt : Open) (how : Outcome) → LogSo shape client.log attempt.reads attempt.locks 1
      → OutcomeFits (widths_of shape.tables) how → Closes (with_end client attempt how)
  ended attempt how so fits = end_so shape client.log attempt how so fits

  committed : (attempt : Open) (number : ℕ) → LogSo shape client.log attempt.reads attempt.locks 1
      → StateFits shape attempt.state → Closes (with_commit client attempt number)
  committed attempt number so fits =
      commit_so shape client.log attempt (outcome.Commit number) attempt.state.writes so tt
      (writes_fit shape attempt.state fits)

  left : (opened : Option Open) → OpenSo shape client.log opened → Closes (left_open client opened)
  left None so = so
  left (Some attempt) so = by_cut client.cut
    where
      by_cut : (cut : Bool) → Closes (with_end client attempt (if cut then outcome.Cut else outcome.Left))
      by_cut true = ended attempt outcome.Cut so tt
      by_cut false = ended attempt outcome.Left so tt

  -- 2. The call that was stopped

  tail : (attempt : Open) → LogSo shape client.log attempt.reads attempt.locks 1 → StateFits shape attempt.state
      → Closes (cut_tail client attempt)
  tail attempt so fits =
      event_so shape (with_commit client attempt (attempt.state.last + 1)).log event.TailCut 0 0 0
      (committed attempt (attempt.state.last + 1) so fits) tt refl

  in_commit : (attempt : Open) (at : CommitPoint) → LogSo shape client.log attempt.reads attempt.locks 1
      → StateFits shape attempt.state → Closes (cut_in_txn client attempt (Committing at))
  in_commit attempt (Freeing nth) so fits = tail attempt so fits
  in_commit attempt Ending so fits = tail attempt so fits
  in_commit attempt _ so fits = ended attempt outcome.Cut so tt

  in_txn : (at : TxnPoint) (opened : Option Open) → OpenSo shape client.log opened → OpenFits shape opened
      → OpenPointFits shape opened at → Closes (cut_open client at opened)
  in_txn at None so fits stands = absurd stands
  in_txn (Committing at) (Some attempt) so fits stands = in_commit attempt at so fits
  in_txn (Finding op passed) (Some attempt) so fits stands = ended attempt outcome.Cut so tt
  in_txn (Reading op position at) (Some attempt) so fits stands = ended attempt outcome.Cut so tt
  in_txn (Claiming op at) (Some attempt) so fits stands = ended attempt outcome.Cut so tt

  moves : (table key bucket : ℕ) (stamp : Option Stamp) → IsTableOf shape table → LogSo shape client.log 0 0 0
      → Closes (cut_move client table key bucket stamp)
  moves table key bucket None is so =
      event_so shape client.log (event.TidyCut table key) 0 0 0 so (table_named shape table is) refl
  moves table key bucket (Some stamp) is so =
      event_so shape client.log (event.Moved bucket table key stamp moved.Cut) 0 0 0 so (table_named shape table is)
      refl

  stopped : (place : CallPoint) → OpenFits shape client.txn → CallPointFits shape client.txn place
      → IsOpenAt client.txn place → NowSo shape client.log client.txn (Some (At place))
      → Closes (cut_call shape client place)
  stopped (Beginning txn nth at) fits stands open_ so =
      event_so shape client.log (unbegun txn nth outcome.Cut) 0 0 0
      (open_before shape client.txn client.log open_ so) tt refl
  stopped (InTxn at) fits stands open_ so = in_txn at client.txn so fits stands
  stopped (Scanning table low high at) fits stands open_ so = left client.txn so
  stopped (Seeking table key passed) fits stands open_ so =
      event_so shape client.log (event.TidyCut table key) 0 0 0 (open_before shape client.txn client.log open_ so)
      (table_named shape table stands.0) refl
  stopped (Moving table key position at) fits stands open_ so =
      let place = place_of shape table position in
      moves table key (bucket_of shape place.row) (move_claimed place at) stands.0
      (open_before shape client.txn client.log open_ so)
  stopped (Snapping bucket at) fits stands open_ so =
      event_so shape client.log (event.CollectCut bucket) 0 0 0
      (open_before shape client.txn client.log open_ so) tt refl
  stopped (Collecting bucket prefix seen at) fits stands open_ so =
      event_so shape client.log (event.Collected bucket prefix seen true) 0 0 0 so stands.1 refl

  closes_call : (now : Option (Now CallPoint Answer)) → OpenFits shape client.txn → NowFits shape client.txn now
      → IsOpenNow client.txn now → NowSo shape client.log client.txn now → Closes (closed_call shape client now)
  closes_call None fits stands open_ so = left client.txn so
  closes_call (Some (Over end)) fits stands open_ so = left client.txn so
  closes_call (Some (At place)) fits stands open_ so = stopped place fits stands open_ so

  -- 3. The medic has finished it

  finished_in : (at : TxnPoint) (how : Finish) (opened : Option Open) → OpenSo shape client.log opened
      → OpenFits shape opened → OpenPointFits shape opened at → Closes (finished_in_txn client at how opened)
  finished_in at how None so fits stands = absurd stands
  finished_in at how (Some attempt) so fits stands =
      either Closes (has_committed at how) (with_commit client attempt (attempt.state.last + 1))
      (with_end client attempt outcome.Cut) (committed attempt (attempt.state.last + 1) so fits)
      (ended attempt outcome.Cut so tt)

  finishes : (how : Finish) (now : Option (Now CallPoint Answer)) → OpenFits shape client.txn
      → NowFits shape client.txn now → IsOpenNow client.txn now → NowSo shape client.log client.txn now
      → Closes (finished_call shape client how now)
  finishes how (Some (At (InTxn at))) fits stands open_ so = finished_in at how client.txn so fits stands
  finishes how now fits stands open_ so = closes_call now fits stands open_ so

  pub closed_so : (finish : Option Finish) (now : Option (Now CallPoint Answer)) → OpenFits shape client.txn
      → NowFits shape client.txn now → IsOpenNow client.txn now → NowSo shape client.log client.txn now
      → Closes (closed_client shape client finish now)
  closed_so None now fits stands open_ so = closes_call now fits stands open_ so
  closed_so (Some how) now fits stands open_ so =
      event_so shape (finished_call shape client how now).log (event.Finished how) 0 0 0
      (finishes how now fits stands open_ so) tt refl

-- each session that occurs
pub logs_fit : SessionLogLaw
logs_fit shape limits worker start jobs policy is number fit least session reached =
    let s = reached_holds shape limits (Keeps shape) (client_keeps shape limits) worker start jobs policy is number fit
    least (new_keeps shape worker start) session reached in
    let client = session.client in
    let kept = s.1.client in
    log_is_of shape (session_log shape session)
    (closed_so shape client (finish_of client.medic) client.call s.0.client.1 s.0.client.2 kept.opens kept.listed.so)
