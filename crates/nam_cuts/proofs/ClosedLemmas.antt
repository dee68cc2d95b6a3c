-- A client that is closed: what its log tells of a cut, and that no snapshot is listed then.
use Rattle.std.proofs.Common.{◌≡◌, ℕ, ◌+◌, Bool, true, false, List, [], ◌∷◌, ◌++◌, refl, sym, ap}
use Rattle.std.proofs.Common.{◌∙◌, subst, Option, Some, None}
use Rattle.std.proofs.lemmas.Bool.{false≢true}
use Rattle.std.specs.Prelude.{◌||◌, if◌then◌else◌, IsSome}
use Rattle.std.specs.List.{list_any}
use Rattle.si_model.specs.declared.log.Event.{Event}
use Rattle.si_model.specs.declared.log.Finish.{Finish}
use Rattle.si_model.specs.declared.log.Outcome.TheVariants as outcome
use Rattle.si_model.specs.declared.log.Stamp.{Stamp}
use Rattle.si_model.specs.Tells.{is_cut}
use Rattle.nam_verbs.specs.declared.now.Now.{Now}
use Rattle.nam_verbs.specs.declared.now.Now.TheVariants.{At, Over}
use Rattle.nam_catalog.specs.declared.shape.Shape.{Shape}
use Rattle.nam_layout.specs.Place.{bucket_of, place_of}
use Rattle.nam_calls.specs.Mover.{move_claimed}
use Rattle.nam_calls.proofs.FallsTests.{either}
use Rattle.nam_protocol.specs.declared.client.Answer.{Answer}
use Rattle.nam_protocol.specs.declared.client.CallPoint.{CallPoint}
use Rattle.nam_protocol.specs.declared.client.CallPoint.TheVariants.{Beginning, InTxn, Scanning, Seeking, Moving}
use Rattle.nam_protocol.specs.declared.client.CallPoint.TheVariants.{Snapping, Collecting}
use Rattle.nam_protocol.specs.declared.client.ClientState.{ClientState}
use Rattle.nam_protocol.specs.declared.client.Open.{Open}
use Rattle.nam_protocol.specs.declared.session.SessionState.{SessionState}
use Rattle.nam_protocol.specs.declared.txn.CommitPoint.TheVariants.{Freeing, Ending}
use Rattle.nam_protocol.specs.declared.txn.TxnPoint.{TxnPoint}
use Rattle.nam_protocol.specs.declared.txn.TxnPoint.TheVariants.{Committing}
use Rattle.nam_protocol.specs.Client.{verb_of}
use Rattle.nam_protocol.specs.CutClient.{closed_call, cut_call, closed_client, cut_move, cut_open, finish_of}
use Rattle.nam_protocol.specs.CutClient.{finished_call, finished_in_txn, has_committed, left_open}
use Rattle.nam_protocol.specs.Session.{session_log, verb_by}
use Rattle.nam_protocol.specs.SessionFits.{SessionFits, is_running}
use Rattle.nam_protocol.specs.World.{HasNoVerb}
use Rattle.nam_protocol.proofs.EndsSession.{uncut_of}
use Rattle.nam_cuts.specs.Cuts.{TellsCut, TellsNoCut, tells_cut}
use Rattle.nam_cuts.proofs.ClientSteps.{one_more}
use Rattle.nam_protocol.specs.Telling.{with_commit, with_end}
use Rattle.nam_protocol.specs.ClientFits.{CallPointFits, NowFits, OpenPointFits}
use Rattle.std.proofs.lemmas.List.Folds.{list_any-append}

-- 1. A client that isn't cut is closed

left_tells : (client : ClientState) (opened : Option Open) → client.cut ≡ false → TellsNoCut client.log
    → TellsNoCut (left_open client opened).log
left_tells client None uncut tells = tells
left_tells client (Some attempt) uncut tells =
    one_more client.log.events _ tells (ap (λ (b : Bool). is_cut (if b then outcome.Cut else outcome.Left)) uncut)

closed_tells : (shape : Shape) (client : ClientState) (now : Option (Now CallPoint Answer)) → client.cut ≡ false
    → verb_of shape client now ≡ None → TellsNoCut client.log → TellsNoCut (closed_client shape client None now).log
closed_tells shape client None uncut none tells = left_tells client client.txn uncut tells
closed_tells shape client (Some (At place)) uncut none tells = absurd (cc)
closed_tells shape client (Some (Over end)) uncut none tells = left_tells client client.txn uncut tells

pub log_tells : (shape : Shape) (session : SessionState) → SessionFits shape session → session.client.cut ≡ false
    → HasNoVerb shape session → TellsNoCut session.client.log → TellsNoCut (session_log shape session)
log_tells shape session fits uncut none tells =
    let client = session.client in
    let medic = (uncut_of shape session fits uncut).1 in
    let verb : verb_of shape client client.call ≡ None =
    sym (ap (λ (c : Bool). if c then None else verb_of shape client client.call) uncut)
    ∙ sym (ap (λ m. verb_by shape session m) medic) ∙ none in
    subst (λ m. TellsNoCut (closed_client shape client (finish_of m) client.call).log) (sym medic)
    (closed_tells shape client client.call uncut verb tells)

-- 2. Closing a client lists no snapshot

abbrev SameSnaps : ClientState → ClientState → Type 0
SameSnaps client after = after.log.snaps ≡ client.log.snaps

left_snaps : (client : ClientState) (opened : Option Open) → SameSnaps client (left_open client opened)
left_snaps client None = refl
left_snaps client (Some attempt) = refl

cut_txn_snaps : (client : ClientState) (at : TxnPoint) (opened : Option Open)
    → SameSnaps client (cut_open client at opened)
cut_txn_snaps client at None = refl
cut_txn_snaps client (Committing (Freeing nth)) (Some attempt) = refl
cut_txn_snaps client (Committing Ending) (Some attempt) = refl
cut_txn_snaps client at (Some attempt) = refl

move_snaps : (client : ClientState) (table key bucket : ℕ) (stamp : Option Stamp)
    → SameSnaps client (cut_move client table key bucket stamp)
move_snaps client table key bucket None = refl
move_snaps client table key bucket (Some stamp) = refl

finished_snaps : (client : ClientState) (at : TxnPoint) (how : Finish) (opened : Option Open)
    → SameSnaps client (finished_in_txn client at how opened)
finished_snaps client at how None = refl
finished_snaps client at how (Some attempt) =
    either (SameSnaps client) (has_committed at how) (with_commit client attempt (attempt.state.last + 1))
    (with_end client attempt outcome.Cut) refl refl

module _ (shape : Shape) (client : ClientState) where
  closed_call_snaps : (now : Option (Now CallPoint Answer)) → SameSnaps client (closed_call shape client now)
  closed_call_snaps None = left_snaps client client.txn
  closed_call_snaps (Some (At (Beginning txn nth at))) = refl
  closed_call_snaps (Some (At (InTxn at))) = cut_txn_snaps client at client.txn
  closed_call_snaps (Some (At (Scanning table low high at))) = left_snaps client client.txn
  closed_call_snaps (Some (At (Seeking table key passed))) = refl
  closed_call_snaps (Some (At (Moving table key position at))) =
      let place = place_of shape table position in
      move_snaps client table key (bucket_of shape place.row) (move_claimed place at)
  closed_call_snaps (Some (At (Snapping bucket at))) = refl
  closed_call_snaps (Some (At (Collecting bucket prefix seen at))) = refl
  closed_call_snaps (Some (Over end)) = left_snaps client client.txn

  finished_call_snaps : (how : Finish) (now : Option (Now CallPoint Answer))
      → SameSnaps client (finished_call shape client how now)
  finished_call_snaps how None = closed_call_snaps None
  finished_call_snaps how (Some (At (InTxn at))) = finished_snaps client at how client.txn
  finished_call_snaps how (Some (At (Beginning txn nth at))) = closed_call_snaps (Some (At (Beginning txn nth at)))
  finished_call_snaps how (Some (At (Scanning table low high at))) =
      closed_call_snaps (Some (At (Scanning table low high at)))
  finished_call_snaps how (Some (At (Seeking table key passed))) =
      closed_call_snaps (Some (At (Seeking table key passed)))
  finished_call_snaps how (Some (At (Moving table key position at))) =
      closed_call_snaps (Some (At (Moving table key position at)))
  finished_call_snaps how (Some (At (Snapping bucket at))) = closed_call_snaps (Some (At (Snapping bucket at)))
  finished_call_snaps how (Some (At (Collecting bucket prefix seen at))) =
      closed_call_snaps (Some (At (Collecting bucket prefix seen at)))
  finished_call_snaps how (Some (Over end)) = closed_call_snaps (Some (Over end))

  closed_snaps : (finish : Option Finish) → SameSnaps client (closed_client shape client finish client.call)
  closed_snaps None = closed_call_snaps client.call
  closed_snaps (Some how) = finished_call_snaps how client.call

pub log_snaps : (shape : Shape) (session : SessionState) → (session_log shape session).snaps ≡ session.client.log.snaps
log_snaps shape session = closed_snaps shape session.client (finish_of session.client.medic)

-- 3. A client that is cut in a call is closed

or_true : (a b : Bool) → b ≡ true → (a || b) ≡ true
or_true true b e = refl
or_true false b e = e

-- the last event tells it
last_tells : (events : List Event) (event : Event) → tells_cut event ≡ true
    → list_any tells_cut (events ++ event ∷ []) ≡ true
last_tells events event is =
    list_any-append tells_cut events (event ∷ [])
    ∙ or_true (list_any tells_cut events) _ (ap (λ b. b || false) is)

abbrev Told : ClientState → Type 0
Told client = TellsCut client.log

cut_txn_told : (shape : Shape) (client : ClientState) (at : TxnPoint) (opened : Option Open)
    → OpenPointFits shape opened at → Told (cut_open client at opened)
cut_txn_told shape client at None fits = absurd fits
cut_txn_told shape client (Committing (Freeing nth)) (Some attempt) fits =
    last_tells (with_commit client attempt (attempt.state.last + 1)).log.events _ refl
cut_txn_told shape client (Committing Ending) (Some attempt) fits =
    last_tells (with_commit client attempt (attempt.state.last + 1)).log.events _ refl
cut_txn_told shape client at (Some attempt) fits = last_tells client.log.events _ refl

left_told : (client : ClientState) (opened : Option Open) → client.cut ≡ true → IsSome opened
    → Told (left_open client opened)
left_told client None cut some = absurd (false≢true some)
left_told client (Some attempt) cut some =
    last_tells client.log.events _ (ap (λ (b : Bool). is_cut (if b then outcome.Cut else outcome.Left)) cut)

move_told : (client : ClientState) (table key bucket : ℕ) (stamp : Option Stamp)
    → Told (cut_move client table key bucket stamp)
move_told client table key bucket None = last_tells client.log.events _ refl
move_told client table key bucket (Some stamp) = last_tells client.log.events _ refl

module _ (shape : Shape) (client : ClientState) (cut : client.cut ≡ true) where
  cut_call_told : (place : CallPoint) → CallPointFits shape client.txn place → Told (cut_call shape client place)
  cut_call_told (Beginning txn nth at) fits = last_tells client.log.events _ refl
  cut_call_told (InTxn at) fits = cut_txn_told shape client at client.txn fits
  cut_call_told (Scanning table low high at) fits = left_told client client.txn cut fits.0
  cut_call_told (Seeking table key passed) fits = last_tells client.log.events _ refl
  cut_call_told (Moving table key position at) fits =
      let place = place_of shape table position in
      move_told client table key (bucket_of shape place.row) (move_claimed place at)
  cut_call_told (Snapping bucket at) fits = last_tells client.log.events _ refl
  cut_call_told (Collecting bucket prefix seen at) fits = last_tells client.log.events _ refl

  closed_told : (finish : Option Finish) (now : Option (Now CallPoint Answer)) → is_running now ≡ true
      → NowFits shape client.txn now → Told (closed_client shape client finish now)
  closed_told (Some how) now runs fits = last_tells (finished_call shape client how now).log.events _ refl
  closed_told None None runs fits = absurd (false≢true runs)
  closed_told None (Some (At place)) runs fits = cut_call_told place fits
  closed_told None (Some (Over end)) runs fits = absurd (false≢true runs)

pub log_told : (shape : Shape) (session : SessionState) → SessionFits shape session → session.client.cut ≡ true
    → is_running session.client.call ≡ true → TellsCut (session_log shape session)
log_told shape session fits cut runs =
    closed_told shape session.client cut (finish_of session.client.medic) session.client.call runs fits.client.2
