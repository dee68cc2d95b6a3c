-- What each word, each call that is asked, and giving up tells of the attempt that is open, and where none is.
use Rattle.std.proofs.Common.{List, None, Option, Some, [], inl, inr, length, refl, subst, sym, ap, ℕ, ◌+◌}
use Rattle.std.proofs.Common.{◌++◌, ◌∙◌, ◌∷◌, ◌≡◌, ◌⊎◌, false}
use Rattle.std.proofs.lemmas.Bool.{cases_Bool}
use Rattle.si_model.specs.Rows.{key_at, writes_key}
use Rattle.si_model.specs.declared.log.Event.TheVariants as event
use Rattle.si_model.specs.declared.log.Event.{Event}
use Rattle.si_model.specs.declared.log.Finish.{Finish}
use Rattle.si_model.specs.declared.log.MoveEnd.TheVariants as moved
use Rattle.si_model.specs.declared.log.Outcome.TheVariants as outcome
use Rattle.si_model.specs.declared.op.Op.TheVariants as op
use Rattle.si_model.specs.declared.op.Op.{Op}
use Rattle.nam_verbs.specs.declared.now.Now.TheVariants.{At, Over}
use Rattle.nam_verbs.specs.declared.now.Now.{Now}
use Rattle.nam_catalog.specs.declared.shape.Shape.{Shape}
use Rattle.nam_layout.specs.Place.{bucket_of, cells_by, cells_of, place_of}
use Rattle.nam_vector.specs.Snap.{snap_after}
use Rattle.nam_vector.specs.declared.snap.SnapEnd.TheVariants as snap_end
use Rattle.nam_vector.specs.declared.snap.SnapEnd.{SnapEnd}
use Rattle.nam_vector.specs.declared.snap.SnapPoint.{SnapPoint}
use Rattle.nam_calls.specs.Horizon.{collect_after}
use Rattle.nam_calls.specs.Mover.{move_after}
use Rattle.nam_calls.specs.declared.horizon.CollectPoint.{CollectPoint}
use Rattle.nam_calls.specs.declared.mover.MoveAnswer.TheVariants as move_end
use Rattle.nam_calls.specs.declared.mover.MoveAnswer.{MoveAnswer}
use Rattle.nam_calls.specs.declared.mover.MovePoint.{MovePoint}
use Rattle.nam_calls.specs.Words.{capacity_of}
use Rattle.nam_calls.specs.declared.medic.MedicPoint.{MedicPoint}
use Rattle.nam_protocol.specs.Client.{after_call, client_ask}
use Rattle.nam_protocol.specs.ClientFits.{CallFits}
use Rattle.nam_protocol.specs.CutClient.{finish_of}
use Rattle.nam_protocol.specs.Log.{unbegun}
use Rattle.nam_protocol.specs.Operations.{own_value}
use Rattle.nam_protocol.specs.Own.{IsOpenNow, Rests}
use Rattle.nam_protocol.specs.Scan.{position_of, scan_after, scan_read, scan_skip}
use Rattle.nam_protocol.specs.ScanCall.{on_key, on_scan, on_skip, scanned_items, with_gathered}
use Rattle.nam_protocol.specs.Telling.{stepped}
use Rattle.nam_protocol.specs.Txn.{Stepped}
use Rattle.nam_protocol.specs.TxnCalls.{taken_at, txn_after, txn_ask}
use Rattle.nam_protocol.specs.declared.client.Answer.TheVariants as client_answer
use Rattle.nam_protocol.specs.declared.client.Answer.{Answer}
use Rattle.nam_protocol.specs.declared.txn.TxnAnswer.TheVariants.{Astray, TooOld}
use Rattle.nam_protocol.specs.declared.client.Call.TheVariants.{Begin, Collect, Scan, Tidy, Txn}
use Rattle.nam_protocol.specs.declared.client.Call.{Call}
use Rattle.nam_protocol.specs.declared.client.CallPoint.TheVariants.{Beginning, Collecting, InTxn, Moving, Scanning}
use Rattle.nam_protocol.specs.declared.client.CallPoint.TheVariants.{Seeking, Snapping}
use Rattle.nam_protocol.specs.declared.client.CallPoint.{CallPoint}
use Rattle.nam_protocol.specs.declared.client.ClientState.{ClientState}
use Rattle.nam_protocol.specs.declared.client.Open.{Open}
use Rattle.nam_protocol.specs.declared.scan.ScanAnswer.TheVariants as scan_answer
use Rattle.nam_protocol.specs.declared.scan.ScanAnswer.{ScanAnswer}
use Rattle.nam_protocol.specs.declared.scan.ScanPoint.{ScanPoint}
use Rattle.nam_protocol.specs.declared.txn.TxnCall.TheVariants as call
use Rattle.nam_protocol.specs.declared.txn.TxnCall.{TxnCall}
use Rattle.nam_tells.proofs.EndLemmas.{ends_since, passes_since, same_open, stepped_goes}
use Rattle.nam_tells.proofs.EventLemmas.{none_blank}
use Rattle.nam_tells.proofs.StepLemmas.{StepsOf, asked_of, word_of}
use Rattle.nam_tells.specs.EndsLaw.{AskLaw, AttemptGoes, IdleLaw, LeaveLaw, RestLaw, StaysOpen, TellsOne, WordLaw}
use Rattle.nam_tells.specs.Steps.{asking, call_ops, ended, told_asked, told_begin, told_collect}
use Rattle.nam_tells.specs.Steps.{told_key, told_left, told_move, told_now, told_scan, told_skip, told_snap}
use Rattle.nam_tells.specs.Steps.{told_stepped}
use Rattle.nam_tells.specs.Teller.{Teller, bare_tell, now_end}

-- 1. A scan

module _ (shape : Shape) (teller : Teller) (attempt : Open) (table low high : ℕ) where
  -- a client of this attempt
  abbrev of : ClientState → ClientState
  of client = record client { txn = Some attempt }

  stays : StaysOpen teller teller attempt attempt
  stays = same_open teller attempt

  skip_goes : (client : ClientState) (now : Now ScanPoint ScanAnswer)
      → let after = on_skip (of client) attempt table low high now in
      AttemptGoes teller (told_skip teller (of client) table now) attempt after.txn after.call
  skip_goes client (At at) = stays
  skip_goes client (Over end) =
      passes_since teller teller attempt attempt stays (scanned_items table client.scanned)

  gathered_goes : (client : ClientState) (position key : ℕ) (value : Option (List ℕ)) (now : Now ScanPoint ScanAnswer)
      → let after = on_skip (with_gathered (of client) position key value) attempt table low high now in
      AttemptGoes teller (told_skip teller (with_gathered (of client) position key value) table now) attempt after.txn
      after.call
  gathered_goes client position key None now = skip_goes client now
  gathered_goes client position key (Some value) now =
      skip_goes (record client {
        scanned = client.scanned ++ record { position = position; key = key; value = value } ∷ [];
      }) now

  key_goes : (client : ClientState) (position key : ℕ)
      → let after = on_key shape (of client) attempt table low high position key in
      AttemptGoes teller (told_key shape teller (of client) attempt table position key) attempt after.txn after.call
  key_goes client position key =
      let own = key_at table key in
      elim (cases_Bool (writes_key attempt.state.writes own)) [
        | inl e ↦
            rw e
            (gathered_goes client position key (own_value attempt.state.writes own) (scan_skip shape table position))
        | inr e ↦ rw e (skip_goes client (scan_read position key))
      ]

  scan_goes : (client : ClientState) (position : ℕ) (now : Now ScanPoint ScanAnswer)
      → let after = on_scan shape (of client) attempt table low high position now in
      AttemptGoes teller (told_scan shape teller (of client) attempt table position now) attempt after.txn after.call
  scan_goes client position (At at) = stays
  scan_goes client position (Over (scan_answer.Key key)) = key_goes client position key
  scan_goes client position (Over (scan_answer.Row item)) =
      gathered_goes client position item.key item.value (scan_skip shape table position)
  scan_goes client position (Over scan_answer.Done) =
      passes_since teller teller attempt attempt stays (scanned_items table client.scanned)
  scan_goes client position (Over (scan_answer.TooOld worker entry horizon)) =
      ends_since teller teller attempt attempt stays (outcome.TooOld worker entry horizon) []
      (client_answer.Txn (TooOld worker entry horizon))
  scan_goes client position (Over scan_answer.Astray) =
      ends_since teller teller attempt attempt stays outcome.Left [] (client_answer.Txn Astray)

-- 2. A word, while an attempt is open

module _ (shape : Shape) (client : ClientState) (teller : Teller) (attempt : Open) (found : ℕ) where
  abbrev at_call : Option (Now CallPoint Answer) → ClientState
  at_call now = record client { txn = Some attempt; call = now }

  word_at : (now : Option (Now CallPoint Answer)) → IsOpenNow (Some attempt) now
      → let after = after_call shape (at_call now) now found in
      AttemptGoes teller (told_now shape (at_call now) now found teller) attempt after.txn after.call
  word_at (Some (At (InTxn at))) is =
      stepped_goes (at_call (Some (At (InTxn at)))) teller attempt (length (taken_at attempt.state at))
      (txn_after shape attempt.state at found) (word_of shape attempt.state at found).0
  word_at (Some (At (Scanning table low high at))) is =
      scan_goes shape teller attempt table low high (at_call (Some (At (Scanning table low high at)))) (position_of at)
      (scan_after shape table low high attempt.state.seen at found)
  word_at (Some (At (Beginning txn nth at))) is = absurd (cc)
  word_at (Some (At (Seeking table key passed))) is = absurd (cc)
  word_at (Some (At (Moving table key position at))) is = absurd (cc)
  word_at (Some (At (Snapping bucket at))) is = absurd (cc)
  word_at (Some (At (Collecting bucket prefix seen at))) is = absurd (cc)
  word_at None is = same_open teller attempt
  word_at (Some (Over end)) is = same_open teller attempt

pub word_law : WordLaw
word_law shape client teller attempt found told opened =
    let is_open = subst (λ (o : Option Open). IsOpenNow o client.call) opened told.opens in
    subst (λ (o : Option Open).
    let after = after_call shape (record client { txn = o }) client.call found in
    AttemptGoes teller (told_now shape (record client { txn = o }) client.call found teller) attempt after.txn
    after.call)
    (sym opened) (word_at shape client teller attempt found client.call is_open)

-- 3. A call is asked, while one is open

module _ (shape : Shape) (client : ClientState) (teller : Teller) (attempt : Open) where
  abbrev opened : ClientState
  opened = record client { txn = Some attempt }

  abbrev Asks : Call → Type 0
  Asks asked =
      let after = client_ask shape opened asked in
      AttemptGoes (asking teller (call_ops asked)) (told_asked shape opened asked teller) attempt after.txn after.call

  -- with its operation counted it is the same
  module _ (before now : Teller) (ops so_far : ℕ) where
    abbrev more : Open
    more = record attempt { ops = ops; ops_so_far = so_far }

    uncounted : (later : Option Open) (now_call : Option (Now CallPoint Answer))
        → AttemptGoes before now more later now_call → AttemptGoes before now attempt later now_call
    uncounted None end was = record {
      answered = was.answered;
      tell = was.tell;
      front = was.front;
      left = was.left;
      how = was.how;
      event = was.event;
      txn = was.txn;
      nth = was.nth;
      prefix = was.prefix;
      ops = was.ops;
      snap = was.snap;
      items = was.items;
      reads = was.reads;
      taken = was.taken;
      locks = was.locks;
    }
    uncounted (Some later) end was = record {
      front = was.front;
      ops = was.ops;
      txn = was.txn;
      nth = was.nth;
      prefix = was.prefix;
      seen = was.seen;
      items = was.items;
      reads = was.reads;
      taken = was.taken;
      locks = was.locks;
    }

  op_goes : (o : Op) (step : Stepped) → StepsOf attempt.state (o ∷ []) step
      → let counted = record attempt { ops = attempt.ops + 1; ops_so_far = attempt.ops_so_far + 1 } in
      let after = stepped opened counted 0 step in
      AttemptGoes (asking teller (o ∷ [])) (told_stepped (asking teller (o ∷ [])) counted 0 step) attempt after.txn
      after.call
  op_goes o step of =
      let counted = record attempt { ops = attempt.ops + 1; ops_so_far = attempt.ops_so_far + 1 } in
      uncounted (asking teller (o ∷ [])) (told_stepped (asking teller (o ∷ [])) counted 0 step) (attempt.ops + 1)
      (attempt.ops_so_far + 1) (stepped opened counted 0 step).txn (stepped opened counted 0 step).call
      (stepped_goes opened (asking teller (o ∷ [])) counted 0 step of.0)

  txn_asks : (asked : TxnCall) → Asks (Txn asked)
  txn_asks (call.Get t k) = op_goes (op.Get t k) _ (asked_of shape attempt.state (call.Get t k))
  txn_asks (call.Put t k v) = op_goes (op.Put t k v) _ (asked_of shape attempt.state (call.Put t k v))
  txn_asks (call.Add t k f up by) = op_goes (op.Add t k f up by) _ (asked_of shape attempt.state (call.Add t k f up by))
  txn_asks (call.Del t k) = op_goes (op.Del t k) _ (asked_of shape attempt.state (call.Del t k))
  txn_asks (call.Need t k f least) =
      op_goes (op.Need t k f least) _ (asked_of shape attempt.state (call.Need t k f least))
  txn_asks (call.Guard t k) = op_goes (op.Guard t k) _ (asked_of shape attempt.state (call.Guard t k))
  txn_asks call.Commit =
      stepped_goes opened (asking teller []) attempt 0 (txn_ask shape attempt.state call.Commit)
      (asked_of shape attempt.state call.Commit).0

  asks : (asked : Call) → CallFits shape (Some attempt) asked → Asks asked
  asks (Txn asked) fits = txn_asks asked
  asks (Scan table low high) fits =
      let now = asking teller (op.Scan table low high ∷ []) in
      let so_far = attempt.ops_so_far + capacity_of shape table in
      let counted = record attempt { ops = attempt.ops + 1; ops_so_far = so_far } in
      uncounted now now (attempt.ops + 1) so_far (Some counted) (client_ask shape opened (Scan table low high)).call
      (same_open now counted)
  asks (Begin txn nth) fits = absurd (cc)
  asks (Tidy table key) fits = absurd (cc)
  asks (Collect bucket) fits = absurd (cc)

pub ask_law : AskLaw
ask_law shape client teller attempt asked may opened =
    let fits = subst (λ (o : Option Open). CallFits shape o asked) opened may.fits in
    subst (λ (o : Option Open).
    let after = client_ask shape (record client { txn = o }) asked in
    AttemptGoes (asking teller (call_ops asked)) (told_asked shape (record client { txn = o }) asked teller) attempt
    after.txn after.call)
    (sym opened) (asks shape client teller attempt asked fits)

-- 4. It is given up

pub leave_law : LeaveLaw
leave_law client teller attempt opened = ap (λ (o : Option Open). told_left o teller) opened

-- 5. None is open

one_bare : (teller : Teller) (e : Event) (snap : List ℕ) → TellsOne teller (ended teller (bare_tell e snap))
one_bare teller e snap = record {
  tell = bare_tell e snap;
  front = refl;
  left = none_blank (teller.front ++ bare_tell e snap ∷ []);
  ops = refl;
  reads = refl;
  locks = refl;
  writes = refl;
}

module _ (shape : Shape) (client : ClientState) (teller : Teller) (found : ℕ) where
  abbrev AtMostOne : Teller → Type 0
  AtMostOne now = (now ≡ teller) ⊎ TellsOne teller now

  begin_one : (txn nth : ℕ) (now : Now SnapPoint SnapEnd) → AtMostOne (told_begin teller txn nth now)
  begin_one txn nth (Over (snap_end.Again worker first second)) =
      inr (one_bare teller (unbegun txn nth (outcome.Again worker first second)) [])
  begin_one txn nth (Over (snap_end.Done seen)) = inl refl
  begin_one txn nth (At at) = inl refl

  move_one : (table key bucket : ℕ) (now : Now MovePoint MoveAnswer)
      → AtMostOne (told_move teller table key bucket now)
  move_one table key bucket (Over (move_end.Moved stamp)) =
      inr (one_bare teller (event.Moved bucket table key stamp moved.Done) [])
  move_one table key bucket (Over (move_end.Back stamp)) =
      inr (one_bare teller (event.Moved bucket table key stamp moved.Back) [])
  move_one table key bucket (Over (move_end.NoRoom full)) = inr (one_bare teller (event.NoRoom full) [])
  move_one table key bucket (Over move_end.Nothing) = inl refl
  move_one table key bucket (At at) = inl refl

  snap_one : (bucket : ℕ) (now : Now SnapPoint SnapEnd) → AtMostOne (told_snap teller bucket now)
  snap_one bucket (Over (snap_end.Again worker first second)) =
      inr (one_bare teller (event.CollectAgain bucket worker first second) [])
  snap_one bucket (Over (snap_end.Done seen)) = inl refl
  snap_one bucket (At at) = inl refl

  collect_one : (bucket prefix : ℕ) (seen : List ℕ) (now : Now CollectPoint (List ℕ))
      → AtMostOne (told_collect teller bucket prefix seen now)
  collect_one bucket prefix seen (At at) = inl refl
  collect_one bucket prefix seen (Over known) =
      inr (one_bare teller (event.Collected bucket prefix seen false) seen)

  none_at : (now : Option (Now CallPoint Answer)) → IsOpenNow None now
      → AtMostOne (told_now shape (record client { txn = None; call = now }) now found teller)
  none_at None is = inl refl
  none_at (Some (Over end)) is = inl refl
  none_at (Some (At (Beginning txn nth at))) is = begin_one txn nth (snap_after shape.workers at found)
  none_at (Some (At (InTxn at))) is = absurd (cc)
  none_at (Some (At (Scanning table low high at))) is = absurd (cc)
  none_at (Some (At (Seeking table key passed))) is = inl refl
  none_at (Some (At (Moving table key position at))) is =
      let place = place_of shape table position in
      move_one table key (bucket_of shape place.row) (move_after place (cells_by shape place) at found)
  none_at (Some (At (Snapping bucket at))) is = snap_one bucket (snap_after shape.workers at found)
  none_at (Some (At (Collecting bucket prefix seen at))) is =
      collect_one bucket prefix seen (collect_after (cells_of shape bucket) shape.workers seen at found)

none_asks : (shape : Shape) (client : ClientState) (teller : Teller) (asked : Call) → CallFits shape None asked
    → told_asked shape (record client { txn = None }) asked teller ≡ teller
none_asks shape client teller (Begin txn nth) fits = refl
none_asks shape client teller (Txn asked) fits = absurd fits
none_asks shape client teller (Scan table low high) fits = absurd (cc)
none_asks shape client teller (Tidy table key) fits = refl
none_asks shape client teller (Collect bucket) fits = refl

pub idle_law : IdleLaw
idle_law shape client teller told none = (
  λ found. let is_open = subst (λ (o : Option Open). IsOpenNow o client.call) none told.opens in
      subst (λ (o : Option Open).
      AtMostOne shape client teller found (told_now shape (record client { txn = o }) client.call found teller))
      (sym none) (none_at shape client teller found client.call is_open),
  λ asked may. let fits = subst (λ (o : Option Open). CallFits shape o asked) none may.fits in
      subst (λ (o : Option Open). told_asked shape (record client { txn = o }) asked teller ≡ teller) (sym none)
      (none_asks shape client teller asked fits),
)

-- 6. Nothing runs

pub rest_law : RestLaw
rest_law shape client teller none rests untreated =
    ap (λ (medic : Option (Now MedicPoint Finish)).
    now_end shape teller client.cut (finish_of medic) client.txn client.call) untreated
    ∙ ap (λ (o : Option Open). now_end shape teller client.cut None o client.call) none ∙ at_rest client.call rests
  where
    at_rest : (now : Option (Now CallPoint Answer)) → Rests now → now_end shape teller client.cut None None now ≡ []
    at_rest None is = refl
    at_rest (Some (Over end)) is = refl
    at_rest (Some (At place)) is = absurd is
