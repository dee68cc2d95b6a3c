-- The verbs to come fall in each call of a client, and how many a call begins with.
use Rattle.std.proofs.Common.{◌≡◌, ℕ, ◌+◌, ◌-◌, ◌<◌, ◌≤◌, List, [], length, refl, sym, ◌∙◌, ap, subst, arith, Bool}
use Rattle.std.proofs.Common.{true, false, Option, Some, None}
use Rattle.std.specs.Prelude.{◌==◌, if◌then◌else◌, slice_index, IsSome}
use Rattle.si_model.specs.Rows.{key_at, writes_key}
use Rattle.nam_verbs.specs.declared.now.Now.{Now}
use Rattle.nam_verbs.specs.declared.now.Now.TheVariants.{At, Over}
use Rattle.nam_verbs.specs.Falls.{Falls, Any}
use Rattle.nam_catalog.specs.declared.shape.Shape.{Shape}
use Rattle.nam_catalog.specs.Fits.{FitsLimits}
use Rattle.nam_catalog.specs.Greatest.{greatest_number}
use Rattle.nam_layout.specs.Place.{place_of, cells_of, bucket_of, cells_by}
use Rattle.nam_layout.proofs.LimitLemmas.{cells_within_limits}
use Rattle.nam_vector.specs.declared.snap.SnapPoint.{SnapPoint}
use Rattle.nam_vector.specs.declared.snap.SnapPoint.TheVariants.{First, Second}
use Rattle.nam_vector.specs.declared.snap.SnapEnd.{SnapEnd}
use Rattle.nam_vector.specs.Snap.{snap_after, snap_left, SnapFits}
use Rattle.nam_vector.specs.declared.snap.SnapEnd.TheVariants as snap_end
use Rattle.nam_calls.specs.declared.index.FindEnd.{FindEnd}
use Rattle.nam_calls.specs.declared.horizon.CollectPoint.{CollectPoint}
use Rattle.nam_calls.specs.declared.mover.MovePoint.{MovePoint}
use Rattle.nam_calls.specs.declared.mover.MoveAnswer.{MoveAnswer}
use Rattle.nam_calls.specs.Holds.{IsWord}
use Rattle.nam_calls.specs.Words.{capacity_of, key_word, path_of}
use Rattle.nam_calls.specs.Mover.{move_left}
use Rattle.nam_calls.specs.Horizon.{collect_left}
use Rattle.nam_calls.specs.Left.{move_most, collect_most}
use Rattle.nam_calls.specs.Fits.{IsOf, MoveFits, CollectFits, CollectEnds, IsTableOf}
use Rattle.nam_calls.proofs.FallsTests.{either, or_last, one_more}
use Rattle.nam_calls.proofs.FallsMachines.{FindFalls, find_falls}
use Rattle.nam_calls.proofs.FallsCells.{move_falls}
use Rattle.nam_calls.proofs.FallsRead.{collect_falls}
use Rattle.nam_calls.proofs.FallsTables.{has_capacity, place_fits, width_is, bucket_within}
use Rattle.nam_calls.specs.declared.index.FindEnd.TheVariants as found_key
use Rattle.nam_calls.specs.declared.mover.MoveAnswer.TheVariants as move_end
use Rattle.nam_protocol.specs.declared.txn.TxnState.{TxnState}
use Rattle.nam_protocol.specs.declared.txn.TxnPoint.{TxnPoint}
use Rattle.nam_protocol.specs.declared.txn.TxnCall.{TxnCall}
use Rattle.nam_protocol.specs.declared.txn.TxnCall.TheVariants.{Get, Put, Add, Del, Need, Guard, Commit}
use Rattle.nam_protocol.specs.declared.txn.TxnAnswer.{TxnAnswer}
use Rattle.nam_protocol.specs.Txn.{Stepped}
use Rattle.nam_protocol.specs.declared.scan.ScanPoint.{ScanPoint}
use Rattle.nam_protocol.specs.declared.scan.ScanPoint.TheVariants.{ScanKey, ScanRead}
use Rattle.nam_protocol.specs.declared.scan.ScanAnswer.{ScanAnswer}
use Rattle.nam_protocol.specs.declared.client.Call.{Call}
use Rattle.nam_protocol.specs.declared.client.Call.TheVariants.{Begin, Txn, Scan, Tidy, Collect}
use Rattle.nam_protocol.specs.declared.client.Answer.{Answer}
use Rattle.nam_protocol.specs.declared.client.CallPoint.{CallPoint}
use Rattle.nam_protocol.specs.declared.client.CallPoint.TheVariants.{Beginning, InTxn, Scanning, Seeking, Moving}
use Rattle.nam_protocol.specs.declared.client.CallPoint.TheVariants.{Snapping, Collecting}
use Rattle.nam_protocol.specs.declared.client.Open.{Open}
use Rattle.nam_protocol.specs.declared.client.ClientState.{ClientState}
use Rattle.nam_protocol.specs.Operations.{own_value}
use Rattle.nam_protocol.specs.TxnCalls.{txn_ask, txn_after, taken_at, taken_now}
use Rattle.nam_protocol.specs.Log.{with_locks}
use Rattle.nam_protocol.specs.Scan.{scan_skip, scan_read, position_of, positions_left, scan_left}
use Rattle.nam_protocol.specs.Client.{with_call, ask_txn, ask_scan, client_ask, on_begin, on_seek, on_move, on_snap}
use Rattle.nam_protocol.specs.Client.{on_collect, take_txn, take_scan, call_after, after_call, client_after}
use Rattle.nam_protocol.specs.Telling.{new_locks, on_answer, on_call, stepped}
use Rattle.nam_protocol.specs.ScanCall.{with_gathered, on_skip, on_scan}
use Rattle.nam_protocol.specs.Left.{open_left, call_left, left_of, client_left}
use Rattle.nam_protocol.specs.Bound.{txn_left, scan_bound}
use Rattle.nam_protocol.specs.TxnFits.{Begins, AnswerFits, KeysFit, StateFits, TxnPointFits, TxnFalls, TxnCallFits}
use Rattle.nam_protocol.specs.TxnFits.{ScanFits}
use Rattle.nam_protocol.specs.TxnFits.{txn_call_bound}
use Rattle.nam_protocol.specs.ClientFits.{OpenFits, OpenPointFits, CallPointFits, NowFits, ClientFits, CallStands}
use Rattle.nam_protocol.specs.ClientFits.{OpenCallFits, call_bound, open_bound}
use Rattle.nam_protocol.proofs.KeyLemmas.{none_once}
use Rattle.nam_protocol.proofs.FallsTxn.{txn_falls}
use Rattle.nam_protocol.proofs.FallsBegins.{txn_begins}
use Rattle.nam_protocol.proofs.FallsScan.{ScanFalls, scan_skip_falls, scan_read_falls, scan_falls, scan_begins}
use Rattle.nam_protocol.specs.declared.txn.TxnAnswer.TheVariants as txn_answer
use Rattle.nam_protocol.specs.declared.scan.ScanAnswer.TheVariants as scan_answer

-- 1. A snapshot

module _ (workers : ℕ) (least : 1 ≤ workers) where
  abbrev SnapEnds : SnapEnd → Type 0
  SnapEnds (snap_end.Done seen) = length seen ≡ workers
  SnapEnds (snap_end.Again worker first second) = Unit {0}

  abbrev SnapFalls : ℕ → Now SnapPoint SnapEnd → Type 0
  SnapFalls = Falls (SnapFits workers) SnapEnds (snap_left workers)

  snap_falls : (at : SnapPoint) (found : ℕ) → SnapFits workers at
      → SnapFalls (snap_left workers at) (snap_after workers at found)
  snap_falls (First got) found l =
      one_more (λ place. SnapFalls (snap_left workers (First got)) (At place)) workers got found First
      (λ seen. Second seen 0) l
      (λ e m. (m, omega arith)) (λ e m. ((m, least), omega arith))
  snap_falls (Second seen at) found l =
      either (SnapFalls (workers - at)) (found == slice_index seen at)
      (if at + 1 == workers then Over (snap_end.Done seen) else At (Second seen (at + 1)))
      (Over (snap_end.Again (at + 1) (slice_index seen at) found))
      (or_last (SnapFalls (workers - at)) workers at (Over (snap_end.Done seen)) (At (Second seen (at + 1))) l.1
      (λ e. (l.0, let m = l.1 in omega arith)) (λ e. ((l.0, e), omega arith)))
      (tt, let m = l.1 in omega arith)

-- a call of a transaction fits only where one is open
pub some_open : (shape : Shape) (opened : Option Open) (call : TxnCall) → OpenCallFits shape opened call
    → IsSome opened
some_open shape None call fits = absurd fits
some_open shape (Some attempt) call fits = refl

module _ (shape : Shape) (limits : FitsLimits shape) where
  -- 2. A client has taken a word, or has asked a call

  -- the call is at a point or answered
  abbrev NowFalls : ClientState → ℕ → Option (Now CallPoint Answer) → Type 0
  NowFalls client n None = ⊥
  NowFalls client n (Some now) = Falls (CallPointFits shape client.txn) Any (call_left shape client) n now

  abbrev ClientFalls : ℕ → ClientState → Type 0
  ClientFalls n client =
      IsOf shape.workers client.worker × OpenFits shape client.txn × NowFalls client n client.call
      × (client.last ≤ greatest_number shape.form)

  -- 3. Calls of a transaction

  on_answer_fits : (client : ClientState) (attempt : Open) (answer : TxnAnswer) → IsOf shape.workers client.worker
      → StateFits shape attempt.state
      → client.last ≤ greatest_number shape.form → AnswerFits shape.form answer
      → IsOf shape.workers (on_answer client attempt answer).worker
      × OpenFits shape (on_answer client attempt answer).txn
      × ((on_answer client attempt answer).last ≤ greatest_number shape.form)
  on_answer_fits client attempt (txn_answer.Value value) w f l a = (w, f, l)
  on_answer_fits client attempt txn_answer.Written w f l a = (w, f, l)
  on_answer_fits client attempt (txn_answer.Added n) w f l a = (w, f, l)
  on_answer_fits client attempt txn_answer.Met w f l a = (w, f, l)
  on_answer_fits client attempt (txn_answer.Committed number) w f l a = (w, tt, a)
  on_answer_fits client attempt txn_answer.ReadOnly w f l a = (w, tt, l)
  on_answer_fits client attempt (txn_answer.TooOld worker entry horizon) w f l a = (w, tt, l)
  on_answer_fits client attempt (txn_answer.NoSpace table) w f l a = (w, tt, l)
  on_answer_fits client attempt txn_answer.Declined w f l a = (w, tt, l)
  on_answer_fits client attempt txn_answer.Spent w f l a = (w, tt, l)
  on_answer_fits client attempt (txn_answer.Locked lock) w f l a = (w, tt, l)
  on_answer_fits client attempt (txn_answer.Newer lock) w f l a = (w, tt, l)
  on_answer_fits client attempt (txn_answer.Full lock) w f l a = (w, tt, l)
  on_answer_fits client attempt txn_answer.Astray w f l a = (w, tt, l)

  on_call_falls : (client : ClientState) (attempt : Open) (n : ℕ) (now : Now TxnPoint TxnAnswer)
      → IsOf shape.workers client.worker
      → StateFits shape attempt.state
      → client.last ≤ greatest_number shape.form
      → Falls (TxnPointFits shape attempt.state) (AnswerFits shape.form) (txn_left shape attempt.state) n now
      → ClientFalls n (on_call client attempt now)
  on_call_falls client attempt n (At place) w f l h = (w, f, h, l)
  on_call_falls client attempt n (Over answer) w f l h =
      let a = on_answer_fits client attempt answer w f l h.0 in (a.0, a.1, (tt, h.1), a.2)

  stepped_falls : (client : ClientState) (attempt : Open) (before n : ℕ) (step : Stepped)
      → IsOf shape.workers client.worker → client.last ≤ greatest_number shape.form → TxnFalls shape n step
      → ClientFalls n (stepped client attempt before step)
  stepped_falls client attempt before n step w l h =
      let locks = new_locks step.state before (taken_now step.state step.call) in
      on_call_falls (record client { log = with_locks client.log locks })
      (record attempt { locks = attempt.locks + length locks; state = step.state }) n step.call w h.0 l h.1

  begins_falls : (state : TxnState) (n : ℕ) (now : Now TxnPoint TxnAnswer)
      → Begins (TxnPointFits shape state) (AnswerFits shape.form) (txn_left shape state) n now
      → Falls (TxnPointFits shape state) (AnswerFits shape.form) (txn_left shape state) (n + 1) now
  begins_falls state n (At place) h = (h.0, let m = h.1 in omega arith)
  begins_falls state n (Over answer) h = (h, omega arith)

  take_txn_falls : (client : ClientState) (at : TxnPoint) (opened : Option Open) (found : ℕ)
      → IsOf shape.workers client.worker → client.last ≤ greatest_number shape.form
      → OpenFits shape opened → OpenPointFits shape opened at
      → ClientFalls (open_left shape opened at) (take_txn shape client at opened found)
  take_txn_falls client at None found w l f p = absurd p
  take_txn_falls client at (Some attempt) found w l f p =
      stepped_falls client attempt (length (taken_at attempt.state at)) _ (txn_after shape attempt.state at found) w l
      (txn_falls shape limits attempt.state at found f p)

  -- 4. A scan

  pub gathered_keeps : (P : ℕ → ℕ → Option Open → Type 0) (client : ClientState) (position key : ℕ)
      (value : Option (List ℕ))
      → P client.worker client.last client.txn
      → let after = with_gathered client position key value in P after.worker after.last after.txn
  gathered_keeps P client position key None p = p
  gathered_keeps P client position key (Some value) p = p

  abbrev Runs : ℕ → ℕ → Option Open → Type 0
  Runs worker last opened =
      IsOf shape.workers worker × OpenFits shape opened × IsSome opened × (last ≤ greatest_number shape.form)

  module _ (attempt : Open) (fits : StateFits shape attempt.state) (table low high : ℕ)
      (is : IsTableOf shape table) where
    on_skip_falls : (client : ClientState) (position n : ℕ) (now : Now ScanPoint ScanAnswer)
        → Runs client.worker client.last client.txn
        → ScanFalls shape limits table is position n now → ClientFalls n (on_skip client attempt table low high now)
    on_skip_falls client position n (At place) r h = (r.0, r.1, ((r.2, is, h.0), h.1), r.3)
    on_skip_falls client position n (Over end) r h = (r.0, fits, (tt, omega arith), r.3)

    skipped : (client : ClientState) (position key n : ℕ) (value : Option (List ℕ))
        → Runs client.worker client.last client.txn
        → position < capacity_of shape table
        → positions_left shape table (capacity_of shape table - position - 1) < n
        → ClientFalls n
        (on_skip (with_gathered client position key value) attempt table low high (scan_skip shape table position))
    skipped client position key n value r l m =
        on_skip_falls (with_gathered client position key value) position n _
        (gathered_keeps Runs client position key value r)
        (scan_skip_falls shape limits table is position n l m)

    on_scan_falls : (client : ClientState) (position n : ℕ) (now : Now ScanPoint ScanAnswer)
        → Runs client.worker client.last client.txn
        → position < capacity_of shape table
        → ScanFalls shape limits table is position n now
        → ClientFalls n (on_scan shape client attempt table low high position now)
    on_scan_falls client position n (At place) r l h = (r.0, r.1, ((r.2, is, h.0), h.1), r.3)
    on_scan_falls client position n (Over (scan_answer.Key key)) r l h =
        let own = key_at table key in
        either (ClientFalls n) (writes_key attempt.state.writes own)
        (on_skip (with_gathered client position key (own_value attempt.state.writes own)) attempt table low high
        (scan_skip shape table position))
        (on_skip client attempt table low high (scan_read position key))
        (skipped client position key n (own_value attempt.state.writes own) r l (let m = h.1 in omega arith))
        (on_skip_falls client position n (scan_read position key) r
        (scan_read_falls shape limits table is position key n l h.1))
    on_scan_falls client position n (Over (scan_answer.Row item)) r l h =
        skipped client position item.key n item.value r l h.1
    on_scan_falls client position n (Over scan_answer.Done) r l h = (r.0, fits, (tt, h.1), r.3)
    on_scan_falls client position n (Over (scan_answer.TooOld worker entry horizon)) r l h = (r.0, tt, (tt, h.1), r.3)
    on_scan_falls client position n (Over scan_answer.Astray) r l h = (r.0, tt, (tt, h.1), r.3)

  scan_within : (table : ℕ) (at : ScanPoint) → ScanFits shape table at → position_of at < capacity_of shape table
  scan_within table (ScanKey position) l = l
  scan_within table (ScanRead position key at) l = l.0

  take_scan_falls : (client : ClientState) (table low high : ℕ) (at : ScanPoint) (opened : Option Open) (found : ℕ)
      → Runs client.worker client.last client.txn
      → Runs client.worker client.last opened
      → IsTableOf shape table → ScanFits shape table at
      → ClientFalls (scan_left shape table at) (take_scan shape client table low high at opened found)
  take_scan_falls client table low high at None found r o is p = absurd (cc)
  take_scan_falls client table low high at (Some attempt) found r o is p =
      on_scan_falls attempt o.1 table low high is client (position_of at) _ _ r (scan_within table at p)
      (scan_falls shape limits table is low high attempt.state.seen at found p)

  -- 5. The other calls

  -- a new transaction
  begun_fits : (worker last : ℕ) (seen : List ℕ) → IsOf shape.workers worker → last ≤ greatest_number shape.form
      → length seen ≡ shape.workers
      → KeysFit shape worker last seen [] [] []
  begun_fits worker last seen w l e = record {
    worker_is = w;
    last_is = l;
    seen_is = e;
    few = omega arith;
    placed = tt;
    claimed_once = none_once;
    written_once = none_once;
    guarded_once = none_once;
    written = tt;
    guarded = tt;
    used = tt;
    wide = tt;
  }

  module _ (client : ClientState) (w : IsOf shape.workers client.worker) (f : OpenFits shape client.txn)
      (last : client.last ≤ greatest_number shape.form) where
    on_begin_falls : (txn nth n : ℕ) (now : Now SnapPoint SnapEnd) → SnapFalls shape.workers limits.least_workers n now
        → ClientFalls n (on_begin shape client txn nth now)
    on_begin_falls txn nth n (At place) h = (w, f, h, last)
    on_begin_falls txn nth n (Over (snap_end.Done seen)) h =
        (w, begun_fits client.worker client.last seen w last h.0, (tt, h.1), last)
    on_begin_falls txn nth n (Over (snap_end.Again worker first second)) h = (w, f, (tt, h.1), last)

    on_seek_falls : (table key n : ℕ) (now : Now ℕ FindEnd) → IsTableOf shape table → IsWord (key_word key)
        → FindFalls (path_of shape table key) n now
        → ClientFalls (n + move_most shape table) (on_seek shape client table key now)
    on_seek_falls table key n (At passed) is word h = (w, f, ((is, h.0, word), let m = h.1 in omega arith), last)
    on_seek_falls table key n (Over (found_key.At position)) is word h =
        let e = width_is shape limits table position is h.0 in (w, f, ((is, h.0, tt), let m = h.1 in omega arith), last)
    on_seek_falls table key n (Over found_key.Absent) is word h = (w, f, (tt, omega arith), last)

    on_snap_falls : (bucket n : ℕ) (now : Now SnapPoint SnapEnd) → bucket < shape.buckets
        → SnapFalls shape.workers limits.least_workers n now
        → ClientFalls (n + collect_most shape) (on_snap shape client bucket now)
    on_snap_falls bucket n (At place) l h = (w, f, ((l, h.0), let m = h.1 in omega arith), last)
    on_snap_falls bucket n (Over (snap_end.Done seen)) l h =
        let e = limits.least_workers in (w, f, ((l, h.0, e), let m = h.1 in omega arith), last)
    on_snap_falls bucket n (Over (snap_end.Again worker first second)) l h = (w, f, (tt, omega arith), last)

    move_goes : (table key position n : ℕ) (now : Now MovePoint MoveAnswer) → IsTableOf shape table
        → position < capacity_of shape table
        → Falls (MoveFits (place_of shape table position) (cells_by shape (place_of shape table position))) Any
        (move_left (place_of shape table position) (cells_by shape (place_of shape table position))) n now
        → ClientFalls n
        (on_move shape client table key position (bucket_of shape (place_of shape table position).row) now)
    move_goes table key position n (At at) is l h = (w, f, ((is, l, h.0), h.1), last)
    move_goes table key position n (Over (move_end.Moved stamp)) is l h = (w, f, (tt, h.1), last)
    move_goes table key position n (Over (move_end.Back stamp)) is l h = (w, f, (tt, h.1), last)
    move_goes table key position n (Over move_end.Nothing) is l h = (w, f, (tt, h.1), last)
    move_goes table key position n (Over (move_end.NoRoom bucket)) is l h = (w, f, (tt, h.1), last)

    collect_goes : (bucket prefix : ℕ) (seen : List ℕ) (n : ℕ) (now : Now CollectPoint (List ℕ))
        → bucket < shape.buckets
        → length seen ≡ shape.workers
        → Falls (CollectFits (cells_of shape bucket) shape.workers) (CollectEnds shape.workers)
        (collect_left (cells_of shape bucket) shape.workers) n now
        → ClientFalls n (on_collect shape client bucket prefix seen now)
    collect_goes bucket prefix seen n (At at) l e h = (w, f, ((l, e, h.0), h.1), last)
    collect_goes bucket prefix seen n (Over known) l e h = (w, f, (tt, h.1), last)

  pub call_falls : (client : ClientState) (place : CallPoint) (found : ℕ) → IsOf shape.workers client.worker
      → OpenFits shape client.txn → client.last ≤ greatest_number shape.form
      → CallPointFits shape client.txn place
      → ClientFalls (call_left shape client place) (call_after shape client place found)
  call_falls client (Beginning txn nth at) found w f l p =
      on_begin_falls client w f l txn nth _ _ (snap_falls shape.workers limits.least_workers at found p)
  call_falls client (InTxn at) found w f l p = take_txn_falls client at client.txn found w l f p
  call_falls client (Scanning table low high at) found w f l p =
      take_scan_falls client table low high at client.txn found (w, f, p.0, l) (w, f, p.0, l) p.1 p.2
  call_falls client (Seeking table key passed) found w f l p =
      on_seek_falls client w f l table key _ _ p.0 p.2 (find_falls (path_of shape table key) passed found p.1)
  call_falls client (Moving table key position at) found w f l p = move_goes client w f l table key position _ _ p.0 p.1
      (move_falls (place_of shape table position) (cells_by shape (place_of shape table position))
      (place_fits shape limits table position p.0 p.1)
      (cells_within_limits shape (bucket_of shape (place_of shape table position).row) limits
      (bucket_within shape limits table position p.0 p.1)) at found p.2)
  call_falls client (Snapping bucket at) found w f l p =
      on_snap_falls client w f l bucket _ _ p.0 (snap_falls shape.workers limits.least_workers at found p.1)
  call_falls client (Collecting bucket prefix seen at) found w f l p =
      collect_goes client w f l bucket prefix seen _ _ p.0 p.1
      (collect_falls (cells_of shape bucket) shape.workers
      (cells_within_limits shape bucket limits p.0) seen at found p.2)

  -- 6. A word is taken

  taken : (client : ClientState) (n : ℕ) (call : Option (Now CallPoint Answer)) → NowFalls client n call
      → NowFits shape client.txn call × (left_of shape client call < n)
  taken client n None h = absurd h
  taken client n (Some (At place)) h = h
  taken client n (Some (Over answer)) h = (tt, h.1)

  -- where a client is cut off nothing is to come
  unless_cut : (cut : Bool) (left n : ℕ) → left ≤ n → (if cut then 0 else left) ≤ n
  unless_cut true left n l = omega arith
  unless_cut false left n l = l

  left_within : (client : ClientState) (n : ℕ) → left_of shape client client.call ≤ n → client_left shape client ≤ n
  left_within client n l = unless_cut client.cut (left_of shape client client.call) n l

  pub client_falls : (client : ClientState) (place : CallPoint) (found : ℕ) → ClientFits shape client
      → client.cut ≡ false
      → client.call ≡ Some (At place)
      → ClientFits shape (client_after shape client found)
      × (client_left shape (client_after shape client found) < client_left shape client)
  client_falls client place found fits runs e =
      let is : CallPointFits shape client.txn place = subst (NowFits shape client.txn) e fits.2 in
      let goes_on : client_left shape client ≡ left_of shape client client.call =
      ap (λ (cut : Bool). if cut then 0 else left_of shape client client.call) runs in
      let same : client_left shape client ≡ call_left shape client place = goes_on ∙ ap (left_of shape client) e in
      let after = call_after shape client place found in
      let h = call_falls client place found fits.0 fits.1 fits.3 is in
      let t = taken after (call_left shape client place) after.call h.2 in
      let within = left_within after (left_of shape after after.call) (omega arith) in
      let less : client_left shape after < call_left shape client place = let m = t.1 in omega arith in
      let goes : client_after shape client found ≡ after =
      ap (λ (call : Option (Now CallPoint Answer)). after_call shape client call found) e in
      subst (λ (c : ClientState). ClientFits shape c × (client_left shape c < client_left shape client)) (sym goes)
      ((h.0, h.1, t.0, h.3), rw same less)

  -- 7. A call is asked

  abbrev ClientBegins : ℕ → ClientState → Type 0
  ClientBegins n client =
      ClientFits shape client × (client_left shape client ≤ n)

  begun : (client : ClientState) (n : ℕ) → ClientFalls (n + 1) client → ClientBegins n client
  begun client n h =
      let t = taken client (n + 1) client.call h.2 in
      ((h.0, h.1, t.0, h.3), left_within client n (let m = t.1 in omega arith))

  ask_falls : (client : ClientState) (call : TxnCall) (attempt : Open) → IsOf shape.workers client.worker
      → client.last ≤ greatest_number shape.form → StateFits shape attempt.state
      → TxnCallFits shape attempt.state call
      → ClientBegins (txn_call_bound shape attempt.state call)
      (stepped client attempt 0 (txn_ask shape attempt.state call))
  ask_falls client call attempt w l f c =
      let step = txn_ask shape attempt.state call in
      let n = txn_call_bound shape attempt.state call in
      let b = txn_begins shape limits attempt.state call f c in
      begun (stepped client attempt 0 step) n
      (stepped_falls client attempt 0 (n + 1) step w l (b.0, begins_falls step.state n step.call b.1))

  counted_falls : (client : ClientState) (call : TxnCall) (attempt : Open) → IsOf shape.workers client.worker
      → client.last ≤ greatest_number shape.form → StateFits shape attempt.state
      → TxnCallFits shape attempt.state call
      → ClientBegins (txn_call_bound shape attempt.state call)
      (stepped client (with_call attempt call) 0 (txn_ask shape attempt.state call))
  counted_falls client (Get t k) attempt w l f c = ask_falls client (Get t k) (with_call attempt (Get t k)) w l f c
  counted_falls client (Put t k v) attempt w l f c =
      ask_falls client (Put t k v) (with_call attempt (Put t k v)) w l f c
  counted_falls client (Add t k i up by) attempt w l f c =
      ask_falls client (Add t k i up by) (with_call attempt (Add t k i up by)) w l f c
  counted_falls client (Del t k) attempt w l f c = ask_falls client (Del t k) (with_call attempt (Del t k)) w l f c
  counted_falls client (Need t k i least) attempt w l f c =
      ask_falls client (Need t k i least) (with_call attempt (Need t k i least)) w l f c
  counted_falls client (Guard t k) attempt w l f c =
      ask_falls client (Guard t k) (with_call attempt (Guard t k)) w l f c
  counted_falls client Commit attempt w l f c = ask_falls client Commit attempt w l f c

  ask_txn_falls : (client : ClientState) (call : TxnCall) (opened : Option Open) → IsOf shape.workers client.worker
      → client.last ≤ greatest_number shape.form
      → OpenFits shape opened → OpenCallFits shape opened call
      → ClientBegins (open_bound shape opened call) (ask_txn shape client call opened)
  ask_txn_falls client call None w l f c = absurd c
  ask_txn_falls client call (Some attempt) w l f c = counted_falls client call attempt w l f c

  ask_scan_falls : (client : ClientState) (table low high : ℕ) (opened : Option Open) → IsSome opened
      → IsOf shape.workers client.worker → client.last ≤ greatest_number shape.form
      → OpenFits shape opened → IsTableOf shape table
      → ClientBegins (scan_bound shape table) (ask_scan shape client table low high opened)
  ask_scan_falls client table low high None some w l f is = absurd (cc)
  ask_scan_falls client table low high (Some attempt) some w l f is =
      let b = scan_begins shape limits table is in ((w, f, (refl, is, b.0), l), unless_cut client.cut _ _ b.1)

  -- the call needs an open transaction, and one is open
  pub client_begins : (client : ClientState) (call : Call) → ClientFits shape client → CallStands shape client.txn call
      → ClientFits shape (client_ask shape client call)
      × (client_left shape (client_ask shape client call) ≤ call_bound shape client call)
  client_begins client (Begin txn nth) fits c =
      let l = limits.least_workers in ((fits.0, fits.1, l, fits.3), unless_cut client.cut _ _ (omega arith))
  client_begins client (Txn call) fits c = ask_txn_falls client call client.txn fits.0 fits.3 fits.1 c
  client_begins client (Scan table low high) fits c =
      ask_scan_falls client table low high client.txn c.0 fits.0 fits.3 fits.1 c.1
  client_begins client (Tidy table key) fits c =
      let l = has_capacity shape limits table c.0 in
      ((fits.0, fits.1, (c.0, l, c.1), fits.3), unless_cut client.cut _ _ (omega arith))
  client_begins client (Collect bucket) fits c =
      let l = limits.least_workers in ((fits.0, fits.1, (c, l), fits.3), unless_cut client.cut _ _ (omega arith))
