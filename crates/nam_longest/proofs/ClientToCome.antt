-- The verbs to come at the very most fall in each call of a client, and no words make a call longer.
use Rattle.std.proofs.Common.{◌≡◌, ℕ, ◌+◌, ◌-◌, ◌<◌, ◌≤◌, List, [], ◌∷◌, length, refl, ◌∙◌, ap, subst}
use Rattle.std.proofs.Common.{arith, Bool, true, false, Option, Some, None}
use Rattle.std.specs.Prelude.{if◌then◌else◌, max, IsSome}
use Rattle.si_model.specs.Rows.{key_at, writes_key}
use Rattle.si_model.specs.declared.op.Op.{Op}
use Rattle.si_model.specs.Evaluation.{op_key}
use Rattle.si_model.specs.Operations.{op_reads}
use Rattle.si_model.specs.declared.op.Op.TheVariants as op
use Rattle.nam_verbs.specs.declared.now.Now.{Now}
use Rattle.nam_verbs.specs.declared.now.Now.TheVariants.{At, Over}
use Rattle.nam_verbs.specs.Falls.{FallsTo, nothing, Any}
use Rattle.nam_catalog.specs.declared.shape.Shape.{Shape}
use Rattle.nam_catalog.specs.Fits.{FitsLimits}
use Rattle.nam_calls.specs.Words.{capacity_of}
use Rattle.nam_calls.specs.Fits.{IsTableOf}
use Rattle.nam_calls.proofs.FallsTests.{either}
use Rattle.nam_protocol.specs.declared.txn.TxnPoint.{TxnPoint}
use Rattle.nam_protocol.specs.declared.txn.TxnCall.{TxnCall}
use Rattle.nam_protocol.specs.declared.txn.TxnCall.TheVariants.{Get, Put, Add, Del, Need, Guard, Commit}
use Rattle.nam_protocol.specs.declared.txn.TxnAnswer.{TxnAnswer}
use Rattle.nam_protocol.specs.Txn.{Stepped, ask_op}
use Rattle.nam_protocol.specs.Commit.{ask_commit}
use Rattle.nam_longest.specs.Deletions.{commit_longest}
use Rattle.nam_longest.specs.Longest.{open_commit_longest}
use Rattle.nam_protocol.specs.declared.scan.ScanPoint.{ScanPoint}
use Rattle.nam_protocol.specs.declared.scan.ScanPoint.TheVariants.{ScanKey, ScanRead}
use Rattle.nam_protocol.specs.declared.scan.ScanAnswer.{ScanAnswer}
use Rattle.nam_protocol.specs.declared.client.Call.{Call}
use Rattle.nam_protocol.specs.declared.client.Call.TheVariants.{Begin, Txn, Scan, Tidy, Collect}
use Rattle.nam_protocol.specs.declared.client.Answer.{Answer}
use Rattle.nam_protocol.specs.declared.client.CallPoint.{CallPoint}
use Rattle.nam_protocol.specs.declared.client.CallPoint.TheVariants.{Beginning, InTxn, Scanning, Seeking, Moving}
use Rattle.nam_protocol.specs.declared.client.CallPoint.TheVariants.{Snapping, Collecting}
use Rattle.nam_protocol.specs.declared.client.Open.{Open}
use Rattle.nam_protocol.specs.declared.client.ClientState.{ClientState}
use Rattle.nam_protocol.specs.Operations.{own_value}
use Rattle.nam_protocol.specs.TxnCalls.{txn_after, taken_at, taken_now}
use Rattle.nam_protocol.specs.Log.{with_locks}
use Rattle.nam_protocol.specs.Scan.{scan_skip, scan_read, position_of}
use Rattle.nam_protocol.specs.Client.{with_call, client_ask, verb_of, take_txn, take_scan, call_after}
use Rattle.nam_protocol.specs.Client.{ask_txn, ask_scan, after_call, client_after}
use Rattle.nam_protocol.specs.Telling.{new_locks, on_call, stepped}
use Rattle.nam_protocol.specs.ScanCall.{with_gathered, on_skip, on_scan}
use Rattle.nam_protocol.specs.Bound.{claim_most, claim_bound}
use Rattle.nam_protocol.specs.Left.{open_left, call_left, left_of, client_left}
use Rattle.nam_protocol.specs.TxnFits.{ScanFits}
use Rattle.nam_protocol.specs.ClientFits.{OpenFits, OpenPointFits, CallPointFits, NowFits, ClientFits, CallStands}
use Rattle.nam_protocol.specs.ClientFits.{OpenCallFits, call_bound, open_bound}
use Rattle.nam_protocol.proofs.FallsClient.{client_falls, client_begins}
use Rattle.nam_protocol.specs.declared.scan.ScanAnswer.TheVariants as scan_answer
use Rattle.nam_longest.specs.Longest.{txn_to_come, scan_to_come, open_to_come, call_to_come, to_come_of, client_to_come}
use Rattle.nam_longest.specs.Longest.{value_longest, get_longest, guard_longest, scan_longest, call_longest}
use Rattle.nam_longest.specs.LongestLaw.{TakesWords}
use Rattle.nam_longest.proofs.TxnToCome.{TxnLowers, txn_within, read_asked}
use Rattle.nam_longest.proofs.CallsToCome.{txn_lowers, commit_asked}
use Rattle.nam_longest.proofs.ScanToCome.{rest, ScanLowers, scan_skip_lowers, scan_within, scan_lowers}

-- where a client is cut off nothing is to come
unless_cut : (cut : Bool) (left n : ℕ) → left ≤ n → (if cut then 0 else left) ≤ n
unless_cut true left n l = omega arith
unless_cut false left n l = l

-- 1. No more than the verbs to come

module _ (shape : Shape) where
  open_within : (opened : Option Open) (at : TxnPoint) → open_to_come shape opened at ≤ open_left shape opened at
  open_within None at = omega arith
  open_within (Some attempt) at = txn_within shape attempt.state at

  call_within : (client : ClientState) (place : CallPoint) → CallPointFits shape client.txn place
      → call_to_come shape client place ≤ call_left shape client place
  call_within client (Beginning txn nth at) fits = omega arith
  call_within client (InTxn at) fits = open_within client.txn at
  call_within client (Scanning table low high at) fits = scan_within shape table at fits.2
  call_within client (Seeking table key passed) fits = omega arith
  call_within client (Moving table key position at) fits = omega arith
  call_within client (Snapping bucket at) fits = omega arith
  call_within client (Collecting bucket prefix seen at) fits = omega arith

  now_within : (client : ClientState) (call : Option (Now CallPoint Answer)) → NowFits shape client.txn call
      → to_come_of shape client call ≤ left_of shape client call
  now_within client None fits = omega arith
  now_within client (Some (At place)) fits = call_within client place fits
  now_within client (Some (Over answer)) fits = omega arith

  if_runs : (cut : Bool) (a b : ℕ) → a ≤ b → (if cut then 0 else a) ≤ (if cut then 0 else b)
  if_runs true a b l = omega arith
  if_runs false a b l = l

  client_within : (client : ClientState) → ClientFits shape client
      → client_to_come shape client ≤ client_left shape client
  client_within client fits = if_runs client.cut _ _ (now_within client client.call fits.2)

  -- 2. A transaction has stepped

  abbrev Lowers : ℕ → ClientState → Type 0
  Lowers n client = to_come_of shape client client.call < n

  on_call_lowers : (client : ClientState) (attempt : Open) (n : ℕ) (now : Now TxnPoint TxnAnswer)
      → FallsTo Any Any (txn_to_come shape attempt.state) nothing n now
      → Lowers n (on_call client attempt now)
  on_call_lowers client attempt n (At place) h = h.1
  on_call_lowers client attempt n (Over answer) h = h.1

  stepped_lowers : (client : ClientState) (attempt : Open) (before n : ℕ) (step : Stepped) → TxnLowers shape n step
      → Lowers n (stepped client attempt before step)
  stepped_lowers client attempt before n step h =
      let locks = new_locks step.state before (taken_now step.state step.call) in
      on_call_lowers (record client { log = with_locks client.log locks })
      (record attempt { locks = attempt.locks + length locks; state = step.state }) n step.call h

  -- 3. A scan has stepped

  module _ (attempt : Open) (table low high : ℕ) where
    on_skip_lowers : (client : ClientState) (position n : ℕ) (now : Now ScanPoint ScanAnswer)
        → ScanLowers shape table position n now → Lowers n (on_skip client attempt table low high now)
    on_skip_lowers client position n (At place) h = h.1
    on_skip_lowers client position n (Over end) h = let l = h.1 in omega arith

    skipped : (client : ClientState) (position key n : ℕ) (value : Option (List ℕ))
        → position < capacity_of shape table → rest shape table position < n
        → Lowers n
        (on_skip (with_gathered client position key value) attempt table low high (scan_skip shape table position))
    skipped client position key n value l m =
        on_skip_lowers (with_gathered client position key value) position n _
        (scan_skip_lowers shape table position n l m)

    on_scan_lowers : (client : ClientState) (position n : ℕ) (now : Now ScanPoint ScanAnswer)
        → position < capacity_of shape table
        → ScanLowers shape table position n now
        → Lowers n (on_scan shape client attempt table low high position now)
    on_scan_lowers client position n (At place) l h = h.1
    on_scan_lowers client position n (Over (scan_answer.Key key)) l h =
        let own = key_at table key in
        either (Lowers n) (writes_key attempt.state.writes own)
        (on_skip (with_gathered client position key (own_value attempt.state.writes own)) attempt table low high
        (scan_skip shape table position))
        (on_skip client attempt table low high (scan_read position key))
        (skipped client position key n (own_value attempt.state.writes own) l (let m = h.1 in omega arith)) h.1
    on_scan_lowers client position n (Over (scan_answer.Row item)) l h =
        skipped client position item.key n item.value l h.1
    on_scan_lowers client position n (Over scan_answer.Done) l h = h.1
    on_scan_lowers client position n (Over (scan_answer.TooOld worker entry horizon)) l h = h.1
    on_scan_lowers client position n (Over scan_answer.Astray) l h = h.1

  position_within : (table : ℕ) (at : ScanPoint) → ScanFits shape table at → position_of at < capacity_of shape table
  position_within table (ScanKey position) l = l
  position_within table (ScanRead position key at) l = l.0

-- 4. A word is taken

module _ (shape : Shape) (limits : FitsLimits shape) where
  take_txn_lowers : (client : ClientState) (at : TxnPoint) (opened : Option Open) (found : ℕ)
      → OpenFits shape opened → OpenPointFits shape opened at
      → Lowers shape (open_to_come shape opened at) (take_txn shape client at opened found)
  take_txn_lowers client at None found f p = absurd p
  take_txn_lowers client at (Some attempt) found f p =
      stepped_lowers shape client attempt (length (taken_at attempt.state at)) _
      (txn_after shape attempt.state at found)
      (txn_lowers shape limits attempt.state at found f p)

  take_scan_lowers : (client : ClientState) (table low high : ℕ) (at : ScanPoint) (opened : Option Open) (found : ℕ)
      → IsSome opened → IsTableOf shape table → ScanFits shape table at
      → Lowers shape (scan_to_come shape table at) (take_scan shape client table low high at opened found)
  take_scan_lowers client table low high at None found some is p = absurd (cc)
  take_scan_lowers client table low high at (Some attempt) found some is p =
      on_scan_lowers shape attempt table low high client (position_of at) _ _ (position_within shape table at p)
      (scan_lowers shape limits table is low high attempt.state.seen at found p)

  -- the client after the word is not cut off, and the verbs left fall: so do those to come, which are no more
  by_left : (client : ClientState) (place : CallPoint) (found : ℕ) → ClientFits shape client → client.cut ≡ false
      → client.call ≡ Some (At place)
      → call_to_come shape client place ≡ call_left shape client place
      → client_to_come shape (client_after shape client found) < call_to_come shape client place
  by_left client place found fits runs e same =
      let h = client_falls shape limits client place found fits runs e in
      let w = client_within shape (client_after shape client found) h.0 in
      let goes_on : client_left shape client ≡ call_left shape client place =
      ap (λ (cut : Bool). if cut then 0 else left_of shape client client.call) runs ∙ ap (left_of shape client) e in
      let m = h.1 in
      omega arith

  -- a word of a call that reads has been taken
  by_step : (client : ClientState) (place : CallPoint) (found n : ℕ) → client.call ≡ Some (At place)
      → Lowers shape n (call_after shape client place found)
      → client_to_come shape (client_after shape client found) < n
  by_step client place found n e h =
      let after = call_after shape client place found in
      let goes : client_after shape client found ≡ after =
      ap (λ (call : Option (Now CallPoint Answer)). after_call shape client call found) e in
      let within : client_to_come shape after ≤ to_come_of shape after after.call =
      unless_cut after.cut _ _ (omega arith) in
      rw goes (omega arith)

  falls_at : (client : ClientState) (place : CallPoint) (found : ℕ) → ClientFits shape client → client.cut ≡ false
      → client.call ≡ Some (At place) → CallPointFits shape client.txn place
      → client_to_come shape (client_after shape client found) < call_to_come shape client place
  falls_at client (Beginning txn nth at) found fits runs e p =
      by_left client (Beginning txn nth at) found fits runs e refl
  falls_at client (InTxn at) found fits runs e p =
      by_step client (InTxn at) found _ e (take_txn_lowers client at client.txn found fits.1 p)
  falls_at client (Scanning table low high at) found fits runs e p =
      by_step client (Scanning table low high at) found _ e
      (take_scan_lowers client table low high at client.txn found p.0 p.1 p.2)
  falls_at client (Seeking table key passed) found fits runs e p =
      by_left client (Seeking table key passed) found fits runs e refl
  falls_at client (Moving table key position at) found fits runs e p =
      by_left client (Moving table key position at) found fits runs e refl
  falls_at client (Snapping bucket at) found fits runs e p =
      by_left client (Snapping bucket at) found fits runs e refl
  falls_at client (Collecting bucket prefix seen at) found fits runs e p =
      by_left client (Collecting bucket prefix seen at) found fits runs e refl

  pub client_lowers : (client : ClientState) (place : CallPoint) (found : ℕ) → ClientFits shape client
      → client.cut ≡ false → client.call ≡ Some (At place)
      → client_to_come shape (client_after shape client found) < client_to_come shape client
  client_lowers client place found fits runs e =
      let is : CallPointFits shape client.txn place = subst (NowFits shape client.txn) e fits.2 in
      let same : client_to_come shape client ≡ call_to_come shape client place =
      ap (λ (cut : Bool). if cut then 0 else to_come_of shape client client.call) runs
      ∙ ap (to_come_of shape client) e in
      rw same (falls_at client place found fits runs e is)

  -- 5. A call is asked

  -- a call whose longest is its bound
  by_bound : (client : ClientState) (call : Call) → ClientFits shape client → CallStands shape client.txn call
      → call_bound shape client call ≤ call_longest shape client call
      → client_to_come shape (client_ask shape client call) ≤ call_longest shape client call
  by_bound client call fits stands l =
      let b = client_begins shape limits client call fits stands in
      let w = client_within shape (client_ask shape client call) b.0 in
      let m = b.1 in
      omega arith

  step_asked : (client : ClientState) (attempt : Open) (n : ℕ) (step : Stepped) → TxnLowers shape (n + 1) step
      → client_to_come shape (stepped client attempt 0 step) ≤ n
  step_asked client attempt n step h =
      let l = stepped_lowers shape client attempt 0 (n + 1) step h in
      let after = stepped client attempt 0 step in
      unless_cut after.cut _ n (omega arith)

  -- an operation that reads
  read_call_asked : (client : ClientState) (op : Op) (attempt : Open) (n : ℕ) → op_reads op ≡ true
      → capacity_of shape (op_key op).table
      + (value_longest shape (op_key op).table + max (claim_most shape op) shape.workers) ≤ n
      → client_to_come shape (stepped client attempt 0 (ask_op shape attempt.state op)) ≤ n
  read_call_asked client op attempt n reads l =
      let s = step_asked client attempt (capacity_of shape (op_key op).table
      + (value_longest shape (op_key op).table + max (claim_most shape op) shape.workers))
      (ask_op shape attempt.state op) (read_asked shape limits attempt.state op reads) in
      omega arith

  put_bound : (opened : Option Open) (t k : ℕ) (v : List ℕ) → open_bound shape opened (Put t k v) ≤ claim_bound shape t
  put_bound None t k v = omega arith
  put_bound (Some attempt) t k v = omega arith

  del_bound : (opened : Option Open) (t k : ℕ) → open_bound shape opened (Del t k) ≤ claim_bound shape t
  del_bound None t k = omega arith
  del_bound (Some attempt) t k = omega arith

  abbrev opened_ask : ClientState → TxnCall → Option Open → ℕ
  opened_ask client call opened = client_to_come shape (ask_txn shape client call opened)

  get_asked : (client : ClientState) (opened : Option Open) (t k : ℕ) → OpenCallFits shape opened (Get t k)
      → opened_ask client (Get t k) opened ≤ get_longest shape t
  get_asked client None t k stands = absurd stands
  get_asked client (Some attempt) t k stands =
      read_call_asked client (op.Get t k) (with_call attempt (Get t k)) _ refl (omega arith)

  need_asked : (client : ClientState) (opened : Option Open) (t k f least : ℕ)
      → OpenCallFits shape opened (Need t k f least)
      → opened_ask client (Need t k f least) opened ≤ get_longest shape t
  need_asked client None t k f least stands = absurd stands
  need_asked client (Some attempt) t k f least stands =
      read_call_asked client (op.Need t k f least) (with_call attempt (Need t k f least)) _ refl (omega arith)

  add_asked : (client : ClientState) (opened : Option Open) (t k f : ℕ) (up : Bool) (by : ℕ)
      → OpenCallFits shape opened (Add t k f up by)
      → opened_ask client (Add t k f up by) opened ≤ guard_longest shape t
  add_asked client None t k f up by stands = absurd stands
  add_asked client (Some attempt) t k f up by stands =
      read_call_asked client (op.Add t k f up by) (with_call attempt (Add t k f up by)) _ refl (omega arith)

  guard_asked : (client : ClientState) (opened : Option Open) (t k : ℕ) → OpenCallFits shape opened (Guard t k)
      → opened_ask client (Guard t k) opened ≤ guard_longest shape t
  guard_asked client None t k stands = absurd stands
  guard_asked client (Some attempt) t k stands =
      read_call_asked client (op.Guard t k) (with_call attempt (Guard t k)) _ refl (omega arith)

  commit_call_asked : (client : ClientState) (opened : Option Open) → OpenFits shape opened
      → OpenCallFits shape opened Commit
      → opened_ask client Commit opened ≤ open_commit_longest shape opened
  commit_call_asked client None fits stands = absurd stands
  commit_call_asked client (Some attempt) fits stands =
      step_asked client attempt (commit_longest shape attempt.state) (ask_commit shape attempt.state)
      (commit_asked shape limits attempt.state fits)

  scan_asked : (client : ClientState) (table low high : ℕ) (opened : Option Open) → IsSome opened
      → client_to_come shape (ask_scan shape client table low high opened) ≤ scan_longest shape table
  scan_asked client table low high None some = absurd (cc)
  scan_asked client table low high (Some attempt) some =
      let e : capacity_of shape table - 0 ≡ capacity_of shape table = omega arith in
      unless_cut client.cut _ _ (rw e (omega arith))

  pub client_asked : (client : ClientState) (call : Call) → ClientFits shape client → CallStands shape client.txn call
      → client_to_come shape (client_ask shape client call) ≤ call_longest shape client call
  client_asked client (Begin txn nth) fits stands = by_bound client (Begin txn nth) fits stands (omega arith)
  client_asked client (Txn (Get t k)) fits stands = get_asked client client.txn t k stands
  client_asked client (Txn (Put t k v)) fits stands =
      by_bound client (Txn (Put t k v)) fits stands (put_bound client.txn t k v)
  client_asked client (Txn (Add t k f up by)) fits stands = add_asked client client.txn t k f up by stands
  client_asked client (Txn (Del t k)) fits stands =
      by_bound client (Txn (Del t k)) fits stands (del_bound client.txn t k)
  client_asked client (Txn (Need t k f least)) fits stands = need_asked client client.txn t k f least stands
  client_asked client (Txn (Guard t k)) fits stands = guard_asked client client.txn t k stands
  client_asked client (Txn Commit) fits stands = commit_call_asked client client.txn fits.1 stands
  client_asked client (Scan table low high) fits stands = scan_asked client table low high client.txn stands.0
  client_asked client (Tidy table key) fits stands = by_bound client (Tidy table key) fits stands (omega arith)
  client_asked client (Collect bucket) fits stands = by_bound client (Collect bucket) fits stands (omega arith)

  -- 6. Words one after another

  -- where a verb stands the client isn't cut off, and its call is at a place
  stands_at : (client : ClientState) (cut : Bool) (call : Option (Now CallPoint Answer))
      → IsSome (if cut then None else verb_of shape client call)
      → (cut ≡ false) × (place : CallPoint) × (call ≡ Some (At place))
  stands_at client true call some = absurd (cc)
  stands_at client false None some = absurd (cc)
  stands_at client false (Some (At place)) some = (refl, place, refl)
  stands_at client false (Some (Over answer)) some = absurd (cc)

  words_within : (client : ClientState) (words : List ℕ) → ClientFits shape client → TakesWords shape client words
      → length words ≤ client_to_come shape client
  words_within client [] fits takes = omega arith
  words_within client (word ∷ words) fits takes =
      let s = stands_at client client.cut client.call takes.0 in
      let h = client_falls shape limits client s.1 word fits s.0 s.2 in
      let l = client_lowers client s.1 word fits s.0 s.2 in
      let rest = words_within (client_after shape client word) words h.0 takes.1 in
      omega arith

  pub no_longer : (client : ClientState) (call : Call) → ClientFits shape client → CallStands shape client.txn call
      → (words : List ℕ) → TakesWords shape (client_ask shape client call) words
      → length words ≤ call_longest shape client call
  no_longer client call fits stands words takes =
      let b = client_begins shape limits client call fits stands in
      let m = client_asked client call fits stands in
      let w = words_within (client_ask shape client call) words b.0 takes in
      omega arith
