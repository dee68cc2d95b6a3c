-- An attempt ends as too old only at the word of a horizon entry: that of the worker whom the answer names, and above
-- the snapshot's.
use Rattle.std.proofs.Common.{List, None, Option, Some, inl, inr, refl, subst, sym, false, ℕ, ◌+◌, ◌-◌, ◌<◌}
use Rattle.std.proofs.Common.{◌≡◌}
use Rattle.std.specs.Prelude.{nat_lt, slice_index}
use Rattle.std.proofs.lemmas.Bool.{cond_both, ltb-true}
use Rattle.si_model.specs.Evaluation.{op_key}
use Rattle.si_model.specs.Rows.{key_at, writes_key}
use Rattle.si_model.specs.declared.op.Op.{Op}
use Rattle.si_model.specs.declared.op.Op.TheVariants.{Add, Del, Get, Guard, Need, Put, Scan}
use Rattle.nam_verbs.proofs.TestLemmas.{by_equal, by_test}
use Rattle.nam_verbs.specs.VerbAt.{found_at}
use Rattle.nam_verbs.specs.declared.now.Now.{Now}
use Rattle.nam_verbs.specs.declared.now.Now.TheVariants.{At, Over}
use Rattle.nam_catalog.specs.declared.shape.Shape.{Shape}
use Rattle.nam_layout.specs.declared.field.Field.{Field}
use Rattle.nam_layout.specs.declared.field.Field.TheVariants.{Horizon}
use Rattle.nam_calls.specs.Fits.{IsOf, ReadFits}
use Rattle.nam_calls.specs.Index.{claim_key_after, find_after}
use Rattle.nam_calls.specs.Reading.{on_horizon, read_after, read_verb, sight_of}
use Rattle.nam_calls.specs.Words.{capacity_of}
use Rattle.nam_calls.specs.declared.reading.ReadPoint.{ReadPoint}
use Rattle.nam_calls.specs.declared.reading.ReadPoint.TheVariants.{ReadCells, ReadCurrent, ReadHorizon, ReadRecheck}
use Rattle.nam_calls.specs.declared.reading.ReadPoint.TheVariants.{ReadRing, ReadUnsure}
use Rattle.nam_calls.specs.declared.reading.ReadingEnd.{ReadingEnd}
use Rattle.nam_calls.specs.declared.reading.Sight.{Sight}
use Rattle.nam_protocol.specs.Client.{call_after, call_verb}
use Rattle.nam_protocol.specs.ClientFits.{CallPointFits}
use Rattle.nam_protocol.specs.Commit.{commit_after, refusal_answer}
use Rattle.nam_protocol.specs.Operations.{answer_of, op_path, own_value, value_in}
use Rattle.nam_protocol.specs.Scan.{in_range, on_scan_read, position_of, scan_after}
use Rattle.nam_protocol.specs.ScanCall.{on_scan}
use Rattle.nam_protocol.specs.Telling.{stepped}
use Rattle.nam_protocol.specs.Txn.{Stepped, on_value}
use Rattle.nam_protocol.specs.TxnCalls.{txn_after, txn_verb}
use Rattle.nam_protocol.specs.TxnFits.{TxnPointFits}
use Rattle.nam_protocol.specs.declared.client.Answer.{Answer}
use Rattle.nam_protocol.specs.declared.client.CallPoint.{CallPoint}
use Rattle.nam_protocol.specs.declared.client.CallPoint.TheVariants.{Beginning, Collecting, InTxn, Moving, Scanning}
use Rattle.nam_protocol.specs.declared.client.CallPoint.TheVariants.{Seeking, Snapping}
use Rattle.nam_protocol.specs.declared.client.ClientState.{ClientState}
use Rattle.nam_protocol.specs.declared.client.Open.{Open}
use Rattle.nam_protocol.specs.declared.scan.ScanAnswer.{ScanAnswer}
use Rattle.nam_protocol.specs.declared.scan.ScanPoint.{ScanPoint}
use Rattle.nam_protocol.specs.declared.scan.ScanPoint.TheVariants.{ScanKey, ScanRead}
use Rattle.nam_protocol.specs.declared.txn.CommitPoint.{CommitPoint}
use Rattle.nam_protocol.specs.declared.txn.CommitPoint.TheVariants.{Checking, Clearing, Copying, Counting, Deciding}
use Rattle.nam_protocol.specs.declared.txn.CommitPoint.TheVariants.{Ending, Freeing, Installing, Listing, Locking}
use Rattle.nam_protocol.specs.declared.txn.CommitPoint.TheVariants.{Publishing, Returning, Saving}
use Rattle.nam_protocol.specs.declared.txn.Refusal.{Refusal}
use Rattle.nam_protocol.specs.declared.txn.TxnAnswer.{TxnAnswer}
use Rattle.nam_protocol.specs.declared.txn.TxnPoint.{TxnPoint}
use Rattle.nam_protocol.specs.declared.txn.TxnPoint.TheVariants.{Claiming, Committing, Finding, Reading}
use Rattle.nam_protocol.specs.declared.txn.TxnState.{TxnState}
use Rattle.nam_protocol.proofs.GoesClient.{begin_goes, collect_goes, left_goes, move_goes, seek_goes, snap_goes}
use Rattle.nam_protocol.proofs.GoesCommit.{EndsAs, commit_goes}
use Rattle.nam_protocol.proofs.GoesParts.{cells_goes, current_goes, recheck_goes, ring_goes, unsure_goes}
use Rattle.nam_protocol.proofs.GoesTxn.{decided_goes, knowing, on_claim_goes, on_find_goes, on_read_goes}
use Rattle.nam_ghost.specs.Moments.{has_published}
use Rattle.nam_calls.specs.declared.reading.ReadingEnd.TheVariants as read_end
use Rattle.nam_protocol.specs.declared.client.Answer.TheVariants as client_answer
use Rattle.nam_protocol.specs.declared.scan.ScanAnswer.TheVariants as scan_answer
use Rattle.nam_protocol.specs.declared.txn.Refusal.TheVariants as refusal
use Rattle.nam_protocol.specs.declared.txn.TxnAnswer.TheVariants as txn_answer

-- the worker's entry of the horizon is above the snapshot's
pub record IsAbove (workers : ℕ) (m : Field → ℕ) (seen : List ℕ) (worker entry horizon : ℕ) : Type 0 where
  pub inside : IsOf workers worker
  pub entry_is : slice_index seen (worker - 1) ≡ entry
  pub horizon_is : horizon ≡ m (Horizon worker)
  pub above : entry < horizon

-- 1. What is said where something has ended as too old, and nothing of all else

module _ (Says : ℕ → ℕ → ℕ → Type 0) where
  abbrev pub OfRead : Now ReadPoint ReadingEnd → Type 0
  OfRead (Over (read_end.Passed worker entry horizon)) = Says worker entry horizon
  OfRead _ = Unit {0}

  abbrev pub OfScan : Now ScanPoint ScanAnswer → Type 0
  OfScan (Over (scan_answer.TooOld worker entry horizon)) = Says worker entry horizon
  OfScan _ = Unit {0}

  abbrev pub OfAnswer : TxnAnswer → Type 0
  OfAnswer (txn_answer.TooOld worker entry horizon) = Says worker entry horizon
  OfAnswer _ = Unit {0}

  abbrev pub OfTxn : Now TxnPoint TxnAnswer → Type 0
  OfTxn (At place) = Unit {0}
  OfTxn (Over answer) = OfAnswer answer

  abbrev pub OfCall : Option (Now CallPoint Answer) → Type 0
  OfCall (Some (Over (client_answer.Txn answer))) = OfAnswer answer
  OfCall _ = Unit {0}

  abbrev OfStep : Stepped → Type 0
  OfStep step = OfTxn step.call

  abbrev OfClient : ClientState → Type 0
  OfClient client = OfCall client.call

  -- 2. Operations and commits

  op_says : (op : Op) (value : Option (List ℕ)) → OfAnswer (answer_of op value)
  op_says (Get t k) value = tt
  op_says (Put t k v) value = tt
  op_says (Add t k f up by) value = tt
  op_says (Del t k) value = tt
  op_says (Need t k f least) value = tt
  op_says (Guard t k) value = tt
  op_says (Scan t low high) value = tt

  value_says : (shape : Shape) (state : TxnState) (op : Op) (value : Option (List ℕ))
      → OfStep (on_value shape state op value)
  value_says shape state op value =
      decided_goes shape OfStep op (knowing state op value) value (λ e. tt) (λ e f. tt) (λ e f. op_says op value)

  refusal_says : (why : Refusal) → OfAnswer (refusal_answer why)
  refusal_says (refusal.Locked lock) = tt
  refusal_says (refusal.Newer lock) = tt
  refusal_says (refusal.Full lock) = tt

  commit_ends : (state : TxnState) (at : CommitPoint) (answer : TxnAnswer) → EndsAs OfStep state at answer
      → OfAnswer answer
  commit_ends state (Locking at) answer (lock, inl e) = subst OfAnswer (sym e) tt
  commit_ends state (Locking at) answer (lock, inr e) = subst OfAnswer (sym e) tt
  commit_ends state (Returning given full) answer e = subst OfAnswer (sym e) tt
  commit_ends state Publishing answer e = subst OfAnswer (sym e) tt
  commit_ends state (Freeing nth) answer e = subst OfAnswer (sym e) tt
  commit_ends state (Clearing why) answer e = subst OfAnswer (sym e) (refusal_says why)
  commit_ends state Ending answer e = subst OfAnswer (sym e) tt
  commit_ends state (Listing at) answer none = absurd none
  commit_ends state (Checking at) answer none = absurd none
  commit_ends state (Counting nth) answer none = absurd none
  commit_ends state Deciding answer none = absurd none
  commit_ends state (Saving nth got) answer none = absurd none
  commit_ends state (Copying nth old at) answer none = absurd none
  commit_ends state (Installing nth at) answer none = absurd none

  commit_says : (state : TxnState) (at : CommitPoint) (found : ℕ) → OfStep (commit_after state at found)
  commit_says state at found =
      commit_goes OfStep state at found (λ next e. tt) (λ header next e f. tt) (λ point count next e f. tt)
      (λ answer ends. commit_ends state at answer ends)

  stepped_says : (client : ClientState) (attempt : Open) (before : ℕ) (step : Stepped) → OfStep step
      → OfClient (stepped client attempt before step)
  stepped_says client attempt before step is = by step.state step.call is
    where
      by : (state : TxnState) (call : Now TxnPoint TxnAnswer) → OfTxn call
          → OfClient (stepped client attempt before record { state = state; call = call })
      by state (At place) is = tt
      by state (Over answer) is = is

  -- 3. Scans

  scan_read_says : (table position key : ℕ) (now : Now ReadPoint ReadingEnd) → OfRead now
      → OfScan (on_scan_read table position key now)
  scan_read_says table position key (At at) is = tt
  scan_read_says table position key (Over (read_end.Got value)) is = tt
  scan_read_says table position key (Over (read_end.Passed worker entry horizon)) is = is
  scan_read_says table position key (Over read_end.Astray) is = tt

  scan_says : (shape : Shape) (client : ClientState) (attempt : Open) (table low high position : ℕ)
      (now : Now ScanPoint ScanAnswer) → OfScan now
      → OfClient (on_scan shape client attempt table low high position now)
  scan_says shape client attempt table low high position (At place) is = tt
  scan_says shape client attempt table low high position (Over (scan_answer.Key key)) is =
      let own = key_at table key in
      cond_both (writes_key attempt.state.writes own) _ _ OfClient
      (λ e. left_goes OfClient shape client attempt table low high position key (own_value attempt.state.writes own)
      (λ rows more. tt) (λ rows. tt))
      (λ e. tt)
  scan_says shape client attempt table low high position (Over (scan_answer.Row item)) is =
      left_goes OfClient shape client attempt table low high position item.key item.value (λ rows more. tt) (λ rows. tt)
  scan_says shape client attempt table low high position (Over scan_answer.Done) is = tt
  scan_says shape client attempt table low high position (Over (scan_answer.TooOld worker entry horizon)) is = is
  scan_says shape client attempt table low high position (Over scan_answer.Astray) is = tt

-- 4. A read

module _ (m : Field → ℕ) (seen : List ℕ) (Says : ℕ → ℕ → ℕ → Type 0) (found : ℕ) where
  read_says : (sight : Sight)
      → ((worker entry horizon : ℕ) → IsAbove sight.workers m seen worker entry horizon → Says worker entry horizon)
      → (at : ReadPoint) → ReadFits sight at → found ≡ found_at m (read_verb sight at)
      → OfRead Says (read_after sight seen at found)
  read_says sight above (ReadCurrent at) fits is =
      current_goes (OfRead Says) _ (λ next e. tt) (λ value e. tt) (λ value header e. tt) (λ e. tt)
  read_says sight above (ReadUnsure value header at) fits is =
      unsure_goes (OfRead Says) value header _ (λ next e. tt) (λ old e. tt) (λ e. tt)
  read_says sight above (ReadRecheck value header) fits is =
      recheck_goes (OfRead Says) sight seen value header found (λ e. tt) (λ e. tt)
  read_says sight above (ReadRing at) fits is =
      ring_goes (OfRead Says) _ (λ next e. tt) (λ old e. tt) (λ e. tt)
  read_says sight above (ReadCells at) fits is =
      cells_goes (OfRead Says) _ (λ next e. tt) (λ old e. tt) (λ e. tt)
  read_says sight above (ReadHorizon worker) fits is =
      by_test (λ now. OfRead Says (on_horizon now)) (nat_lt (slice_index seen (worker - 1)) found) _ _
      (λ e. above worker (slice_index seen (worker - 1)) found record {
        inside = fits;
        entry_is = refl;
        horizon_is = is;
        above = ltb-true (slice_index seen (worker - 1)) found e;
      })
      (λ e. by_equal (λ now. OfRead Says (on_horizon now)) worker sight.workers _ _ (λ e. tt) (λ e. tt))

-- 5. A client

module _ (shape : Shape) (m : Field → ℕ) (client : ClientState) (attempt : Open) (found : ℕ) where
  abbrev at_place : CallPoint → ClientState
  at_place place = record client { call = Some (At place); txn = Some attempt }

  -- and no commit of its own has published
  abbrev pub Old : CallPoint → ℕ → ℕ → ℕ → Type 0
  Old place worker entry horizon =
      IsAbove shape.workers m attempt.state.seen worker entry horizon × (has_published (Some (At place)) ≡ false)

  txn_old : (at : TxnPoint) → TxnPointFits shape attempt.state at → found ≡ found_at m (txn_verb shape attempt.state at)
      → OfStep (Old (InTxn at)) (txn_after shape attempt.state at found)
  txn_old (Finding op passed) fits is =
      let Says = Old (InTxn (Finding op passed)) in
      on_find_goes shape (OfStep Says) op attempt.state (find_after (op_path shape op) passed found) (λ next e. tt)
      (λ position e. tt) (λ e. value_says Says shape attempt.state op None)
  txn_old (Reading op position at) fits is =
      let Says = Old (InTxn (Reading op position at)) in
      let sight = sight_of shape (op_key op).table position in
      on_read_goes shape (OfStep Says) op attempt.state position (read_after sight attempt.state.seen at found)
      (λ next e. tt) (λ value e. value_says Says shape attempt.state op value)
      (λ worker entry horizon e. subst (OfRead Says) e
      (read_says m attempt.state.seen Says found sight (λ w a h above. (above, refl)) at fits.2 is))
      (λ e. tt)
  txn_old (Claiming op at) fits is =
      let Says = Old (InTxn (Claiming op at)) in
      on_claim_goes shape (OfStep Says) op attempt.state (claim_key_after (op_path shape op) at found) (λ next e. tt)
      (λ e. tt) (λ position e. op_says Says op (value_in attempt.state.read))
  txn_old (Committing at) fits is = commit_says (Old (InTxn (Committing at))) attempt.state at found

  scan_old : (table low high : ℕ) (at : ScanPoint) → CallPointFits shape (Some attempt) (Scanning table low high at)
      → found ≡ found_at m (call_verb shape client (Scanning table low high at))
      → OfScan (Old (Scanning table low high at)) (scan_after shape table low high attempt.state.seen at found)
  scan_old table low high (ScanKey position) fits is =
      let Says = Old (Scanning table low high (ScanKey position)) in
      by_test (OfScan Says) (in_range low high found) _ _ (λ e. tt)
      (λ e. by_equal (OfScan Says) (position + 1) (capacity_of shape table) _ _ (λ last. tt) (λ more. tt))
  scan_old table low high (ScanRead position key at) fits is =
      let Says = Old (Scanning table low high (ScanRead position key at)) in
      let sight = sight_of shape table position in
      scan_read_says Says table position key (read_after sight attempt.state.seen at found)
      (read_says m attempt.state.seen Says found sight (λ w a h above. (above, refl)) at fits.2.1 is)

  place_old : (place : CallPoint) → CallPointFits shape (Some attempt) place
      → found ≡ found_at m (call_verb shape (at_place place) place)
      → OfClient (Old place) (call_after shape (at_place place) place found)
  place_old (InTxn at) fits is =
      stepped_says (Old (InTxn at)) (at_place (InTxn at)) attempt _ (txn_after shape attempt.state at found)
      (txn_old at fits is)
  place_old (Scanning table low high at) fits is =
      scan_says (Old (Scanning table low high at)) shape (at_place (Scanning table low high at)) attempt table low high
      (position_of at) (scan_after shape table low high attempt.state.seen at found)
      (scan_old table low high at fits is)
  place_old (Beginning txn nth at) fits is =
      begin_goes (OfClient (Old (Beginning txn nth at))) shape (at_place (Beginning txn nth at)) txn nth _
      (λ next e. tt) (λ seen e. tt) (λ worker first second e. tt)
  place_old (Seeking table key passed) fits is =
      seek_goes (OfClient (Old (Seeking table key passed))) shape (at_place (Seeking table key passed)) table key _
      (λ next e. tt) (λ position e. tt) (λ e. tt)
  place_old (Moving table key position at) fits is =
      move_goes (OfClient (Old (Moving table key position at))) shape (at_place (Moving table key position at)) table
      key position _ _ (λ next e. tt) (λ stamp e. tt) (λ stamp e. tt) (λ e. tt) (λ full e. tt)
  place_old (Snapping bucket at) fits is =
      snap_goes (OfClient (Old (Snapping bucket at))) shape (at_place (Snapping bucket at)) bucket _ (λ next e. tt)
      (λ seen e. tt) (λ worker first second e. tt)
  place_old (Collecting bucket prefix seen at) fits is =
      collect_goes (OfClient (Old (Collecting bucket prefix seen at))) shape
      (at_place (Collecting bucket prefix seen at)) bucket prefix seen _ (λ next e. tt) (λ known e. tt)

  -- so where the answer is that one
  pub too_old : (place : CallPoint) → client.call ≡ Some (At place) → client.txn ≡ Some attempt
      → CallPointFits shape (Some attempt) place → found ≡ found_at m (call_verb shape client place)
      → (worker entry horizon : ℕ)
      → (call_after shape client place found).call
      ≡ Some (Over (client_answer.Txn (txn_answer.TooOld worker entry horizon))) → Old place worker entry horizon
  too_old place runs opened fits is worker entry horizon answers =
      let same : client ≡ at_place place = λ k. record client { call = runs k; txn = opened k } in
      subst (OfCall (Old place)) answers
      (subst (λ (c : ClientState). OfClient (Old place) (call_after shape c place found)) (sym same)
      (place_old place fits
      (subst (λ (c : ClientState). found ≡ found_at m (call_verb shape c place)) same is)))
