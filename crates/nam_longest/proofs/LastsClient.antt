-- Words that make a client's call last as long as its longest.
use Rattle.std.proofs.Common.{◌≡◌, ℕ, zero, suc, ◌+◌, ◌-◌, ◌*◌, ◌<◌, ◌≤◌, [], ◌∷◌, ◌++◌, refl, sym, subst}
use Rattle.std.proofs.Common.{arith, Bool, true, false, not, Option, Some, None}
use Rattle.std.proofs.Math.Nat.{suc-mul}
use Rattle.std.proofs.lemmas.Bool.Decides.{nat_tests}
use Rattle.std.specs.Prelude.{if◌then◌else◌, max, nat_le, slice_index, IsSome}
use Rattle.si_model.specs.Rows.{key_at, writes_key}
use Rattle.si_model.specs.Evaluation.{passes, can_change, op_key}
use Rattle.si_model.specs.Operations.{op_reads}
use Rattle.si_model.specs.declared.op.Op.{Op}
use Rattle.si_model.specs.declared.op.Op.TheVariants as op
use Rattle.nam_verbs.proofs.TestLemmas.{by_test}
use Rattle.nam_verbs.specs.declared.now.Now.{Now}
use Rattle.nam_verbs.specs.declared.now.Now.TheVariants.{At, Over}
use Rattle.nam_catalog.specs.declared.shape.Shape.{Shape}
use Rattle.nam_catalog.specs.Fits.{FitsLimits}
use Rattle.nam_calls.specs.Holds.{IsWord}
use Rattle.nam_calls.specs.Words.{width_of, capacity_of, key_word}
use Rattle.nam_calls.specs.Index.{find_begin, claim_key_begin}
use Rattle.nam_calls.specs.Reading.{sight_of, read_begin, read_most}
use Rattle.nam_calls.specs.Fits.{IsTableOf}
use Rattle.nam_calls.proofs.FallsTests.{or_last}
use Rattle.nam_calls.proofs.FallsTables.{has_capacity, sight_fits, read_figure}
use Rattle.nam_protocol.specs.declared.txn.TxnState.{TxnState}
use Rattle.nam_protocol.specs.declared.txn.TxnCall.{TxnCall}
use Rattle.nam_protocol.specs.declared.txn.TxnCall.TheVariants.{Get, Put, Add, Del, Need, Guard, Commit}
use Rattle.nam_protocol.specs.declared.txn.TxnPoint.TheVariants.{Finding, Claiming}
use Rattle.nam_protocol.specs.declared.scan.ScanPoint.{ScanPoint}
use Rattle.nam_protocol.specs.declared.scan.ScanPoint.TheVariants.{ScanKey, ScanRead}
use Rattle.nam_protocol.specs.declared.scan.ScanAnswer.{ScanAnswer}
use Rattle.nam_protocol.specs.declared.scan.ScanAnswer.TheVariants.{Key, Done}
use Rattle.nam_protocol.specs.declared.client.Call.{Call}
use Rattle.nam_protocol.specs.declared.client.Call.TheVariants.{Begin, Txn, Scan, Tidy, Collect}
use Rattle.nam_protocol.specs.declared.client.CallPoint.TheVariants.{Scanning}
use Rattle.nam_protocol.specs.declared.client.Open.{Open}
use Rattle.nam_protocol.specs.declared.client.ClientState.{ClientState}
use Rattle.nam_protocol.specs.Operations.{holding, read_of}
use Rattle.nam_protocol.specs.Txn.{at, ask_op}
use Rattle.nam_protocol.specs.Bound.{claim_bound}
use Rattle.nam_protocol.specs.Scan.{in_range, scan_begin, scan_skip, on_scan_read, scan_after, position_of}
use Rattle.nam_protocol.specs.ScanCall.{on_scan, on_skip}
use Rattle.nam_protocol.specs.Telling.{go}
use Rattle.nam_protocol.specs.Client.{with_call, client_ask, ask_txn, ask_scan, take_scan}
use Rattle.nam_protocol.specs.ClientFits.{ClientFits, CallStands, OpenCallFits, OpenFits}
use Rattle.nam_protocol.proofs.FallsKeys.{op_table}
use Rattle.nam_longest.specs.Longest.{value_longest, get_longest, guard_longest, scan_longest, txn_call_longest}
use Rattle.nam_longest.specs.Longest.{call_longest}
use Rattle.nam_longest.specs.LongestLaw.{LastsWords, Unwritten, MayLast}
use Rattle.nam_longest.proofs.LastsMachines.{on_true, on_false}
use Rattle.nam_longest.proofs.LastsRead.{goes_astray, finds_last}
use Rattle.nam_longest.proofs.LastsBeside.{begin_lasts, tidy_lasts, collection_lasts}
use Rattle.nam_longest.proofs.LastsCommitted.{commit_reached}
use Rattle.nam_longest.proofs.LastsTxn.{row_word, word_first, TxnLasts, claimed_last, astray_last, valued_last}

-- 1. A scan

module _ (shape : Shape) (limits : FitsLimits shape) (table low high : ℕ) (is : IsTableOf shape table)
    (attempt : Open) (key : ℕ) (above : low ≤ key) (below : key ≤ high)
    (word : IsWord (key_word key))
    (unwritten : writes_key attempt.state.writes (key_at table key) ≡ false) where
  -- each client of the transaction whose scan has stepped so, at this position, lasts as long
  abbrev ScanLasts : ℕ → Now ScanPoint ScanAnswer → ℕ → Type 0
  ScanLasts position now n = (client : ClientState) → client.cut ≡ false → client.txn ≡ Some attempt
      → LastsWords shape (on_scan shape client attempt table low high position now) n

  scan_lasts_more : (position : ℕ) (place : ScanPoint) (found n m : ℕ) → IsWord found → m ≡ n + 1
      → ScanLasts (position_of place) (scan_after shape table low high attempt.state.seen place found) n
      → ScanLasts position (At place) m
  scan_lasts_more position place found n m is e h client runs opened =
      let there = go client (Scanning table low high place) in
      word_first shape there found n m is e (rw runs refl)
      (subst (λ (txn : Option Open). LastsWords shape (take_scan shape there table low high place txn found) n)
      (sym opened) (h there runs opened))

  -- the key is found, and its position read
  key_lasts : (position n m : ℕ) → m ≡ n + 1 → ScanLasts position (At (ScanRead position key read_begin)) n
      → ScanLasts position (At (ScanKey position)) m
  key_lasts position n m e h =
      let same : key + 1 - 1 ≡ key = omega arith in
      scan_lasts_more position (ScanKey position) (key + 1) n m word e
      (on_true (λ now. ScanLasts position now n) (in_range low high (key + 1)) (Over (Key (key + 1 - 1)))
      (scan_skip shape table position) (grind (arith, nat_tests))
      (rw same (λ client runs opened. on_false (λ after. LastsWords shape after n)
      (writes_key attempt.state.writes (key_at table key)) _ _ unwritten (h client runs opened))))

  -- so many positions, of which the last goes astray
  positions_last : (rest position m : ℕ) → position + suc rest ≡ capacity_of shape table
      → m ≡ rest * (1 + value_longest shape table) + read_most shape table
      → ScanLasts position (At (ScanKey position)) m
  positions_last zero position m e f =
      let l : position < capacity_of shape table = omega arith in
      let r = read_figure shape limits table position is l in
      key_lasts position (read_most shape table - 1) m (omega arith)
      (goes_astray (sight_of shape table position) (sight_fits shape limits table position is l) attempt.state.seen
      (row_word shape limits table position is l) 0 (omega arith)
      (λ now n. ScanLasts position (on_scan_read table position key now) n)
      (λ at. scan_lasts_more position (ScanRead position key at)) 0 _ (omega arith)
      (λ client runs opened. ([], tt, tt, refl)))
  positions_last (suc rest) position m e f =
      let l : position < capacity_of shape table = omega arith in
      let r = read_figure shape limits table position is l in
      let k = rest * (1 + value_longest shape table) + read_most shape table in
      let t = suc-mul rest (1 + value_longest shape table) in
      key_lasts position (k + value_longest shape table) m (omega arith)
      (finds_last (sight_of shape table position) (sight_fits shape limits table position is l) attempt.state.seen
      (row_word shape limits table position is l) 0 (omega arith)
      (λ now n. ScanLasts position (on_scan_read table position key now) n)
      (λ at. scan_lasts_more position (ScanRead position key at)) k _ (omega arith)
      (λ value wide q client runs opened.
      let later = record client {
        scanned = client.scanned ++ record { position = position; key = key; value = value }
            ∷ [];
      } in
      or_last (λ now. LastsWords shape (on_skip later attempt table low high now) k) (capacity_of shape table) position
      (Over Done) (At (ScanKey (position + 1))) l (λ last. absurd (omega arith))
      (λ next. positions_last rest (position + 1) k (omega arith) refl later runs opened)))

  whole_lasts : ScanLasts 0 (At scan_begin) (scan_longest shape table)
  whole_lasts =
      let c = has_capacity shape limits table is in
      let t = whole (capacity_of shape table) (capacity_of shape table - 1) (1 + value_longest shape table)
      (omega arith) in
      positions_last (capacity_of shape table - 1) 0 _ (omega arith) (omega arith)
    where
      whole : (r m k : ℕ) → r ≡ suc m → r * k ≡ m * k + k
      whole r m k e = rw (e, suc-mul) refl

-- 2. An operation on a key that isn't written

-- the greater of two is one of them
larger : (P : ℕ → Type 0) (a b : ℕ) → P a → P b → P (max a b)
larger P a b p q = by_test (λ (n : ℕ). n ≡ max a b → P (max a b)) (nat_le a b) b a
    (λ e same. subst P same q) (λ e same. subst P same p) (greater a b)
  where
    greater : (a b : ℕ) → (if nat_le a b then b else a) ≡ max a b
    greater a b =
        by_test (λ n. n ≡ max a b) (nat_le a b) b a (λ e. grind (arith, nat_tests)) (λ e. grind (arith, nat_tests))

module _ (shape : Shape) (limits : FitsLimits shape) where
  module _ (op : Op) (state : TxnState) (unwritten : writes_key state.writes (op_key op) ≡ false) where
    reads_lasts : (n : ℕ) → op_reads op ≡ true
        → TxnLasts shape (at (record state { read = None }) (Finding op find_begin)) n
        → TxnLasts shape (ask_op shape state op) n
    reads_lasts n reads h =
        on_false (λ step. TxnLasts shape step n) (writes_key state.writes (op_key op)) _ _ unwritten
        (on_true (λ step. TxnLasts shape step n) (op_reads op) _ _ reads h)

    claims_last : (n : ℕ) → op_reads op ≡ false
        → TxnLasts shape (at (record state { read = None }) (Claiming op claim_key_begin)) n
        → TxnLasts shape (ask_op shape state op) n
    claims_last n reads h =
        on_false (λ step. TxnLasts shape step n) (writes_key state.writes (op_key op)) _ _ unwritten
        (on_false (λ step. TxnLasts shape step n) (op_reads op) _ _ reads h)

  guard_lasts : (t k : ℕ) (state : TxnState) → IsTableOf shape t → IsWord (key_word k)
      → TxnLasts shape (at state (Finding (op.Guard t k) find_begin)) (guard_longest shape t)
  guard_lasts t k state is word =
      let of = op.Guard t k in
      larger (λ n. TxnLasts shape (at state (Finding of find_begin))
      (capacity_of shape t + value_longest shape t + n)) (claim_bound shape t) shape.workers
      (valued_last shape limits of is word state 0 (claim_bound shape t) _ (omega arith) (omega arith)
      (λ value wide all. claimed_last shape limits of is word (record state { read = read_of of (Some value) })))
      (let same : capacity_of shape t + read_most shape t - 1
      ≡ capacity_of shape t + value_longest shape t + shape.workers = omega arith in
      subst (TxnLasts shape (at state (Finding of find_begin))) same (astray_last shape limits of is word state))

  -- an add that finds 0 in each field, or what it takes away
  add_lasts : (t k f : ℕ) (up : Bool) (by : ℕ) (state : TxnState) → IsTableOf shape t → IsWord (key_word k)
      → 1 ≤ f → f ≤ width_of shape t → IsWord by
      → TxnLasts shape (at state (Finding (op.Add t k f up by) find_begin)) (guard_longest shape t)
  add_lasts t k f up by state is word first last amount =
      let of = op.Add t k f up by in
      let each = if up then 0 else by in
      larger (λ n. TxnLasts shape (at state (Finding of find_begin))
      (capacity_of shape t + value_longest shape t + n)) (claim_bound shape t) shape.workers
      (valued_last shape limits of is word state each (claim_bound shape t) _
      (by_test (λ word. IsWord word) up 0 by (λ e. omega arith) (λ e. amount)) (omega arith)
      (λ value wide all.
      let number : slice_index value (f - 1) ≡ each = all (f - 1) (omega arith) in
      let read = record state { read = read_of of (Some value) } in
      on_false (λ step. TxnLasts shape step (claim_bound shape t)) (not (passes of (holding (Some value)))) _ _
      (rw number (can up by amount))
      (claimed_last shape limits of is word read)))
      (let same : capacity_of shape t + read_most shape t - 1
      ≡ capacity_of shape t + value_longest shape t + shape.workers = omega arith in
      subst (TxnLasts shape (at state (Finding of find_begin))) same (astray_last shape limits of is word state))
    where
      can : (up : Bool) (by : ℕ) → IsWord by → not (can_change up (if up then 0 else by) by) ≡ false
      can true by amount = grind (arith, nat_tests)
      can false by amount = grind (arith, nat_tests)

  pub op_reached : (client : ClientState) (opened : Option Open) (call : TxnCall) → client.cut ≡ false
      → OpenFits shape opened
      → OpenCallFits shape opened call → MayLast shape opened (Txn call)
      → LastsWords shape (ask_txn shape client call opened) (txn_call_longest shape opened call)
  op_reached client None call runs fits stands may = absurd stands
  op_reached client (Some attempt) (Get t k) runs fits stands may =
      reads_lasts (op.Get t k) attempt.state may (get_longest shape t) refl
      (astray_last shape limits (op.Get t k) (op_table shape limits attempt.state.claims (op.Get t k) stands) stands.2
      (record attempt.state { read = None }))
      client (with_call attempt (Get t k)) 0 runs
  op_reached client (Some attempt) (Put t k v) runs fits stands may =
      claims_last (op.Put t k v) attempt.state may (claim_bound shape t) refl
      (claimed_last shape limits (op.Put t k v)
      (op_table shape limits attempt.state.claims (op.Put t k v) stands) stands.2
      (record attempt.state { read = None }))
      client (with_call attempt (Put t k v)) 0 runs
  op_reached client (Some attempt) (Add t k f up by) runs fits stands may =
      reads_lasts (op.Add t k f up by) attempt.state may.0 (guard_longest shape t) refl
      (add_lasts t k f up by (record attempt.state { read = None })
      (op_table shape limits attempt.state.claims (op.Add t k f up by) stands) stands.2 stands.0.1.0 stands.0.1.1 may.1)
      client (with_call attempt (Add t k f up by)) 0 runs
  op_reached client (Some attempt) (Del t k) runs fits stands may =
      claims_last (op.Del t k) attempt.state may (claim_bound shape t) refl
      (claimed_last shape limits (op.Del t k) (op_table shape limits attempt.state.claims (op.Del t k) stands) stands.2
      (record attempt.state { read = None }))
      client (with_call attempt (Del t k)) 0 runs
  op_reached client (Some attempt) (Need t k f least) runs fits stands may =
      reads_lasts (op.Need t k f least) attempt.state may (get_longest shape t) refl
      (astray_last shape limits (op.Need t k f least)
      (op_table shape limits attempt.state.claims (op.Need t k f least) stands) stands.2
      (record attempt.state { read = None }))
      client (with_call attempt (Need t k f least)) 0 runs
  op_reached client (Some attempt) (Guard t k) runs fits stands may =
      reads_lasts (op.Guard t k) attempt.state may (guard_longest shape t) refl
      (guard_lasts t k (record attempt.state { read = None })
      (op_table shape limits attempt.state.claims (op.Guard t k) stands) stands.2)
      client (with_call attempt (Guard t k)) 0 runs
  op_reached client (Some attempt) Commit runs fits stands may =
      commit_reached shape limits attempt.state fits may.0 may.1 client attempt 0 runs

  -- 3. A scan, and each call

  scan_reached : (client : ClientState) (opened : Option Open) (table low high key : ℕ) → client.cut ≡ false
      → IsSome opened → IsTableOf shape table → low ≤ key → key ≤ high
      → IsWord (key_word key) → Unwritten opened table key
      → LastsWords shape (ask_scan shape client table low high opened) (scan_longest shape table)
  scan_reached client None table low high key runs some is above below word may = absurd (cc)
  scan_reached client (Some attempt) table low high key runs some is above below word may =
      let with_scan =
      record attempt { ops = attempt.ops + 1; ops_so_far = attempt.ops_so_far + capacity_of shape table } in
      whole_lasts shape limits table low high is with_scan key above below word may
      (record client { txn = Some with_scan; scanned = [] }) runs refl

  pub reached : (client : ClientState) (call : Call) → ClientFits shape client → CallStands shape client.txn call
      → client.cut ≡ false → MayLast shape client.txn call
      → LastsWords shape (client_ask shape client call) (call_longest shape client call)
  reached client (Begin txn nth) fits stands runs may = begin_lasts shape limits txn nth client runs
  reached client (Txn call) fits stands runs may = op_reached client client.txn call runs fits.1 stands may
  reached client (Scan table low high) fits stands runs may =
      scan_reached client client.txn table low high may.0 runs stands.0 stands.1 may.1 may.2 may.3 may.4
  reached client (Tidy table key) fits stands runs may =
      tidy_lasts shape limits table key stands.0 stands.1 client runs
  reached client (Collect bucket) fits stands runs may = collection_lasts shape limits bucket stands client runs
