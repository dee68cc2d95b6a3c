-- The verbs to come at the very most fall in a commit.
use Rattle.std.proofs.Common.{◌≡◌, ℕ, suc, ◌+◌, ◌-◌, ◌*◌, ◌<◌, ◌≤◌, List, [], ◌∷◌, ◌++◌, length, take, drop}
use Rattle.std.proofs.Common.{ap, arith, Bool, true, is_some, Option, Some, None}
use Rattle.std.specs.Prelude.{◌==◌, if◌then◌else◌, nat_lt}
use Rattle.std.proofs.lemmas.Bool.Decides.{nat_tests}
use Rattle.nam_verbs.specs.declared.now.Now.{Now}
use Rattle.nam_verbs.specs.declared.now.Now.TheVariants.{At, Over}
use Rattle.nam_verbs.proofs.TestLemmas.{by_test}
use Rattle.nam_catalog.specs.declared.shape.Shape.{Shape}
use Rattle.nam_catalog.specs.Fits.{FitsLimits}
use Rattle.nam_calls.specs.declared.intent.IntentKind.TheVariants.{Guard}
use Rattle.nam_calls.specs.Lock.{nth_place}
use Rattle.nam_protocol.specs.declared.txn.TxnState.{TxnState}
use Rattle.nam_protocol.specs.Commit.{places, record_place, value_at}
use Rattle.nam_protocol.specs.Bound.{installs_most, listed_most}
use Rattle.nam_verbs.specs.Falls.{FallsTo, nothing, Any}
use Rattle.nam_protocol.specs.declared.txn.TxnAnswer.{TxnAnswer}
use Rattle.nam_protocol.specs.declared.txn.CommitPoint.{CommitPoint}
use Rattle.nam_protocol.specs.declared.txn.CommitPoint.TheVariants.{Locking, Checking, Returning, Saving, Copying}
use Rattle.nam_protocol.specs.declared.txn.CommitPoint.TheVariants.{Installing, Publishing}
use Rattle.nam_protocol.specs.declared.txn.CommitPoint.TheVariants.{Listing, Counting, Deciding, Clearing}
use Rattle.nam_protocol.specs.Txn.{Stepped, over}
use Rattle.nam_protocol.specs.Commit.{go}
use Rattle.nam_protocol.specs.Bound.{commit_left}
use Rattle.nam_protocol.specs.TxnFits.{TxnFalls}
use Rattle.nam_header.specs.Stamp.{is_locked, is_moved, sees}
use Rattle.nam_layout.specs.Place.{slot_of}
use Rattle.nam_calls.specs.declared.lock.LockPoint.{LockPoint}
use Rattle.nam_calls.specs.declared.lock.LockPoint.TheVariants.{Peek, Seize, GiveBack}
use Rattle.nam_calls.specs.declared.lock.LockEnd.TheVariants as lock_end
use Rattle.nam_calls.specs.declared.ring.SlotPoint.{SlotPoint}
use Rattle.nam_calls.specs.declared.ring.SlotPoint.TheVariants.{CheckCount, CheckHead}
use Rattle.nam_calls.specs.declared.ring.SlotEnd.TheVariants.{Free, NotMoved}
use Rattle.nam_calls.specs.declared.ring.CopyPoint.{CopyPoint}
use Rattle.nam_calls.specs.declared.ring.CopyPoint.TheVariants.{CopyMark, CopyEnding, CopyWord, CopyHead}
use Rattle.nam_calls.specs.declared.record.InstallPoint.{InstallPoint}
use Rattle.nam_calls.specs.declared.record.InstallPoint.TheVariants.{InstallWord, InstallCount}
use Rattle.nam_calls.specs.Record.{words_begin, install_begin}
use Rattle.nam_calls.specs.Ring.{slot_begin, slot_after, copy_begin, copy_after}
use Rattle.nam_calls.specs.Fits.{LockFits}
use Rattle.nam_calls.specs.Lock.{lock_begin, lock_left, give_back, loss_of, locks_at, lock_next, lock_after}
use Rattle.nam_protocol.specs.declared.txn.Refusal.{Refusal}
use Rattle.nam_protocol.specs.declared.txn.Refusal.TheVariants as refusal
use Rattle.nam_protocol.specs.Commit.{tells_intent, refused, refusal_answer, lock_at, on_lock, on_slot, next_check}
use Rattle.nam_protocol.specs.Commit.{checked}
use Rattle.nam_protocol.specs.Commit.{next_count, on_words, on_copy, on_install}
use Rattle.nam_longest.proofs.TxnToCome.{stepped_lowers}
use Rattle.nam_protocol.specs.declared.txn.ListPoint.{ListPoint}
use Rattle.nam_protocol.specs.declared.txn.ListPoint.TheVariants.{ListRow, ListKind, ListData, ListNumber, ListState}
use Rattle.nam_protocol.specs.Commit.{records_of, on_list, list_next, list_after, list_kind_after, kind_of}
use Rattle.nam_protocol.specs.Bound.{rest_from, listed_from, after_locks, clear_left}
use Rattle.nam_protocol.specs.TxnFits.{StateFits, ListFits}
use Rattle.nam_protocol.proofs.FallsKeys.{places_length, writes_within}
use Rattle.nam_longest.specs.Longest.{txn_to_come}
use Rattle.nam_longest.specs.Deletions.{spared_from, commit_spared}
use Rattle.nam_longest.proofs.SparedLemmas.{spared_at, spared_none, spared_installs, spared_installs_from}
use Rattle.nam_longest.proofs.SparedLemmas.{value_listed}

-- 1. A commit goes on, or is over

module _ (shape : Shape) where
  -- the step lowers what is to come from n, of which so many verbs are spared
  abbrev pub Lowers : ℕ → ℕ → Stepped → Type 0
  Lowers n less step = FallsTo Any Any (txn_to_come shape step.state) nothing (n - less) step.call

  goes : (state : TxnState) (place : CommitPoint) (n less : ℕ) → less < n
      → commit_left state place + less < n + commit_spared state place → Lowers n less (go state place)
  goes state place n less l m = (tt, omega arith)

  -- the verbs left fall, and no fewer are spared
  pub keeps : (state : TxnState) (place : CommitPoint) (n less : ℕ) → less < n → less ≤ commit_spared state place
      → TxnFalls shape n (go state place) → Lowers n less (go state place)
  keeps state place n less l m h = (tt, let k = h.1.1 in omega arith)

  ends : (state : TxnState) (answer : TxnAnswer) (n less : ℕ) → less < n → Lowers n less (over state answer)
  ends state answer n less l = (tt, omega arith)

module _ (shape : Shape) (limits : FitsLimits shape) (state : TxnState) (fits : StateFits shape state)
    (are : state.records ≡ records_of state) (some : 1 ≤ length state.writes) where
  abbrev writes : ℕ
  writes = length state.writes

  abbrev records : ℕ
  records = length state.records

  pub within : writes ≤ records
  within = writes_within shape state fits are

  pub as_many : length (places state) ≡ records
  as_many = places_length shape state fits are

  pub no_more : length state.writes ≤ length (places state)
  no_more = let w = within in let e = as_many in omega arith

  pub all_spared : spared_from state 0 + 5 * writes ≤ installs_most (take writes (places state))
  all_spared = spared_installs state.writes (places state) no_more

  pub later_spared : (nth : ℕ) → spared_from state nth ≤ rest_from state nth
  later_spared nth = let s = spared_installs_from state.writes (places state) nth no_more in omega arith

  pub none_spared : (nth : ℕ) → writes ≤ nth → spared_from state nth ≡ 0
  none_spared nth l = spared_none state.writes (drop nth (places state)) nth l

  pub nth_spared : (nth : ℕ) → nth < writes
      → spared_from state nth
      ≡ (if is_some (value_at state nth) then 0 else (record_place state nth).width) + spared_from state (nth + 1)
  nth_spared nth l =
      let n = no_more in
      let at = spared_at state.writes (places state) nth l (omega arith) in
      let same : suc nth ≡ nth + 1 = omega arith in
      let next = ap (spared_from state) same in
      omega arith

  pub nth_listed : (nth : ℕ) → nth < writes
      → listed_from state nth ≡ (record_place state nth).width + 2 + listed_from state (nth + 1)
  nth_listed nth l =
      let n = no_more in
      let one : writes - nth ≡ suc (writes - suc nth) = omega arith in
      let here = ap (λ k. listed_most k (drop nth (places state))) one in
      let at = value_listed (writes - suc nth) nth (places state) (omega arith) in
      let same : suc nth ≡ nth + 1 = omega arith in
      let next = ap (listed_from state) same in
      omega arith

  -- nothing is spared any more
  pub spares_none : (n : ℕ) (step : Stepped) → TxnFalls shape n step → Lowers shape n 0 step
  spares_none n step h = let same : n - 0 ≡ n = omega arith in rw same (stepped_lowers shape limits n step h)

  -- 2. The listing

  list_next_keeps : (nth n less : ℕ) → less < n → less ≤ spared_from state (nth + 1) + spared_from state 0
      → TxnFalls shape n (on_list state (list_next state nth))
      → Lowers shape n less (on_list state (list_next state nth))
  list_next_keeps nth n less l m =
      by_test (λ now. TxnFalls shape n (on_list state now) → Lowers shape n less (on_list state now))
      (nth + 1 == records) (At ListNumber) (At (ListRow (nth + 1)))
      (λ e. let w = within in
      let all : records ≡ nth + 1 = grind (arith, nat_tests) in
      let none = none_spared (nth + 1) (omega arith) in
      keeps shape state (Listing ListNumber) n less l (omega arith))
      (λ e. keeps shape state (Listing (ListRow (nth + 1))) n less l m)

  -- a deletion, whose data words aren't listed
  list_next_lowers : (nth n less : ℕ) → less < n
      → commit_left state (Listing (ListRow (nth + 1))) + less < n + (spared_from state (nth + 1) + spared_from state 0)
      → Lowers shape n less (on_list state (list_next state nth))
  list_next_lowers nth n less l m =
      by_test (λ now. Lowers shape n less (on_list state now)) (nth + 1 == records) (At ListNumber)
      (At (ListRow (nth + 1)))
      (λ e. let w = within in
      let all : records ≡ nth + 1 = grind (arith, nat_tests) in
      let none = none_spared (nth + 1) (omega arith) in
      goes shape state (Listing ListNumber) n less l (omega arith))
      (λ e. goes shape state (Listing (ListRow (nth + 1))) n less l m)

  abbrev list_rest : ℕ
  list_rest = lock_left (places state) (after_locks state) state.held lock_begin + clear_left state

  kind_lowers : (nth : ℕ) (value : Option (List ℕ)) → nth < writes
      → spared_from state nth
      ≡ (if is_some value then 0 else (record_place state nth).width) + spared_from state (nth + 1)
      → commit_spared state (Listing (ListKind nth)) < commit_left state (Listing (ListKind nth))
      → TxnFalls shape (commit_left state (Listing (ListKind nth)))
      (on_list state (list_kind_after state nth (kind_of value)))
      → Lowers shape (commit_left state (Listing (ListKind nth))) (commit_spared state (Listing (ListKind nth)))
      (on_list state (list_kind_after state nth (kind_of value)))
  kind_lowers nth None l e less h =
      let f = nth_listed nth l in
      list_next_lowers nth _ _ less (omega arith)
  kind_lowers nth (Some value) l e less h = keeps shape state (Listing (ListData nth 0)) _ _ less (omega arith) h

  pub list_lowers : (at : ListPoint) → ListFits shape state at
      → commit_spared state (Listing at) < commit_left state (Listing at)
      → TxnFalls shape (commit_left state (Listing at)) (on_list state (list_after state at))
      → Lowers shape (commit_left state (Listing at)) (commit_spared state (Listing at))
      (on_list state (list_after state at))
  list_lowers (ListRow nth) p less h = keeps shape state (Listing (ListKind nth)) _ _ less (omega arith) h
  list_lowers (ListKind nth) p less h =
      by_test (λ kind. TxnFalls shape (commit_left state (Listing (ListKind nth)))
      (on_list state (list_kind_after state nth kind))
      → Lowers shape (commit_left state (Listing (ListKind nth))) (commit_spared state (Listing (ListKind nth)))
      (on_list state (list_kind_after state nth kind)))
      (nat_lt nth (length state.writes)) (kind_of (value_at state nth)) Guard
      (λ t. let m : nth < length state.writes = grind (arith, nat_tests) in
      kind_lowers nth (value_at state nth) m (nth_spared nth m) less)
      (λ t. let m : length state.writes ≤ nth = grind (arith, nat_tests) in
      let none = none_spared nth m in
      list_next_keeps nth _ _ less (omega arith)) h
  list_lowers (ListData nth word) p less h =
      by_test (λ now. TxnFalls shape (commit_left state (Listing (ListData nth word))) (on_list state now)
      → Lowers shape (commit_left state (Listing (ListData nth word)))
      (commit_spared state (Listing (ListData nth word)))
      (on_list state now))
      (word + 1 == (record_place state nth).width) (list_next state nth) (At (ListData nth (word + 1)))
      (λ e. list_next_keeps nth _ _ less (omega arith))
      (λ e. keeps shape state (Listing (ListData nth (word + 1))) _ _ less (omega arith)) h
  list_lowers ListNumber p less h = keeps shape state (Listing ListState) _ _ less (omega arith) h
  list_lowers ListState p less h = keeps shape state (Locking lock_begin) _ _ less (omega arith) h

  -- 3. The locks

  abbrev clear : ℕ
  clear = clear_left state

  clear_is : tells_intent state ≡ true → clear ≡ 1
  clear_is e = ap (λ (b : Bool). if b then 1 else 0) e

  refused_lowers : (refusal : Refusal) (n less : ℕ) → less + 1 < n → Lowers shape n less (refused state refusal)
  refused_lowers refusal n less l =
      by_test (Lowers shape n less) (tells_intent state) (go state (Clearing refusal))
      (over state (refusal_answer refusal))
      (λ e. goes shape state (Clearing refusal) n less (omega arith) (omega arith))
      (λ e. ends shape state (refusal_answer refusal) n less (omega arith))

  give_back_lowers : (found n less : ℕ) → length state.held + 1 + clear + less < n
      → Lowers shape n less (on_lock state (give_back (places state) state.held 0 found))
  give_back_lowers found n less l =
      let held = state.held in
      by_test (λ now. Lowers shape n less (on_lock state now)) (0 == length held)
      (Over (loss_of (nth_place (places state) (length held)).form (length held) found))
      (At (locks_at held (GiveBack 0 found)))
      (λ e. by_test (λ end. Lowers shape n less (on_lock state (Over end)))
      (is_locked (nth_place (places state) (length held)).form found) (lock_end.Locked (length held) found)
      (lock_end.Newer (length held) found)
      (λ f. refused_lowers (refusal.Locked (lock_at state (length held) found)) n less (omega arith))
      (λ f. refused_lowers (refusal.Newer (lock_at state (length held) found)) n less (omega arith)))
      (λ e. goes shape state (Locking (GiveBack 0 found)) n less (omega arith) (omega arith))

  -- what follows the locks takes more than what is held
  locks_more : length state.held < records → length state.held + 1 + clear + spared_from state 0
      < 1 + (after_locks state + clear)
  locks_more l = let a = all_spared in let w = within in omega arith

  pub lock_lowers : (at : LockPoint) (found : ℕ) → LockFits records state.held at
      → commit_spared state (Locking at) < commit_left state (Locking at)
      → TxnFalls shape (commit_left state (Locking at))
      (on_lock state (lock_after (places state) state.seen state.held at found))
      → Lowers shape (commit_left state (Locking at)) (commit_spared state (Locking at))
      (on_lock state (lock_after (places state) state.seen state.held at found))
  lock_lowers Peek found p less h =
      let e = as_many in
      let m = locks_more p in
      let n = commit_left state (Locking Peek) in
      let form = (nth_place (places state) (length state.held)).form in
      by_test (λ now. TxnFalls shape n (on_lock state now) → Lowers shape n (spared_from state 0) (on_lock state now))
      (is_locked form found) (give_back (places state) state.held 0 found)
      (if sees form state.seen found then At (locks_at state.held (Seize found))
      else give_back (places state) state.held 0 found)
      (λ t h. give_back_lowers found n (spared_from state 0) (omega arith))
      (λ t. by_test (λ now. TxnFalls shape n (on_lock state now)
      → Lowers shape n (spared_from state 0) (on_lock state now))
      (sees form state.seen found) (At (locks_at state.held (Seize found)))
      (give_back (places state) state.held 0 found)
      (λ f. keeps shape state (Locking (Seize found)) n (spared_from state 0) less (omega arith))
      (λ f h. give_back_lowers found n (spared_from state 0) (omega arith))) h
  lock_lowers (Seize header) found p less h =
      let e = as_many in
      let m = locks_more p in
      let n = commit_left state (Locking (Seize header)) in
      let more = state.held ++ header ∷ [] in
      by_test (λ now. TxnFalls shape n (on_lock state now) → Lowers shape n (spared_from state 0) (on_lock state now))
      (found == header) (lock_next (places state) more) (give_back (places state) state.held 0 found)
      (λ t. by_test (λ now. TxnFalls shape n (on_lock state now)
      → Lowers shape n (spared_from state 0) (on_lock state now))
      (length more == length (places state)) (Over (lock_end.Held more)) (At (locks_at more Peek))
      (λ f. keeps shape (record state { held = more }) (Checking slot_begin) n (spared_from state 0) less (omega arith))
      (λ f. keeps shape (record state { held = more }) (Locking Peek) n (spared_from state 0) less (omega arith)))
      (λ t h. give_back_lowers found n (spared_from state 0) (omega arith)) h
  lock_lowers (GiveBack given header) found p less h =
      spares_none (commit_left state (Locking (GiveBack given header)))
      (on_lock state (lock_after (places state) state.seen state.held (GiveBack given header) found)) h

  -- 4. The slots

  checked_lowers : (n : ℕ) (counts : List ℕ) → spared_from state 0 < n
      → TxnFalls shape n (next_check (record state { counts = counts }))
      → Lowers shape n (spared_from state 0) (next_check (record state { counts = counts }))
  checked_lowers n counts less =
      let state' = record state { counts = counts } in
      by_test (λ step. TxnFalls shape n step → Lowers shape n (spared_from state 0) step)
      (length counts == length state.writes) (checked state') (go state' (Checking slot_begin))
      (λ e. by_test (λ step. TxnFalls shape n step → Lowers shape n (spared_from state 0) step) (tells_intent state)
      (go state' (Counting 0)) (go state' (Saving 0 words_begin))
      (λ f. keeps shape state' (Counting 0) n (spared_from state 0) less (omega arith))
      (λ f. keeps shape state' (Saving 0 words_begin) n (spared_from state 0) less (omega arith)))
      (λ e. keeps shape state' (Checking slot_begin) n (spared_from state 0) less (omega arith))

  pub slot_lowers : (at : SlotPoint) (found : ℕ) → length state.held ≡ records
      → commit_spared state (Checking at) < commit_left state (Checking at)
      → TxnFalls shape (commit_left state (Checking at))
      (on_slot state (slot_after (record_place state (length state.counts)) at found))
      → Lowers shape (commit_left state (Checking at)) (commit_spared state (Checking at))
      (on_slot state (slot_after (record_place state (length state.counts)) at found))
  slot_lowers CheckCount found p less h = keeps shape state (Checking (CheckHead found)) _ _ less (omega arith) h
  slot_lowers (CheckHead count) found p less h =
      let n = commit_left state (Checking (CheckHead count)) in
      let place = record_place state (length state.counts) in
      let full = lock_at state (length state.counts) found in
      let a = all_spared in
      let w = within in
      let e = as_many in
      by_test (λ now. TxnFalls shape n (on_slot state now) → Lowers shape n (spared_from state 0) (on_slot state now))
      (is_moved place.form found) (Over (Free count)) (Over (NotMoved (slot_of place count) found))
      (λ t. checked_lowers n (state.counts ++ count ∷ []) less)
      (λ t h. goes shape state (Returning 0 full) n (spared_from state 0) less (omega arith)) h

  -- 5. The records, one after another

  pub count_lowers : (nth n : ℕ) → spared_from state 0 < n → TxnFalls shape n (next_count state nth)
      → Lowers shape n (spared_from state 0) (next_count state nth)
  count_lowers nth n less =
      by_test (λ step. TxnFalls shape n step → Lowers shape n (spared_from state 0) step) (nth == length state.writes)
      (go state Deciding) (go state (Counting nth))
      (λ e. keeps shape state Deciding n (spared_from state 0) less (omega arith))
      (λ e. keeps shape state (Counting nth) n (spared_from state 0) less (omega arith))

  pub words_lowers : (nth n : ℕ) (now : Now (List ℕ) (List ℕ)) → spared_from state nth < n
      → TxnFalls shape n (on_words state nth now) → Lowers shape n (spared_from state nth) (on_words state nth now)
  words_lowers nth n (At got) less h = keeps shape state (Saving nth got) n _ less (omega arith) h
  words_lowers nth n (Over old) less h = keeps shape state (Copying nth old copy_begin) n _ less (omega arith) h

  install_begins : (nth n : ℕ) (value : Option (List ℕ)) → spared_from state nth < n
      → spared_from state nth
      ≡ (if is_some value then 0 else (record_place state nth).width) + spared_from state (nth + 1)
      → (record_place state nth).width + 2 + rest_from state (nth + 1) + clear < n
      → TxnFalls shape n (go state (Installing nth (install_begin value)))
      → Lowers shape n (spared_from state nth) (go state (Installing nth (install_begin value)))
  install_begins nth n None less e m h =
      goes shape state (Installing nth InstallCount) n (spared_from state nth) less (omega arith)
  install_begins nth n (Some value) less e m h =
      keeps shape state (Installing nth (InstallWord 0)) n (spared_from state nth) less (omega arith) h

  pub copy_lowers : (nth : ℕ) (old : List ℕ) (at : CopyPoint) → nth < writes
      → commit_spared state (Copying nth old at) < commit_left state (Copying nth old at)
      → TxnFalls shape (commit_left state (Copying nth old at))
      (on_copy state nth old (copy_after (record_place state nth) at))
      → Lowers shape (commit_left state (Copying nth old at)) (commit_spared state (Copying nth old at))
      (on_copy state nth old (copy_after (record_place state nth) at))
  copy_lowers nth old CopyMark l less h = keeps shape state (Copying nth old CopyEnding) _ _ less (omega arith) h
  copy_lowers nth old CopyEnding l less h = keeps shape state (Copying nth old (CopyWord 0)) _ _ less (omega arith) h
  copy_lowers nth old (CopyWord word) l less h =
      by_test (λ now. TxnFalls shape (commit_left state (Copying nth old (CopyWord word))) (on_copy state nth old now)
      → Lowers shape (commit_left state (Copying nth old (CopyWord word))) (spared_from state nth)
      (on_copy state nth old now))
      (word + 1 == (record_place state nth).width) (At CopyHead) (At (CopyWord (word + 1)))
      (λ e. keeps shape state (Copying nth old CopyHead) _ _ less (omega arith))
      (λ e. keeps shape state (Copying nth old (CopyWord (word + 1))) _ _ less (omega arith)) h
  copy_lowers nth old CopyHead l less h =
      install_begins nth _ (value_at state nth) less (nth_spared nth l) (omega arith) h

  pub install_lowers : (nth n : ℕ) (now : Now InstallPoint (Unit {0})) → nth < writes → spared_from state (nth + 1) < n
      → TxnFalls shape n (on_install state nth now)
      → Lowers shape n (spared_from state (nth + 1)) (on_install state nth now)
  install_lowers nth n (At place) l less h = keeps shape state (Installing nth place) n _ less (omega arith) h
  install_lowers nth n (Over done) l less h =
      by_test (λ step. TxnFalls shape n step → Lowers shape n (spared_from state (nth + 1)) step)
      (nth + 1 == length state.writes) (go state Publishing) (go state (Saving (nth + 1) words_begin))
      (λ e. let all : length state.writes ≤ nth + 1 = grind (arith, nat_tests) in
      let none = none_spared (nth + 1) all in
      keeps shape state Publishing n _ less (omega arith))
      (λ e. keeps shape state (Saving (nth + 1) words_begin) n _ less (omega arith)) h
