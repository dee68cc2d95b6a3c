-- The verbs to come at the very most fall in each call of a transaction, its commit included.
use Rattle.std.proofs.Common.{◌≡◌, ℕ, ◌<◌, ◌+◌, ◌≤◌, List, [], ◌∷◌, ◌++◌, length, refl, sym, ◌∙◌, ap, arith}
use Rattle.std.proofs.Common.{Bool, true, false, is_some, None}
use Rattle.std.specs.Prelude.{◌==◌, if◌then◌else◌, map}
use Rattle.std.specs.List.{AllByRecursion}
use Rattle.std.proofs.lemmas.Bool.Decides.{nat_tests}
use Rattle.si_model.specs.declared.row.Key.{Key}
use Rattle.si_model.specs.declared.row.Item.{Item}
use Rattle.si_model.specs.Rows.{item_key}
use Rattle.si_model.specs.Evaluation.{op_key, unwritten}
use Rattle.nam_verbs.proofs.TestLemmas.{by_test}
use Rattle.nam_catalog.specs.declared.shape.Shape.{Shape}
use Rattle.nam_catalog.specs.Fits.{FitsLimits}
use Rattle.nam_catalog.specs.Greatest.{greatest_number}
use Rattle.nam_calls.specs.Lock.{lock_begin}
use Rattle.nam_calls.specs.Reading.{sight_of}
use Rattle.nam_calls.proofs.FallsMachines.{find_falls}
use Rattle.nam_calls.proofs.FallsTables.{sight_fits}
use Rattle.nam_protocol.specs.declared.txn.Record.{Record}
use Rattle.nam_protocol.specs.declared.txn.TxnState.{TxnState}
use Rattle.nam_protocol.specs.declared.txn.TxnCall.TheVariants.{Commit}
use Rattle.nam_protocol.specs.declared.txn.TxnPoint.{TxnPoint}
use Rattle.nam_protocol.specs.declared.txn.TxnPoint.TheVariants.{Finding, Reading, Claiming, Committing}
use Rattle.nam_protocol.specs.declared.txn.CommitPoint.{CommitPoint}
use Rattle.nam_protocol.specs.declared.txn.CommitPoint.TheVariants.{Locking, Checking, Returning, Saving, Copying}
use Rattle.nam_protocol.specs.declared.txn.CommitPoint.TheVariants.{Installing, Publishing, Freeing}
use Rattle.nam_protocol.specs.declared.txn.CommitPoint.TheVariants.{Listing, Counting, Deciding, Clearing, Ending}
use Rattle.nam_protocol.specs.declared.txn.ListPoint.TheVariants.{ListRow, ListKind, ListData, ListNumber, ListState}
use Rattle.nam_calls.specs.declared.lock.LockPoint.TheVariants.{Peek, Seize, GiveBack}
use Rattle.nam_calls.specs.declared.record.InstallPoint.TheVariants.{InstallWord, InstallCount, InstallHead}
use Rattle.nam_calls.specs.Record.{words_begin}
use Rattle.nam_protocol.specs.Commit.{records_of, places, record_place, value_at, commit_after}
use Rattle.nam_protocol.specs.declared.txn.TxnAnswer.TheVariants.{ReadOnly, Spent}
use Rattle.nam_protocol.specs.Operations.{op_path}
use Rattle.nam_protocol.specs.Txn.{at, over}
use Rattle.nam_protocol.specs.Commit.{record_in, ask_commit, commit_begin, committing, list_begin, tells_intent}
use Rattle.nam_protocol.specs.Commit.{has_intents}
use Rattle.nam_protocol.specs.TxnCalls.{txn_after}
use Rattle.nam_protocol.specs.Bound.{claim_most, txn_left, commit_left}
use Rattle.nam_protocol.specs.TxnFits.{is_claimed, IsPlaced, StateFits, TxnPointFits, TxnBegins, commit_bound}
use Rattle.nam_protocol.specs.TxnFits.{CommitPointFits, TxnFalls}
use Rattle.nam_protocol.proofs.FallsKeys.{op_table, tells_by_form}
use Rattle.nam_protocol.proofs.FallsCommit.{commit_falls}
use Rattle.nam_protocol.proofs.FallsTxn.{txn_falls}
use Rattle.nam_protocol.proofs.FallsBegins.{record_width, txn_begins}
use Rattle.nam_longest.specs.Deletions.{deleted_words, commit_longest, spared, commit_spared}
use Rattle.nam_longest.specs.Deletions.{commit_to_come}
use Rattle.nam_longest.specs.Longest.{txn_to_come}
use Rattle.nam_longest.proofs.ReadToCome.{read_lowers}
use Rattle.nam_longest.proofs.TxnToCome.{TxnLowers, on_find_lowers, on_read_lowers, stepped_lowers}
use Rattle.nam_longest.proofs.SparedLemmas.{one_spared, spared_listed_from}
use Rattle.nam_longest.proofs.CommitToCome.{Lowers, keeps, no_more, as_many, all_spared, later_spared, nth_spared}
use Rattle.nam_longest.proofs.CommitToCome.{list_lowers, lock_lowers, slot_lowers, count_lowers, words_lowers}
use Rattle.nam_longest.proofs.CommitToCome.{copy_lowers, install_lowers, spares_none}

-- 1. A commit

module _ (shape : Shape) (limits : FitsLimits shape) (state : TxnState) (fits : StateFits shape state)
    (are : state.records ≡ records_of state) (some : 1 ≤ length state.writes) where
  -- fewer are spared than are left
  spared_less : (at : CommitPoint) → CommitPointFits shape state at → commit_spared state at < commit_left state at
  spared_less (Listing (ListRow nth)) p =
      let s = spared_listed_from state.writes (places state) nth (no_more shape limits state fits are some) in
      let r = later_spared shape limits state fits are some 0 in
      omega arith
  spared_less (Listing (ListKind nth)) p =
      let s = spared_listed_from state.writes (places state) nth (no_more shape limits state fits are some) in
      let r = later_spared shape limits state fits are some 0 in
      omega arith
  spared_less (Listing (ListData nth word)) p =
      let s = spared_listed_from state.writes (places state) (nth + 1)
      (no_more shape limits state fits are some) in
      let r = later_spared shape limits state fits are some 0 in
      omega arith
  spared_less (Listing ListNumber) p = let r = later_spared shape limits state fits are some 0 in omega arith
  spared_less (Listing ListState) p = let r = later_spared shape limits state fits are some 0 in omega arith
  spared_less (Locking Peek) p = let a = all_spared shape limits state fits are some in omega arith
  spared_less (Locking (Seize header)) p = let a = all_spared shape limits state fits are some in omega arith
  spared_less (Locking (GiveBack given found)) p = let l = p.0.1 in omega arith
  spared_less (Checking at) p = let a = all_spared shape limits state fits are some in omega arith
  spared_less (Returning given full) p = let e = as_many shape limits state fits are some in let l = p.1 in omega arith
  spared_less (Counting nth) p = let a = all_spared shape limits state fits are some in omega arith
  spared_less Deciding p = let a = all_spared shape limits state fits are some in omega arith
  spared_less (Saving nth got) p =
      let e = nth_spared shape limits state fits are some nth p.2 in
      let o = one_spared (is_some (value_at state nth)) (record_place state nth).width in
      let r = later_spared shape limits state fits are some (nth + 1) in
      omega arith
  spared_less (Copying nth old at) p =
      let e = nth_spared shape limits state fits are some nth p.2 in
      let o = one_spared (is_some (value_at state nth)) (record_place state nth).width in
      let r = later_spared shape limits state fits are some (nth + 1) in
      omega arith
  spared_less (Installing nth (InstallWord word)) p =
      let r = later_spared shape limits state fits are some (nth + 1) in omega arith
  spared_less (Installing nth InstallCount) p =
      let r = later_spared shape limits state fits are some (nth + 1) in omega arith
  spared_less (Installing nth InstallHead) p =
      let r = later_spared shape limits state fits are some (nth + 1) in omega arith
  spared_less Publishing p = omega arith
  spared_less (Freeing nth) p = let e = as_many shape limits state fits are some in let l = p.3 in omega arith
  spared_less (Clearing refusal) p = omega arith
  spared_less Ending p = omega arith

  pub commit_lowers : (at : CommitPoint) (found : ℕ) → CommitPointFits shape state at
      → TxnFalls shape (commit_left state at) (commit_after state at found)
      → Lowers shape (commit_left state at) (commit_spared state at) (commit_after state at found)
  commit_lowers (Listing at) found p h =
      list_lowers shape limits state fits are some at p.2 (spared_less (Listing at) p) h
  commit_lowers (Locking at) found p h =
      lock_lowers shape limits state fits are some at found p.0 (spared_less (Locking at) p) h
  commit_lowers (Checking at) found p h =
      slot_lowers shape limits state fits are some at found p.0 (spared_less (Checking at) p) h
  commit_lowers (Returning given full) found p h =
      spares_none shape limits state fits are some (commit_left state (Returning given full))
      (commit_after state (Returning given full) found) h
  commit_lowers (Counting nth) found p h =
      count_lowers shape limits state fits are some (nth + 1) _ (spared_less (Counting nth) p) h
  commit_lowers Deciding found p h =
      keeps shape state (Saving 0 words_begin) _ _ (spared_less Deciding p) (omega arith) h
  commit_lowers (Saving nth got) found p h =
      words_lowers shape limits state fits are some nth _ _ (spared_less (Saving nth got) p) h
  commit_lowers (Copying nth old at) found p h =
      copy_lowers shape limits state fits are some nth old at p.2 (spared_less (Copying nth old at) p) h
  commit_lowers (Installing nth at) found p h =
      install_lowers shape limits state fits are some nth _ _ p.2 (spared_less (Installing nth at) p) h
  commit_lowers Publishing found p h =
      spares_none shape limits state fits are some (commit_left state Publishing)
      (commit_after state Publishing found) h
  commit_lowers (Freeing nth) found p h =
      spares_none shape limits state fits are some (commit_left state (Freeing nth))
      (commit_after state (Freeing nth) found) h
  commit_lowers (Clearing refusal) found p h =
      spares_none shape limits state fits are some (commit_left state (Clearing refusal))
      (commit_after state (Clearing refusal) found) h
  commit_lowers Ending found p h =
      spares_none shape limits state fits are some (commit_left state Ending) (commit_after state Ending found) h

-- 2. Each call

module _ (shape : Shape) (limits : FitsLimits shape) where
  -- a word is taken
  pub txn_lowers : (state : TxnState) (place : TxnPoint) (found : ℕ) → StateFits shape state
      → TxnPointFits shape state place
      → TxnLowers shape (txn_to_come shape state place) (txn_after shape state place found)
  txn_lowers state (Finding op passed) found fits p =
      on_find_lowers shape limits state op (op_table shape limits state.claims op p.0) _ _
      (find_falls (op_path shape op) passed found p.1)
  txn_lowers state (Reading op position at) found fits p =
      let is = op_table shape limits state.claims op p.0 in
      let sees = sight_fits shape limits (op_key op).table position is p.1 in
      on_read_lowers shape limits state op is position _ _ p.1
      (read_lowers (sight_of shape (op_key op).table position) sees (claim_most shape op) state.seen at found p.2)
  txn_lowers state (Claiming op at) found fits p =
      stepped_lowers shape limits (txn_left shape state (Claiming op at)) (txn_after shape state (Claiming op at) found)
      (txn_falls shape limits state (Claiming op at) found fits p)
  txn_lowers state (Committing at) found fits p =
      let h = commit_falls shape limits state fits at found p in
      commit_lowers shape limits state fits p.0 p.1 at found p.2 h

  -- the places of the records have their tables' widths
  pub deleted_is : (cs : List Record) (ws : List Item) (others : List Key) → AllByRecursion (IsPlaced shape) cs
      → AllByRecursion (λ item. is_claimed cs (item_key item) ≡ true) ws
      → spared ws (map (λ (r : Record). r.place) (map (record_in cs) (map item_key ws ++ others)))
      ≡ deleted_words shape ws
  deleted_is cs [] others placed all = refl
  deleted_is cs (w ∷ ws) others placed all =
      let r = deleted_is cs ws others placed all.1 in
      let e = record_width shape limits cs (item_key w) placed all.0 in
      let here = ap (λ (width : ℕ). if is_some w.value then 0 else width) e in
      omega arith

  begun_within : (state : TxnState) → StateFits shape state → 1 ≤ length state.writes
      → commit_left (committing state) (commit_begin (committing state)) ≤ commit_bound shape state
      → commit_to_come (committing state) (commit_begin (committing state)) ≤ commit_longest shape state
  begun_within state fits some =
      let same = tells_by_form shape (committing state) fits refl some in
      let d = deleted_is state.claims state.writes (unwritten state.writes state.guards) fits.placed fits.written in
      let part : (b : Bool) → has_intents shape.form ≡ b
      → (if has_intents shape.form then deleted_words shape state.writes else 0)
      ≡ (if b then deleted_words shape state.writes else 0) =
      λ b e. ap (λ (b : Bool). if b then deleted_words shape state.writes else 0) e in
      by_test (λ place. commit_left (committing state) place ≤ commit_bound shape state
      → commit_to_come (committing state) place ≤ commit_longest shape state)
      (tells_intent (committing state)) (Listing list_begin) (Locking lock_begin)
      (λ t l. let p = part true (sym same ∙ t) in omega arith)
      (λ t l. let p = part false (sym same ∙ t) in omega arith)

  pub commit_asked : (state : TxnState) → StateFits shape state
      → TxnLowers shape (commit_longest shape state + 1) (ask_commit shape state)
  commit_asked state fits =
      let n = commit_longest shape state + 1 in
      let none = record state { read = None } in
      let begun = at (committing state) (Committing (commit_begin (committing state))) in
      by_test (λ step. TxnBegins shape (commit_bound shape state) step → TxnLowers shape n step)
      (length state.writes == 0) (over none ReadOnly)
      (if state.last == greatest_number shape.form then over none Spent else begun)
      (λ e h. (tt, omega arith))
      (λ e. by_test (λ step. TxnBegins shape (commit_bound shape state) step → TxnLowers shape n step)
      (state.last == greatest_number shape.form) (over none Spent) begun
      (λ f h. (tt, omega arith))
      (λ f h. let some : 1 ≤ length state.writes = grind (arith, nat_tests) in
      let b = begun_within state fits some h.1.1 in
      (tt, omega arith)))
      (txn_begins shape limits state Commit fits tt)
