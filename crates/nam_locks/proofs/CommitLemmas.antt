-- Each word that a commit takes keeps what is said of locks.
use Rattle.std.proofs.Common.{Bool, List, None, Some, [], arith, false, length, refl, true, ℕ, ◌++◌, ◌<◌, ◌==◌, ◌∷◌}
use Rattle.std.proofs.Common.{◌≡◌}
use Rattle.std.proofs.lemmas.Bool.{eqb-true}
use Rattle.std.specs.Prelude.{if◌then◌else◌, slice_get, slice_set}
use Rattle.nam_calls.specs.Lock.{give_back, lock_next}
use Rattle.nam_calls.specs.declared.lock.LockPoint.TheVariants.{GiveBack, Peek, Seize}
use Rattle.nam_calls.specs.declared.record.InstallPoint.TheVariants.{InstallCount, InstallHead, InstallWord}
use Rattle.nam_calls.specs.declared.ring.CopyPoint.{CopyPoint}
use Rattle.nam_calls.specs.declared.ring.CopyPoint.TheVariants.{CopyEnding, CopyHead, CopyMark, CopyWord}
use Rattle.nam_calls.specs.declared.ring.SlotPoint.TheVariants.{CheckCount, CheckHead}
use Rattle.nam_catalog.specs.Fits.{FitsLimits}
use Rattle.nam_catalog.specs.declared.shape.Shape.{Shape}
use Rattle.nam_ghost.specs.Holders.{Holder, holder_at, holder_now, record_row}
use Rattle.nam_ghost.specs.Locks.{AreHeld, HolderOk}
use Rattle.nam_ghost.specs.Steps.{at_record, commit_chains, locked_for}
use Rattle.nam_ghost.specs.Versions.{Chain}
use Rattle.nam_header.specs.Stamp.{with_lock}
use Rattle.nam_layout.specs.declared.field.Field.{Field}
use Rattle.nam_layout.specs.declared.field.Field.TheVariants.{Count, Header}
use Rattle.nam_locks.proofs.CommitReads.{checks, copies, counts, gives_back, lists, looks_up, nothing_left, peeks}
use Rattle.nam_locks.proofs.CommitReads.{publishes, saves}
use Rattle.nam_locks.proofs.CommitWrites.{frees_one, gives_one, installs_count, installs_header, installs_word}
use Rattle.nam_locks.proofs.CommitWrites.{returns_one, takes_lock}
use Rattle.nam_locks.proofs.HolderLemmas.{holder_spared, looks, still_spared}
use Rattle.nam_locks.proofs.RowLemmas.{written_nowhere, written_same}
use Rattle.nam_locks.specs.Rows.{SameRows, written_row}
use Rattle.nam_protocol.proofs.FieldLemmas.{placed, written_less}
use Rattle.nam_protocol.proofs.GivesCommit.{commit_gives}
use Rattle.nam_protocol.specs.CallWrites.{commit_writes}
use Rattle.nam_protocol.specs.Commit.{commit_after, commit_verb, on_lock, places, record_place}
use Rattle.nam_protocol.specs.Own.{StageAt}
use Rattle.nam_protocol.specs.Txn.{Stepped}
use Rattle.nam_protocol.specs.TxnFits.{CommitFits, StateFits}
use Rattle.nam_protocol.specs.declared.txn.CommitPoint.{CommitPoint}
use Rattle.nam_protocol.specs.declared.txn.CommitPoint.TheVariants.{Checking, Clearing, Copying, Counting, Deciding}
use Rattle.nam_protocol.specs.declared.txn.CommitPoint.TheVariants.{Ending, Freeing, Installing, Listing, Locking}
use Rattle.nam_protocol.specs.declared.txn.CommitPoint.TheVariants.{Publishing, Returning, Saving}
use Rattle.nam_protocol.specs.declared.txn.ListPoint.{ListPoint}
use Rattle.nam_protocol.specs.declared.txn.ListPoint.TheVariants.{ListData, ListKind, ListNumber, ListRow, ListState}
use Rattle.nam_protocol.specs.declared.txn.TxnState.{TxnState}
use Rattle.nam_store.specs.Changed.{Changed, OthersStay}
use Rattle.nam_verbs.specs.VerbAt.{found_at, left_at, target}

-- by what a test says
by_bool : (P : Bool → Type 0) (test : Bool) → (test ≡ true → P true) → (test ≡ false → P false) → P test
by_bool P true on off = on refl
by_bool P false on off = off refl

list_elsewhere : (state : TxnState) (at : ListPoint) → written_row (commit_writes state (Listing at)) ≡ None
list_elsewhere state (ListRow nth) = refl
list_elsewhere state (ListKind nth) = refl
list_elsewhere state (ListData nth word) = refl
list_elsewhere state ListNumber = refl
list_elsewhere state ListState = refl

copy_elsewhere : (state : TxnState) (p : ℕ) (old : List ℕ) (at : CopyPoint)
    → written_row (commit_writes state (Copying p old at)) ≡ None
copy_elsewhere state p old CopyMark = refl
copy_elsewhere state p old CopyEnding = refl
copy_elsewhere state p old (CopyWord word) = refl
copy_elsewhere state p old CopyHead = refl

module _ (shape : Shape) (limits : FitsLimits shape) (m now : Field → ℕ) (chains : ℕ → Chain) (holders : List Holder)
    (ok : AreHeld shape m chains holders) (nth : ℕ) (within : nth < shape.workers) (state : TxnState)
    (fits : StateFits shape state) where
  abbrev After : (ℕ → Chain) → Stepped → Type 0
  After later step =
      AreHeld shape now later (slice_set holders nth (holder_now state.worker step.state step.call))

  -- what the word of a point comes to
  abbrev pub Taken : CommitPoint → Type 0
  Taken at =
      let found = found_at m (commit_verb state at) in
      After (commit_chains state at found chains) (commit_after state at found)

  -- what its verb does
  abbrev pub Verb : CommitPoint → Type 0
  Verb at =
      Changed shape m now (target (commit_verb state at)) (left_at m (commit_verb state at))
      × OthersStay shape m now (commit_writes state at)

  -- no word of a current version is written
  aside : (at : CommitPoint) (step : Stepped) → slice_get holders nth ≡ Some (holder_at state at)
      → SameRows shape m now
      → (HolderOk shape now chains nth (holder_at state at)
      → HolderOk shape now chains nth (holder_now state.worker step.state step.call))
      → After chains step
  aside at step here same kept =
      looks shape m chains holders ok nth (holder_at state at) here now
      (holder_now state.worker step.state step.call) same
      (kept (holder_spared shape m now chains chains nth (holder_at state at)
      (still_spared shape m now chains nth same) (ok.each nth (holder_at state at) here)))

  takes : (header : ℕ) → slice_get holders nth ≡ Some (holder_at state (Locking (Seize header)))
      → CommitFits shape state (Locking (Seize header)) → StageAt state (Locking (Seize header))
      → Verb (Locking (Seize header)) → Taken (Locking (Seize header))
  takes header here c stage verb =
      let at = Locking (Seize header) in
      let p = length state.held in
      let row = record_row state p in
      let word = m (Header row) in
      let locked = with_lock (record_place state p).form state.worker header in
      by_bool (λ (b : Bool). (word == header) ≡ b
      → Changed shape m now (Header row) (if b then locked else word)
      → After (if b then at_record state p chains (locked_for state.worker) else chains)
      (on_lock state (if b then lock_next (places state) (state.held ++ header ∷ [])
      else give_back (places state) state.held 0 word)))
      (word == header)
      (λ e same changed. takes_lock shape limits m now chains holders ok nth within state header here stage
      (placed shape limits state fits c.0 p c.2.0) c.2.1 (eqb-true word header same) changed)
      (λ e lost changed. aside at (on_lock state (give_back (places state) state.held 0 word)) here
      (written_same shape m now row changed) (gives_back shape now chains nth state 0 word))
      refl verb.0

  pub commit_locks : (at : CommitPoint) → slice_get holders nth ≡ Some (holder_at state at)
      → CommitFits shape state at → StageAt state at → Verb at → Taken at
  commit_locks (Listing at) here c stage verb =
      aside (Listing at) (commit_after state (Listing at) 0) here
      (written_nowhere shape m now (commit_writes state (Listing at)) verb.1 (list_elsewhere state at))
      (lists shape now chains nth state at 0)
  commit_locks (Locking Peek) here c stage verb =
      let found = found_at m (commit_verb state (Locking Peek)) in
      aside (Locking Peek) (commit_after state (Locking Peek) found) here
      (written_nowhere shape m now None verb.1 refl) (peeks shape now chains nth state found)
  commit_locks (Locking (Seize header)) here c stage verb = takes header here c stage verb
  commit_locks (Locking (GiveBack given found)) here c stage verb =
      gives_one shape limits m now chains holders ok nth within state given found here c.2.0.1 verb.0
  commit_locks (Checking CheckCount) here c stage verb =
      let p = length state.counts in
      let same = written_nowhere shape m now None verb.1 refl in
      let less = c.2.1 in let all = c.2.0 in
      let is_row = (placed shape limits state fits c.0 p (written_less shape limits state fits c.0 p less)).row_is in
      let found = m (Count (record_row state p)) in
      let short = written_less shape limits state fits c.0 p less in
      looks shape m chains holders ok nth (holder_at state (Checking CheckCount)) here now
      (let step = commit_after state (Checking CheckCount) found in holder_now state.worker step.state step.call) same
      (holder_spared shape m now chains chains nth
      (let step = commit_after state (Checking CheckCount) found in holder_now state.worker step.state step.call)
      (still_spared shape m now chains nth same)
      (looks_up shape m chains nth state (ok.each nth (holder_at state (Checking CheckCount)) here) (omega arith)
      (ok.rows (record_row state p) is_row)))
  commit_locks (Checking (CheckHead count)) here c stage verb =
      let found = found_at m (commit_verb state (Checking (CheckHead count))) in
      aside (Checking (CheckHead count)) (commit_after state (Checking (CheckHead count)) found) here
      (written_nowhere shape m now None verb.1 refl) (checks shape now chains nth state count found)
  commit_locks (Returning given full) here c stage verb =
      let all = c.2.0 in let less = c.2.1 in
      returns_one shape limits m now chains holders ok nth within state given full 0 here (omega arith) all verb.0
  commit_locks (Counting number) here c stage verb =
      aside (Counting number) (commit_after state (Counting number) 0) here
      (written_nowhere shape m now (commit_writes state (Counting number)) verb.1 refl)
      (counts shape now chains nth state number 0)
  commit_locks Deciding here c stage verb =
      aside Deciding (commit_after state Deciding 0) here
      (written_nowhere shape m now (commit_writes state Deciding) verb.1 refl) (λ own. own)
  commit_locks (Saving p got) here c stage verb =
      let found = found_at m (commit_verb state (Saving p got)) in
      aside (Saving p got) (commit_after state (Saving p got) found) here
      (written_nowhere shape m now None verb.1 refl) (saves shape now chains nth state p got found)
  commit_locks (Copying p old at) here c stage verb =
      aside (Copying p old at) (commit_after state (Copying p old at) 0) here
      (written_nowhere shape m now (commit_writes state (Copying p old at)) verb.1 (copy_elsewhere state p old at))
      (copies shape now chains nth state p old at 0)
  commit_locks (Installing p (InstallWord word)) here c stage verb =
      let all = c.2.0 in
      let less = written_less shape limits state fits c.0 p c.2.2 in
      installs_word shape limits m now chains holders ok nth within state p
      (placed shape limits state fits c.0 p less) (omega arith) word 0 here c.2.3 stage verb.0
  commit_locks (Installing p InstallCount) here c stage verb =
      let all = c.2.0 in let known = c.2.1 in let written = c.2.2 in
      let less = written_less shape limits state fits c.0 p c.2.2 in
      installs_count shape limits m now chains holders ok nth within state p
      (placed shape limits state fits c.0 p less) (omega arith) 0 here (omega arith) verb.0
  commit_locks (Installing p InstallHead) here c stage verb =
      let all = c.2.0 in
      let less = written_less shape limits state fits c.0 p c.2.2 in
      installs_header shape limits m now chains holders ok nth within state p
      (placed shape limits state fits c.0 p less) (omega arith) 0 here
      (commit_gives shape limits state (Installing p InstallHead) fits c).stamp verb.0
  commit_locks Publishing here c stage verb =
      aside Publishing (commit_after state Publishing 0) here
      (written_nowhere shape m now (commit_writes state Publishing) verb.1 refl)
      (publishes shape now chains nth state 0 c.2.0)
  commit_locks (Freeing p) here c stage verb =
      let all = c.2.0 in let less = c.2.3 in
      frees_one shape limits m now chains holders ok nth within state p 0 here (omega arith) all verb.0
  commit_locks (Clearing refusal) here c stage verb =
      aside (Clearing refusal) (commit_after state (Clearing refusal) 0) here
      (written_nowhere shape m now (commit_writes state (Clearing refusal)) verb.1 refl)
      (λ own. nothing_left shape now chains nth state (Clearing refusal) own (omega arith))
  commit_locks Ending here c stage verb =
      aside Ending (commit_after state Ending 0) here
      (written_nowhere shape m now (commit_writes state Ending) verb.1 refl)
      (λ own. nothing_left shape now chains nth state Ending own (omega arith))
