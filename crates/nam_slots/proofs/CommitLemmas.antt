-- Each word that a commit takes: what it makes of the rows, and what it knows as a copier then.
use Rattle.std.proofs.Common.{None, [], arith, false, length, refl, subst, sym, true, ℕ, ⊎_elim, ◌++◌, ◌+◌, ◌<◌, ◌∷◌}
use Rattle.std.proofs.Common.{◌≡◌, ◌≤◌}
use Rattle.std.proofs.lemmas.Bool.{cases_lt, true≢false}
use Rattle.std.proofs.lemmas.List.{get_or_push, length_push}
use Rattle.nam_calls.specs.declared.lock.LockPoint.TheVariants.{GiveBack, Peek, Seize}
use Rattle.nam_calls.specs.declared.record.InstallPoint.{InstallPoint}
use Rattle.nam_calls.specs.declared.record.InstallPoint.TheVariants.{InstallCount, InstallHead, InstallWord}
use Rattle.nam_calls.specs.declared.ring.SlotPoint.TheVariants.{CheckCount, CheckHead}
use Rattle.nam_catalog.specs.declared.shape.Shape.{Shape}
use Rattle.nam_ghost.specs.Copiers.{CopierOk, copier_now, copying_at, current_slot, has_copied}
use Rattle.nam_ghost.specs.Holders.{record_row}
use Rattle.nam_ghost.specs.Locks.{HolderOk}
use Rattle.nam_ghost.specs.Slots.{IsFreeSlot, Ring}
use Rattle.nam_ghost.specs.Steps.{commit_chains, commit_rings}
use Rattle.nam_ghost.specs.Versions.{Chain}
use Rattle.nam_header.specs.Stamp.{is_moved}
use Rattle.nam_layout.specs.Place.{slot_of}
use Rattle.nam_layout.specs.declared.field.Field.{Field}
use Rattle.nam_layout.specs.declared.field.Field.TheVariants.{SlotHeader}
use Rattle.nam_protocol.proofs.FieldLemmas.{written_less}
use Rattle.nam_protocol.specs.CallWrites.{commit_writes}
use Rattle.nam_protocol.specs.Commit.{commit_after, commit_verb, go, next_count, on_install, record_place}
use Rattle.nam_protocol.specs.Own.{StageAt}
use Rattle.nam_protocol.specs.Txn.{Stepped}
use Rattle.nam_protocol.specs.declared.txn.CommitPoint.{CommitPoint}
use Rattle.nam_protocol.specs.declared.txn.CommitPoint.TheVariants.{Checking, Clearing, Copying, Counting, Deciding}
use Rattle.nam_protocol.specs.declared.txn.CommitPoint.TheVariants.{Ending, Freeing, Installing, Listing, Locking}
use Rattle.nam_protocol.specs.declared.txn.CommitPoint.TheVariants.{Publishing, Returning, Saving}
use Rattle.nam_protocol.specs.declared.txn.TxnState.{TxnState}
use Rattle.nam_slots.proofs.AsidePoints.{IsAsidePoint, IsLocking, aside_after, aside_changes, aside_nowhere}
use Rattle.nam_slots.proofs.CheckPoints.{counting_own, found_free, head_own, plain_own}
use Rattle.nam_slots.proofs.CopyPoints.{saving_comes}
use Rattle.nam_slots.proofs.CopyWrites.{copying_comes}
use Rattle.nam_slots.proofs.InstallPoints.{installs, writes}
use Rattle.nam_slots.proofs.OwnLemmas.{CommitKnown, aside_ok}
use Rattle.nam_slots.proofs.SpotLemmas.{none_changes, slots_nowhere}
use Rattle.nam_slots.specs.Change.{RowsChange}
use Rattle.nam_slots.specs.Spots.{AllSame, written_spot}
use Rattle.nam_store.specs.Changed.{Changed, OthersStay}
use Rattle.nam_store.specs.Everyone.{put}
use Rattle.nam_verbs.proofs.TestLemmas.{by_equal}
use Rattle.nam_verbs.specs.VerbAt.{found_at, left_at, target}
use Rattle.nam_verbs.specs.declared.now.Now.{Now}
use Rattle.nam_verbs.specs.declared.now.Now.TheVariants.{At}

module _ (shape : Shape) (m now : Field → ℕ) (chains : ℕ → Chain) (rings : ℕ → Ring) (nth : ℕ) (state : TxnState)
    (Flagged : ℕ → ℕ → Type 0) where
  abbrev After : (ℕ → Chain) → (ℕ → Ring) → Stepped → Type 0
  After later next step =
      HolderOk shape now later nth (copier_now state.worker step.state step.call).holder
      → RowsChange shape m now nth chains rings Flagged later next
      × CopierOk shape now later next (copier_now state.worker step.state step.call)

  abbrev Known : CommitPoint → Type 0
  Known at = CommitKnown shape m chains rings nth state at

  -- what the word of a point comes to, and what its verb does
  abbrev Taken : CommitPoint → Type 0
  Taken at =
      let found = found_at m (commit_verb state at) in
      After (commit_chains state at found chains) (commit_rings state at chains rings) (commit_after state at found)

  abbrev Verb : CommitPoint → Type 0
  Verb at =
      Changed shape m now (target (commit_verb state at)) (left_at m (commit_verb state at))
      × OthersStay shape m now (commit_writes state at)

  -- 1. It neither looks for a free slot nor copies

  aside_quiet : (at : CommitPoint) → IsAsidePoint at → has_copied (copying_at state at) ≡ false
  aside_quiet (Listing at) aside = refl
  aside_quiet (Locking at) aside = refl
  aside_quiet (Returning given full) aside = refl
  aside_quiet Publishing aside = refl
  aside_quiet (Freeing p) aside = refl
  aside_quiet (Clearing refusal) aside = refl
  aside_quiet Ending aside = refl
  aside_quiet _ aside = absurd aside

  none_counted : (at : CommitPoint) → Known at → IsLocking at → length state.counts ≡ 0
  none_counted (Locking at) known locking = known.point.2.1
  none_counted _ known locking = absurd locking

  aside : (at : CommitPoint) → IsAsidePoint at → Known at → StageAt state at → Verb at
      → let found = found_at m (commit_verb state at) in
      After (commit_chains state at found chains) rings (commit_after state at found)
  aside at is known stage verb own =
      let found = found_at m (commit_verb state at) in
      let step = commit_after state at found in
      let same = slots_nowhere shape m now (commit_writes state at) verb.1
      (aside_nowhere shape m now chains rings nth state Flagged at is) in
      let changes = aside_changes shape m now chains rings nth state Flagged at is known stage same in
      let after = aside_after state.worker state at found is (none_counted at known) in (
        changes,
        aside_ok shape m now chains (commit_chains state at found chains) rings nth state at known Flagged changes
            (aside_quiet at is) (copier_now state.worker step.state step.call) own after.0 after.1,
      )

  -- 2. It looks for free slots

  abbrev Free : ℕ → Type 0
  Free count = (p : ℕ) → p < length state.held → p < count
      → let row = record_row state p in IsFreeSlot ((rings row).kept (current_slot shape chains row))

  tells : (at : CommitPoint) (step : Stepped) → Verb at → written_spot (commit_writes state at) ≡ None
      → (AllSame shape m now → HolderOk shape now chains nth (copier_now state.worker step.state step.call).holder
      → CopierOk shape now chains rings (copier_now state.worker step.state step.call)) → After chains rings step
  tells at step verb none kept own =
      let same = slots_nowhere shape m now (commit_writes state at) verb.1 none in
      (none_changes shape m now nth chains rings Flagged same, kept same own)

  -- one slot more has the moved flag
  one_free : (count : ℕ) → (known : Known (Checking (CheckHead count))) → let p = length state.counts in
      is_moved (record_place state p).form
      (m (SlotHeader (record_row state p) (slot_of (record_place state p) count))) ≡ true
      → Free (length (state.counts ++ count ∷ []))
  one_free count known moved p short less =
      let at = Checking (CheckHead count) in
      let last = length state.counts in
      let long = length_push state.counts count in
      let all = known.point.2.0 in
      let some = written_less shape known.limits state known.fits known.point.0 last known.point.2.1 in
      ⊎_elim
      (λ (before : p < last). known.claim.free p record { begins = omega arith; ends = short } before (λ e. refl))
      (λ (least : last ≤ p). let e : p ≡ last = omega arith in
      subst (λ x. let row = record_row state x in IsFreeSlot ((rings row).kept (current_slot shape chains row))) (sym e)
      (found_free shape m chains rings nth state at known last count
      record { begins = omega arith; ends = omega arith } some (omega arith)
      (get_or_push state.counts count 0 last refl) moved))
      (cases_lt p last)

  -- 3. Each point

  pub commit_slots : (at : CommitPoint) → Known at → StageAt state at → Verb at → Taken at
  commit_slots (Listing at) known stage verb = aside (Listing at) tt known stage verb
  commit_slots (Locking Peek) known stage verb = aside (Locking Peek) tt known stage verb
  commit_slots (Locking (Seize header)) known stage verb = aside (Locking (Seize header)) tt known stage verb
  commit_slots (Locking (GiveBack given found)) known stage verb =
      aside (Locking (GiveBack given found)) tt known stage verb
  commit_slots (Checking CheckCount) known stage verb =
      let at = Checking CheckCount in
      let found = found_at m (commit_verb state (Checking CheckCount)) in
      tells at (commit_after state at found) verb refl
      (λ same. plain_own shape m now chains rings nth state at known Flagged same refl (Checking (CheckHead found)) tt
      (λ p short less. known.claim.free p record { begins = omega arith; ends = short } less (λ e. refl)))
  commit_slots (Checking (CheckHead count)) known stage verb =
      let at = Checking (CheckHead count) in
      let found = found_at m (commit_verb state (Checking (CheckHead count))) in
      tells at (commit_after state at found) verb refl
      (λ same. head_own shape m now chains rings nth state at known Flagged same refl count found
      (one_free count known))
  commit_slots (Returning given full) known stage verb = aside (Returning given full) tt known stage verb
  commit_slots (Counting number) known stage verb =
      tells (Counting number) (next_count state (number + 1)) verb refl
      (λ same. counting_own shape m now chains rings nth state (Counting number) known Flagged same refl (number + 1)
      (λ p short less. known.claim.free p record { begins = omega arith; ends = short } less (λ e. refl)))
  commit_slots Deciding known stage verb =
      tells Deciding (go state (Saving 0 [])) verb refl
      (λ same. plain_own shape m now chains rings nth state Deciding known Flagged same refl (Saving 0 []) tt
      (λ p short less. known.claim.free p record { begins = omega arith; ends = short } less (λ e. refl)))
  commit_slots (Saving p got) known stage verb =
      λ own. saving_comes shape m now chains rings nth state Flagged p got known
      (slots_nowhere shape m now None verb.1 refl)
  commit_slots (Copying p old at) known stage verb =
      λ own. copying_comes shape m now chains rings nth state Flagged p old at known verb.0
  commit_slots (Installing p (InstallWord word)) known stage verb =
      let point = Installing p (InstallWord word) in
      let same = slots_nowhere shape m now (commit_writes state point) verb.1 refl in
      let row = record_row state p in
      let chain : Chain = record (chains row) { dirty = true } in
      let later = put chains row chain in
      let goes = writes shape m now chains rings nth state Flagged p (InstallWord word) known same chain refl refl refl
      (λ e. absurd (true≢false e)) in
      λ own. by_equal (λ (next : Now InstallPoint (Unit {0})). let step = on_install state p next in
      RowsChange shape m now nth chains rings Flagged later rings
      × CopierOk shape now later rings (copier_now state.worker step.state step.call))
      (word + 1) (record_place state p).width (At InstallCount) (At (InstallWord (word + 1)))
      (λ e. goes InstallCount) (λ e. goes (InstallWord (word + 1)))
  commit_slots (Installing p InstallCount) known stage verb =
      let point = Installing p InstallCount in
      let same = slots_nowhere shape m now (commit_writes state point) verb.1 refl in
      λ own. writes shape m now chains rings nth state Flagged p InstallCount known same
      (record (chains (record_row state p)) { counted = true }) refl refl refl (λ e. e) InstallHead
  commit_slots (Installing p InstallHead) known stage verb =
      let point = Installing p InstallHead in
      let same = slots_nowhere shape m now (commit_writes state point) verb.1 refl in
      λ own. installs shape m now chains rings nth state Flagged p InstallHead known same known.point.2.0
  commit_slots Publishing known stage verb = aside Publishing tt known stage verb
  commit_slots (Freeing p) known stage verb = aside (Freeing p) tt known stage verb
  commit_slots (Clearing refusal) known stage verb = aside (Clearing refusal) tt known stage verb
  commit_slots Ending known stage verb = aside Ending tt known stage verb
