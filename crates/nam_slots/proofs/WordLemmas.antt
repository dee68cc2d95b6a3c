-- Each word that a client takes, by the sorts of steps: what it makes of the rows, and what the client knows as a
-- copier then.
use Rattle.std.proofs.Common.{None, Option, Some, ap, length, refl, subst, sym, ℕ, ◌+◌, ◌∙◌, ◌≡◌}
use Rattle.std.proofs.lemmas.Option.{none-some}
use Rattle.nam_calls.specs.declared.mover.MovePoint.{MovePoint}
use Rattle.nam_catalog.specs.Fits.{FitsLimits}
use Rattle.nam_catalog.specs.declared.shape.Shape.{Shape}
use Rattle.nam_ghost.proofs.IdleLemmas.{aside_idle, begins_idle, ended_worker, idle_chains, same_place, snaps_idle}
use Rattle.nam_ghost.specs.Copiers.{Copier, CopierOk, RowRing, copier_in, copier_now, copier_of, no_copier}
use Rattle.nam_ghost.specs.Idle.{IsIdle, Verb}
use Rattle.nam_ghost.specs.Locks.{HolderOk, RowOk}
use Rattle.nam_ghost.specs.Slots.{Ring}
use Rattle.nam_ghost.specs.Steps.{chains_after, commit_chains, commit_rings, move_rings, rings_after}
use Rattle.nam_ghost.specs.Versions.{Chain}
use Rattle.nam_layout.proofs.PositionLemmas.{position_is_row}
use Rattle.nam_layout.specs.Address.{IsRow}
use Rattle.nam_layout.specs.Rows.{row_of}
use Rattle.nam_layout.specs.declared.field.Field.{Field}
use Rattle.nam_layout.specs.declared.field.Field.TheVariants.{Horizon, Key, Tag}
use Rattle.nam_protocol.specs.Commit.{commit_after}
use Rattle.nam_protocol.specs.Reader.{Reader, reader_at}
use Rattle.nam_protocol.specs.Sorts.{Begins, Collects, Commits, Finds, IsKeyPlace, Moves, Reads, Snaps, StepOf}
use Rattle.nam_protocol.specs.Sorts.{committing_at, word_taken}
use Rattle.nam_protocol.specs.Telling.{go, stepped}
use Rattle.nam_protocol.specs.Txn.{Stepped}
use Rattle.nam_protocol.specs.declared.client.Answer.{Answer}
use Rattle.nam_protocol.specs.declared.client.CallPoint.{CallPoint}
use Rattle.nam_protocol.specs.declared.client.CallPoint.TheVariants.{Beginning, Collecting, InTxn, Moving, Scanning}
use Rattle.nam_protocol.specs.declared.client.CallPoint.TheVariants.{Seeking, Snapping}
use Rattle.nam_protocol.specs.declared.client.ClientState.{ClientState}
use Rattle.nam_protocol.specs.declared.client.Open.{Open}
use Rattle.nam_protocol.specs.declared.scan.ScanPoint.TheVariants.{ScanKey}
use Rattle.nam_protocol.specs.declared.txn.CommitPoint.{CommitPoint}
use Rattle.nam_protocol.specs.declared.txn.TxnAnswer.{TxnAnswer}
use Rattle.nam_protocol.specs.declared.txn.TxnPoint.{TxnPoint}
use Rattle.nam_protocol.specs.declared.txn.TxnPoint.TheVariants.{Claiming, Committing, Finding}
use Rattle.nam_protocol.specs.declared.txn.TxnState.{TxnState}
use Rattle.nam_slots.proofs.CommitLemmas.{commit_slots}
use Rattle.nam_slots.proofs.MoveLemmas.{FlagsAt, moves}
use Rattle.nam_slots.proofs.OwnLemmas.{CommitKnown, none_ok}
use Rattle.nam_slots.proofs.SpotLemmas.{none_changes, slots_unwritten}
use Rattle.nam_slots.specs.Change.{RowsChange}
use Rattle.nam_slots.specs.Spots.{slot_spot}
use Rattle.nam_store.proofs.KindsLemmas.{finds_write, reads_write}
use Rattle.nam_store.specs.Base.{ClientOk}
use Rattle.nam_store.specs.Kinds.{IsCollectField, IsKeyField, MayWrite}
use Rattle.nam_store.specs.Store.{next_verb}
use Rattle.nam_vector.specs.Snap.{snap_after}
use Rattle.nam_verbs.specs.VerbAt.{found_at}
use Rattle.nam_verbs.specs.declared.now.Now.{Now}
use Rattle.nam_verbs.specs.declared.now.Now.TheVariants.{At, Over}

-- 1. A client that runs no commit copies nothing

pub idle_copier : (worker : ℕ) (call : Option (Now CallPoint Answer)) (opened : Option Open) → IsIdle call
    → copier_in worker call opened ≡ no_copier worker
idle_copier worker None opened idle = refl
idle_copier worker (Some (Over answer)) opened idle = refl
idle_copier worker (Some (At (InTxn (Committing at)))) opened idle = absurd idle
idle_copier worker (Some (At (InTxn _))) opened idle = refl
idle_copier worker (Some (At _)) opened idle = refl

abbrev IsStill : CallPoint → Type 0
IsStill (InTxn (Committing at)) = ⊥
IsStill (Moving table key position at) = ⊥
IsStill _ = Unit {0}

still_idle : (place : CallPoint) → IsStill place → IsIdle (Some (At place))
still_idle (InTxn (Committing at)) still = still
still_idle (InTxn _) still = tt
still_idle (Moving table key position at) still = tt
still_idle _ still = tt

still_rings : (shape : Shape) (opened : Option Open) (place : CallPoint) (found : ℕ) (chains : ℕ → Chain)
    (rings : ℕ → Ring) → IsStill place → rings_after shape opened place found chains rings ≡ rings
still_rings shape opened (InTxn (Committing at)) found chains rings still = absurd still
still_rings shape opened (Moving table key position at) found chains rings still = absurd still
still_rings shape None (InTxn _) found chains rings still = refl
still_rings shape (Some attempt) (InTxn _) found chains rings still = refl
still_rings shape None _ found chains rings still = refl
still_rings shape (Some attempt) _ found chains rings still = refl

moved_rings : (shape : Shape) (opened : Option Open) (table key position : ℕ) (at : MovePoint) (found : ℕ)
    (chains : ℕ → Chain) (rings : ℕ → Ring)
    → rings_after shape opened (Moving table key position at) found chains rings
    ≡ move_rings (row_of shape.tables table position) at found rings
moved_rings shape None table key position at found chains rings = refl
moved_rings shape (Some attempt) table key position at found chains rings = refl

finds_still : (place : CallPoint) → IsKeyPlace place → IsStill place
finds_still (InTxn (Finding op passed)) is = tt
finds_still (InTxn (Claiming op at)) is = tt
finds_still (Scanning table low high (ScanKey position)) is = tt
finds_still (Seeking table key passed) is = tt
finds_still _ is = absurd is

reads_still : (shape : Shape) (opened : Option Open) (place : CallPoint) (reader : Reader)
    → reader_at shape opened place ≡ Some reader → IsStill place
reads_still shape None (InTxn (Committing at)) reader is = absurd (none-some reader is)
reads_still shape (Some attempt) (InTxn (Committing at)) reader is = absurd (none-some reader is)
reads_still shape None (Moving table key position at) reader is = absurd (none-some reader is)
reads_still shape (Some attempt) (Moving table key position at) reader is = absurd (none-some reader is)
reads_still shape opened (InTxn _) reader is = tt
reads_still shape opened _ reader is = tt

key_apart : (field : Field) (row slot : ℕ) → slot_spot field ≡ Some (row, slot) → IsKeyField field → ⊥
key_apart (Key at) row slot e is = none-some (row, slot) e
key_apart _ row slot e is = is

collect_apart : (field : Field) (row slot : ℕ) → slot_spot field ≡ Some (row, slot) → IsCollectField field → ⊥
collect_apart (Horizon worker) row slot e is = none-some (row, slot) e
collect_apart (Tag bucket cell) row slot e is = none-some (row, slot) e
collect_apart _ row slot e is = is

pub stepped_copier : (client : ClientState) (attempt : Open) (before : ℕ) (step : Stepped)
    → copier_of (stepped client attempt before step) ≡ copier_now client.worker step.state step.call
stepped_copier client attempt before step = by_call step.state step.call
  where
    by_call : (state : TxnState) (call : Now TxnPoint TxnAnswer)
        → copier_of (stepped client attempt before record { state = state; call = call })
        ≡ copier_now client.worker state call
    by_call state (At (Committing at)) = refl
    by_call state (At _) = refl
    by_call state (Over answer) = ap no_copier (ended_worker client attempt before state answer)

-- 2. A word is taken

module _ (shape : Shape) (limits : FitsLimits shape) (m now : Field → ℕ) (chains : ℕ → Chain) (rings : ℕ → Ring)
    (locked : (row : ℕ) → IsRow shape row → RowOk shape m chains row)
    (slots : (row : ℕ) → IsRow shape row → RowRing shape m row (chains row) (rings row)) (nth : ℕ)
    (Flagged : ℕ → ℕ → Type 0) where
  -- what the step makes of the rows, and what its client knows then
  abbrev Comes : (ℕ → Chain) → (ℕ → Ring) → ClientState → Type 0
  Comes later next after =
      RowsChange shape m now nth chains rings Flagged later next × CopierOk shape now later next (copier_of after)

  abbrev pub Taking : ℕ → ClientState → CallPoint → ClientState → Type 0
  Taking found before place after =
      Comes (chains_after before.txn place found chains) (rings_after shape before.txn place found chains rings) after

  -- of a client that copies nothing then
  idle_own : (after : ClientState) → IsIdle after.call → (next : ℕ → Ring)
      → CopierOk shape now chains next (copier_of after)
  idle_own after idle next =
      subst (CopierOk shape now chains next) (sym (idle_copier after.worker after.call after.txn idle))
      (none_ok shape now chains next after.worker)

  -- no commit and no mover: no word of a slot may be written
  still_word : (before after : ClientState) (place : CallPoint) (found : ℕ) → IsStill place → IsIdle after.call
      → ((field : Field) (row slot : ℕ) → slot_spot field ≡ Some (row, slot) → MayWrite (nth + 1) place field → ⊥)
      → Verb shape m now nth before place → Taking found before place after
  still_word before after place found still idle unwritten verb =
      let same = slots_unwritten shape m now
      (λ field row slot of_shape at. verb.kinds field of_shape (unwritten field row slot at)) in
      subst (λ c. Comes c (rings_after shape before.txn place found chains rings) after)
      (sym (idle_chains before.txn place found chains (still_idle place still)))
      (subst (λ r. Comes chains r after) (sym (still_rings shape before.txn place found chains rings still))
      (none_changes shape m now nth chains rings Flagged same, idle_own after idle rings))

  -- what is known of the client at its point
  pub record Client (found : ℕ) (before after : ClientState) (place : CallPoint) : Type 0 where
    pub at : before.call ≡ Some (At place)
    pub ok : ClientOk shape nth before
    pub found_is : found ≡ found_at m (next_verb shape before)
    pub verb : Verb shape m now nth before place
    pub own : HolderOk shape m chains nth (copier_of before).holder
    pub claim : CopierOk shape m chains rings (copier_of before)
    pub own_after : HolderOk shape now (chains_after before.txn place found chains) nth (copier_of after).holder
    pub flags : (table key position : ℕ) (at : MovePoint) → place ≡ Moving table key position at
        → FlagsAt m rings Flagged (row_of shape.tables table position) at

  -- 3. By the sorts

  commit_word : (client : ClientState) (attempt : Open) (at : CommitPoint) (found : ℕ)
      → let before = committing_at client attempt at in
      let after = stepped before attempt (length attempt.state.held) (commit_after attempt.state at found) in
      Client found before after (InTxn (Committing at))
      → Comes (commit_chains attempt.state at found chains) (commit_rings attempt.state at chains rings) after
  commit_word client attempt at found c =
      let before = committing_at client attempt at in
      let state = attempt.state in
      let after = stepped before attempt (length state.held) (commit_after state at found) in
      let seen : copier_of after ≡ (let step = commit_after state at found in
      copier_now state.worker step.state step.call) =
      stepped_copier before attempt (length state.held) (commit_after state at found)
      ∙ ap (λ w. let step = commit_after state at found in copier_now w step.state step.call)
      (sym c.ok.own.opened.worker_is) in
      let known : CommitKnown shape m chains rings nth state at = record {
        limits = limits;
        fits = c.ok.fits.1;
        point = c.ok.fits.2;
        locked = locked;
        slots = slots;
        own = c.own;
        claim = c.claim;
      } in
      let taken = subst (λ x. let step = commit_after state at x in
      HolderOk shape now (commit_chains state at x chains) nth (copier_now state.worker step.state step.call).holder
      → RowsChange shape m now nth chains rings Flagged (commit_chains state at x chains)
      (commit_rings state at chains rings)
      × CopierOk shape now (commit_chains state at x chains) (commit_rings state at chains rings)
      (copier_now state.worker step.state step.call)) (sym c.found_is)
      (commit_slots shape m now chains rings nth state Flagged at known c.ok.stage (c.verb.changed, c.verb.leaves))
      (subst (λ (copier : Copier). HolderOk shape now (commit_chains state at found chains) nth copier.holder) seen
      c.own_after) in (
        taken.0,
        subst (CopierOk shape now (commit_chains state at found chains) (commit_rings state at chains rings)) (sym seen)
            taken.1,
      )

  move_word : (client after : ClientState) (table key position found : ℕ) (at : MovePoint) → IsIdle after.call
      → let place = Moving table key position at in
      Client found (go client place) after place → Taking found (go client place) place after
  move_word client after table key position found at idle c =
      let place = Moving table key position at in
      let row = row_of shape.tables table position in
      let fits = c.ok.fits.2 in
      let is = (position_is_row shape.tables table position (fits.0, fits.1)).within in
      subst (λ later. Comes later (rings_after shape client.txn place found chains rings) after)
      (sym (idle_chains client.txn place found chains tt))
      (subst (λ next. Comes chains next after)
      (sym (moved_rings shape client.txn table key position at found chains rings)) (
        subst (λ x. RowsChange shape m now nth chains rings Flagged chains (move_rings row at x rings)) (sym c.found_is)
            (moves shape m now chains rings nth Flagged row is at fits.2 (c.flags table key position at refl)
            c.verb.changed c.verb.leaves),
        idle_own after idle (move_rings row at found rings),
      ))

  pub takes_slots : (found : ℕ) (before after : ClientState) (place : CallPoint) → StepOf shape found before after
      → Client found before after place → Taking found before place after
  takes_slots found _ _ place (Finds client point is plain anew) c =
      let same = same_place place point c.at in
      let key = subst IsKeyPlace (sym same) is in
      still_word (go client point) (word_taken shape found client point) place found (finds_still place key)
      (aside_idle _ plain.aside)
      (λ field row slot spot may. key_apart field row slot spot (finds_write (nth + 1) place field key may)) c.verb
  takes_slots found _ _ place (Reads client point reader is plain on) c =
      let same = same_place place point c.at in
      let reads = subst (λ p. reader_at shape client.txn p ≡ Some reader) (sym same) is in
      still_word (go client point) (word_taken shape found client point) place found
      (reads_still shape client.txn place reader reads) (aside_idle _ plain.aside)
      (λ field row slot spot may. reads_write shape (nth + 1) client.txn place reader field reads may) c.verb
  takes_slots found _ _ place (Moves client table key position at plain) c =
      let point = Moving table key position at in
      let same = same_place place point c.at in
      subst (λ p. Taking found (go client point) p (word_taken shape found client point)) (sym same)
      (move_word client (word_taken shape found client point) table key position found at (aside_idle _ plain.aside)
      (subst (Client found (go client point) (word_taken shape found client point)) same c))
  takes_slots found _ _ place (Collects client bucket prefix seen at plain) c =
      let point = Collecting bucket prefix seen at in
      let same = same_place place point c.at in
      still_word (go client point) (word_taken shape found client point) place found (subst IsStill (sym same) tt)
      (aside_idle _ plain.aside)
      (λ field row slot spot may. collect_apart field row slot spot
      (subst (λ p. MayWrite (nth + 1) p field) same may)) c.verb
  takes_slots found _ _ place (Begins client txn number at) c =
      let point = Beginning txn number at in
      let same = same_place place point c.at in
      still_word (go client point) (word_taken shape found client point) place found (subst IsStill (sym same) tt)
      (begins_idle shape (go client point) txn number (snap_after shape.workers at found)).0
      (λ field row slot spot may. subst (λ p. MayWrite (nth + 1) p field) same may) c.verb
  takes_slots found _ _ place (Snaps client bucket at) c =
      let point = Snapping bucket at in
      let same = same_place place point c.at in
      still_word (go client point) (word_taken shape found client point) place found (subst IsStill (sym same) tt)
      (snaps_idle shape (go client point) bucket (snap_after shape.workers at found)).0
      (λ field row slot spot may. subst (λ p. MayWrite (nth + 1) p field) same may) c.verb
  takes_slots found _ _ place (Commits client attempt at) c =
      let point = InTxn (Committing at) in
      let before = committing_at client attempt at in
      let after = stepped before attempt (length attempt.state.held) (commit_after attempt.state at found) in
      let same = same_place place point c.at in
      subst (λ p. Taking found before p after) (sym same)
      (commit_word client attempt at found (subst (Client found before after) same c))
