-- The points of a commit at which it neither looks for free slots nor copies: it lists, locks, gives locks back,
-- publishes, frees or clears.
use Rattle.std.proofs.Common.{List, None, [], ap, arith, false, length, refl, subst, sym, ℕ, ⊎_elim, ◌++◌, ◌∙◌, ◌∷◌}
use Rattle.std.proofs.Common.{◌≡◌, ◌⊎◌}
use Rattle.nam_calls.specs.declared.lock.LockPoint.{LockPoint}
use Rattle.nam_calls.specs.declared.lock.LockPoint.TheVariants.{GiveBack, Peek, Seize}
use Rattle.nam_calls.specs.declared.ring.SlotPoint.TheVariants.{CheckCount}
use Rattle.nam_catalog.specs.declared.form.Form.{Form}
use Rattle.nam_catalog.specs.declared.shape.Shape.{Shape}
use Rattle.nam_ghost.proofs.RecordLemmas.{free_says}
use Rattle.nam_ghost.specs.Copiers.{Aside, Copier, copier_at, copier_now, copying_at, has_copied}
use Rattle.nam_ghost.specs.Holders.{Holds, holder_at, record_row}
use Rattle.nam_ghost.specs.Slots.{Ring}
use Rattle.nam_ghost.specs.Steps.{at_record, commit_chains, given_back, locked_for}
use Rattle.nam_ghost.specs.Versions.{Chain, record_image}
use Rattle.nam_header.specs.Stamp.{is_locked}
use Rattle.nam_layout.specs.Rows.{width_at}
use Rattle.nam_layout.specs.declared.field.Field.{Field}
use Rattle.nam_layout.specs.declared.field.Field.TheVariants.{Header}
use Rattle.nam_layout.specs.declared.field.Place.{Place}
use Rattle.nam_protocol.proofs.FieldLemmas.{placed}
use Rattle.nam_protocol.proofs.GoesCommit.{GoesTo, commit_goes, holding_locks}
use Rattle.nam_protocol.specs.CallWrites.{commit_writes}
use Rattle.nam_protocol.specs.Commit.{commit_after, commit_verb, go, record_place}
use Rattle.nam_protocol.specs.FieldLaw.{IsRowPlace}
use Rattle.nam_protocol.specs.Own.{StageAt}
use Rattle.nam_protocol.specs.Txn.{Stepped, over}
use Rattle.nam_protocol.specs.declared.txn.CommitPoint.{CommitPoint}
use Rattle.nam_protocol.specs.declared.txn.CommitPoint.TheVariants.{Checking, Clearing, Ending, Freeing, Listing}
use Rattle.nam_protocol.specs.declared.txn.CommitPoint.TheVariants.{Locking, Publishing, Returning}
use Rattle.nam_protocol.specs.declared.txn.ListPoint.{ListPoint}
use Rattle.nam_protocol.specs.declared.txn.ListPoint.TheVariants.{ListData, ListKind, ListNumber, ListRow, ListState}
use Rattle.nam_protocol.specs.declared.txn.Refusal.{Refusal}
use Rattle.nam_protocol.specs.declared.txn.TxnAnswer.{TxnAnswer}
use Rattle.nam_protocol.specs.declared.txn.TxnState.{TxnState}
use Rattle.nam_slots.proofs.OwnLemmas.{CommitKnown, flag_none}
use Rattle.nam_slots.proofs.SpotLemmas.{chain_changes, none_changes}
use Rattle.nam_slots.specs.Change.{RowsChange, Turns}
use Rattle.nam_slots.specs.Spots.{AllSame, written_spot}
use Rattle.nam_verbs.proofs.TestLemmas.{by_equal}
use Rattle.nam_verbs.specs.VerbAt.{found_at}

-- a point after which the commit has found no slot free, and copies nothing
abbrev pub IsAsidePoint : CommitPoint → Type 0
IsAsidePoint (Listing at) = Unit {0}
IsAsidePoint (Locking at) = Unit {0}
IsAsidePoint (Returning given full) = Unit {0}
IsAsidePoint Publishing = Unit {0}
IsAsidePoint (Freeing nth) = Unit {0}
IsAsidePoint (Clearing refusal) = Unit {0}
IsAsidePoint Ending = Unit {0}
IsAsidePoint _ = ⊥

abbrev pub IsLocking : CommitPoint → Type 0
IsLocking (Locking at) = Unit {0}
IsLocking _ = ⊥

abbrev pub IsAsideCopier : Copier → Type 0
IsAsideCopier copier = (copier.checked ≡ 0) × (copier.copying ≡ Aside)

-- 1. Where it goes on

module _ (worker : ℕ) (state : TxnState) where
  abbrev After : Stepped → Type 0
  After step = IsAsideCopier (copier_now worker step.state step.call)

  aside_next : (at next : CommitPoint) → IsAsidePoint at → GoesTo (λ step. Unit {0}) state at next
      → After (go state next)
  aside_next (Listing at) next aside goes =
      ⊎_elim (λ (z : (later : ListPoint) × (next ≡ Listing later)).
      subst (λ n. After (go state n)) (sym z.1) (refl, refl))
      (λ e. subst (λ n. After (go state n)) (sym e) (refl, refl)) goes
  aside_next (Locking at) next aside goes =
      ⊎_elim (λ (z : (later : LockPoint) × (next ≡ Locking later)).
      subst (λ n. After (go state n)) (sym z.1) (refl, refl))
      (λ (z : (refusal : Refusal) × (next ≡ Clearing refusal)).
      subst (λ n. After (go state n)) (sym z.1) (refl, refl)) goes
  aside_next (Returning given full) next aside goes =
      ⊎_elim (λ (z : (later : ℕ) × (next ≡ Returning later full)).
      subst (λ n. After (go state n)) (sym z.1) (refl, refl))
      (λ e. subst (λ n. After (go state n)) (sym e) (refl, refl)) goes
  aside_next Publishing next aside goes =
      ⊎_elim (λ e. subst (λ n. After (go state n)) (sym e) (refl, refl))
      (λ e. subst (λ n. After (go state n)) (sym e) (refl, refl)) goes
  aside_next (Freeing nth) next aside goes =
      ⊎_elim (λ e. subst (λ n. After (go state n)) (sym e) (refl, refl))
      (λ e. subst (λ n. After (go state n)) (sym e) (refl, refl)) goes
  aside_next (Clearing refusal) next aside goes = absurd goes
  aside_next Ending next aside goes = absurd goes
  aside_next _ next aside goes = absurd aside

  no_seizing : (at : CommitPoint) (header : ℕ) → at ≡ Locking (Seize header) → IsLocking at
  no_seizing at header e = subst IsLocking (sym e) tt

  -- with one lock more no number is found yet
  one_locked : (headers : List ℕ) (next : CommitPoint) → length state.counts ≡ 0
      → (next ≡ Locking Peek) ⊎ (next ≡ Checking CheckCount) → After (go (holding_locks state headers) next)
  one_locked headers next none goes =
      ⊎_elim (λ e. subst (λ n. After (go (holding_locks state headers) n)) (sym e) (refl, refl))
      (λ e. subst (λ n. After (go (holding_locks state headers) n)) (sym e) (none, refl)) goes

  pub aside_after : (at : CommitPoint) (found : ℕ) → IsAsidePoint at → (IsLocking at → length state.counts ≡ 0)
      → After (commit_after state at found)
  aside_after at found aside none =
      commit_goes After state at found (λ next goes. aside_next at next aside (same_goes at next goes))
      (λ header next e goes. one_locked (state.held ++ header ∷ []) next (none (no_seizing at header e)) goes)
      (λ slot count next e goes. absurd (subst IsAsidePoint e aside)) (λ answer e. over_aside answer)
    where
      over_aside : (answer : TxnAnswer) → After (over state answer)
      over_aside answer = (refl, refl)

      same_goes : (at next : CommitPoint) → GoesTo After state at next → GoesTo (λ step. Unit {0}) state at next
      same_goes at next goes = goes

-- 2. What becomes of each row

module _ (shape : Shape) (m now : Field → ℕ) (chains : ℕ → Chain) (rings : ℕ → Ring) (nth : ℕ) (state : TxnState)
    (Flagged : ℕ → ℕ → Type 0) where
  abbrev Changes : (ℕ → Chain) → Type 0
  Changes later = RowsChange shape m now nth chains rings Flagged later rings

  -- a lock is given back
  module _ (at : CommitPoint) (known : CommitKnown shape m chains rings nth state at)
      (quiet : has_copied (copying_at state at) ≡ false) (same : AllSame shape m now) where
    gives : (p : ℕ) → Holds (holder_at state at) p → Changes (at_record state p chains given_back)
    gives p holds =
        let row = record_row state p in
        chain_changes shape m now nth chains rings Flagged row (given_back (chains row)) same
        (λ is. Turns (same row is)
        (λ other e. let a = (known.own.held p holds).holder_is in let b = known.own.worker in omega arith) refl refl
        (λ dirty. (known.slots row is).dirty dirty)
        (λ free. flag_none shape m chains rings (copier_at state at) known.claim quiet p holds) (λ e. e))

    -- a lock is taken
    takes : (header : ℕ) → let p = length state.held in IsRowPlace shape (record_place state p)
        → is_locked (record_place state p).form header ≡ false → m (Header (record_row state p)) ≡ header
        → Changes (at_record state p chains (locked_for state.worker))
    takes header place_is unlocked found =
        let row = record_row state (length state.held) in
        let is = place_is.row_is in
        let form = ap (λ (place : Place). place.form) place_is.place_is in
        let free : (chains row).holder ≡ 0 =
        free_says shape.form shape.workers (width_at shape.tables row) (record_image m row) (chains row)
        known.limits.most_workers (known.locked row is)
        (ap (is_locked shape.form) found ∙ ap (λ (f : Form). is_locked f header) (sym form) ∙ unlocked) in
        chain_changes shape m now nth chains rings Flagged row (locked_for state.worker (chains row)) same
        (λ inside. Turns (same row inside) (λ other e. absurd (omega arith)) refl refl
        (λ dirty. (known.slots row inside).dirty dirty) (λ none. (known.slots row inside).free free) (λ e. e))

  list_nowhere : (at : ListPoint) → written_spot (commit_writes state (Listing at)) ≡ None
  list_nowhere (ListRow nth) = refl
  list_nowhere (ListKind nth) = refl
  list_nowhere (ListData nth word) = refl
  list_nowhere ListNumber = refl
  list_nowhere ListState = refl

  pub aside_nowhere : (at : CommitPoint) → IsAsidePoint at → written_spot (commit_writes state at) ≡ None
  aside_nowhere (Listing at) aside = list_nowhere at
  aside_nowhere (Locking Peek) aside = refl
  aside_nowhere (Locking (Seize header)) aside = refl
  aside_nowhere (Locking (GiveBack given found)) aside = refl
  aside_nowhere (Returning given full) aside = refl
  aside_nowhere Publishing aside = refl
  aside_nowhere (Freeing nth) aside = refl
  aside_nowhere (Clearing refusal) aside = refl
  aside_nowhere Ending aside = refl
  aside_nowhere _ aside = absurd aside

  pub aside_changes : (at : CommitPoint) → IsAsidePoint at → CommitKnown shape m chains rings nth state at
      → StageAt state at → AllSame shape m now
      → Changes (commit_chains state at (found_at m (commit_verb state at)) chains)
  aside_changes (Listing at) aside known stage same = none_changes shape m now nth chains rings Flagged same
  aside_changes (Locking Peek) aside known stage same = none_changes shape m now nth chains rings Flagged same
  aside_changes (Locking (Seize header)) aside known stage same =
      let p = length state.held in
      let found = m (Header (record_row state p)) in
      by_equal Changes found header (at_record state p chains (locked_for state.worker)) chains
      (λ e. takes (Locking (Seize header)) known refl same header
      (placed shape known.limits state known.fits known.point.0 p known.point.2.0) stage.0 e)
      (λ e. none_changes shape m now nth chains rings Flagged same)
  aside_changes (Locking (GiveBack given found)) aside known stage same =
      let less = known.point.2.0.1 in
      gives (Locking (GiveBack given found)) known refl same given record { begins = omega arith; ends = less }
  aside_changes (Returning given full) aside known stage same =
      let all = known.point.2.0 in let less = known.point.2.1 in
      gives (Returning given full) known refl same given record { begins = omega arith; ends = omega arith }
  aside_changes Publishing aside known stage same = none_changes shape m now nth chains rings Flagged same
  aside_changes (Freeing p) aside known stage same =
      let all = known.point.2.0 in let less = known.point.2.3 in
      gives (Freeing p) known refl same p record { begins = omega arith; ends = omega arith }
  aside_changes (Clearing refusal) aside known stage same = none_changes shape m now nth chains rings Flagged same
  aside_changes Ending aside known stage same = none_changes shape m now nth chains rings Flagged same
  aside_changes _ aside known stage same = absurd aside
