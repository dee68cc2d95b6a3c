-- The points of a commit at which it looks for free slots, and tells their counts: a slot that it has found free is so.
use Rattle.std.proofs.Common.{List, [], ap, arith, false, length, refl, sym, true, zero, ℕ, ◌++◌, ◌<◌, ◌∙◌, ◌∷◌, ◌≡◌}
use Rattle.std.specs.Prelude.{slice_index, ◌==◌}
use Rattle.nam_calls.proofs.GoesTests.{slot_goes}
use Rattle.nam_calls.specs.declared.ring.SlotPoint.TheVariants.{CheckCount, CheckHead}
use Rattle.nam_catalog.specs.declared.form.Form.{Form}
use Rattle.nam_catalog.specs.declared.shape.Shape.{Shape}
use Rattle.nam_ghost.proofs.ValueLemmas.{got_none}
use Rattle.nam_ghost.specs.Copiers.{Copier, CopierOk, copier_at, copier_now, copying_at, current_slot, has_copied}
use Rattle.nam_ghost.specs.Holders.{Holds, counts_at, holder_at, record_row}
use Rattle.nam_ghost.specs.Locks.{HolderOk}
use Rattle.nam_ghost.specs.Slots.{IsFreeSlot, Ring}
use Rattle.nam_ghost.specs.Versions.{Chain, slot_image}
use Rattle.nam_header.specs.Stamp.{is_moved}
use Rattle.nam_layout.proofs.LimitLemmas.{place_within_limits}
use Rattle.nam_layout.specs.Place.{place_at, slot_of}
use Rattle.nam_layout.specs.declared.field.Field.{Field}
use Rattle.nam_layout.specs.declared.field.Field.TheVariants.{SlotHeader}
use Rattle.nam_layout.specs.declared.field.Place.{Place}
use Rattle.nam_protocol.proofs.FieldLemmas.{placed}
use Rattle.nam_protocol.proofs.GoesCommit.{next_count_goes, with_count}
use Rattle.nam_protocol.specs.Commit.{checked, commit_after, go, lock_at, next_count, on_slot, record_place}
use Rattle.nam_protocol.specs.Commit.{tells_intent}
use Rattle.nam_protocol.specs.Txn.{Stepped}
use Rattle.nam_protocol.specs.declared.txn.CommitPoint.{CommitPoint}
use Rattle.nam_protocol.specs.declared.txn.CommitPoint.TheVariants.{Checking, Counting, Deciding, Returning, Saving}
use Rattle.nam_protocol.specs.declared.txn.TxnState.{TxnState}
use Rattle.nam_slots.proofs.OwnLemmas.{CommitKnown, aside_ok, uncopied}
use Rattle.nam_slots.proofs.SlotLemmas.{moved_free}
use Rattle.nam_slots.proofs.SpotLemmas.{none_changes}
use Rattle.nam_slots.specs.Change.{RowsChange}
use Rattle.nam_slots.specs.Spots.{AllSame}
use Rattle.nam_store.specs.Store.{step}
use Rattle.nam_verbs.proofs.TestLemmas.{by_test}
use Rattle.si_model.specs.declared.log.Lock.{Lock}

-- a point at which it has found the slots of the first records free, and copies nothing yet
abbrev pub IsChecked : CommitPoint → Type 0
IsChecked (Checking at) = Unit {0}
IsChecked (Counting nth) = Unit {0}
IsChecked Deciding = Unit {0}
IsChecked (Saving zero []) = Unit {0}
IsChecked _ = ⊥

module _ (shape : Shape) (m now : Field → ℕ) (chains : ℕ → Chain) (rings : ℕ → Ring) (nth : ℕ) (state : TxnState)
    (at : CommitPoint) (known : CommitKnown shape m chains rings nth state at) (Flagged : ℕ → ℕ → Type 0)
    (same : AllSame shape m now) (quiet : has_copied (copying_at state at) ≡ false) where
  goes : RowsChange shape m now nth chains rings Flagged chains rings
  goes = none_changes shape m now nth chains rings Flagged same

  -- the slots that it has found free, of a state with the same records
  abbrev pub FreeUpTo : ℕ → Type 0
  FreeUpTo count = (p : ℕ) → p < length state.held → p < count
      → let row = record_row state p in IsFreeSlot ((rings row).kept (current_slot shape chains row))

  abbrev Own : Copier → Type 0
  Own copier = HolderOk shape now chains nth copier.holder → CopierOk shape now chains rings copier

  abbrev OwnAfter : Stepped → Type 0
  OwnAfter step = Own (copier_now state.worker step.state step.call)

  checked_own : (counts : List ℕ) (next : CommitPoint) → IsChecked next → FreeUpTo (length counts)
      → Own (copier_at (record state { counts = counts }) next)
  checked_own counts (Checking slot) is free own = record {
    flag_is = uncopied shape m now chains chains rings nth state at known Flagged goes quiet
        (copier_at (record state { counts = counts }) (Checking slot)) own;
    free = λ p holds less before. free p holds.ends less;
    copies = λ holds. tt;
  }
  checked_own counts (Counting number) is free own = record {
    flag_is = uncopied shape m now chains chains rings nth state at known Flagged goes quiet
        (copier_at (record state { counts = counts }) (Counting number)) own;
    free = λ p holds less before. free p holds.ends less;
    copies = λ holds. tt;
  }
  checked_own counts Deciding is free own = record {
    flag_is = uncopied shape m now chains chains rings nth state at known Flagged goes quiet
        (copier_at (record state { counts = counts }) Deciding) own;
    free = λ p holds less before. free p holds.ends less;
    copies = λ holds. tt;
  }
  checked_own counts (Saving zero []) is free own = record {
    flag_is = uncopied shape m now chains chains rings nth state at known Flagged goes quiet
        (copier_at (record state { counts = counts }) (Saving 0 [])) own;
    free = λ p holds less before. free p holds.ends less;
    copies = λ holds. got_none (chains (record_row state 0)).now.value;
  }
  checked_own counts _ is free own = absurd is

  -- it returns what it has locked
  returned_own : (full : Lock) → Own (copier_at state (Returning 0 full))
  returned_own full own =
      aside_ok shape m now chains chains rings nth state at known Flagged goes quiet
      (copier_at state (Returning 0 full)) own refl refl

  pub counting_own : (number : ℕ) → FreeUpTo (length state.counts) → OwnAfter (next_count state number)
  counting_own number free =
      next_count_goes OwnAfter state number (λ e. checked_own state.counts Deciding tt free)
      (λ e. checked_own state.counts (Counting number) tt free)

  pub head_own : (count found : ℕ)
      → (is_moved (record_place state (length state.counts)).form found ≡ true
      → FreeUpTo (length (state.counts ++ count ∷ [])))
      → OwnAfter (commit_after state (Checking (CheckHead count)) found)
  head_own count found free =
      let counts = state.counts ++ count ∷ [] in
      let next = with_count state count in
      slot_goes (λ now. OwnAfter (on_slot state now)) (record_place state (length state.counts)) count found
      (λ moved. by_test OwnAfter (length next.counts == length state.writes) (checked next)
      (go next (Checking CheckCount))
      (λ all. by_test OwnAfter (tells_intent next) (go next (Counting 0)) (go next (Saving 0 []))
      (λ tells. checked_own counts (Counting 0) tt (free moved))
      (λ untold. checked_own counts (Saving 0 []) tt (free moved)))
      (λ more. checked_own counts (Checking CheckCount) tt (free moved)))
      (λ full. returned_own (lock_at state (length state.counts) found))

  pub plain_own : (next : CommitPoint) → IsChecked next → FreeUpTo (length state.counts) → Own (copier_at state next)
  plain_own next is free = checked_own state.counts next is free

-- The slot whose header is looked at is the current version's; with the moved flag it is free.
module _ (shape : Shape) (m : Field → ℕ) (chains : ℕ → Chain) (rings : ℕ → Ring) (nth : ℕ) (state : TxnState)
    (at : CommitPoint) (known : CommitKnown shape m chains rings nth state at) where
  module _ (p count : ℕ) (holds : Holds (holder_at state at) p) (less : p < length state.records)
      (counted : p < length (counts_at state at)) (count_is : slice_index (counts_at state at) p ≡ count) where
    pub counted_slot : slot_of (record_place state p) count ≡ current_slot shape chains (record_row state p)
    counted_slot =
        let row = placed shape known.limits state known.fits known.point.0 p less in
        let number = (known.own.held p holds).count_is counted in
        ap (λ (place : Place). slot_of place count) row.place_is
        ∙ ap (slot_of (place_at shape (record_row state p))) (sym count_is ∙ number)

    pub found_free : is_moved (record_place state p).form (m (SlotHeader (record_row state p)
        (slot_of (record_place state p) count))) ≡ true
        → let row = record_row state p in IsFreeSlot ((rings row).kept (current_slot shape chains row))
    found_free moved =
        let row = record_row state p in
        let is = known.own.inside p holds in
        let place = placed shape known.limits state known.fits known.point.0 p less in
        let slot = current_slot shape chains row in
        let least = (place_within_limits shape row known.limits is).least_ring in
        let form = ap (λ (place : Place). place.form) place.place_is in
        moved_free (place_at shape row) slot (slot_image m row slot) (chains row) ((rings row).kept slot)
        (ap (λ u. is_moved shape.form (m (SlotHeader row u))) (sym counted_slot)
        ∙ ap (λ (f : Form). is_moved f (m (SlotHeader row (slot_of (record_place state p) count)))) (sym form) ∙ moved)
        ((known.slots row is).slots slot (omega arith))
