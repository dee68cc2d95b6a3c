-- The points of a commit at which it reads the current version and copies it into its slot.
use Rattle.std.proofs.Common.{List, Some, [], ap, arith, false, length, refl, subst, sym, ℕ, ◌++◌, ◌∙◌, ◌∷◌, ◌≡◌, ◌≢◌}
use Rattle.std.proofs.lemmas.Bool.{true≢false}
use Rattle.std.specs.Prelude.{slice_index}
use Rattle.nam_calls.specs.declared.ring.CopyPoint.{CopyPoint}
use Rattle.nam_calls.specs.declared.ring.CopyPoint.TheVariants.{CopyMark}
use Rattle.nam_catalog.specs.declared.shape.Shape.{Shape}
use Rattle.nam_ghost.proofs.ValueLemmas.{got_more}
use Rattle.nam_ghost.specs.Copiers.{CopierOk, CopyOk, checked_at, copier_at, copier_now, copying_at, current_slot}
use Rattle.nam_ghost.specs.Copiers.{has_copied, is_before}
use Rattle.nam_ghost.specs.Holders.{from_at, record_row}
use Rattle.nam_ghost.specs.Slots.{Ring}
use Rattle.nam_ghost.specs.Versions.{Chain, HasData, HasGot, slot_image}
use Rattle.nam_layout.specs.Place.{place_at}
use Rattle.nam_layout.specs.Rows.{width_at}
use Rattle.nam_layout.specs.declared.field.Field.{Field}
use Rattle.nam_layout.specs.declared.field.Field.TheVariants.{Word}
use Rattle.nam_layout.specs.declared.field.Place.{Place}
use Rattle.nam_protocol.specs.Commit.{commit_after, on_words, own_stamp, record_place}
use Rattle.nam_protocol.specs.Txn.{Stepped}
use Rattle.nam_protocol.specs.declared.txn.CommitPoint.{CommitPoint}
use Rattle.nam_protocol.specs.declared.txn.CommitPoint.TheVariants.{Copying, Saving}
use Rattle.nam_protocol.specs.declared.txn.TxnState.{TxnState}
use Rattle.nam_slots.proofs.HandLemmas.{Works, copied_is, free_here, hand_place, inside, knows, stays_there, undirty}
use Rattle.nam_slots.proofs.OwnLemmas.{CommitKnown}
use Rattle.nam_slots.proofs.SpotLemmas.{none_changes, one_changes, rows_beside, slots_beside}
use Rattle.nam_slots.specs.Change.{BesideSlot, RowChange, RowsChange}
use Rattle.nam_slots.specs.Spots.{AllSame, slot_spot}
use Rattle.nam_store.specs.Changed.{Changed}
use Rattle.nam_verbs.proofs.TestLemmas.{by_equal}
use Rattle.nam_verbs.specs.declared.now.Now.{Now}
use Rattle.nam_verbs.specs.declared.now.Now.TheVariants.{At, Over}

module _ (shape : Shape) (m now : Field → ℕ) (chains : ℕ → Chain) (rings : ℕ → Ring) (nth : ℕ) (state : TxnState)
    (Flagged : ℕ → ℕ → Type 0) where
  -- what the word comes to, at the point that follows
  abbrev pub Comes : (ℕ → Ring) → Stepped → Type 0
  Comes next step =
      RowsChange shape m now nth chains rings Flagged chains next
      × CopierOk shape now chains next (copier_now state.worker step.state step.call)

  unchanged : (row : ℕ) (next : ℕ → Ring) → ((other : ℕ) → other ≢ row → next other ≡ rings other) → (other : ℕ)
      → other ≢ row → (chains other ≡ chains other) × (next other ≡ rings other)
  unchanged row next same other apart = (refl, same other apart)

  -- 1. A word of the current version is read

  module _ (p : ℕ) (got : List ℕ) (known : CommitKnown shape m chains rings nth state (Saving p got)) where
    works_saving : Works state (Saving p got) p
    works_saving = record {
      from_is = refl;
      checked_is = refl;
      counts_is = refl;
      all = known.point.2.0;
      counted = known.point.2.1;
      less = known.point.2.2;
    }

    abbrev row : ℕ
    row = record_row state p

    stays_saving : (goes : CommitPoint) → from_at state goes ≡ p → checked_at state goes ≡ length state.counts
        → has_copied (copying_at state goes) ≡ false
        → (let slot = current_slot shape chains row in
        CopyOk (place_at shape row) (chains row) (own_stamp state) (slot_image now row slot) ((rings row).kept slot)
        (copying_at state goes)) → CopierOk shape now chains rings (copier_at state goes)
    stays_saving goes from checked copying copies =
        stays_there shape m chains rings nth state (Saving p got) known p works_saving now chains rings
        (unchanged row rings (λ other apart. refl)) (chains row) (rings row) refl refl goes from checked
        (copied_is shape m chains rings nth state (Saving p got) known p works_saving ∙ sym copying)
        (λ before. free_here shape m chains rings nth state (Saving p got) known p works_saving refl) copies

    pub saving_comes : AllSame shape m now
        → Comes rings (commit_after state (Saving p got) (m (Word (record_row state p) (length got))))
    saving_comes same =
        let more = got ++ m (Word row (length got)) ∷ [] in
        let is = inside shape m chains rings nth state (Saving p got) known p works_saving in
        let place = hand_place shape m chains rings nth state (Saving p got) known p works_saving in
        let wide = ap (λ (place : Place). place.width) place.place_is in
        let clean = undirty shape m chains rings nth state (Saving p got) known p works_saving refl in
        let narrow = known.point.2.3 in
        let has : HasGot more (chains row).now.value =
        got_more (width_at shape.tables row) got (λ word. m (Word row word)) (chains row).now.value (omega arith)
        (knows shape m chains rings nth state (Saving p got) known p works_saving)
        ((known.locked row is).data_is clean) in (
          none_changes shape m now nth chains rings Flagged same,
          by_equal
              (λ (at : Now (List ℕ) (List ℕ)). let step = on_words state p at in
              CopierOk shape now chains rings (copier_now state.worker step.state step.call))
              (length more) (record_place state p).width (Over more) (At more)
              (λ all. stays_saving (Copying p more CopyMark) refl refl refl
              (subst (λ n. HasData n (slice_index more) (chains row).now.value) (all ∙ wide) has))
              (λ less. stays_saving (Saving p more) refl refl refl has),
        )

  -- 2. The copy

  module _ (p : ℕ) (old : List ℕ) (at : CopyPoint)
      (known : CommitKnown shape m chains rings nth state (Copying p old at)) where
    pub works_copying : Works state (Copying p old at) p
    works_copying = record {
      from_is = refl;
      checked_is = refl;
      counts_is = refl;
      all = known.point.2.0;
      counted = known.point.2.1;
      less = known.point.2.2;
    }

    abbrev hand_row : ℕ
    hand_row = record_row state p

    abbrev slot : ℕ
    slot = current_slot shape chains (record_row state p)

    -- a word of the slot is written
    pub slot_changes : (field : Field) (word : ℕ) → Changed shape m now field word
        → slot_spot field ≡ Some (hand_row, slot)
        → (ring : Ring) → (BesideSlot (place_at shape hand_row) (slot_image m hand_row) (slot_image now hand_row) slot
        → RowChange (place_at shape hand_row) (slot_image m hand_row) (slot_image now hand_row) nth (Flagged hand_row)
        (chains hand_row) (rings hand_row) (chains hand_row) ring)
        → (next : ℕ → Ring) → next hand_row ≡ ring → ((other : ℕ) → other ≢ hand_row → next other ≡ rings other)
        → RowsChange shape m now nth chains rings Flagged chains next
    slot_changes field word changed spot ring change next here others =
        one_changes shape m now nth chains rings Flagged hand_row (chains hand_row) ring
        (λ other is apart. rows_beside shape m now field word hand_row slot changed spot other is apart)
        (λ is. change (slots_beside shape m now field word hand_row slot changed spot is)) chains next refl here
        (unchanged hand_row next others)

    -- the claim at the point that follows
    pub goes_on : (next : ℕ → Ring) (ring : Ring) → next hand_row ≡ ring
        → ((other : ℕ) → other ≢ hand_row → next other ≡ rings other) → (goes : CommitPoint)
        → from_at state goes ≡ p → checked_at state goes ≡ length state.counts
        → is_before (copying_at state goes) ≡ false → ring.copied ≡ has_copied (copying_at state goes)
        → CopyOk (place_at shape hand_row) (chains hand_row) (own_stamp state) (slot_image now hand_row slot)
        (ring.kept slot) (copying_at state goes) → CopierOk shape now chains next (copier_at state goes)
    goes_on next ring here others goes from checked past copied copies =
        stays_there shape m chains rings nth state (Copying p old at) known p works_copying now chains next
        (unchanged hand_row next others) (chains hand_row) ring refl here goes from checked copied
        (λ before. absurd (true≢false (sym before ∙ past))) copies
