-- Each word of the copy of a current version into its slot: the mark, the end, the data, and the header, which ends it.
use Rattle.std.proofs.Common.{List, None, Some, ap, arith, false, length, refl, subst, sym, ℕ, ⊎_elim, ◌+◌, ◌<◌, ◌∙◌}
use Rattle.std.proofs.Common.{◌≡◌, ◌≢◌, ◌≤◌}
use Rattle.std.proofs.lemmas.Bool.{cases_lt}
use Rattle.std.specs.Prelude.{slice_index}
use Rattle.nam_calls.specs.Record.{install_begin}
use Rattle.nam_calls.specs.declared.ring.CopyPoint.{CopyPoint}
use Rattle.nam_calls.specs.declared.ring.CopyPoint.TheVariants.{CopyEnding, CopyHead, CopyMark, CopyWord}
use Rattle.nam_catalog.specs.declared.form.Form.{Form}
use Rattle.nam_catalog.specs.declared.shape.Shape.{Shape}
use Rattle.nam_ghost.specs.Copiers.{CopierOk, CopyOk, Fills, checked_at, copier_at, copying_at, current_slot}
use Rattle.nam_ghost.specs.Copiers.{has_copied, is_before}
use Rattle.nam_ghost.specs.Holders.{from_at, record_row}
use Rattle.nam_ghost.specs.Slots.{Ring, copy_of, marked, with_copy}
use Rattle.nam_ghost.specs.Steps.{at_ring, commit_rings, record_slot}
use Rattle.nam_ghost.specs.Versions.{Chain, slot_image}
use Rattle.nam_header.specs.Stamp.{mark, stamp_word}
use Rattle.nam_layout.specs.Place.{place_at}
use Rattle.nam_layout.specs.declared.field.Field.{Field}
use Rattle.nam_layout.specs.declared.field.Field.TheVariants.{SlotEnd, SlotHeader, SlotWord}
use Rattle.nam_layout.specs.declared.field.Place.{Place}
use Rattle.nam_protocol.proofs.GivesCommit.{commit_gives}
use Rattle.nam_protocol.specs.Commit.{commit_after, commit_verb, on_copy, own_stamp, record_place, value_at}
use Rattle.nam_protocol.specs.declared.txn.CommitPoint.{CommitPoint}
use Rattle.nam_protocol.specs.declared.txn.CommitPoint.TheVariants.{Copying, Installing}
use Rattle.nam_protocol.specs.declared.txn.TxnState.{TxnState}
use Rattle.nam_slots.proofs.CopyPoints.{Comes, goes_on, slot_changes, works_copying}
use Rattle.nam_slots.proofs.HandLemmas.{alone, copied_is, free_here, hand_place, held_some, holds, in_ring, knows}
use Rattle.nam_slots.proofs.HandLemmas.{slot_inside, slot_is}
use Rattle.nam_slots.proofs.OwnLemmas.{CommitKnown}
use Rattle.nam_slots.proofs.SlotLemmas.{slot_copied}
use Rattle.nam_slots.specs.Change.{CopiesNow, FillsSlot, MarksSlot, RowsChange}
use Rattle.nam_slots.specs.Spots.{slot_spot}
use Rattle.nam_store.proofs.Lists.{put_beside, put_here}
use Rattle.nam_store.specs.Changed.{Changed}
use Rattle.nam_store.specs.Everyone.{put}
use Rattle.nam_verbs.proofs.TestLemmas.{by_equal}
use Rattle.nam_verbs.specs.VerbAt.{left_at, target}
use Rattle.nam_verbs.specs.declared.now.Now.TheVariants.{At}

module _ (shape : Shape) (m now : Field → ℕ) (chains : ℕ → Chain) (rings : ℕ → Ring) (nth : ℕ) (state : TxnState)
    (Flagged : ℕ → ℕ → Type 0) (p : ℕ) (old : List ℕ) where
  abbrev row : ℕ
  row = record_row state p

  abbrev slot : ℕ
  slot = current_slot shape chains (record_row state p)

  abbrev Goes : (ℕ → Ring) → CommitPoint → Type 0
  Goes next at =
      RowsChange shape m now nth chains rings Flagged chains next × CopierOk shape now chains next (copier_at state at)

  abbrev Known : CopyPoint → Type 0
  Known at = CommitKnown shape m chains rings nth state (Copying p old at)

  -- its number's slot is the current version's
  slot_of_hand : (at : CopyPoint) → Known at → record_slot state p ≡ slot
  slot_of_hand at known =
      slot_is shape m chains rings nth state (Copying p old at) known p
      (works_copying shape m now chains rings nth state Flagged p old at known)

  -- 1. The mark

  marks : Known CopyMark → Changed shape m now (SlotHeader row slot) mark
      → Goes (at_ring row rings (marked slot)) (Copying p old CopyEnding)
  marks known changed =
      let at = Copying p old CopyMark in
      let works = works_copying shape m now chains rings nth state Flagged p old CopyMark known in
      let ring = marked slot (rings row) in
      let next = put rings row ring in
      let here = put_here rings row ring in
      let others : (other : ℕ) → other ≢ row → next other ≡ rings other = put_beside rings row ring in
      let uncopied = copied_is shape m chains rings nth state at known p works in (
        slot_changes shape m now chains rings nth state Flagged p old CopyMark known (SlotHeader row slot) mark changed
            refl ring
            (λ beside. MarksSlot slot (in_ring shape m chains rings nth state at known p works) beside
            (alone shape m chains rings nth state at known p works) changed.here
            (free_here shape m chains rings nth state at known p works refl) uncopied)
            next here others,
        goes_on shape m now chains rings nth state Flagged p old CopyMark known next ring here others
            (Copying p old CopyEnding) refl refl refl uncopied
            (knows shape m chains rings nth state at known p works, put_here (rings row).kept slot None),
      )

  -- 2. A word behind the mark

  module _ (at : CopyPoint) (known : Known at) (field : Field) (word : ℕ) (changed : Changed shape m now field word)
      (spot : slot_spot field ≡ Some (row, slot)) (empty : (rings row).kept slot ≡ None)
      (header : now (SlotHeader row slot) ≡ m (SlotHeader row slot))
      (uncopied : has_copied (copying_at state (Copying p old at)) ≡ false) where
    fills : (goes : CommitPoint) → from_at state goes ≡ p → checked_at state goes ≡ length state.counts
        → is_before (copying_at state goes) ≡ false → has_copied (copying_at state goes) ≡ false
        → CopyOk (place_at shape row) (chains row) (own_stamp state) (slot_image now row slot) ((rings row).kept slot)
        (copying_at state goes) → Goes rings goes
    fills goes from checked past copying copies =
        let works = works_copying shape m now chains rings nth state Flagged p old at known in (
          slot_changes shape m now chains rings nth state Flagged p old at known field word changed spot (rings row)
              (λ beside. FillsSlot slot
              (in_ring shape m chains rings nth state (Copying p old at) known p works) beside
              (alone shape m chains rings nth state (Copying p old at) known p works) header empty)
              rings refl (λ other apart. refl),
          goes_on shape m now chains rings nth state Flagged p old at known rings (rings row) refl
              (λ other apart. refl) goes from checked past
              (copied_is shape m chains rings nth state (Copying p old at) known p works ∙ uncopied ∙ sym copying)
              copies,
        )

  ends : Known CopyEnding
      → Changed shape m now (SlotEnd row slot) (stamp_word (record_place state p).form (own_stamp state))
      → Goes rings (Copying p old (CopyWord 0))
  ends known changed =
      let at = Copying p old CopyEnding in
      let works = works_copying shape m now chains rings nth state Flagged p old CopyEnding known in
      let ok = knows shape m chains rings nth state at known p works in
      let is = slot_inside shape m chains rings nth state at known p works in
      let place = hand_place shape m chains rings nth state at known p works in
      let form = ap (λ (place : Place). place.form) place.place_is in
      fills CopyEnding known (SlotEnd row slot) (stamp_word (record_place state p).form (own_stamp state)) changed refl
      ok.1 (changed.others (SlotHeader row slot) is (λ e. cc)) refl (Copying p old (CopyWord 0)) refl refl refl refl (
        ok.0,
        ok.1,
        omega arith,
        changed.here ∙ ap (λ (f : Form). stamp_word f (own_stamp state)) form,
        λ word less. absurd (omega arith),
      )

  word_apart : (a b : ℕ) → a < b → SlotWord row slot a ≡ SlotWord row slot b → ⊥
  word_apart a b less e = let same = ap number_of e in omega arith
    where
      number_of : Field → ℕ
      number_of (SlotWord row slot nth) = nth
      number_of _ = 0

  words : (word : ℕ) → Known (CopyWord word)
      → Changed shape m now (SlotWord row slot word) (slice_index old word)
      → Comes shape m now chains rings nth state Flagged rings (commit_after state (Copying p old (CopyWord word)) 0)
  words word known changed =
      let at = Copying p old (CopyWord word) in
      let works = works_copying shape m now chains rings nth state Flagged p old (CopyWord word) known in
      let ok = knows shape m chains rings nth state at known p works in
      let is = slot_inside shape m chains rings nth state at known p works in
      let place = hand_place shape m chains rings nth state at known p works in
      let wide = ap (λ (place : Place). place.width) place.place_is in
      let narrow = known.point.2.4 in
      let more : CopyOk (place_at shape row) (chains row) (own_stamp state) (slot_image now row slot)
      ((rings row).kept slot) (Fills old (word + 1)) = (
        ok.0,
        ok.1,
        omega arith,
        changed.others (SlotEnd row slot) is (λ e. cc) ∙ ok.3,
        λ a less. ⊎_elim
            (λ (before : a < word).
            changed.others (SlotWord row slot a) (is, omega arith) (λ e. word_apart a word before e) ∙ ok.4 a before)
            (λ (least : word ≤ a). let e : a ≡ word = omega arith in
            subst (λ x. now (SlotWord row slot x) ≡ slice_index old x) (sym e) changed.here) (cases_lt a word),
      ) in
      let go_on = fills (CopyWord word) known (SlotWord row slot word) (slice_index old word) changed refl ok.1
      (changed.others (SlotHeader row slot) is (λ e. cc)) refl in
      by_equal (λ next. Comes shape m now chains rings nth state Flagged rings (on_copy state p old next))
      (word + 1) (record_place state p).width (At CopyHead) (At (CopyWord (word + 1)))
      (λ last. go_on (Copying p old CopyHead) refl refl refl refl
      (subst (λ x. CopyOk (place_at shape row) (chains row) (own_stamp state) (slot_image now row slot)
      ((rings row).kept slot) (Fills old x)) last more))
      (λ less. go_on (Copying p old (CopyWord (word + 1))) refl refl refl refl more)

  -- 3. The header

  heads : Known CopyHead → Changed shape m now (SlotHeader row slot) (slice_index state.held p)
      → Goes (at_ring row rings (with_copy (chains row) (own_stamp state) slot))
      (Installing p (install_begin (value_at state p)))
  heads known changed =
      let at = Copying p old CopyHead in
      let works = works_copying shape m now chains rings nth state Flagged p old CopyHead known in
      let chain = chains row in
      let ok = knows shape m chains rings nth state at known p works in
      let is = slot_inside shape m chains rings nth state at known p works in
      let place = hand_place shape m chains rings nth state at known p works in
      let wide = ap (λ (place : Place). place.width) place.place_is in
      let ring = with_copy chain (own_stamp state) slot (rings row) in
      let next = put rings row ring in
      let here = put_here rings row ring in
      let others : (other : ℕ) → other ≢ row → next other ≡ rings other = put_beside rings row ring in
      let uncopied = copied_is shape m chains rings nth state at known p works in
      let whole = slot_copied (place_at shape row) slot (slot_image now row slot) chain (own_stamp state)
      (slice_index old) refl
      (changed.here ∙ (known.own.held p (holds shape m chains rings nth state at known p works)).header_is)
      (known.locked row is.0).fits (commit_gives shape known.limits state at known.fits known.point).stamp
      (changed.others (SlotEnd row slot) is (λ e. cc) ∙ ok.3) ok.0
      (λ word less. changed.others (SlotWord row slot word) (is, less) (λ e. cc) ∙ ok.4 word (omega arith)) in (
        slot_changes shape m now chains rings nth state Flagged p old CopyHead known (SlotHeader row slot)
            (slice_index state.held p) changed refl ring
            (λ beside. CopiesNow (own_stamp state) beside (alone shape m chains rings nth state at known p works) whole
            ok.1 uncopied (held_some shape m chains rings nth state at known p works))
            next here others,
        goes_on shape m now chains rings nth state Flagged p old CopyHead known next ring here others
            (Installing p (install_begin (value_at state p))) refl refl refl refl
            record {
              kept = copy_of chain (own_stamp state);
              is = put_here (rings row).kept slot (Some (copy_of chain (own_stamp state)));
              number_is = refl;
              version_is = refl;
              next_is = refl;
            },
      )

  -- 4. Each of them

  pub copying_comes : (at : CopyPoint) → Known at
      → (let verb = commit_verb state (Copying p old at) in Changed shape m now (target verb) (left_at m verb))
      → Comes shape m now chains rings nth state Flagged (commit_rings state (Copying p old at) chains rings)
      (commit_after state (Copying p old at) 0)
  copying_comes CopyMark known changed =
      subst (λ u. Changed shape m now (SlotHeader row u) mark
      → Goes (at_ring row rings (marked u)) (Copying p old CopyEnding)) (sym (slot_of_hand CopyMark known))
      (marks known) changed
  copying_comes CopyEnding known changed =
      ends known (subst (λ u. Changed shape m now (SlotEnd row u)
      (stamp_word (record_place state p).form (own_stamp state))) (slot_of_hand CopyEnding known) changed)
  copying_comes (CopyWord word) known changed =
      words word known (subst (λ u. Changed shape m now (SlotWord row u word) (slice_index old word))
      (slot_of_hand (CopyWord word) known) changed)
  copying_comes CopyHead known changed =
      subst (λ u. Changed shape m now (SlotHeader row u) (slice_index state.held p)
      → Goes (at_ring row rings (with_copy (chains row) (own_stamp state) u))
      (Installing p (install_begin (value_at state p)))) (sym (slot_of_hand CopyHead known)) (heads known) changed
