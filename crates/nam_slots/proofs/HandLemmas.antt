-- The record that a commit copies and installs: what is known of it, and what stays of that after a word there.
use Rattle.std.proofs.Common.{Bool, ap, arith, false, length, refl, subst, sym, true, ℕ, ⊎_elim, ◌+◌, ◌<◌, ◌∙◌, ◌≡◌}
use Rattle.std.proofs.Common.{◌≢◌}
use Rattle.std.proofs.lemmas.Bool.{cases_eq, true≢false}
use Rattle.std.specs.Prelude.{slice_index}
use Rattle.nam_catalog.specs.declared.shape.Shape.{Shape}
use Rattle.nam_ghost.specs.Copiers.{Copier, CopierOk, CopyOk, CopyState, checked_at, copier_at, copying_at}
use Rattle.nam_ghost.specs.Copiers.{current_slot, has_copied, is_before}
use Rattle.nam_ghost.specs.Holders.{Holds, counts_at, from_at, holder_at, record_row}
use Rattle.nam_ghost.specs.Slots.{IsFreeSlot, Ring, home}
use Rattle.nam_ghost.specs.Steps.{record_slot}
use Rattle.nam_ghost.specs.Versions.{Chain, current_number, slot_image}
use Rattle.nam_layout.proofs.LimitLemmas.{place_within_limits}
use Rattle.nam_layout.specs.Address.{IsRow, IsSlot}
use Rattle.nam_layout.specs.Place.{place_at}
use Rattle.nam_layout.specs.Rows.{ring_at}
use Rattle.nam_layout.specs.declared.field.Field.{Field}
use Rattle.nam_protocol.proofs.FieldLemmas.{placed, written_less}
use Rattle.nam_protocol.specs.Commit.{own_stamp, record_place}
use Rattle.nam_protocol.specs.FieldLaw.{IsRowPlace}
use Rattle.nam_protocol.specs.declared.txn.CommitPoint.{CommitPoint}
use Rattle.nam_protocol.specs.declared.txn.TxnState.{TxnState}
use Rattle.nam_slots.proofs.CheckPoints.{counted_slot}
use Rattle.nam_slots.proofs.OwnLemmas.{CommitKnown, flag_from, flag_other, parts_ok}
use Rattle.nam_slots.specs.Change.{IsAlone}

-- the commit is at its record p, of which the slot was found free
pub record Works (state : TxnState) (at : CommitPoint) (p : ℕ) : Type 0 where
  pub from_is : from_at state at ≡ p
  pub checked_is : checked_at state at ≡ length state.counts
  pub counts_is : counts_at state at ≡ state.counts
  pub all : length state.held ≡ length state.records
  pub counted : length state.counts ≡ length state.writes
  pub less : p < length state.writes

module _ (shape : Shape) (m : Field → ℕ) (chains : ℕ → Chain) (rings : ℕ → Ring) (nth : ℕ) (state : TxnState)
    (at : CommitPoint) (known : CommitKnown shape m chains rings nth state at) (p : ℕ) (works : Works state at p) where
  abbrev pub hand : ℕ
  hand = record_row state p

  abbrev pub hand_slot : ℕ
  hand_slot = current_slot shape chains (record_row state p)

  abbrev copier : Copier
  copier = copier_at state at

  -- 1. What is known before the word

  pub record_less : p < length state.records
  record_less = written_less shape known.limits state known.fits known.point.0 p works.less

  pub holds : Holds (holder_at state at) p
  holds =
      let from = works.from_is in let all = works.all in let less = record_less in
      record { begins = omega arith; ends = omega arith }

  holds_first : Holds (holder_at state at) (from_at state at)
  holds_first = subst (Holds (holder_at state at)) (sym works.from_is) holds

  pub inside : IsRow shape hand
  inside = known.own.inside p holds

  pub hand_place : IsRowPlace shape (record_place state p)
  hand_place = placed shape known.limits state known.fits known.point.0 p record_less

  pub in_ring : hand_slot < ring_at shape.tables hand
  in_ring = let least = (place_within_limits shape hand known.limits inside).least_ring in omega arith

  pub slot_inside : IsSlot shape hand hand_slot
  slot_inside = (inside, in_ring)

  pub slot_is : record_slot state p ≡ hand_slot
  slot_is =
      counted_slot shape m chains rings nth state at known p (slice_index state.counts p) holds record_less
      (let counts = ap length works.counts_is in let counted = works.counted in let less = works.less in omega arith)
      (ap (λ xs. slice_index xs p) works.counts_is)

  held_by : (chains hand).holder ≡ nth + 1
  held_by = (known.own.held p holds).holder_is ∙ known.own.worker

  pub alone : IsAlone nth (chains hand)
  alone other e = let by = held_by in omega arith

  pub held_some : (chains hand).holder ≢ 0
  held_some none = let by = held_by in omega arith

  pub knows : CopyOk (place_at shape hand) (chains hand) (own_stamp state) (slot_image m hand hand_slot)
      ((rings hand).kept hand_slot) (copying_at state at)
  knows =
      subst (λ x. let row = record_row state x in let slot = current_slot shape chains row in
      CopyOk (place_at shape row) (chains row) (own_stamp state) (slot_image m row slot) ((rings row).kept slot)
      (copying_at state at)) works.from_is (known.claim.copies holds_first)

  pub copied_is : (rings hand).copied ≡ has_copied (copying_at state at)
  copied_is =
      subst (λ x. (rings (record_row state x)).copied ≡ has_copied (copying_at state at)) works.from_is
      (flag_from shape m chains rings (copier_at state at) known.claim holds_first)

  pub free_here : is_before (copying_at state at) ≡ true → IsFreeSlot ((rings hand).kept hand_slot)
  free_here before =
      let checked = works.checked_is in let counted = works.counted in let less = works.less in
      known.claim.free p holds (omega arith) (λ e. before)

  -- before it is copied no data word is written
  pub undirty : has_copied (copying_at state at) ≡ false → (chains hand).dirty ≡ false
  undirty quiet = by_dirty (chains hand).dirty refl
    where
      by_dirty : (b : Bool) → (chains hand).dirty ≡ b → b ≡ false
      by_dirty true e = absurd (true≢false (sym ((known.slots hand inside).dirty e) ∙ copied_is ∙ quiet))
      by_dirty false e = refl

  -- 2. After a word there: the other records that it holds are what they were

  module _ (now : Field → ℕ) (later : ℕ → Chain) (next : ℕ → Ring)
      (others : (other : ℕ) → other ≢ record_row state p → (later other ≡ chains other) × (next other ≡ rings other))
    where
      other_row : (r : ℕ) → Holds (holder_at state at) r → r ≢ p → record_row state r ≢ hand
      other_row r is apart = known.own.apart r p is holds apart

      pub other_uncopied : (r : ℕ) → Holds (holder_at state at) r → r ≢ p → (next (record_row state r)).copied ≡ false
      other_uncopied r is apart =
          ap (λ (x : Ring). x.copied) (others (record_row state r) (other_row r is apart)).1
          ∙ flag_other shape m chains rings (copier_at state at) known.claim r is (λ e. apart (e ∙ works.from_is))

      pub other_free : (r : ℕ) → Holds (holder_at state at) r → r ≢ p → r < length state.counts
          → IsFreeSlot ((next (record_row state r)).kept (current_slot shape later (record_row state r)))
      other_free r is apart less =
          let row = record_row state r in
          let same = others row (other_row r is apart) in
          let checked = works.checked_is in
          subst (λ (x : Ring). IsFreeSlot (x.kept (current_slot shape later row))) (sym same.1)
          (subst (λ (c : Chain). IsFreeSlot ((rings row).kept (home (place_at shape row) (current_number c))))
          (sym same.0)
          (known.claim.free r is (omega arith) (λ e. absurd (apart (e ∙ works.from_is)))))

      module _ (chain : Chain) (ring : Ring) (chain_is : later (record_row state p) ≡ chain)
          (ring_is : next (record_row state p) ≡ ring) where
        abbrev Knows : CopyState → Type 0
        Knows copying = let slot = home (place_at shape hand) (current_number chain) in
            CopyOk (place_at shape hand) chain (own_stamp state) (slot_image now hand slot) (ring.kept slot) copying

        -- it stays at that record
        pub stays_there : (goes : CommitPoint) → from_at state goes ≡ p → checked_at state goes ≡ length state.counts
            → ring.copied ≡ has_copied (copying_at state goes)
            → (is_before (copying_at state goes) ≡ true
            → IsFreeSlot (ring.kept (home (place_at shape hand) (current_number chain))))
            → Knows (copying_at state goes) → CopierOk shape now later next (copier_at state goes)
        stays_there goes from checked copied free copies =
            let was : (r : ℕ) → Holds (holder_at state goes) r → Holds (holder_at state at) r = λ r is.
            record { begins = (let a = is.begins in let b = works.from_is in omega arith); ends = is.ends } in
            parts_ok shape now later next (copier_at state goes)
            (λ r is apart. other_uncopied r (was r is) (λ e. apart (e ∙ sym from)))
            (λ is. subst (λ x. (next (record_row state x)).copied ≡ has_copied (copying_at state goes)) (sym from)
            (ap (λ (x : Ring). x.copied) ring_is ∙ copied))
            (λ r is less before. ⊎_elim
            (λ (e : r ≡ p). subst (λ x. let row = record_row state x in
            IsFreeSlot ((next row).kept (current_slot shape later row))) (sym e)
            (by_hand (λ c x. IsFreeSlot (x.kept (home (place_at shape hand) (current_number c))))
            (free (before (e ∙ sym from)))))
            (λ (apart : r ≢ p). other_free r (was r is) apart (omega arith)) (cases_eq r p))
            (λ is. subst (λ x. let row = record_row state x in let slot = current_slot shape later row in
            CopyOk (place_at shape row) (later row) (own_stamp state) (slot_image now row slot) ((next row).kept slot)
            (copying_at state goes)) (sym from)
            (by_hand (λ c x. let slot = home (place_at shape hand) (current_number c) in
            CopyOk (place_at shape hand) c (own_stamp state) (slot_image now hand slot) (x.kept slot)
            (copying_at state goes)) copies))
          where
            by_hand : (P : Chain → Ring → Type 0) → P chain ring → P (later hand) (next hand)
            by_hand P is =
                subst (λ (c : Chain). P c (next hand)) (sym chain_is) (subst (λ (x : Ring). P chain x) (sym ring_is) is)
