-- What a commit knows as a copier before its word, and what it knows after one that copies nothing.
use Rattle.std.proofs.Common.{Bool, ap, arith, false, refl, subst, sym, true, ℕ, ⊎_elim, ◌&&◌, ◌+◌, ◌<◌, ◌∙◌, ◌≡◌, ◌≢◌}
use Rattle.std.proofs.lemmas.Bool.{eq-eqb, eqb-false, eqb-true}
use Rattle.std.specs.Prelude.{◌==◌}
use Rattle.nam_catalog.specs.Fits.{FitsLimits}
use Rattle.nam_catalog.specs.declared.shape.Shape.{Shape}
use Rattle.nam_ghost.specs.Copiers.{Aside, Copier, CopierOk, CopyOk, RowRing, copier_at, copying_at, current_slot}
use Rattle.nam_ghost.specs.Copiers.{has_copied, is_before, no_copier}
use Rattle.nam_ghost.specs.Holders.{Holds, holder_at}
use Rattle.nam_ghost.specs.Locks.{HolderOk, RowOk}
use Rattle.nam_ghost.specs.Slots.{IsFreeSlot, Ring}
use Rattle.nam_ghost.specs.Versions.{Chain, slot_image}
use Rattle.nam_layout.specs.Address.{IsRow}
use Rattle.nam_layout.specs.Place.{place_at}
use Rattle.nam_layout.specs.declared.field.Field.{Field}
use Rattle.nam_protocol.specs.TxnFits.{CommitFits, StateFits}
use Rattle.nam_protocol.specs.declared.txn.CommitPoint.{CommitPoint}
use Rattle.nam_protocol.specs.declared.txn.TxnState.{TxnState}
use Rattle.nam_slots.proofs.RingLemmas.{was_held}
use Rattle.nam_slots.specs.Change.{RowsChange}

and_true : (b : Bool) → (b && true) ≡ b
and_true true = refl
and_true false = refl

and_false : (b : Bool) → (b && false) ≡ false
and_false true = refl
and_false false = refl

-- 1. What a copier knows

pub none_ok : (shape : Shape) (m : Field → ℕ) (chains : ℕ → Chain) (rings : ℕ → Ring) (worker : ℕ)
    → CopierOk shape m chains rings (no_copier worker)
none_ok shape m chains rings worker = record {
  flag_is = λ p holds. let a = holds.ends in absurd (omega arith);
  free = λ p holds. let a = holds.ends in absurd (omega arith);
  copies = λ holds. tt;
}

module _ (shape : Shape) (m : Field → ℕ) (chains : ℕ → Chain) (rings : ℕ → Ring) (copier : Copier) where
  abbrev Copies : Type 0
  Copies = let row = copier.holder.row copier.holder.from in let slot = current_slot shape chains row in
      CopyOk (place_at shape row) (chains row) copier.holder.stamp (slot_image m row slot) ((rings row).kept slot)
      copier.copying

  abbrev Frees : ℕ → Type 0
  Frees p = let row = copier.holder.row p in IsFreeSlot ((rings row).kept (current_slot shape chains row))

  -- by the record at hand, and the others
  pub parts_ok : ((p : ℕ) → Holds copier.holder p → p ≢ copier.holder.from
      → (rings (copier.holder.row p)).copied ≡ false)
      → (Holds copier.holder copier.holder.from
      → (rings (copier.holder.row copier.holder.from)).copied ≡ has_copied copier.copying)
      → ((p : ℕ) → Holds copier.holder p → p < copier.checked
      → (p ≡ copier.holder.from → is_before copier.copying ≡ true) → Frees p)
      → (Holds copier.holder copier.holder.from → Copies)
      → CopierOk shape m chains rings copier
  parts_ok others from free copies = record {
    flag_is = λ p holds. by_from p holds (p == copier.holder.from) refl;
    free = free;
    copies = copies;
  }
    where
      by_from : (p : ℕ) → Holds copier.holder p → (b : Bool) → (p == copier.holder.from) ≡ b
          → (rings (copier.holder.row p)).copied ≡ (has_copied copier.copying && b)
      by_from p holds true e =
          let same = eqb-true p copier.holder.from e in
          subst (λ x. (rings (copier.holder.row x)).copied ≡ (has_copied copier.copying && true)) (sym same)
          (from (subst (Holds copier.holder) same holds) ∙ sym (and_true (has_copied copier.copying)))
      by_from p holds false e =
          others p holds (eqb-false p copier.holder.from e) ∙ sym (and_false (has_copied copier.copying))

  module _ (ok : CopierOk shape m chains rings copier) where
    pub flag_other : (p : ℕ) → Holds copier.holder p → p ≢ copier.holder.from
        → (rings (copier.holder.row p)).copied ≡ false
    flag_other p holds apart = by_from (p == copier.holder.from) refl
      where
        by_from : (b : Bool) → (p == copier.holder.from) ≡ b → (rings (copier.holder.row p)).copied ≡ false
        by_from true e = absurd (apart (eqb-true p copier.holder.from e))
        by_from false e =
            ok.flag_is p holds ∙ ap (λ b. has_copied copier.copying && b) e ∙ and_false (has_copied copier.copying)

    pub flag_from : Holds copier.holder copier.holder.from
        → (rings (copier.holder.row copier.holder.from)).copied ≡ has_copied copier.copying
    flag_from holds =
        let from = copier.holder.from in
        ok.flag_is from holds ∙ ap (λ b. has_copied copier.copying && b) (eq-eqb from from refl)
        ∙ and_true (has_copied copier.copying)

    -- one that has copied nothing
    pub flag_none : has_copied copier.copying ≡ false → (p : ℕ) → Holds copier.holder p
        → (rings (copier.holder.row p)).copied ≡ false
    flag_none none p holds = ok.flag_is p holds ∙ ap (λ b. b && (p == copier.holder.from)) none

-- 2. A commit at its point

module _ (shape : Shape) (m : Field → ℕ) (chains : ℕ → Chain) (rings : ℕ → Ring) (nth : ℕ)
    (state : TxnState) where
  -- what is known before the word
  pub record CommitKnown (at : CommitPoint) : Type 0 where
    pub limits : FitsLimits shape
    pub fits : StateFits shape state
    pub point : CommitFits shape state at
    pub locked : (row : ℕ) → IsRow shape row → RowOk shape m chains row
    pub slots : (row : ℕ) → IsRow shape row → RowRing shape m row (chains row) (rings row)
    pub own : HolderOk shape m chains nth (holder_at state at)
    pub claim : CopierOk shape m chains rings (copier_at state at)

module _ (shape : Shape) (m now : Field → ℕ) (chains later : ℕ → Chain) (rings : ℕ → Ring) (nth : ℕ)
    (state : TxnState) (at : CommitPoint) (known : CommitKnown shape m chains rings nth state at)
    (Flagged : ℕ → ℕ → Type 0) (goes : RowsChange shape m now nth chains rings Flagged later rings)
    (quiet : has_copied (copying_at state at) ≡ false) where
  -- what it holds after a word that copies nothing isn't copied: it was its own before, or free
  pub uncopied : (copier : Copier) → HolderOk shape now later nth copier.holder → (p : ℕ) → Holds copier.holder p
      → (rings (copier.holder.row p)).copied ≡ false
  uncopied copier own p holds =
      let row = copier.holder.row p in
      let is = own.inside p holds in
      ⊎_elim (λ (free : (chains row).holder ≡ 0). (known.slots row is).free free)
      (λ (mine : (chains row).holder ≡ nth + 1). let o = known.own.owns row is mine in
      subst (λ r. (rings r).copied ≡ false) o.2
      (flag_none shape m chains rings (copier_at state at) known.claim quiet o.0 o.1))
      (was_held (place_at shape row) (slot_image m row) (slot_image now row) nth (Flagged row) (chains row) (later row)
      (rings row) (rings row) (goes row is) ((own.held p holds).holder_is ∙ own.worker))

  -- it has found no slot free, and copies nothing
  pub aside_ok : (copier : Copier) → HolderOk shape now later nth copier.holder → copier.checked ≡ 0
      → copier.copying ≡ Aside → CopierOk shape now later rings copier
  aside_ok copier own unchecked aside = record {
    flag_is = λ p holds.
        uncopied copier own p holds ∙ sym (ap (λ c. has_copied c && (p == copier.holder.from)) aside);
    free = λ p holds less. absurd (omega arith);
    copies = λ holds.
        let row = copier.holder.row copier.holder.from in
        let slot = current_slot shape later row in
        subst
        (CopyOk (place_at shape row) (later row) copier.holder.stamp (slot_image now row slot) ((rings row).kept slot))
        (sym aside) tt;
  }
