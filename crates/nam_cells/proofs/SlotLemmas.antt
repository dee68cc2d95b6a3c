-- What a mover learns of the version in a slot, by the slot's header.
use Rattle.std.proofs.Common.{None, Option, Some, ap, false, refl, subst, sym, ℕ, ◌<◌, ◌∙◌, ◌≡◌}
use Rattle.std.proofs.lemmas.Bool.{true≢false}
use Rattle.std.specs.Prelude.{Bool}
use Rattle.nam_catalog.specs.Fits.{FitsLimits}
use Rattle.nam_catalog.specs.declared.shape.Shape.{Shape}
use Rattle.nam_ghost.proofs.RowLemmas.{kept_ends}
use Rattle.nam_ghost.proofs.ValueLemmas.{mark_moved, old_says}
use Rattle.nam_ghost.specs.Cells.{end_at}
use Rattle.nam_ghost.specs.Copiers.{RowRing}
use Rattle.nam_ghost.specs.Slots.{Kept, KeptOk, Ring, SlotIs}
use Rattle.nam_ghost.specs.Upkeep.{MoveBegun}
use Rattle.nam_ghost.specs.Versions.{Chain, IsNth, Version, old_header, old_word, slot_image}
use Rattle.nam_header.specs.Header.{header_of}
use Rattle.nam_header.specs.Stamp.{is_moved, mark}
use Rattle.nam_header.specs.declared.header.Header.{Header}
use Rattle.nam_layout.proofs.LimitLemmas.{place_within_limits}
use Rattle.nam_layout.specs.Address.{IsRow}
use Rattle.nam_layout.specs.Place.{place_at}
use Rattle.nam_layout.specs.Rows.{ring_at}
use Rattle.nam_layout.specs.declared.field.Field.{Field}
use Rattle.nam_layout.specs.declared.field.Field.TheVariants.{SlotHeader}

module _ (shape : Shape) (limits : FitsLimits shape) (m : Field → ℕ) (chains : ℕ → Chain) (rings : ℕ → Ring)
    (row : ℕ) (is : IsRow shape row) (ring : RowRing shape m row (chains row) (rings row)) (slot : ℕ)
    (less : slot < ring_at shape.tables row) where
  abbrev Keeps : Kept → Type 0
  Keeps kept = (rings row).kept slot ≡ Some kept

  pub kept_there : (kept : Kept) → (rings row).kept slot ≡ Some kept
      → KeptOk (place_at shape row) slot (slot_image m row slot) (chains row) kept
  kept_there kept at =
      subst (SlotIs (place_at shape row) slot (slot_image m row slot) (chains row)) at (ring.slots slot less)

  -- its end
  pub next_is : (kept : Kept) → (rings row).kept slot ≡ Some kept
      → kept.next ≡ end_at shape chains rings row kept.number
  next_is kept at =
      kept_ends (place_at shape row) (place_within_limits shape row limits is).least_ring (slot_image m row)
      (chains row) (rings row) ring slot less kept at

  kept_says : (kept : Kept) → (rings row).kept slot ≡ Some kept
      → header_of shape.form (m (SlotHeader row slot)) ≡ old_header kept.moved kept.version
  kept_says kept at =
      let ok = kept_there kept at in
      ap (header_of shape.form) ok.header_is ∙ old_says shape.form kept.moved kept.version ok.fits

  -- an unmoved header is a version's
  pub head_begins : is_moved shape.form (m (SlotHeader row slot)) ≡ false
      → (kept : Kept) × ((rings row).kept slot ≡ Some kept)
      × MoveBegun shape chains rings row slot (m (SlotHeader row slot)) kept.number kept.version
  head_begins unmoved = by_slot ((rings row).kept slot) refl
    where
      by_slot : (o : Option Kept) → (rings row).kept slot ≡ o
          → (kept : Kept) × ((rings row).kept slot ≡ Some kept)
          × MoveBegun shape chains rings row slot (m (SlotHeader row slot)) kept.number kept.version
      by_slot None at =
          let marked : m (SlotHeader row slot) ≡ mark =
          subst (SlotIs (place_at shape row) slot (slot_image m row slot) (chains row)) at (ring.slots slot less) in
          absurd (true≢false (sym (mark_moved shape.form) ∙ ap (is_moved shape.form) (sym marked) ∙ unmoved))
      by_slot (Some kept) at =
          let ok = kept_there kept at in
          let flat : kept.moved ≡ false = ap (λ (h : Header). h.moved) (sym (kept_says kept at)) ∙ unmoved in (
            kept,
            at,
            record {
              version_is = ok.version_is;
              was_copied = ring.behind slot less kept at;
              home_is = ok.home_is;
              fits = ok.fits;
              header_is = ok.header_is ∙ ap (λ (b : Bool). old_word shape.form b kept.version) flat;
            },
          )

  -- where the header that was read stands there, so does its version
  pub again_there : ((a b : ℕ) (u v : Version) → IsNth (chains row) a u → IsNth (chains row) b v
      → u.stamp ≡ v.stamp → a ≡ b) → (header number : ℕ) (version : Version)
      → MoveBegun shape chains rings row slot header number version → m (SlotHeader row slot) ≡ header
      → (kept : Kept) × ((rings row).kept slot ≡ Some kept) × (kept.number ≡ number)
  again_there once header number version begun e =
      let says : header_of shape.form (m (SlotHeader row slot)) ≡ old_header false version =
      ap (header_of shape.form) (e ∙ begun.header_is) ∙ old_says shape.form false version begun.fits in
      let there = head_begins (ap (λ (h : Header). h.moved) says) in
      let kept = there.0 in (
        kept,
        there.1,
        once kept.number number kept.version version there.2.version_is begun.version_is
            (ap (λ (h : Header). h.stamp) (sym (kept_says kept there.1) ∙ says)),
      )
