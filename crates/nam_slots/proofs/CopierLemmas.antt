-- A step of one client: each slot is as it is claimed to be, and what all other clients know as copiers stays.
use Rattle.std.proofs.Common.{List, None, Option, Some, ap, arith, option_map, refl, subst, sym, true, ℕ, ⊎_elim, ◌+◌}
use Rattle.std.proofs.Common.{◌<◌, ◌∙◌, ◌≡◌, ◌⊎◌}
use Rattle.std.proofs.lemmas.Option.{slice_get-map}
use Rattle.nam_calls.specs.Memory.{memory}
use Rattle.nam_catalog.specs.Fits.{FitsLimits}
use Rattle.nam_catalog.specs.declared.shape.Shape.{Shape}
use Rattle.nam_ghost.proofs.IdleLemmas.{copier_holds}
use Rattle.nam_ghost.specs.Copiers.{Aside, Copied, Copier, CopierOk, CopyOk, CopyState, EndNext, Fills, IsCopy}
use Rattle.nam_ghost.specs.Copiers.{MarkNext, Saves, SlotsOk, copier_of, current_slot}
use Rattle.nam_ghost.specs.Holders.{Holds, holder_of}
use Rattle.nam_ghost.specs.Locks.{HolderOk, LocksOk}
use Rattle.nam_ghost.specs.Slots.{IsFreeSlot, Kept, Ring, home, moved_of}
use Rattle.nam_ghost.specs.Versions.{Chain, SlotImage, Version, current_number, slot_image}
use Rattle.nam_layout.proofs.LimitLemmas.{place_within_limits}
use Rattle.nam_layout.specs.Address.{IsRow}
use Rattle.nam_layout.specs.Place.{place_at}
use Rattle.nam_layout.specs.declared.field.Field.{Field}
use Rattle.nam_layout.specs.declared.field.Place.{Place}
use Rattle.nam_protocol.specs.declared.client.ClientState.{ClientState}
use Rattle.nam_slots.proofs.RingLemmas.{ring_goes, row_spared}
use Rattle.nam_slots.specs.Change.{RowSpared, RowsChange}
use Rattle.nam_store.proofs.Lists.{everyone_set}
use Rattle.nam_store.specs.Store.{Store, client_at, with_client}
use Rattle.si_model.specs.declared.log.Stamp.{Stamp}

-- 1. What a copier knows stays under a moved flag

module _ (was is : Option Kept) (goes : (is ≡ was) ⊎ (is ≡ moved_of was)) where
  free_stays : IsFreeSlot was → IsFreeSlot is
  free_stays free =
      ⊎_elim (λ (e : is ≡ was). subst IsFreeSlot (sym e) free)
      (λ (e : is ≡ moved_of was). subst IsFreeSlot (sym e) (of was free)) goes
    where
      of : (kept : Option Kept) → IsFreeSlot kept → IsFreeSlot (moved_of kept)
      of None free = tt
      of (Some kept) free = refl

  none_stays : was ≡ None → is ≡ None
  none_stays none = ⊎_elim (λ (e : is ≡ was). e ∙ none) (λ (e : is ≡ moved_of was). e ∙ ap moved_of none) goes

  copy_stays : (number : ℕ) (version : Version) (next : Stamp) → IsCopy number version next was
      → IsCopy number version next is
  copy_stays number version next copy =
      ⊎_elim (λ (e : is ≡ was). subst (IsCopy number version next) (sym e) copy)
      (λ (e : is ≡ moved_of was). record {
        kept = record (copy.kept) { moved = true };
        is = e ∙ ap moved_of copy.is;
        number_is = copy.number_is;
        version_is = copy.version_is;
        next_is = copy.next_is;
      }) goes

  copying_stays : (place : Place) (chain : Chain) (next : Stamp) (image later : SlotImage)
      → later.ending ≡ image.ending → ((word : ℕ) → word < place.width → later.body word ≡ image.body word)
      → (copying : CopyState) → CopyOk place chain next image was copying → CopyOk place chain next later is copying
  copying_stays place chain next image later ending body Aside ok = ok
  copying_stays place chain next image later ending body (Saves got) ok = ok
  copying_stays place chain next image later ending body (MarkNext old) ok = ok
  copying_stays place chain next image later ending body (EndNext old) ok = (ok.0, none_stays ok.1)
  copying_stays place chain next image later ending body (Fills old words) ok = (
    ok.0,
    none_stays ok.1,
    ok.2,
    ending ∙ ok.3,
    λ word less. let most = ok.2 in body word (omega arith) ∙ ok.4 word less,
  )
  copying_stays place chain next image later ending body Copied ok =
      copy_stays (current_number chain) chain.now next ok

-- 2. What another client knows as a copier stays, where the rows that it holds are spared

module _ (shape : Shape) (limits : FitsLimits shape) (m now : Field → ℕ) (chains later : ℕ → Chain)
    (rings next : ℕ → Ring) where
  abbrev Spared : ℕ → Type 0
  Spared row =
      RowSpared (place_at shape row) (slot_image m row) (slot_image now row) (chains row) (rings row) (later row)
      (next row)

  copier_spared : (nth : ℕ) (copier : Copier) → HolderOk shape m chains nth copier.holder
      → ((row : ℕ) → IsRow shape row → (chains row).holder ≡ nth + 1 → Spared row)
      → CopierOk shape m chains rings copier → CopierOk shape now later next copier
  copier_spared nth copier own spared ok =
      let row = copier.holder.row in
      let mine : (p : ℕ) → Holds copier.holder p → Spared (row p) = λ p holds.
      spared (row p) (own.inside p holds) ((own.held p holds).holder_is ∙ own.worker) in
      record {
        flag_is = λ p holds. (mine p holds).copied ∙ ok.flag_is p holds;
        free = λ p holds less before.
            let slot = current_slot shape chains (row p) in
            subst (λ (c : Chain). IsFreeSlot ((next (row p)).kept (home (place_at shape (row p)) (current_number c))))
            (sym (mine p holds).chain_is)
            (free_stays ((rings (row p)).kept slot) ((next (row p)).kept slot) ((mine p holds).kept slot)
            (ok.free p holds less before));
        copies = λ holds.
            let r = row copier.holder.from in
            let slot = current_slot shape chains r in
            let place = place_at shape r in
            let z = mine copier.holder.from holds in
            let least = (place_within_limits shape r limits (own.inside copier.holder.from holds)).least_ring in
            let short : slot < place.ring = omega arith in
            subst (λ (c : Chain). let u = home (place_at shape r) (current_number c) in
            CopyOk (place_at shape r) c copier.holder.stamp (slot_image now r u) ((next r).kept u) copier.copying)
            (sym z.chain_is)
            (copying_stays ((rings r).kept slot) ((next r).kept slot) (z.kept slot) place (chains r)
            copier.holder.stamp (slot_image m r slot) (slot_image now r slot) (z.ending slot short)
            (λ word less. z.body slot word short less) copier.copying (ok.copies holds));
      }

-- 3. The group

-- each client is a holder
pub owned : (shape : Shape) (store : Store) (chains : ℕ → Chain) → LocksOk shape store chains → (nth : ℕ)
    (client : ClientState) → client_at store nth ≡ Some client
    → HolderOk shape (memory shape store.words) chains nth (copier_of client).holder
owned shape store chains locks nth client here =
    subst (HolderOk shape (memory shape store.words) chains nth) (sym (copier_holds client))
    (locks.each nth (holder_of client) (slice_get-map holder_of store.clients nth ∙ ap (option_map holder_of) here))

module _ (shape : Shape) (limits : FitsLimits shape) (store : Store) (chains : ℕ → Chain) (rings : ℕ → Ring)
    (locks : LocksOk shape store chains) (ok : SlotsOk shape store chains rings) where
  pub slots_act : (nth : ℕ) (words : List ℕ) (after : ClientState) (Flagged : ℕ → ℕ → Type 0) (later : ℕ → Chain)
      (next : ℕ → Ring) → let m = memory shape store.words in let now = memory shape words in
      RowsChange shape m now nth chains rings Flagged later next → CopierOk shape now later next (copier_of after)
      → SlotsOk shape (with_client (record store { words = words }) nth after) later next
  slots_act nth words after Flagged later next goes own =
      let m = memory shape store.words in
      let now = memory shape words in
      record {
        rows = λ row is.
            ring_goes (place_at shape row) (place_within_limits shape row limits is).least_ring (slot_image m row)
            (slot_image now row) (chains row) (rings row) (ok.rows row is) nth (Flagged row) (later row) (next row)
            (goes row is);
        copiers =
            everyone_set (λ j client. CopierOk shape m chains rings (copier_of client))
            (λ j client. CopierOk shape now later next (copier_of client)) store.clients nth after ok.copiers
            (λ j client apart here o.
            copier_spared shape limits m now chains later rings next j (copier_of client)
            (owned shape store chains locks j client here)
            (λ row is held.
            row_spared (place_at shape row) (slot_image m row) (slot_image now row) nth (Flagged row) (chains row)
            (rings row) j apart held (later row) (next row) (goes row is)) o)
            own;
      }
