-- What is claimed of slots, in words of slots alone.
use Rattle.std.proofs.Common.{None, Option, Some, ap, arith, refl, subst, sym, true, ℕ, ◌∙◌, ◌≡◌, ◌≢◌}
use Rattle.std.proofs.lemmas.Option.{none-some, same_Some}
use Rattle.std.specs.Prelude.{slice_get}
use Rattle.nam_calls.specs.Memory.{memory}
use Rattle.nam_catalog.specs.declared.shape.Shape.{Shape}
use Rattle.nam_ghost.proofs.ListLemmas.{got_end}
use Rattle.nam_ghost.proofs.RowLemmas.{slots_go}
use Rattle.nam_ghost.specs.Copiers.{CopierOk, IsCopy, copier_of, current_slot}
use Rattle.nam_ghost.specs.Ghost.{Ghost, ghost_step}
use Rattle.nam_ghost.specs.Holders.{record_row}
use Rattle.nam_ghost.specs.Locks.{HolderOk}
use Rattle.nam_ghost.specs.Slots.{GetsCopy, GetsFlag, GetsMark, IsFreeSlot, KeepsOn, Kept, KeptOk, SlotIs, SlotNext}
use Rattle.nam_ghost.specs.Slots.{copied_count}
use Rattle.nam_ghost.specs.Versions.{SlotImage, Version, current_number, slot_image, versions}
use Rattle.nam_header.specs.Stamp.{mark, stamp_word}
use Rattle.nam_layout.proofs.LimitLemmas.{place_within_limits}
use Rattle.nam_layout.specs.Address.{IsRow}
use Rattle.nam_layout.specs.Place.{place_at}
use Rattle.nam_layout.specs.declared.field.Field.{Field}
use Rattle.nam_layout.specs.declared.field.Field.TheVariants.{SlotEnd, SlotHeader}
use Rattle.nam_protocol.specs.Commit.{own_stamp}
use Rattle.nam_protocol.specs.Sorts.{committing_at}
use Rattle.nam_protocol.specs.declared.client.ClientState.{ClientState}
use Rattle.nam_protocol.specs.declared.txn.CommitPoint.TheVariants.{Installing}
use Rattle.nam_slots.proofs.CopierLemmas.{owned}
use Rattle.nam_slots.proofs.HandLemmas.{Works, inside, knows}
use Rattle.nam_slots.proofs.OwnLemmas.{CommitKnown}
use Rattle.nam_slots.proofs.SlotLemmas.{free_moved, mark_none}
use Rattle.nam_slots.proofs.StoreLemmas.{rows_next, slots_keep}
use Rattle.nam_slots.specs.SlotsLaw.{CopiedLaw, DirtyLaw, HoldsCurrent, HoldsWhole, MarkedLaw, RestsOn, WholeLaw}
use Rattle.nam_store.specs.Base.{ClientOk}
use Rattle.nam_store.specs.Store.{Store}
use Rattle.si_model.specs.declared.log.Stamp.{Stamp}

-- 1. A slot that keeps a version

module _ (shape : Shape) (store : Store) (ghost : Ghost) (row slot : ℕ) where
  abbrev image : SlotImage
  image = slot_image (memory shape store.words) row slot

  keeps_whole : (kept : Kept) → KeptOk (place_at shape row) slot image (ghost.chains row) kept
      → HoldsWhole shape store ghost.chains row slot kept.number kept.version
  keeps_whole kept is = record {
    moved = kept.moved;
    version_is = is.version_is;
    home_is = is.home_is;
    header_is = is.header_is;
    data_is = is.data_is;
    ending_is = λ next at. is.ending_is ∙ ap (stamp_word shape.form) (sym (is.next_is next at));
  }

  by_slot : (kept : Option Kept) → SlotIs (place_at shape row) slot image (ghost.chains row) kept
      → memory shape store.words (SlotHeader row slot) ≢ mark
      → (number : ℕ) × (version : Version) × HoldsWhole shape store ghost.chains row slot number version
  by_slot None is unmarked = absurd (unmarked is)
  by_slot (Some kept) is unmarked = (kept.number, kept.version, keeps_whole kept is)

pub whole_law : WholeLaw
whole_law shape store ghost ok row slot is unmarked =
    by_slot shape store ghost row slot ((ghost.rings row).kept slot) ((ok.rows row is.0).slots slot is.1) unmarked

-- 2. The current version in its slot

module _ (shape : Shape) (store : Store) (ghost : Ghost) (rests : RestsOn shape store ghost) (row : ℕ)
    (is : IsRow shape row) where
  abbrev slot : ℕ
  slot = current_slot shape ghost.chains row

  there : (kept : Kept) → (ghost.rings row).kept slot ≡ Some kept
      → KeptOk (place_at shape row) slot (slot_image (memory shape store.words) row slot) (ghost.chains row) kept
  there kept at =
      let least = (place_within_limits shape row rests.base.limits is).least_ring in
      subst (SlotIs (place_at shape row) slot (slot_image (memory shape store.words) row slot) (ghost.chains row)) at
      ((rests.slots.rows row is).slots slot (omega arith))

  current_whole : (kept : Kept) → (ghost.rings row).kept slot ≡ Some kept
      → kept.number ≡ current_number (ghost.chains row) → HoldsCurrent shape store ghost row
  current_whole kept at number =
      let ok = there kept at in
      let chain = ghost.chains row in
      let version = same_Some kept.version chain.now
      (sym ok.version_is ∙ ap (slice_get (versions chain)) number ∙ got_end chain.old chain.now) in
      subst (HoldsWhole shape store ghost.chains row slot (current_number chain)) version
      (subst (λ n. HoldsWhole shape store ghost.chains row slot n kept.version) number
      (keeps_whole shape store ghost row slot kept ok))

  dirty_whole : (ghost.chains row).dirty ≡ true → HoldsCurrent shape store ghost row
  dirty_whole dirty =
      let ring = rests.slots.rows row is in
      let whole = ring.whole (ring.dirty dirty) in
      current_whole whole.0 whole.1 whole.2

  copied_whole : (next : Stamp)
      → IsCopy (current_number (ghost.chains row)) (ghost.chains row).now next ((ghost.rings row).kept slot)
      → HoldsCurrent shape store ghost row
      × (memory shape store.words (SlotEnd row slot) ≡ stamp_word shape.form next)
  copied_whole next copy = (
    current_whole copy.kept copy.is copy.number_is,
    (there copy.kept copy.is).ending_is ∙ ap (stamp_word shape.form) copy.next_is,
  )

pub dirty_law : DirtyLaw
dirty_law shape store ghost rests row is dirty = dirty_whole shape store ghost rests row is dirty

pub copied_law : CopiedLaw
copied_law shape store ghost rests nth client here attempt opened p at runs =
    let m : Field → ℕ = memory shape store.words in
    let point = Installing p at in
    let is_at : client ≡ committing_at client attempt point = λ k. record client { call = runs k; txn = opened k } in
    let ok = subst (ClientOk shape nth) is_at (rests.base.clients nth client here) in
    let known : CommitKnown shape m ghost.chains ghost.rings nth attempt.state point = record {
      limits = rests.base.limits;
      fits = ok.fits.1;
      point = ok.fits.2;
      locked = rests.locks.rows;
      slots = rests.slots.rows;
      own = subst (λ (c : ClientState). HolderOk shape m ghost.chains nth (copier_of c).holder) is_at
          (owned shape store ghost.chains rests.locks nth client here);
      claim = subst (λ (c : ClientState). CopierOk shape m ghost.chains ghost.rings (copier_of c)) is_at
          (rests.slots.copiers nth client here);
    } in
    let works : Works attempt.state point p = record {
      from_is = refl;
      checked_is = refl;
      counts_is = refl;
      all = known.point.2.0;
      counted = known.point.2.1;
      less = known.point.2.2;
    } in
    copied_whole shape store ghost rests (record_row attempt.state p)
    (inside shape m ghost.chains ghost.rings nth attempt.state point known p works) (own_stamp attempt.state)
    (knows shape m ghost.chains ghost.rings nth attempt.state point known p works)

-- 3. A slot gets the mark only where it was free

goes_free : (copied : ℕ) (was is : Option Kept) → SlotNext copied was is → is ≡ None → IsFreeSlot was
goes_free copied was _ KeepsOn e = subst IsFreeSlot (sym e) tt
goes_free copied _ _ (GetsMark moved) e = moved
goes_free copied _ _ (GetsCopy {kept} number) e = absurd (none-some kept (sym e))
goes_free copied _ _ (GetsFlag {kept}) e = absurd (none-some (record kept { moved = true }) (sym e))

pub marked_law : MarkedLaw
marked_law shape before after goes ghost rests locks row slot is marks =
    let later = ghost_step shape before after goes ghost in
    let place = place_at shape row in
    let m : Field → ℕ = memory shape before.words in
    let now : Field → ℕ = memory shape after.words in
    let was = rests.slots.rows row is.0 in
    let ok = slots_keep shape before after goes ghost rests locks in
    let gone = mark_none place slot (slot_image now row slot) (later.chains row) ((later.rings row).kept slot) marks
    ((ok.rows row is.0).slots slot is.1) in
    let next = rows_next shape before after goes ghost rests locks (λ row number. Unit {0})
    (λ nth client here table key position slot header at stands kept there. tt) row is.0 (λ version. Unit {0})
    (λ grown. tt) in
    free_moved place slot (slot_image m row slot) (ghost.chains row) ((ghost.rings row).kept slot)
    (goes_free (copied_count (ghost.chains row) (ghost.rings row)) ((ghost.rings row).kept slot)
    ((later.rings row).kept slot)
    (slots_go place (place_within_limits shape row rests.base.limits is.0).least_ring (slot_image m row)
    (ghost.chains row) (ghost.rings row) was (λ number. Unit {0}) (λ version. Unit {0}) (later.chains row)
    (later.rings row) next slot is.1) gone)
    (was.slots slot is.1)
