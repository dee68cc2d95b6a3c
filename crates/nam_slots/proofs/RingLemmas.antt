-- A row under each thing that one verb may make of it: its slots are as they are claimed to be, it goes on as all
-- others rely on, and what another client knows of a row that it holds is spared.
use Rattle.std.proofs.Common.{None, Option, Some, [], ap, arith, false, inl, inr, length, refl, subst, suc, sym, true}
use Rattle.std.proofs.Common.{zero, ℕ, ⊎_elim, ◌++◌, ◌+◌, ◌<◌, ◌∙◌, ◌∷◌, ◌≡◌, ◌≢◌, ◌≤◌, ◌⊎◌}
use Rattle.std.proofs.lemmas.Bool.{cases_eq, true≢false}
use Rattle.std.proofs.lemmas.List.{length_push}
use Rattle.std.proofs.lemmas.Option.{none-some, same_Some}
use Rattle.nam_ghost.specs.Copiers.{IsCopy}
use Rattle.nam_ghost.specs.Slots.{Copies, Flags, Idles, Keeps, Kept, Marks, Renews, Ring, RingOk, RowNext, SlotIs}
use Rattle.nam_ghost.specs.Slots.{copied_count, copy_of, flagged, home, moved_of}
use Rattle.nam_ghost.specs.Versions.{Chain, SlotImage, Version, current_number, versions}
use Rattle.nam_header.specs.Header.{flag}
use Rattle.nam_layout.specs.declared.field.Place.{Place}
use Rattle.nam_slots.proofs.SlotLemmas.{slot_flagged, slot_grown, slot_same}
use Rattle.nam_slots.specs.Change.{BesideSlot, CopiesNow, FillsSlot, FlagsSlot, Installs, MarksSlot, RowChange}
use Rattle.nam_slots.specs.Change.{RowSpared, SameSlots, Stays, Turns}
use Rattle.nam_store.proofs.Lists.{put_cases, put_here}
use Rattle.nam_store.specs.Everyone.{put}

-- 1. Slots as they are claimed to be

module _ (place : Place) (some : 1 ≤ place.ring) (images now : ℕ → SlotImage) (chain : Chain) (ring : Ring)
    (ok : RingOk place images chain ring) where
  -- the words of all slots, and the versions, are what they were
  ring_same : (later : Chain) → SameSlots place images now → versions later ≡ versions chain → later.old ≡ chain.old
      → (later.dirty ≡ true → ring.copied ≡ true) → (later.holder ≡ 0 → ring.copied ≡ false)
      → RingOk place now later ring
  ring_same later same grown old dirty free = record {
    slots = λ slot less.
        slot_same place slot (images slot) (now slot) chain later (ring.kept slot) (same slot less) grown
        (ok.slots slot less);
    behind = λ slot less kept at. let b = ok.behind slot less kept at in let n = ap length old in omega arith;
    whole = λ copied. subst (λ n. Keeps (ring.kept (home place n)) n) (sym (ap length old)) (ok.whole copied);
    dirty = dirty;
    free = free;
  }

  -- one slot keeps something else
  slots_put : (slot : ℕ) (kept : Option Kept) → BesideSlot place images now slot
      → SlotIs place slot (now slot) chain kept → (other : ℕ) → other < place.ring
      → SlotIs place other (now other) chain (put ring.kept slot kept other)
  slots_put slot kept beside here other less =
      put_cases (SlotIs place other (now other) chain) ring.kept slot kept other
      (λ e. subst (λ u. SlotIs place u (now u) chain kept) (sym e) here)
      (λ apart. slot_same place other (images other) (now other) chain chain (ring.kept other)
      (beside other less apart) refl (ok.slots other less))

  -- and none keeps a version that wasn't copied
  behind_put : (slot count : ℕ) (kept : Option Kept) → copied_count chain ring ≤ count
      → ((version : Kept) → kept ≡ Some version → version.number < count) → (other : ℕ) → other < place.ring
      → (version : Kept) → put ring.kept slot kept other ≡ Some version → version.number < count
  behind_put slot count kept least here other less version at =
      put_cases (λ (o : Option Kept). o ≡ Some version → version.number < count) ring.kept slot kept other
      (λ e is. here version is) (λ apart is. let b = ok.behind other less version is in omega arith) at

  -- a version that is flagged stays
  flagged_keeps : (slot number : ℕ) → Keeps (ring.kept slot) number → Keeps (moved_of (ring.kept slot)) number
  flagged_keeps slot number keeps = (record (keeps.0) { moved = true }, ap moved_of keeps.1, keeps.2)

  flagged_below : (slot : ℕ) → slot < place.ring → (kept : Option Kept) → ring.kept slot ≡ kept → (version : Kept)
      → moved_of kept ≡ Some version → version.number < copied_count chain ring
  flagged_below slot short None at version is = absurd (none-some version is)
  flagged_below slot short (Some kept) at version is =
      let same : kept.number ≡ version.number =
      ap (λ (k : Kept). k.number) (same_Some (record kept { moved = true }) version is) in
      let b = ok.behind slot short kept at in omega arith

  pub ring_goes : (nth : ℕ) (Flagged : ℕ → Type 0) (later : Chain) (next : Ring)
      → RowChange place images now nth Flagged chain ring later next → RingOk place now later next
  ring_goes nth Flagged _ _ (Stays same) = ring_same chain same refl refl ok.dirty ok.free
  ring_goes nth Flagged later _ (Turns same alone old now_is dirty free clean) =
      ring_same later same (λ k. old k ++ now_is k ∷ []) old dirty free
  ring_goes nth Flagged _ _ (MarksSlot slot short beside alone header free uncopied) = record {
    slots = slots_put slot None beside header;
    behind = behind_put slot (copied_count chain ring) None (omega arith) (λ version is. absurd (none-some version is));
    whole = λ copied. absurd (true≢false (sym copied ∙ uncopied));
    dirty = ok.dirty;
    free = ok.free;
  }
  ring_goes nth Flagged _ _ (FillsSlot slot short beside alone header empty) = record {
    slots = λ other less. ⊎_elim
        (λ (e : other ≡ slot). subst (λ u. SlotIs place u (now u) chain (ring.kept u)) (sym e)
        (subst (SlotIs place slot (now slot) chain) (sym empty)
        (header ∙ subst (SlotIs place slot (images slot) chain) empty (ok.slots slot short))))
        (λ (apart : other ≢ slot). slot_same place other (images other) (now other) chain chain (ring.kept other)
        (beside other less apart) refl (ok.slots other less)) (cases_eq other slot);
    behind = ok.behind;
    whole = ok.whole;
    dirty = ok.dirty;
    free = ok.free;
  }
  ring_goes nth Flagged _ _ (CopiesNow next beside alone whole empty uncopied held) =
      let slot = home place (current_number chain) in
      let none = ap flag uncopied in
      record {
        slots = slots_put slot (Some (copy_of chain next)) beside whole;
        behind = behind_put slot (current_number chain + 1) (Some (copy_of chain next)) (omega arith)
            (λ version is. let same : current_number chain ≡ version.number =
            ap (λ (k : Kept). k.number) (same_Some (copy_of chain next) version is) in omega arith);
        whole = λ copied. (copy_of chain next, put_here ring.kept slot (Some (copy_of chain next)), refl);
        dirty = λ e. refl;
        free = λ none. absurd (held none);
      }
  ring_goes nth Flagged _ _ (FlagsSlot slot short beside header ending body elsewhere) = record {
    slots = slots_put slot (moved_of (ring.kept slot)) beside
        (slot_flagged place slot (images slot) (now slot) chain (ring.kept slot) header ending body
        (ok.slots slot short));
    behind = behind_put slot (copied_count chain ring) (moved_of (ring.kept slot)) (omega arith)
        (flagged_below slot short (ring.kept slot) refl);
    whole = λ copied. let number = current_number chain in
        put_cases (λ (o : Option Kept). Keeps o number) ring.kept slot (moved_of (ring.kept slot)) (home place number)
        (λ e. flagged_keeps slot number (subst (λ u. Keeps (ring.kept u) number) e (ok.whole copied)))
        (λ apart. ok.whole copied);
    dirty = ok.dirty;
    free = ok.free;
  }
  ring_goes nth Flagged later _ (Installs same alone old clean copied copy) = record {
    slots = λ slot less.
        slot_same place slot (images slot) (now slot) later later (ring.kept slot) (same slot less) refl
        (slot_grown place slot (images slot) chain later (ring.kept slot) old
        (λ e. subst (λ u. IsCopy (current_number chain) chain.now later.now.stamp (ring.kept u)) (sym e) copy)
        (ok.slots slot less));
    behind = λ slot less kept at.
        let b = ok.behind slot less kept at in
        let one = ap flag copied in
        let long = length_push chain.old chain.now in
        let n = ap length old in omega arith;
    whole = λ e. absurd (true≢false (sym e));
    dirty = λ e. absurd (true≢false (sym e ∙ clean));
    free = λ e. refl;
  }

  -- 2. It goes on as all others rely on

  module _ (Flagged : ℕ → Type 0) (New : Version → Type 0) where
    pub row_goes : (nth : ℕ) (later : Chain) (next : Ring) → (later.old ≡ versions chain → New later.now)
        → RowChange place images now nth Flagged chain ring later next
        → RowNext place Flagged New chain ring later next
    row_goes nth _ _ new (Stays same) = Idles refl refl (λ e. e)
    row_goes nth later _ new (Turns same alone old now_is dirty free clean) = Idles old now_is clean
    row_goes nth _ _ new (MarksSlot slot short beside alone header free uncopied) =
        Marks slot free (λ kept at. let b = ok.behind slot short kept at in let none = ap flag uncopied in omega arith)
    row_goes nth _ _ new (FillsSlot slot short beside alone header empty) = Idles refl refl (λ e. e)
    row_goes nth _ _ new (CopiesNow next beside alone whole empty uncopied held) = Copies next empty
    row_goes nth _ _ new (FlagsSlot slot short beside header ending body elsewhere) = Flags slot elsewhere
    row_goes nth later _ new (Installs same alone old clean copied copy) =
        Renews old (new old) (copy.kept, copy.is, copy.number_is)
        (λ kept at. ap (λ (k : Kept). k.next) (same_Some kept copy.kept (sym at ∙ copy.is)) ∙ copy.next_is)

-- 3. What another client knows of a row that it holds

module _ (place : Place) (images now : ℕ → SlotImage) (nth : ℕ) (Flagged : ℕ → Type 0) (chain : Chain)
    (ring : Ring) where
  abbrev Spared : Chain → Ring → Type 0
  Spared later next = RowSpared place images now chain ring later next

  same_spared : SameSlots place images now → Spared chain ring
  same_spared same = record {
    chain_is = refl;
    copied = refl;
    kept = λ slot. inl refl;
    ending = λ slot less. (same slot less).ending;
    body = λ slot word less short. (same slot less).body word short;
  }

  flag_spared : (slot : ℕ) → BesideSlot place images now slot → (now slot).ending ≡ (images slot).ending
      → ((word : ℕ) → word < place.width → (now slot).body word ≡ (images slot).body word)
      → Spared chain (flagged slot ring)
  flag_spared slot beside ending body = record {
    chain_is = refl;
    copied = refl;
    kept = λ other.
        put_cases (λ (o : Option Kept). (o ≡ ring.kept other) ⊎ (o ≡ moved_of (ring.kept other))) ring.kept slot
        (moved_of (ring.kept slot)) other (λ e. inr (ap (λ u. moved_of (ring.kept u)) (sym e))) (λ apart. inl refl);
    ending = λ other less. ⊎_elim
        (λ (e : other ≡ slot). subst (λ u. (now u).ending ≡ (images u).ending) (sym e) ending)
        (λ (apart : other ≢ slot). (beside other less apart).ending) (cases_eq other slot);
    body = λ other word less short. ⊎_elim
        (λ (e : other ≡ slot). subst (λ u. (now u).body word ≡ (images u).body word) (sym e) (body word short))
        (λ (apart : other ≢ slot). (beside other less apart).body word short) (cases_eq other slot);
  }

  pub row_spared : (other : ℕ) → other ≢ nth → chain.holder ≡ other + 1 → (later : Chain) (next : Ring)
      → RowChange place images now nth Flagged chain ring later next → Spared later next
  row_spared other apart held _ _ (Stays same) = same_spared same
  row_spared other apart held _ _ (Turns same alone old now_is dirty free clean) = absurd (apart (alone other held))
  row_spared other apart held _ _ (MarksSlot slot short beside alone header free uncopied) =
      absurd (apart (alone other held))
  row_spared other apart held _ _ (FillsSlot slot short beside alone header empty) = absurd (apart (alone other held))
  row_spared other apart held _ _ (CopiesNow next beside alone whole empty uncopied some) =
      absurd (apart (alone other held))
  row_spared other apart held _ _ (FlagsSlot slot short beside header ending body elsewhere) =
      flag_spared slot beside ending body
  row_spared other apart held _ _ (Installs same alone old clean copied copy) = absurd (apart (alone other held))

-- 4. A row that the nth client holds after its verb was free before, or was its own

pub was_held : (place : Place) (images now : ℕ → SlotImage) (nth : ℕ) (Flagged : ℕ → Type 0) (chain later : Chain)
    (ring next : Ring) → RowChange place images now nth Flagged chain ring later next → later.holder ≡ nth + 1
    → (chain.holder ≡ 0) ⊎ (chain.holder ≡ nth + 1)
was_held place images now nth Flagged chain later ring next goes held = by_kind goes held
  where
    by_holder : (n : ℕ) → ((other : ℕ) → n ≡ other + 1 → other ≡ nth) → (n ≡ 0) ⊎ (n ≡ nth + 1)
    by_holder zero alone = inl refl
    by_holder (suc n) alone = let same = alone n (omega arith) in inr (omega arith)

    by_kind : {c l : Chain} {r s : Ring} → RowChange place images now nth Flagged c r l s → l.holder ≡ nth + 1
        → (c.holder ≡ 0) ⊎ (c.holder ≡ nth + 1)
    by_kind (Stays same) held = inr held
    by_kind (Turns {chain} same alone old now_is dirty free clean) held = by_holder chain.holder alone
    by_kind (MarksSlot slot short beside alone header free uncopied) held = inr held
    by_kind (FillsSlot slot short beside alone header empty) held = inr held
    by_kind (CopiesNow next beside alone whole empty uncopied some) held = inr held
    by_kind (FlagsSlot slot short beside header ending body elsewhere) held = inr held
    by_kind (Installs {chain} same alone old clean copied copy) held = by_holder chain.holder alone
