-- What follows from what one step may make of a row: versions stay with their numbers, at least as many were copied,
-- the ends of copied versions stay, and each slot goes on as it may.
use Rattle.std.proofs.Common.{Bool, List, None, Option, Some, [], ap, arith, false, length, refl, slice_get, subst, suc}
use Rattle.std.proofs.Common.{sym, true, zero, ℕ, ⊎_elim, ◌++◌, ◌+◌, ◌<◌, ◌∙◌, ◌∷◌, ◌≡◌, ◌≤◌}
use Rattle.std.proofs.lemmas.Bool.{cases_lt}
use Rattle.std.proofs.lemmas.List.{length_push}
use Rattle.std.proofs.lemmas.Option.{none-some, same_Some}
use Rattle.nam_catalog.specs.Fits.{FitsLimits}
use Rattle.nam_catalog.specs.declared.shape.Shape.{Shape}
use Rattle.nam_ghost.proofs.ListLemmas.{got_end, got_front}
use Rattle.nam_ghost.specs.Cells.{end_by, version_end}
use Rattle.nam_ghost.specs.Copiers.{RowRing}
use Rattle.nam_ghost.specs.Slots.{Copies, Flags, GetsCopy, GetsFlag, GetsMark, Idles, IsFreeSlot, Keeps, KeepsOn, Kept}
use Rattle.nam_ghost.specs.Slots.{KeptOk, Marks, Renews, Ring, RingOk, RowNext, SlotIs, SlotNext, copied_count}
use Rattle.nam_ghost.specs.Slots.{copy_ended, copy_of, flagged, home, marked, moved_of, with_copy}
use Rattle.nam_ghost.specs.Turn.{RowsGo}
use Rattle.nam_ghost.specs.Versions.{Chain, IsNth, SlotImage, Version, current_number, slot_image, versions}
use Rattle.nam_header.specs.Header.{flag}
use Rattle.nam_layout.proofs.LimitLemmas.{place_within_limits}
use Rattle.nam_layout.specs.Address.{IsRow}
use Rattle.nam_layout.specs.Place.{place_at}
use Rattle.nam_layout.specs.declared.field.Field.{Field}
use Rattle.nam_layout.specs.declared.field.Place.{Place}
use Rattle.nam_store.proofs.Lists.{put_cases, some_within}
use Rattle.si_model.specs.declared.log.Stamp.{Stamp}

-- 1. Lists and flags

get_past : {X : Type 0} (xs : List X) (n : ℕ) → length xs ≤ n → slice_get xs n ≡ None
get_past [] n least = refl
get_past (x ∷ xs) zero least = absurd (omega arith)
get_past (x ∷ xs) (suc n) least = get_past xs n (omega arith)

flag_most : (b : Bool) → flag b ≤ 1
flag_most true = omega arith
flag_most false = omega arith

-- 2. Ends

abbrev next_of : Option Kept → Stamp
next_of slot = end_by None slot

moved_next : (slot : Option Kept) → next_of (moved_of slot) ≡ next_of slot
moved_next None = refl
moved_next (Some kept) = refl

end_same : (next : Option Version) (slot other : Option Kept) → next_of slot ≡ next_of other
    → end_by next slot ≡ end_by next other
end_same (Some version) slot other e = refl
end_same None slot other e = e

-- 3. Versions stay with their numbers

module _ (place : Place) (Flagged : ℕ → Type 0) (New : Version → Type 0) where
  pub numbers_stay : (chain later : Chain) (ring next : Ring) → RowNext place Flagged New chain ring later next
      → (number : ℕ) (version : Version) → IsNth chain number version → IsNth later number version
  numbers_stay chain later ring _ (Idles old now clean) number version is =
      (λ t. slice_get (old t ++ now t ∷ []) number) ∙ is
  numbers_stay chain _ ring _ (Marks slot free before) number version is = is
  numbers_stay chain _ ring _ (Copies next empty) number version is = is
  numbers_stay chain _ ring _ (Flags slot elsewhere) number version is = is
  numbers_stay chain later ring _ (Renews old new whole ends) number version is =
      ap (λ xs. slice_get (xs ++ later.now ∷ []) number) old
      ∙ got_front (versions chain) (later.now ∷ []) number version is

-- 4. Of a row whose ring is right before the step

module _ (place : Place) (some : 1 ≤ place.ring) (images : ℕ → SlotImage) (chain : Chain) (ring : Ring)
    (ok : RingOk place images chain ring) where
  kept_there : (slot : ℕ) → slot < place.ring → (kept : Kept) → ring.kept slot ≡ Some kept
      → KeptOk place slot (images slot) chain kept
  kept_there slot less kept e = subst (SlotIs place slot (images slot) chain) e (ok.slots slot less)

  -- a kept version's end is that of its number
  pub kept_ends : (slot : ℕ) → slot < place.ring → (kept : Kept) → ring.kept slot ≡ Some kept
      → kept.next ≡ version_end place chain ring kept.number
  kept_ends slot less kept e = by_next (slice_get (versions chain) (kept.number + 1)) refl
    where
      by_next : (next : Option Version) → slice_get (versions chain) (kept.number + 1) ≡ next
          → kept.next ≡ end_by next (ring.kept (home place kept.number))
      by_next (Some version) is = sym ((kept_there slot less kept e).next_is version is)
      by_next None is = sym (ap next_of (ap ring.kept (kept_there slot less kept e).home_is ∙ e))

  -- where the current version's slot has the mark it isn't copied
  uncopied : ring.kept (home place (current_number chain)) ≡ None → ring.copied ≡ false
  uncopied empty = by_copied ring.copied refl
    where
      by_copied : (b : Bool) → ring.copied ≡ b → b ≡ false
      by_copied true e = let whole = ok.whole e in absurd (none-some whole.0 (sym empty ∙ whole.1))
      by_copied false e = refl

  is_copied : current_number chain < copied_count chain ring → ring.copied ≡ true
  is_copied less = by_copied ring.copied refl
    where
      by_copied : (b : Bool) → ring.copied ≡ b → b ≡ true
      by_copied true e = refl
      by_copied false e = let none = ap flag e in absurd (omega arith)

  old_next : (number : ℕ) → number < current_number chain
      → (version : Version) × IsNth chain (number + 1) version
  old_next number less =
      let long = length_push chain.old chain.now in some_within (versions chain) (number + 1) (omega arith)

  module _ (Flagged : ℕ → Type 0) (New : Version → Type 0) where
    abbrev Next : Chain → Ring → Type 0
    Next later next = RowNext place Flagged New chain ring later next

    pub count_rises : (later : Chain) (next : Ring) → Next later next
        → copied_count chain ring ≤ copied_count later next
    count_rises later _ (Idles old now clean) = let same = ap length old in omega arith
    count_rises _ _ (Marks slot free before) = omega arith
    count_rises _ _ (Copies next empty) = let none = ap flag (uncopied empty) in omega arith
    count_rises _ _ (Flags slot elsewhere) = omega arith
    count_rises later _ (Renews old new whole ends) =
        let same = ap length old in let long = length_push chain.old chain.now in let most = flag_most ring.copied in
        omega arith

    -- where the next version is there before and after
    ends_by : (later : Chain) (next : Ring) (number : ℕ) (version : Version) → IsNth chain (number + 1) version
        → IsNth later (number + 1) version → version_end place later next number ≡ version_end place chain ring number
    ends_by later next number version was is =
        ap (λ o. end_by o (next.kept (home place number))) is
        ∙ sym (ap (λ o. end_by o (ring.kept (home place number))) was)

    pub ends_stay : (later : Chain) (next : Ring) → Next later next → (number : ℕ) → number < copied_count chain ring
        → version_end place later next number ≡ version_end place chain ring number
    ends_stay later _ (Idles old now clean) number less =
        λ t. end_by (slice_get (old t ++ now t ∷ []) (number + 1)) (ring.kept (home place number))
    ends_stay _ _ (Marks slot free before) number less =
        ⊎_elim (λ (old : number < current_number chain).
        let next = old_next number old in ends_by chain (marked slot ring) number next.0 next.1 next.1)
        (λ (least : current_number chain ≤ number).
        let most = flag_most ring.copied in
        let same : number ≡ current_number chain = omega arith in
        let whole = ok.whole (is_copied (omega arith)) in
        ap (end_by (slice_get (versions chain) (number + 1)))
        (put_cases (λ (o : Option Kept). o ≡ ring.kept (home place number)) ring.kept slot None (home place number)
        (λ (here : home place number ≡ slot).
        let there : ring.kept slot ≡ Some whole.0 = ap ring.kept (sym here ∙ ap (home place) same) ∙ whole.1 in
        let less = before whole.0 there in let is = whole.2 in absurd (omega arith))
        (λ apart. refl)))
        (cases_lt number (current_number chain))
    ends_stay _ _ (Copies next empty) number less =
        let none = ap flag (uncopied empty) in
        let version = old_next number (omega arith) in
        ends_by chain (with_copy chain next (home place (current_number chain)) ring) number version.0 version.1
        version.1
    ends_stay _ _ (Flags slot elsewhere) number less =
        end_same (slice_get (versions chain) (number + 1)) ((flagged slot ring).kept (home place number))
        (ring.kept (home place number))
        (put_cases (λ (o : Option Kept). next_of o ≡ next_of (ring.kept (home place number))) ring.kept slot
        (moved_of (ring.kept slot)) (home place number)
        (λ (here : home place number ≡ slot).
        moved_next (ring.kept slot) ∙ ap (λ u. next_of (ring.kept u)) (sym here)) (λ apart. refl))
    ends_stay later _ (Renews old new whole ends) number less =
        ⊎_elim (λ (is_old : number < current_number chain).
        let version = old_next number is_old in
        ends_by later (copy_ended ring) number version.0 version.1
        (ap (λ xs. slice_get (xs ++ later.now ∷ []) (number + 1)) old
        ∙ got_front (versions chain) (later.now ∷ []) (number + 1) version.0 version.1))
        (λ (least : current_number chain ≤ number).
        let most = flag_most ring.copied in
        let same : number ≡ current_number chain = omega arith in
        let long = length_push chain.old chain.now in
        let renewed = ap length old in
        let at : number + 1 ≡ length later.old = omega arith in
        let is : version_end place later (copy_ended ring) number ≡ later.now.stamp =
        ap (λ o. end_by o (ring.kept (home place number)))
        (ap (slice_get (versions later)) at ∙ got_end later.old later.now) in
        let was : version_end place chain ring number ≡ next_of (ring.kept (home place number)) =
        ap (λ o. end_by o (ring.kept (home place number))) (get_past (versions chain) (number + 1) (omega arith)) in
        let there : ring.kept (home place number) ≡ Some whole.0 =
        ap (λ n. ring.kept (home place n)) same ∙ whole.1 in
        is ∙ sym (was ∙ ap next_of there ∙ ends whole.0 whole.1))
        (cases_lt number (current_number chain))

    -- 5. How each slot goes on

    abbrev Goes : Option Kept → Option Kept → Type 0
    Goes was is = SlotNext (copied_count chain ring) was is

    marks : (slot : Option Kept) → IsFreeSlot slot → Goes slot None
    marks None free = KeepsOn
    marks (Some kept) free = GetsMark free

    flags : (slot : Option Kept) → Goes slot (moved_of slot)
    flags None = KeepsOn
    flags (Some kept) = GetsFlag

    pub slots_go : (later : Chain) (next : Ring) → Next later next → (slot : ℕ) → slot < place.ring
        → Goes (ring.kept slot) (next.kept slot)
    slots_go later _ (Idles old now clean) slot less = KeepsOn
    slots_go _ _ (Marks at free before) slot less =
        put_cases (λ (o : Option Kept). Goes (ring.kept slot) o) ring.kept at None slot
        (λ (here : slot ≡ at). marks (ring.kept slot) (subst (λ u. IsFreeSlot (ring.kept u)) (sym here) free))
        (λ apart. KeepsOn)
    slots_go _ _ (Copies next empty) slot less =
        let none = ap flag (uncopied empty) in
        let at = home place (current_number chain) in
        put_cases (λ (o : Option Kept). Goes (ring.kept slot) o) ring.kept at (Some (copy_of chain next)) slot
        (λ (here : slot ≡ at). subst (λ (o : Option Kept). Goes o (Some (copy_of chain next)))
        (sym (ap ring.kept here ∙ empty)) (GetsCopy (omega arith))) (λ apart. KeepsOn)
    slots_go _ _ (Flags at elsewhere) slot less =
        put_cases (λ (o : Option Kept). Goes (ring.kept slot) o) ring.kept at (moved_of (ring.kept at)) slot
        (λ (here : slot ≡ at). subst (λ u. Goes (ring.kept slot) (moved_of (ring.kept u))) here
        (flags (ring.kept slot))) (λ apart. KeepsOn)
    slots_go later _ (Renews old new whole ends) slot less = KeepsOn

-- a moved flag leaves the version that a slot keeps
pub moved_keeps : (slot : Option Kept) (number : ℕ) → Keeps slot number → Keeps (moved_of slot) number
moved_keeps None number (kept, at, is) = absurd (none-some kept at)
moved_keeps (Some old) number (kept, at, is) =
    (record old { moved = true }, refl, ap (λ (k : Kept). k.number) (same_Some old kept at) ∙ is)

-- 6. All rows

pub rows_go : (shape : Shape) → FitsLimits shape → (m : Field → ℕ) (chains later : ℕ → Chain) (rings next : ℕ → Ring)
    → ((row : ℕ) → IsRow shape row → RowRing shape m row (chains row) (rings row)) → (Flagged : ℕ → ℕ → Type 0)
    (New : ℕ → Version → Type 0)
    → ((row : ℕ) → IsRow shape row
    → RowNext (place_at shape row) (Flagged row) (New row) (chains row) (rings row) (later row) (next row))
    → RowsGo shape chains later rings next
rows_go shape limits m chains later rings next images Flagged New goes = record {
  numbers = λ row number version is.
      numbers_stay (place_at shape row) (Flagged row) (New row) (chains row) (later row) (rings row) (next row)
      (goes row is) number version;
  counts = λ row is.
      count_rises (place_at shape row) (some row is) (slot_image m row) (chains row) (rings row) (images row is)
      (Flagged row) (New row) (later row) (next row) (goes row is);
  ends = λ row number is.
      ends_stay (place_at shape row) (some row is) (slot_image m row) (chains row) (rings row) (images row is)
      (Flagged row) (New row) (later row) (next row) (goes row is) number;
  slots = λ row slot is.
      slots_go (place_at shape row) (some row is.0) (slot_image m row) (chains row) (rings row) (images row is.0)
      (Flagged row) (New row) (later row) (next row) (goes row is.0) slot is.1;
}
  where
    some : (row : ℕ) (is : IsRow shape row) → 1 ≤ (place_at shape row).ring
    some row is = (place_within_limits shape row limits is).least_ring
