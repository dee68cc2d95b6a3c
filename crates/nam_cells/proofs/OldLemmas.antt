-- Where old versions stand, under each thing that a step may make of a row.
use Rattle.std.proofs.Common.{None, Option, Some, ap, arith, inl, inr, length, refl, subst, sym, true, ℕ, ⊎_elim, ◌<◌}
use Rattle.std.proofs.Common.{◌∙◌, ◌≡◌, ◌≤◌, ◌⊎◌}
use Rattle.std.proofs.lemmas.Bool.{cases_lt, true≢false}
use Rattle.std.proofs.lemmas.List.{length_push}
use Rattle.std.proofs.lemmas.Option.{none-some, same_Some}
use Rattle.nam_ghost.proofs.RowLemmas.{moved_keeps}
use Rattle.nam_ghost.specs.Cells.{OldOk}
use Rattle.nam_ghost.specs.Slots.{Copies, Flags, Idles, IsFreeSlot, Keeps, Kept, Marks, Renews, Ring, RowNext, copy_of}
use Rattle.nam_ghost.specs.Slots.{home, moved_of}
use Rattle.nam_ghost.specs.Versions.{Chain, Version, current_number}
use Rattle.nam_layout.specs.declared.field.Place.{Place}
use Rattle.nam_store.proofs.Lists.{put_cases}
use Rattle.nam_store.specs.Everyone.{put}

module _ (place : Place) (some : 1 ≤ place.ring) (E : ℕ → Type 0) (New : Version → Type 0) where
  abbrev Stands : (ℕ → Option Kept) → ℕ → Type 0
  Stands kept number = Keeps (kept (home place number)) number ⊎ E number

  home_within : (number : ℕ) → home place number < place.ring
  home_within number = omega arith

  -- one slot is put
  put_stands : (kept : ℕ → Option Kept) (slot : ℕ) (x : Option Kept) (number : ℕ)
      → (home place number ≡ slot → Keeps (kept slot) number → Keeps x number ⊎ E number) → Stands kept number
      → Stands (put kept slot x) number
  put_stands kept slot x number here was =
      put_cases (λ (o : Option Kept). Keeps o number ⊎ E number) kept slot x (home place number)
      (λ same. ⊎_elim (λ keeps. here same (subst (λ s. Keeps (kept s) number) same keeps)) (λ e. inr e) was)
      (λ apart. was)

  -- a slot that is put keeps no version that was moved, or one that is elsewhere
  put_gone : (kept : ℕ → Option Kept) (slot : ℕ) (x : Option Kept)
      → ((s : ℕ) → s < place.ring → (k : Kept) → kept s ≡ Some k → k.moved ≡ true → E k.number)
      → ((k : Kept) → x ≡ Some k → k.moved ≡ true → E k.number)
      → (s : ℕ) → s < place.ring → (k : Kept) → put kept slot x s ≡ Some k → k.moved ≡ true → E k.number
  put_gone kept slot x was here s less k =
      put_cases (λ (o : Option Kept). o ≡ Some k → k.moved ≡ true → E k.number) kept slot x s (λ same. here k)
      (λ apart. was s less k)

  -- the mark is written over a version that was moved
  marked_stands : (chain : Chain) (ring : Ring) → OldOk place E chain ring → (slot : ℕ) → slot < place.ring
      → (o : Option Kept) → ring.kept slot ≡ o → IsFreeSlot o → (number : ℕ) → Keeps o number → E number
  marked_stands chain ring ok slot less None at free number keeps = absurd (none-some keeps.0 keeps.1)
  marked_stands chain ring ok slot less (Some kept) at free number keeps =
      subst E (ap (λ (k : Kept). k.number) (same_Some kept keeps.0 keeps.1) ∙ keeps.2)
      (ok.gone slot less kept at free)

  flagged_gone : (o : Option Kept) → ((k : Kept) → o ≡ Some k → E k.number) → (k : Kept) → moved_of o ≡ Some k
      → E k.number
  flagged_gone None elsewhere k at = absurd (none-some k at)
  flagged_gone (Some kept) elsewhere k at =
      subst E (ap (λ (k : Kept). k.number) (same_Some (record kept { moved = true }) k at)) (elsewhere kept refl)

  pub old_next : (chain later : Chain) (ring next : Ring) → RowNext place E New chain ring later next
      → OldOk place E chain ring → OldOk place E later next
  old_next chain later ring _ (Idles old now clean) ok = record {
    old = λ number less. let same = ap length old in ok.old number (omega arith);
    gone = ok.gone;
  }
  old_next chain _ ring _ (Marks slot free before) ok = record {
    old = λ number less.
        put_stands ring.kept slot None number
        (λ same keeps.
        inr (marked_stands chain ring ok slot (let within = home_within number in omega arith) (ring.kept slot) refl
        free number keeps))
        (ok.old number less);
    gone = put_gone ring.kept slot None ok.gone (λ k at. absurd (none-some k at));
  }
  old_next chain _ ring _ (Copies next empty) ok =
      let slot = home place (current_number chain) in
      let copy = copy_of chain next in
      record {
        old = λ number less.
            put_stands ring.kept slot (Some copy) number
            (λ same keeps. absurd (none-some keeps.0 (sym empty ∙ keeps.1))) (ok.old number less);
        gone = put_gone ring.kept slot (Some copy) ok.gone (λ k at moved.
            absurd (true≢false (sym (ap (λ (k : Kept). k.moved) (same_Some copy k at) ∙ moved))));
      }
  old_next chain _ ring _ (Flags slot elsewhere) ok = record {
    old = λ number less.
        put_stands ring.kept slot (moved_of (ring.kept slot)) number
        (λ same keeps. inl (moved_keeps (ring.kept slot) number keeps)) (ok.old number less);
    gone = put_gone ring.kept slot (moved_of (ring.kept slot)) ok.gone
        (λ k at moved. flagged_gone (ring.kept slot) elsewhere k at);
  }
  old_next chain later ring _ (Renews old new whole ends) ok = record {
    old = λ number less.
        let same = ap length old in
        let long = length_push chain.old chain.now in
        ⊎_elim (λ (before : number < current_number chain). ok.old number before)
        (λ (least : current_number chain ≤ number).
        let last : current_number chain ≡ number = omega arith in
        inl (subst (λ n. Keeps (ring.kept (home place n)) n) last whole))
        (cases_lt number (current_number chain));
    gone = ok.gone;
  }

-- what is elsewhere before is so after
pub old_rises : (place : Place) (E Later : ℕ → Type 0) (chain : Chain) (ring : Ring)
    → ((number : ℕ) → E number → Later number) → OldOk place E chain ring → OldOk place Later chain ring
old_rises place E Later chain ring goes ok = record {
  old = λ number less. ⊎_elim (λ keeps. inl keeps) (λ e. inr (goes number e)) (ok.old number less);
  gone = λ slot less kept at moved. goes kept.number (ok.gone slot less kept at moved);
}
