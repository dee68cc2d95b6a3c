-- The claims on rows, rings and copiers at points of one commit, clause by clause, each by computing.
use Rattle.nam_calls.specs.Memory.{memory}
use Rattle.nam_catalog.specs.declared.form.Form.TheVariants.{Held}
use Rattle.nam_ghost.proofs.CommitExample.{commits, held_shape}
use Rattle.nam_ghost.proofs.Runs.{client_of, stamp, turns, version}
use Rattle.nam_ghost.proofs.Small.{below_1, below_2, fits_by, of_none, of_some, of_true}
use Rattle.nam_ghost.specs.Copiers.{Copier, CopyOk, RowRing, copier_of}
use Rattle.nam_ghost.specs.Locks.{RowOk}
use Rattle.nam_ghost.specs.Slots.{Kept, Ring, SlotIs, copied_count}
use Rattle.nam_ghost.specs.Versions.{Chain, Version, slot_image}
use Rattle.nam_header.specs.Stamp.{FitsStamp}
use Rattle.nam_layout.specs.Place.{place_at}
use Rattle.nam_layout.specs.declared.field.Field.{Field}
use Rattle.nam_layout.specs.declared.field.Field.TheVariants.{SlotWord, Word}
use Rattle.nam_protocol.specs.Opening.{copies, load_from}
use Rattle.std.proofs.Common.{Some, [], arith, false, refl, subst, sym, ℕ, ◌<◌, ◌∷◌, ◌≡◌}
use Rattle.std.specs.Prelude.{slice_index}
use Rattle.std.proofs.lemmas.Option.{same_Some}

abbrev m : ℕ → Field → ℕ
m verbs = memory held_shape (commits verbs).store.words

abbrev chains : ℕ → ℕ → Chain
chains verbs = (commits verbs).ghost.chains

abbrev rings : ℕ → ℕ → Ring
rings verbs = (commits verbs).ghost.rings

abbrev copier : ℕ → ℕ → Copier
copier verbs nth = copier_of (client_of (commits verbs) nth)

first_fits : FitsStamp Held (stamp 0 0)
first_fits = fits_by Held (stamp 0 0) refl refl

second_fits : FitsStamp Held (stamp 1 1)
second_fits = fits_by Held (stamp 1 1) refl refl

-- 1. Words of a row

-- under the lock: the header has it, with the holder's name; count and data are the version's
row_locked : RowOk held_shape (m 8) (chains 8) 0
unfolding turns copies load_from
row_locked = record {
  header_is = refl;
  fits = first_fits;
  count_is = refl;
  data_is = λ clean. below_2 (λ nth. m 8 (Word 0 nth) ≡ slice_index (5 ∷ 6 ∷ []) nth) refl refl;
  free = λ none. (refl, refl);
  worker = omega arith;
}

-- one data word and the count are written: the header is what it was
row_counted : RowOk held_shape (m 22) (chains 22) 0
unfolding turns copies load_from
row_counted = record {
  header_is = refl;
  fits = first_fits;
  count_is = refl;
  data_is = of_true;
  free = λ none. absurd (omega arith);
  worker = omega arith;
}

-- the new version: without the lock, with its number and its data
row_installed : RowOk held_shape (m 23) (chains 23) 0
unfolding turns copies load_from
row_installed = record {
  header_is = refl;
  fits = second_fits;
  count_is = refl;
  data_is = λ clean. below_2 (λ nth. m 23 (Word 0 nth) ≡ slice_index (7 ∷ 8 ∷ []) nth) refl refl;
  free = λ none. (refl, refl);
  worker = omega arith;
}

-- a row without a key: the loader's absent version
row_absent : RowOk held_shape (m 21) (chains 21) 1
unfolding turns copies load_from
row_absent = record {
  header_is = refl;
  fits = first_fits;
  count_is = refl;
  data_is = λ clean. tt;
  free = λ none. (refl, refl);
  worker = omega arith;
}

row_dirty : RowOk held_shape (m 21) (chains 21) 0
unfolding turns copies load_from
row_dirty = record {
  header_is = refl;
  fits = first_fits;
  count_is = refl;
  data_is = of_true;
  free = λ none. absurd (omega arith);
  worker = omega arith;
}

-- 2. The ring, before and after the copy's header

abbrev SlotOk : ℕ → ℕ → Type 0
SlotOk verbs slot =
    SlotIs (place_at held_shape 0) slot (slot_image (m verbs) 0 slot) (chains verbs 0) ((rings verbs 0).kept slot)

abbrev IsBehind : ℕ → ℕ → Type 0
IsBehind verbs slot = (kept : Kept) → (rings verbs 0).kept slot ≡ Some kept
    → kept.number < copied_count (chains verbs 0) (rings verbs 0)

-- the mark alone stands, though end and data are written
ring_marked : RowRing held_shape (m 18) 0 (chains 18 0) (rings 18 0)
unfolding turns copies load_from
ring_marked = record {
  slots = below_2 (SlotOk 18) refl refl;
  behind = below_2 (IsBehind 18) (of_none (λ kept. kept.number < 0)) (of_none (λ kept. kept.number < 0));
  whole = λ e. of_true (sym e);
  dirty = λ e. of_true (sym e);
  free = λ none. refl;
}

abbrev copied_first : Kept
copied_first =
    record { number = 0; version = version 0 0 (Some (5 ∷ 6 ∷ [])) []; next = stamp 1 1; moved = false }

-- the whole copy, with the holder's stamp as its end
ring_copied : RowRing held_shape (m 21) 0 (chains 21 0) (rings 21 0)
unfolding turns copies load_from
ring_copied = record {
  slots = below_2 (SlotOk 21) record {
    home_is = refl;
    version_is = refl;
    next_is = of_none (λ (v : Version). v.stamp ≡ stamp 1 1);
    fits = first_fits;
    next_fits = second_fits;
    header_is = refl;
    ending_is = refl;
    data_is = below_2 (λ nth. m 21 (SlotWord 0 0 nth) ≡ slice_index (5 ∷ 6 ∷ []) nth) refl refl;
  } refl;
  behind = below_2 (IsBehind 21) (of_some (λ kept. kept.number < 1) copied_first (omega arith))
      (of_none (λ kept. kept.number < 1));
  whole = λ e. (copied_first, refl, refl);
  dirty = λ e. refl;
  free = λ none. absurd (omega arith);
}

-- after the new version's header the end of the old one is the new one's stamp
ring_renewed : RowRing held_shape (m 23) 0 (chains 23 0) (rings 23 0)
unfolding turns copies load_from
ring_renewed = record {
  slots = below_2 (SlotOk 23) record {
    home_is = refl;
    version_is = refl;
    next_is = λ next e. subst (λ (v : Version). v.stamp ≡ stamp 1 1) (same_Some _ next e) refl;
    fits = first_fits;
    next_fits = second_fits;
    header_is = refl;
    ending_is = refl;
    data_is = below_2 (λ nth. m 23 (SlotWord 0 0 nth) ≡ slice_index (5 ∷ 6 ∷ []) nth) refl refl;
  } refl;
  behind = below_2 (IsBehind 23) (of_some (λ kept. kept.number < 1) copied_first (omega arith))
      (of_none (λ kept. kept.number < 1));
  whole = λ e. of_true (sym e);
  dirty = λ e. of_true (sym e);
  free = λ none. refl;
}

-- 3. The copier: with one word saved, with one word copied, and with the whole copy

abbrev CopiesOk : ℕ → Type 0
CopiesOk verbs = CopyOk (place_at held_shape 0) (chains verbs 0) (stamp 1 1) (slot_image (m verbs) 0 0)
    ((rings verbs 0).kept 0) (copier verbs 0).copying

saves : CopiesOk 13
unfolding turns copies load_from
saves = below_1 (λ nth. slice_index (5 ∷ []) nth ≡ slice_index (5 ∷ 6 ∷ []) nth) refl

fills : CopiesOk 17
unfolding turns copies load_from
fills = (
  below_2 (λ nth. slice_index (5 ∷ 6 ∷ []) nth ≡ slice_index (5 ∷ 6 ∷ []) nth) refl refl,
  refl,
  omega arith,
  refl,
  below_1 (λ nth. m 17 (SlotWord 0 0 nth) ≡ slice_index (5 ∷ 6 ∷ []) nth) refl,
)

copy_made : CopiesOk 20
unfolding turns copies load_from
copy_made = record { kept = copied_first; is = refl; number_is = refl; version_is = refl; next_is = refl }
