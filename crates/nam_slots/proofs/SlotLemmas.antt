-- A slot's words and what it keeps, under each kind of write.
use Rattle.std.proofs.Common.{None, Option, Some, ap, arith, false, length, refl, sym, true, ℕ, ⊎_elim, ◌++◌, ◌+◌, ◌<◌}
use Rattle.std.proofs.Common.{◌∙◌, ◌∷◌, ◌≡◌}
use Rattle.std.proofs.lemmas.Bool.{true≢false}
use Rattle.std.proofs.lemmas.List.{length_push}
use Rattle.std.proofs.lemmas.Option.{same_Some, slice_get_within}
use Rattle.std.specs.Prelude.{[], slice_get}
use Rattle.nam_catalog.specs.declared.form.Form.{Form}
use Rattle.nam_catalog.specs.declared.form.Form.TheVariants.{Held, Narrow, Wide}
use Rattle.nam_ghost.proofs.ListLemmas.{got_end, got_front, got_push}
use Rattle.nam_ghost.proofs.ValueLemmas.{data_same, mark_moved, old_says}
use Rattle.nam_ghost.specs.Copiers.{IsCopy}
use Rattle.nam_ghost.specs.Slots.{IsFreeSlot, Kept, KeptOk, SlotIs, copy_of, home, moved_of}
use Rattle.nam_ghost.specs.Versions.{Chain, HasData, SlotImage, Version, current_number, current_word, old_header}
use Rattle.nam_ghost.specs.Versions.{old_word, versions}
use Rattle.nam_header.specs.Header.{header_of, word_of}
use Rattle.nam_header.specs.Stamp.{FitsStamp, is_moved, mark, stamp_word, with_moved}
use Rattle.nam_header.specs.declared.header.Header.{Header}
use Rattle.nam_layout.specs.declared.field.Place.{Place}
use Rattle.nam_slots.specs.Change.{SameSlot}
use Rattle.si_model.specs.declared.log.Stamp.{Stamp}

-- 2. A slot

mark_stays : (form : Form) → with_moved form mark ≡ mark
mark_stays Narrow = refl
mark_stays Wide = refl
mark_stays Held = refl

module _ (place : Place) (slot : ℕ) where
  -- where its words and the versions are what they were
  pub slot_same : (image later : SlotImage) (chain next : Chain) (kept : Option Kept)
      → SameSlot place.width image later → versions next ≡ versions chain → SlotIs place slot image chain kept
      → SlotIs place slot later next kept
  slot_same image later chain next None same grown is = same.header ∙ is
  slot_same image later chain next (Some kept) same grown is = record {
    home_is = is.home_is;
    version_is = ap (λ vs. slice_get vs kept.number) grown ∙ is.version_is;
    next_is = λ version at. is.next_is version (ap (λ vs. slice_get vs (kept.number + 1)) (sym grown) ∙ at);
    fits = is.fits;
    next_fits = is.next_fits;
    header_is = same.header ∙ is.header_is;
    ending_is = same.ending ∙ is.ending_is;
    data_is = data_same place.width image.body later.body same.body kept.version.value is.data_is;
  }

  -- the next version is installed: only the slot of the one before has its stamp as end
  pub slot_grown : (image : SlotImage) (chain next : Chain) (kept : Option Kept) → next.old ≡ versions chain
      → (slot ≡ home place (current_number chain) → IsCopy (current_number chain) chain.now next.now.stamp kept)
      → SlotIs place slot image chain kept → SlotIs place slot image next kept
  slot_grown image chain next None grown copy is = is
  slot_grown image chain next (Some kept) grown copy is =
      let long = length_push chain.old chain.now in
      let later = ap (λ xs. xs ++ next.now ∷ []) grown in
      record {
        home_is = is.home_is;
        version_is =
            ap (λ vs. slice_get vs kept.number) later
            ∙ got_front (versions chain) (next.now ∷ []) kept.number kept.version is.version_is;
        next_is = λ version at. ⊎_elim (λ there. is.next_is version there)
            (λ (last : (kept.number + 1 ≡ length (versions chain)) × (next.now ≡ version)).
            let end = last.0 in
            let number : kept.number ≡ current_number chain = omega arith in
            let c = copy (sym is.home_is ∙ ap (home place) number) in
            ap (λ (v : Version). v.stamp) (sym last.1) ∙ sym c.next_is
            ∙ ap (λ (k : Kept). k.next) (same_Some c.kept kept (sym c.is)))
            (got_push (versions chain) next.now version (kept.number + 1)
            (ap (λ vs. slice_get vs (kept.number + 1)) (sym later) ∙ at));
        fits = is.fits;
        next_fits = is.next_fits;
        header_is = is.header_is;
        ending_is = is.ending_is;
        data_is = is.data_is;
      }

  -- what the header of a kept version says
  pub kept_says : (image : SlotImage) (chain : Chain) (kept : Kept) → KeptOk place slot image chain kept
      → header_of place.form image.header ≡ old_header kept.moved kept.version
  kept_says image chain kept is =
      ap (header_of place.form) is.header_is ∙ old_says place.form kept.moved kept.version is.fits

  -- the moved flag is set; the mark has it already
  pub slot_flagged : (image later : SlotImage) (chain : Chain) (kept : Option Kept)
      → later.header ≡ with_moved place.form image.header → later.ending ≡ image.ending
      → ((word : ℕ) → word < place.width → later.body word ≡ image.body word) → SlotIs place slot image chain kept
      → SlotIs place slot later chain (moved_of kept)
  slot_flagged image later chain None header ending body is =
      header ∙ ap (with_moved place.form) is ∙ mark_stays place.form
  slot_flagged image later chain (Some kept) header ending body is = record {
    home_is = is.home_is;
    version_is = is.version_is;
    next_is = is.next_is;
    fits = is.fits;
    next_fits = is.next_fits;
    header_is =
        header
        ∙ ap (λ (h : Header). word_of place.form (record h { moved = true })) (kept_says image chain kept is);
    ending_is = ending ∙ is.ending_is;
    data_is = data_same place.width image.body later.body body kept.version.value is.data_is;
  }

  -- the header of a whole copy of the current version is written
  pub slot_copied : (later : SlotImage) (chain : Chain) (next : Stamp) (got : ℕ → ℕ)
      → home place (current_number chain) ≡ slot → later.header ≡ current_word place.form 0 chain.now
      → FitsStamp place.form chain.now.stamp → FitsStamp place.form next → later.ending ≡ stamp_word place.form next
      → HasData place.width got chain.now.value → ((word : ℕ) → word < place.width → later.body word ≡ got word)
      → KeptOk place slot later chain (copy_of chain next)
  slot_copied later chain next got home_is header fits next_fits ending has body = record {
    home_is = home_is;
    version_is = got_end chain.old chain.now;
    next_is = λ version at.
        let short = slice_get_within (versions chain) (current_number chain + 1) version at in
        let long = length_push chain.old chain.now in absurd (omega arith);
    fits = fits;
    next_fits = next_fits;
    header_is = header ∙ unlocked place.form;
    ending_is = ending;
    data_is = data_same place.width got later.body body chain.now.value has;
  }
    where
      unlocked : (form : Form) → current_word form 0 chain.now ≡ old_word form false chain.now
      unlocked Narrow = refl
      unlocked Wide = refl
      unlocked Held = refl

  -- a header with the moved flag is the mark, or that of a version that was moved; and the other way round
  pub moved_free : (image : SlotImage) (chain : Chain) (kept : Option Kept) → is_moved place.form image.header ≡ true
      → SlotIs place slot image chain kept → IsFreeSlot kept
  moved_free image chain None moved is = tt
  moved_free image chain (Some kept) moved is =
      ap (λ (h : Header). h.moved) (sym (kept_says image chain kept is)) ∙ moved

  pub free_moved : (image : SlotImage) (chain : Chain) (kept : Option Kept) → IsFreeSlot kept
      → SlotIs place slot image chain kept → is_moved place.form image.header ≡ true
  free_moved image chain None free is = ap (is_moved place.form) is ∙ mark_moved place.form
  free_moved image chain (Some kept) free is = ap (λ (h : Header). h.moved) (kept_says image chain kept is) ∙ free

  -- the mark is no version's header, since it has the lock
  pub mark_none : (image : SlotImage) (chain : Chain) (kept : Option Kept) → image.header ≡ mark
      → SlotIs place slot image chain kept → kept ≡ None
  mark_none image chain None marks is = refl
  mark_none image chain (Some kept) marks is =
      let locked : true ≡ false = ap (λ (h : Header). h.locked)
      (sym (ap (header_of place.form) marks) ∙ kept_says image chain kept is) in
      absurd (true≢false locked)
