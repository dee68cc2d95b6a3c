-- Claims of versions and cells stay where rows go on as they may.
use Rattle.std.proofs.Common.{Option, Some, ap, arith, refl, subst, sym, true, ℕ, ◌<◌, ◌∙◌, ◌≡◌}
use Rattle.std.proofs.lemmas.Option.{none-some, same_Some}
use Rattle.nam_catalog.specs.Fits.{FitsLimits}
use Rattle.nam_catalog.specs.declared.bounds.TheConstants.{MOST_WIDTH}
use Rattle.nam_catalog.specs.declared.shape.Shape.{Shape}
use Rattle.nam_ghost.proofs.ValueLemmas.{data_same}
use Rattle.nam_ghost.specs.Cells.{Cell, CellIs, ClaimedBy, FreeCell, IsWhole, Stores, copied_at}
use Rattle.nam_ghost.specs.Slots.{Copies, Flags, GetsCopy, GetsFlag, GetsMark, Idles, KeepsOn, Kept, Marks, Renews}
use Rattle.nam_ghost.specs.Slots.{Ring, RowNext, SlotNext}
use Rattle.nam_ghost.specs.Turn.{RowsGo}
use Rattle.nam_ghost.specs.Upkeep.{MoveBegun}
use Rattle.nam_ghost.specs.Versions.{CellImage, Chain, Version}
use Rattle.nam_header.specs.Stamp.{FitsStamp, stamp_word}
use Rattle.nam_header.specs.Tag.{state_of}
use Rattle.nam_layout.proofs.LimitLemmas.{place_within_limits}
use Rattle.nam_layout.specs.Address.{IsRow, IsSlot}
use Rattle.nam_layout.specs.Rows.{width_at}
use Rattle.nam_layout.specs.declared.field.Place.{Place}

-- 1. What is said of flags and new versions may be weakened

pub row_weaker : (place : Place) (Flagged Elsewhere : ℕ → Type 0) (New Installed : Version → Type 0)
    → ((number : ℕ) → Flagged number → Elsewhere number) → ((version : Version) → New version → Installed version)
    → (chain later : Chain) (ring next : Ring) → RowNext place Flagged New chain ring later next
    → RowNext place Elsewhere Installed chain ring later next
row_weaker place Flagged Elsewhere New Installed flags news chain later ring _ (Idles old now clean) =
    Idles old now clean
row_weaker place Flagged Elsewhere New Installed flags news chain _ ring _ (Marks slot free before) =
    Marks slot free before
row_weaker place Flagged Elsewhere New Installed flags news chain _ ring _ (Copies next empty) = Copies next empty
row_weaker place Flagged Elsewhere New Installed flags news chain _ ring _ (Flags slot elsewhere) =
    Flags slot (λ kept at. flags kept.number (elsewhere kept at))
row_weaker place Flagged Elsewhere New Installed flags news chain later ring _ (Renews old new whole ends) =
    Renews old (news later.now new) whole ends

-- 2. Slots: a version once gone never comes back

goes_back : (copied : ℕ) (was is : Option Kept) → SlotNext copied was is → (kept : Kept) → is ≡ Some kept
    → kept.number < copied → (before : Kept) × (was ≡ Some before) × (before.number ≡ kept.number)
goes_back copied was _ KeepsOn kept at less = (kept, at, refl)
goes_back copied _ _ (GetsMark moved) kept at less = absurd (none-some kept at)
goes_back copied _ _ (GetsCopy {kept} number) other at less =
    let same = ap (λ (k : Kept). k.number) (same_Some kept other at) in absurd (omega arith)
goes_back copied _ _ (GetsFlag {kept}) other at less =
    (kept, refl, ap (λ (k : Kept). k.number) (same_Some (record kept { moved = true }) other at))

module _ (shape : Shape) (chains later : ℕ → Chain) (rings next : ℕ → Ring)
    (go : RowsGo shape chains later rings next) where
  pub was_there : (row slot : ℕ) → IsSlot shape row slot → (kept : Kept) → (next row).kept slot ≡ Some kept
      → kept.number < copied_at shape chains rings row
      → (before : Kept) × ((rings row).kept slot ≡ Some before) × (before.number ≡ kept.number)
  was_there row slot is kept at less =
      goes_back (copied_at shape chains rings row) ((rings row).kept slot) ((next row).kept slot)
      (go.slots row slot is) kept at less

  -- a claim while the slot keeps the version
  pub while_stays : (row slot number : ℕ) (P Q : Type 0) → IsSlot shape row slot
      → number < copied_at shape chains rings row → (P → Q)
      → ((kept : Kept) → (rings row).kept slot ≡ Some kept → kept.number ≡ number → P)
      → (kept : Kept) → (next row).kept slot ≡ Some kept → kept.number ≡ number → Q
  while_stays row slot number P Q is less goes was kept at same =
      let before = was_there row slot is kept at (omega arith) in
      goes (was before.0 before.1 (before.2 ∙ same))

  pub begun_stays : (row slot header number : ℕ) (version : Version) → IsRow shape row
      → MoveBegun shape chains rings row slot header number version
      → MoveBegun shape later next row slot header number version
  begun_stays row slot header number version is begun =
      let up = go.counts row is in
      let less = begun.was_copied in
      record {
        version_is = go.numbers row number version is begun.version_is;
        was_copied = omega arith;
        home_is = begun.home_is;
        fits = begun.fits;
        header_is = begun.header_is;
      }

  -- 3. Cells

  module _ (limits : FitsLimits shape) (image after : CellImage) (owner : after.owner ≡ image.owner)
      (begin : after.begin ≡ image.begin) (ending : after.ending ≡ image.ending)
      (body : (word : ℕ) → word < MOST_WIDTH → after.body word ≡ image.body word) where
    pub whole_stays : (row number : ℕ) → IsWhole shape chains rings row number image
        → IsWhole shape later next row number after
    whole_stays row number whole =
        let is = whole.inside in
        let up = go.counts row is in
        let less = whole.was_copied in
        let ends = go.ends row number is less in
        let narrow = (place_within_limits shape row limits is).most_width in
        record {
          inside = is;
          was_copied = omega arith;
          version = whole.version;
          version_is = go.numbers row number whole.version is whole.version_is;
          fits = whole.fits;
          end_fits = subst (FitsStamp shape.form) (sym ends) whole.end_fits;
          owner_is = owner ∙ whole.owner_is;
          begin_is = begin ∙ whole.begin_is;
          ending_is = ending ∙ whole.ending_is ∙ ap (stamp_word shape.form) (sym ends);
          data_is = data_same (width_at shape.tables row) image.body after.body (λ word short. body word (omega arith))
              whole.version.value whole.data_is;
        }

    pub cell_stays : (bucket : ℕ) (cell : Cell) → after.tag ≡ image.tag → CellIs shape chains rings bucket image cell
        → CellIs shape later next bucket after cell
    cell_stays bucket FreeCell tag is = ap state_of tag ∙ is
    cell_stays bucket (ClaimedBy worker) tag is = ap state_of tag ∙ is
    cell_stays bucket (Stores row number) tag is = (ap state_of tag ∙ is.0, is.1, whole_stays row number is.2)
