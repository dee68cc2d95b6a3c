-- What movers and collectors may rely on, where an old version stands, and movers that meet at one version.
use Rattle.nam_calls.specs.Memory.{memory}
use Rattle.nam_calls.specs.declared.horizon.CollectPoint.TheVariants.{CollectFree}
use Rattle.nam_calls.specs.declared.mover.MovePoint.TheVariants.{MoveBack, MoveFill}
use Rattle.nam_calls.specs.declared.overflow.FillPoint.TheVariants.{FillEnding}
use Rattle.nam_catalog.specs.declared.form.Form.TheVariants.{Narrow}
use Rattle.nam_ghost.proofs.MoveExample.{collects, first, narrow_shape, put_deeds, tidies}
use Rattle.nam_ghost.proofs.Runs.{Calls, Seen, Turns, after_deeds, cell_words, cells_shown, client_of, opened}
use Rattle.nam_ghost.proofs.Runs.{stamp, turns}
use Rattle.nam_ghost.proofs.Small.{below_1, below_2, fits_by, of_some}
use Rattle.nam_ghost.specs.Cells.{Cell, CellIs, CellMap, ClaimedBy, FreeCell, IsElsewhere, IsOverflowed, IsWhole}
use Rattle.nam_ghost.specs.Cells.{OldOk, Stores}
use Rattle.nam_ghost.specs.Slots.{Keeps, Kept, Ring, home}
use Rattle.nam_ghost.specs.Steps.{move_cells}
use Rattle.nam_ghost.specs.Upkeep.{Collector, CollectorAt, Knows, MoveBegun, Mover, MoverAt, upkeep_of}
use Rattle.nam_ghost.specs.Versions.{Chain, cell_image, number_by}
use Rattle.nam_header.specs.Stamp.{stamp_word}
use Rattle.nam_layout.specs.Place.{place_at}
use Rattle.nam_layout.specs.declared.field.Field.{Field}
use Rattle.nam_layout.specs.declared.field.Field.TheVariants.{CellWord, Entry, Horizon}
use Rattle.nam_protocol.proofs.Shown.{loaded}
use Rattle.nam_protocol.specs.Opening.{copies, load_from}
use Rattle.nam_protocol.specs.declared.client.Call.TheVariants.{Tidy}
use Rattle.std.proofs.Common.{Bool, Some, [], ap, arith, false, inl, inr, refl, suc, true, zero, ℕ, ◌+◌, ◌∷◌, ◌≡◌}
use Rattle.std.proofs.Common.{◌≤◌, ◌⊎◌}
use Rattle.std.specs.Prelude.{slice_index}
use Rattle.std.proofs.lemmas.Bool.{false≢true}

-- 1. The mover of version 0, whose claims are of the one row and the first cell

abbrev m : ℕ → Field → ℕ
m verbs = memory narrow_shape (tidies verbs).store.words

abbrev chains : ℕ → ℕ → Chain
chains verbs = (tidies verbs).ghost.chains

abbrev rings : ℕ → ℕ → Ring
rings verbs = (tidies verbs).ghost.rings

abbrev cells : ℕ → CellMap
cells verbs = (tidies verbs).ghost.cells

abbrev end_word : ℕ
end_word = stamp_word Narrow (stamp 1 1)

abbrev kept_first : Kept
kept_first = record { number = 0; version = first; next = stamp 1 1; moved = false }

point_is : upkeep_of narrow_shape (client_of (tidies 9) 0) ≡ Mover 0
    (MoveFill 0 0 0 1 (record { begin = 0; «end» = end_word; value = 5 ∷ [] }) FillEnding)
unfolding turns copies load_from number_by
point_is = refl

has_begun_9 : MoveBegun narrow_shape (chains 9) (rings 9) 0 0 0 0 first
unfolding turns copies load_from number_by
has_begun_9 = record {
  version_is = refl;
  was_copied = omega arith;
  home_is = refl;
  fits = fits_by Narrow (stamp 0 0) refl refl;
  header_is = refl;
}

-- while it fills the cell: what it read is the slot's, and what it wrote is what it read
fills : MoverAt narrow_shape (chains 9) (rings 9) (m 9) (cells 9) 0 0 0 first
    (MoveFill 0 0 0 1 (record { begin = 0; «end» = end_word; value = 5 ∷ [] }) FillEnding)
unfolding turns copies load_from number_by
fills = (
  has_begun_9,
  (λ kept is same. refl),
  (λ kept is same. below_1 (λ nth. slice_index (5 ∷ []) nth ≡ slice_index (5 ∷ []) nth) refl),
  (refl, refl),
  refl,
  (refl, refl),
)

-- once the header was there again the cell has the version whole, though its tag doesn't say so
whole_12 : IsWhole narrow_shape (chains 12) (rings 12) 0 0 (cell_image (m 12) 0 0)
unfolding turns copies load_from number_by
whole_12 = record {
  inside = omega arith;
  was_copied = omega arith;
  version = first;
  version_is = refl;
  fits = fits_by Narrow (stamp 0 0) refl refl;
  end_fits = fits_by Narrow (stamp 1 1) refl refl;
  owner_is = refl;
  begin_is = refl;
  ending_is = refl;
  data_is = below_1 (λ nth. m 12 (CellWord 0 0 nth) ≡ slice_index (5 ∷ []) nth) refl;
}

-- a cell that is written has the tag of one; after the tag's write it is full, and stands in its row's bucket
claimed_12 : CellIs narrow_shape (chains 12) (rings 12) 0 (cell_image (m 12) 0 0) (cells 12 0 0)
unfolding turns copies load_from number_by
claimed_12 = refl

whole_13 : IsWhole narrow_shape (chains 13) (rings 13) 0 0 (cell_image (m 13) 0 0)
unfolding turns copies load_from number_by
whole_13 = record {
  inside = omega arith;
  was_copied = omega arith;
  version = first;
  version_is = refl;
  fits = fits_by Narrow (stamp 0 0) refl refl;
  end_fits = fits_by Narrow (stamp 1 1) refl refl;
  owner_is = refl;
  begin_is = refl;
  ending_is = refl;
  data_is = below_1 (λ nth. m 13 (CellWord 0 0 nth) ≡ slice_index (5 ∷ []) nth) refl;
}

full_13 : CellIs narrow_shape (chains 13) (rings 13) 0 (cell_image (m 13) 0 0) (cells 13 0 0)
unfolding turns copies load_from number_by
full_13 = (refl, refl, whole_13)

free_13 : CellIs narrow_shape (chains 13) (rings 13) 0 (cell_image (m 13) 0 1) (cells 13 0 1)
unfolding turns copies load_from number_by
free_13 = refl

-- before the flag is set the version stands elsewhere
overflowed_13 : IsOverflowed narrow_shape (chains 13) (rings 13) (m 13) (cells 13) 0 0 0
unfolding turns copies load_from number_by
overflowed_13 = inl (0, omega arith, omega arith, refl)

abbrev pub is_stored : Cell → Bool
is_stored (Stores row number) = true
is_stored cell = false

-- a mark there would lose it: after the claim, and before the cell is full, it stands nowhere else
nowhere_12 : IsOverflowed narrow_shape (chains 12) (rings 12) (m 12) (cells 12) 0 0 0 → ⊥
unfolding turns copies load_from number_by
nowhere_12 (inl (zero, least, less, stores)) = absurd (false≢true (ap is_stored stores))
nowhere_12 (inl (suc zero, least, less, stores)) = absurd (false≢true (ap is_stored stores))
nowhere_12 (inl (suc (suc cell), least, less, stores)) = absurd (omega arith)
nowhere_12 (inr ended) = let past : 1 ≤ 0 = ended.2 in absurd (omega arith)

-- where the old version stands: in its slot; and elsewhere too, once it was moved
old_14 : OldOk (place_at narrow_shape 0)
    (IsElsewhere narrow_shape (chains 14) (rings 14) (m 14) (cells 14) 0) (chains 14 0) (rings 14 0)
unfolding turns copies load_from number_by
old_14 = record {
  old = below_1 (λ number. Keeps ((rings 14 0).kept (home (place_at narrow_shape 0) number)) number
      ⊎ IsElsewhere narrow_shape (chains 14) (rings 14) (m 14) (cells 14) 0 number)
      (inl (record kept_first { moved = true }, refl, refl));
  gone = below_1 (λ slot. (kept : Kept) → (rings 14 0).kept slot ≡ Some kept → kept.moved ≡ true
      → IsElsewhere narrow_shape (chains 14) (rings 14) (m 14) (cells 14) 0 kept.number)
      (of_some (λ kept. kept.moved ≡ true
      → IsElsewhere narrow_shape (chains 14) (rings 14) (m 14) (cells 14) 0 kept.number)
      (record kept_first { moved = true })
      (λ moved. (omega arith, omega arith, inl (0, omega arith, omega arith, refl))));
}

-- 2. The collector, which knows the horizon that it raised, frees the first cell by it

collector_is : upkeep_of narrow_shape (client_of (collects 9) 0)
    ≡ Collector 0 (2 ∷ 0 ∷ []) (CollectFree (2 ∷ 0 ∷ []) 0 2)
unfolding turns copies load_from number_by
collector_is = refl

frees : CollectorAt narrow_shape (collects 9).ghost.chains (collects 9).ghost.rings
    (memory narrow_shape (collects 9).store.words) (collects 9).ghost.cells 0 0 (2 ∷ 0 ∷ [])
    (CollectFree (2 ∷ 0 ∷ []) 0 2)
unfolding turns copies load_from number_by
frees = (
  below_2 (λ a. slice_index (2 ∷ 0 ∷ []) a ≤ memory narrow_shape (collects 9).store.words (Entry (a + 1)))
      (omega arith) (omega arith),
  below_2 (λ a. slice_index (2 ∷ 0 ∷ []) a ≤ memory narrow_shape (collects 9).store.words (Horizon (a + 1)))
      (omega arith) (omega arith),
  refl,
  (omega arith, λ same. (0, 0, refl, refl)),
)

-- with what it would know of an exchange that it lost to a lower word it couldn't: knowing is at most the horizon
not_known : Knows narrow_shape (collects 5).ghost.chains (collects 5).ghost.rings
    (memory narrow_shape (collects 5).store.words) (collects 5).ghost.cells 0 (2 ∷ []) → ⊥
unfolding turns copies load_from number_by
not_known knows = let least : 2 ≤ 0 = knows 0 (omega arith) in absurd (omega arith)

-- 3. Two movers at one version, each with its cell

abbrev pub put_alone : Seen
put_alone = after_deeds narrow_shape (opened narrow_shape (loaded 0 0 (5 ∷ []) ∷ [])) (put_deeds 0 6)

abbrev both_move : ℕ → ℕ → ℕ → Seen
both_move verbs others rest = after_deeds narrow_shape put_alone
    (Calls 0 (Tidy 0 0) ∷ Turns 0 6 ∷ Calls 1 (Tidy 0 0) ∷ Turns 1 7 ∷ Turns 0 verbs ∷ Turns 1 others ∷ Turns 0 rest ∷
    [])

both_claim : cells_shown (both_move 0 0 0) 0 2 ≡ ClaimedBy 1 ∷ ClaimedBy 2 ∷ []
unfolding turns copies load_from number_by
both_claim = refl

-- both have found the header again: one version stands in two cells
in_two_cells : cells_shown (both_move 7 8 1) 0 2 ≡ Stores 0 0 ∷ Stores 0 0 ∷ []
unfolding turns copies load_from number_by
in_two_cells = refl

-- the second finds the flag there, and gives its cell back
gives_back : cells_shown (both_move 8 7 0) 0 2 ≡ Stores 0 0 ∷ FreeCell ∷ []
unfolding turns copies load_from number_by
gives_back = refl

next_generation : cell_words narrow_shape (both_move 8 7 0) 0 1 0 ≡ 4 ∷ 0 ∷ 0 ∷ end_word ∷ []
unfolding turns copies load_from number_by
next_generation = refl

-- a tag of the last generation is not set free again: the cell stays written, though nobody owns it
last_generation : move_cells narrow_shape 1 0 (MoveBack 0 0 18446744073709551613) 0 (chains 9) (cells 9) 0 0
    ≡ ClaimedBy 1
unfolding turns copies load_from number_by
last_generation = refl
