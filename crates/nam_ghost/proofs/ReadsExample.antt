-- What a reader, a mover and a collector may rely on, at points of their calls, each claim by computing.
use Rattle.nam_calls.specs.Memory.{memory}
use Rattle.nam_calls.specs.declared.overflow.CellPoint.TheVariants.{CellAgain, CellEnding, CellTag}
use Rattle.nam_calls.specs.declared.reading.ReadPoint.{ReadPoint}
use Rattle.nam_calls.specs.declared.reading.ReadPoint.TheVariants.{ReadCells, ReadCurrent, ReadRing}
use Rattle.nam_calls.specs.declared.record.CurrentPoint.TheVariants.{CurrentHead}
use Rattle.nam_calls.specs.declared.ring.RingPoint.TheVariants.{SlotHead}
use Rattle.nam_catalog.specs.declared.form.Form.TheVariants.{Narrow}
use Rattle.nam_ghost.proofs.MoveExample.{first, narrow_shape, puts_again, second, third}
use Rattle.nam_ghost.proofs.Runs.{Calls, Seen, Turns, after_deeds, chain, client_of, stamp, turns}
use Rattle.nam_ghost.proofs.Small.{below_1, fits_by, of_none, of_some}
use Rattle.nam_ghost.specs.Reads.{CellTest, ReadOkAt}
use Rattle.nam_ghost.specs.Versions.{Chain, IsNth, Version, number_by}
use Rattle.nam_ghost.specs.Wanted.{Wanted}
use Rattle.nam_header.specs.Visible.{is_visible}
use Rattle.nam_layout.specs.Place.{place_at}
use Rattle.nam_layout.specs.declared.field.Field.{Field}
use Rattle.nam_protocol.specs.Opening.{copies, load_from}
use Rattle.nam_protocol.specs.Reader.{Reader, reader_of}
use Rattle.nam_protocol.specs.declared.client.Call.TheVariants.{Txn}
use Rattle.nam_protocol.specs.declared.txn.TxnCall.TheVariants.{Get}
use Rattle.std.proofs.Common.{List, None, Option, Some, [], arith, false, inl, inr, refl, suc, true, zero, ℕ, ◌<◌}
use Rattle.std.proofs.Common.{◌∷◌, ◌≡◌}
use Rattle.std.specs.Prelude.{slice_index}

-- two commits have put 6 and 7; version 0 is in the first cell, version 1 in the slot. The second client reads with a
-- snapshot without commits
abbrev gets : ℕ → Seen
gets verbs = after_deeds narrow_shape (puts_again 13) (Calls 1 (Txn (Get 0 0)) ∷ Turns 1 verbs ∷ [])

abbrev point_of : Option Reader → Option ReadPoint
point_of None = None
point_of (Some reader) = Some reader.at

abbrev reads : ℕ → Option ReadPoint
reads verbs = point_of (reader_of narrow_shape (client_of (gets verbs) 1))

-- 1. Its points

finds : reads 1 ≡ Some (ReadCurrent CurrentHead)
unfolding turns copies load_from number_by
finds = refl

goes_to_ring : reads 2 ≡ Some (ReadRing (SlotHead 0))
unfolding turns copies load_from number_by
goes_to_ring = refl

goes_to_cells : reads 3 ≡ Some (ReadCells (CellTag 0))
unfolding turns copies load_from number_by
goes_to_cells = refl

has_begin : reads 6 ≡ Some (ReadCells (CellEnding 0 2 0))
unfolding turns copies load_from number_by
has_begin = refl

has_words : reads 8 ≡ Some (ReadCells (CellAgain 0 2 0 (5 ∷ [])))
unfolding turns copies load_from number_by
has_words = refl

-- 2. Its claims: the wanted version is the loader's

abbrev seen : List ℕ
seen = 0 ∷ 0 ∷ []

abbrev three : Chain
three = chain (first ∷ second ∷ []) third 0 false false

newer_hidden : (n : ℕ) (newer : Version) → 0 < n → IsNth three n newer → is_visible newer.stamp seen ≡ false
newer_hidden zero newer less is = absurd (omega arith)
newer_hidden (suc zero) newer less is =
    of_some (λ (v : Version). is_visible v.stamp seen ≡ false) second refl newer is
newer_hidden (suc (suc zero)) newer less is =
    of_some (λ (v : Version). is_visible v.stamp seen ≡ false) third refl newer is
newer_hidden (suc (suc (suc n))) newer less is =
    of_none (λ (v : Version). is_visible v.stamp seen ≡ false) newer is

wanted : Wanted seen three 0 first
wanted = record { is = refl; sees = refl; newer = newer_hidden }

-- the version 1 that the slot keeps is older than the current one, but not wanted: its stamp isn't visible
not_wanted : is_visible second.stamp seen ≡ false
not_wanted = refl

abbrev m : ℕ → Field → ℕ
m verbs = memory narrow_shape (gets verbs).store.words

abbrev ReadsSo : ℕ → ReadPoint → Type 0
ReadsSo verbs at = ReadOkAt narrow_shape (gets verbs).ghost.chains (gets verbs).ghost.rings (m verbs)
    (gets verbs).ghost.cells seen 0 (place_at narrow_shape 0) at

-- in the ring it is elsewhere: in the first cell
in_ring : ReadsSo 2 (ReadRing (SlotHead 0))
unfolding turns copies load_from number_by
in_ring = (0, first, (wanted, omega arith), inr (omega arith, omega arith, inl (0, omega arith, omega arith, refl)))

in_cells : ReadsSo 3 (ReadCells (CellTag 0))
unfolding turns copies load_from number_by
in_cells = (0, first, (wanted, omega arith), inl (0, omega arith, omega arith, refl))

-- under the tag that was read the cell has the version, whose words were got
cell_tested : CellTest narrow_shape (gets 8).ghost.chains (gets 8).ghost.rings (m 8) (gets 8).ghost.cells seen 0 0 0
    (5 ∷ []) true
unfolding turns copies load_from number_by
cell_tested = record {
  number = 0;
  version = first;
  stored = refl;
  was_copied = omega arith;
  is = refl;
  fits = fits_by Narrow (stamp 0 0) refl refl;
  header_is = refl;
  sees = refl;
  hidden = λ ended. refl;
  words = below_1 (λ nth. slice_index (5 ∷ []) nth ≡ slice_index (5 ∷ []) nth) refl;
}

at_tag : ReadsSo 8 (ReadCells (CellAgain 0 2 0 (5 ∷ [])))
unfolding turns copies load_from number_by
at_tag = (0, first, (wanted, omega arith), (inr (refl, refl), (omega arith, λ same. cell_tested)))
