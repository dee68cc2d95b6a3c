-- A read that finds its version in the ring, one under a locked record, and a mover at its first and last points: what
-- each may rely on, by computing.
use Rattle.std.proofs.lemmas.Bool.{true≢false}
use Rattle.nam_calls.specs.Memory.{memory}
use Rattle.nam_calls.specs.Reading.{sight_of}
use Rattle.nam_calls.specs.declared.mover.MovePoint.{MovePoint}
use Rattle.nam_calls.specs.declared.mover.MovePoint.TheVariants.{MoveClaim, MoveFlag}
use Rattle.nam_calls.specs.declared.overflow.ClaimPoint.TheVariants.{ClaimTake}
use Rattle.nam_calls.specs.declared.reading.ReadPoint.{ReadPoint}
use Rattle.nam_calls.specs.declared.reading.ReadPoint.TheVariants.{ReadCurrent, ReadRecheck, ReadRing, ReadUnsure}
use Rattle.nam_calls.specs.declared.record.CurrentPoint.TheVariants.{CurrentAgain}
use Rattle.nam_calls.specs.declared.ring.RingPoint.TheVariants.{SlotAgain, SlotHead}
use Rattle.nam_catalog.specs.declared.form.Form.TheVariants.{Narrow}
use Rattle.nam_ghost.proofs.MoveExample.{first, narrow_shape, second, third, tidies}
use Rattle.nam_ghost.proofs.Runs.{Calls, Seen, Turns, after_deeds, chain, client_of, opened, stamp, turns}
use Rattle.nam_ghost.proofs.Small.{below_1, fits_by, of_none, of_some}
use Rattle.nam_ghost.proofs.UpkeepExample.{put_alone}
use Rattle.nam_ghost.specs.Reads.{HeaderRead, ReadOkAt}
use Rattle.nam_ghost.specs.Slots.{Kept}
use Rattle.nam_ghost.specs.Upkeep.{MoveBegun, MoverAt}
use Rattle.nam_ghost.specs.Versions.{Chain, HasGot, IsNth, Version, current_word, number_by, old_word}
use Rattle.nam_ghost.specs.Wanted.{SlotTest, Wanted}
use Rattle.nam_header.specs.Stamp.{stamp_word}
use Rattle.nam_header.specs.Visible.{is_visible}
use Rattle.nam_layout.specs.Place.{place_at}
use Rattle.nam_layout.specs.declared.field.Field.{Field}
use Rattle.nam_protocol.proofs.Shown.{loaded}
use Rattle.nam_protocol.specs.Opening.{copies, load_from}
use Rattle.nam_protocol.specs.Reader.{Reader, reader_of}
use Rattle.nam_protocol.specs.declared.client.Call.TheVariants.{Begin, Tidy, Txn}
use Rattle.nam_protocol.specs.declared.txn.TxnCall.TheVariants.{Commit, Get, Put}
use Rattle.std.proofs.Common.{List, Option, Some, [], arith, false, inl, inr, refl, suc, true, zero, ℕ, ◌<◌, ◌∷◌, ◌≡◌}
use Rattle.std.specs.Prelude.{slice_index}

abbrev m : Seen → Field → ℕ
m seen = memory narrow_shape seen.store.words

abbrev reader_at : Seen → Option Reader
reader_at seen = reader_of narrow_shape (client_of seen 1)

abbrev ReadsSo : Seen → List ℕ → ReadPoint → Type 0
ReadsSo seen snapshot at = ReadOkAt narrow_shape seen.ghost.chains seen.ghost.rings (m seen) seen.ghost.cells snapshot 0
    (place_at narrow_shape 0) at

-- 1. With the snapshot of the first commit, after the second one: version 1 is in the slot

abbrev sees_one : List ℕ
sees_one = 1 ∷ 0 ∷ []

abbrev old_reads : ℕ → Seen
old_reads verbs = after_deeds narrow_shape put_alone
    (Calls 1 (Begin 9 1) ∷ Turns 1 4 ∷ Calls 0 (Tidy 0 0) ∷ Turns 0 14 ∷ Calls 0 (Begin 2 1) ∷ Turns 0 4 ∷
    Calls 0 (Txn (Put 0 0 (7 ∷ []))) ∷ Turns 0 1 ∷ Calls 0 (Txn Commit) ∷ Turns 0 13 ∷ Calls 1 (Txn (Get 0 0)) ∷
    Turns 1 verbs ∷ [])

abbrev three : Chain
three = chain (first ∷ second ∷ []) third 0 false false

newer_hidden : (n : ℕ) (newer : Version) → 1 < n → IsNth three n newer → is_visible newer.stamp sees_one ≡ false
newer_hidden zero newer less is = absurd (omega arith)
newer_hidden (suc zero) newer less is = absurd (omega arith)
newer_hidden (suc (suc zero)) newer less is =
    of_some (λ (v : Version). is_visible v.stamp sees_one ≡ false) third refl newer is
newer_hidden (suc (suc (suc n))) newer less is =
    of_none (λ (v : Version). is_visible v.stamp sees_one ≡ false) newer is

wanted : Wanted sees_one three 1 second
wanted = record { is = refl; sees = refl; newer = newer_hidden }

-- version 0 isn't wanted, though it is visible: a newer one is
not_wanted : Wanted sees_one three 0 first → ⊥
not_wanted is = absurd (true≢false (is.newer 1 second (omega arith) refl))

abbrev second_header : ℕ
second_header = old_word Narrow false second

abbrev kept_second : Kept
kept_second = record { number = 1; version = second; next = stamp 1 2; moved = false }

point_is : reader_at (old_reads 5) ≡ Some (record {
  sight = sight_of narrow_shape 0 0;
  seen = sees_one;
  at = ReadRing (SlotAgain 0 second_header (6 ∷ []));
})
unfolding turns copies load_from number_by
point_is = refl

-- before the slot's header is read it is ahead
ahead : ReadsSo (old_reads 2) sees_one (ReadRing (SlotHead 0))
unfolding turns copies load_from number_by
ahead = (1, second, (wanted, omega arith), inl ((kept_second, refl, refl), omega arith))

-- and then it is what is tested: its words, and its end, which the snapshot doesn't see
slot_tested : SlotTest Narrow sees_one ((old_reads 5).ghost.chains 0) (((old_reads 5).ghost.rings 0).kept 0)
    second_header (6 ∷ []) true
unfolding turns copies load_from number_by
slot_tested = record {
  number = 1;
  version = second;
  is = refl;
  stamp_is = refl;
  deleted_is = refl;
  sees = refl;
  words = of_some (λ (kept : Kept). kept.number ≡ 1 → HasGot (6 ∷ []) second.value) kept_second
      (λ same. below_1 (λ nth. slice_index (6 ∷ []) nth ≡ slice_index (6 ∷ []) nth) refl);
  hidden = λ ended. of_some (λ (kept : Kept). kept.number ≡ 1 → is_visible kept.next sees_one ≡ false) kept_second
      (λ same. refl);
  last = inl (omega arith);
}

tested : ReadsSo (old_reads 5) sees_one (ReadRing (SlotAgain 0 second_header (6 ∷ [])))
unfolding turns copies load_from number_by slot_tested
tested = (
  1,
  second,
  (wanted, omega arith),
  (
    slot_tested,
    inl (
      ((kept_second, refl, refl), omega arith),
      of_some (λ (kept : Kept). kept.number ≡ 1 → 1 ≡ 1) kept_second (λ same. refl),
    ),
  ),
)

-- 2. Under a lock: the data that were read are the version's, since no data word was written; the slot has the mark

abbrev locked_reads : ℕ → Seen
locked_reads verbs = after_deeds narrow_shape (opened narrow_shape (loaded 0 0 (5 ∷ []) ∷ []))
    (Calls 1 (Begin 9 1) ∷ Turns 1 4 ∷ Calls 0 (Begin 1 1) ∷ Turns 0 4 ∷ Calls 0 (Txn (Put 0 0 (6 ∷ []))) ∷ Turns 0 1 ∷
    Calls 0 (Txn Commit) ∷ Turns 0 2 ∷ Calls 1 (Txn (Get 0 0)) ∷ Turns 1 verbs ∷ [])

abbrev sees_none : List ℕ
sees_none = 0 ∷ 0 ∷ []

abbrev locked_header : ℕ
locked_header = current_word Narrow 1 first

abbrev alone : Chain
alone = chain [] first 1 false false

none_newer : (n : ℕ) (newer : Version) → 0 < n → IsNth alone n newer → is_visible newer.stamp sees_none ≡ false
none_newer zero newer less is = absurd (omega arith)
none_newer (suc n) newer less is = of_none (λ (v : Version). is_visible v.stamp sees_none ≡ false) newer is

wanted_alone : Wanted sees_none alone 0 first
wanted_alone = record { is = refl; sees = refl; newer = none_newer }

unsure_at : reader_at (locked_reads 4) ≡ Some (record {
  sight = sight_of narrow_shape 0 0;
  seen = sees_none;
  at = ReadUnsure (5 ∷ []) locked_header (SlotHead 0);
})
unfolding turns copies load_from number_by
unsure_at = refl

header_read : HeaderRead Narrow sees_none alone locked_header 0 first
header_read = record { wanted = wanted_alone; stamp_is = refl; some = refl }

current : ReadsSo (locked_reads 3) sees_none (ReadCurrent (CurrentAgain locked_header (5 ∷ [])))
unfolding turns copies load_from number_by
current = (
  0,
  first,
  header_read,
  (λ same clean. below_1 (λ nth. slice_index (5 ∷ []) nth ≡ slice_index (5 ∷ []) nth) refl),
)

unsure : ReadsSo (locked_reads 4) sees_none (ReadUnsure (5 ∷ []) locked_header (SlotHead 0))
unfolding turns copies load_from number_by
unsure = (
  0,
  first,
  header_read,
  inr (inl (below_1 (λ nth. slice_index (5 ∷ []) nth ≡ slice_index (5 ∷ []) nth) refl)),
)

recheck : ReadsSo (locked_reads 5) sees_none (ReadRecheck (5 ∷ []) locked_header)
unfolding turns copies load_from number_by
recheck = (
  0,
  first,
  header_read,
  inl (below_1 (λ nth. slice_index (5 ∷ []) nth ≡ slice_index (5 ∷ []) nth) refl),
)

-- 3. A mover before its claim, and before the flag

abbrev MovesSo : ℕ → MovePoint → Type 0
MovesSo verbs at = MoverAt narrow_shape (tidies verbs).ghost.chains (tidies verbs).ghost.rings (m (tidies verbs))
    (tidies verbs).ghost.cells 0 0 0 first at

abbrev end_is : ℕ
end_is = stamp_word Narrow (stamp 1 1)

abbrev BegunAt : ℕ → Type 0
BegunAt verbs = MoveBegun narrow_shape (tidies verbs).ghost.chains (tidies verbs).ghost.rings 0 0 0 0 first

begun_5 : BegunAt 5
unfolding turns copies load_from number_by
begun_5 = record {
  version_is = refl;
  was_copied = omega arith;
  home_is = refl;
  fits = fits_by Narrow (stamp 0 0) refl refl;
  header_is = refl;
}

begun_13 : BegunAt 13
unfolding turns copies load_from number_by
begun_13 = record {
  version_is = refl;
  was_copied = omega arith;
  home_is = refl;
  fits = fits_by Narrow (stamp 0 0) refl refl;
  header_is = refl;
}

-- the tag that it will exchange is free
claims_free : MovesSo 5 (MoveClaim 0 0 end_is (ClaimTake 0 0))
unfolding turns copies load_from number_by
claims_free = (begun_5, (λ kept is same. refl), refl)

-- the version stands in the full cell
before_flag : MovesSo 13 (MoveFlag 0 0)
unfolding turns copies load_from number_by
before_flag = (begun_13, inl (0, omega arith, omega arith, refl))
