-- The verbs to come fall in each machine.
use Rattle.std.proofs.Common.{ℕ, ◌+◌, ◌-◌, ◌*◌, ◌<◌, List, [], arith, ◌||◌, Some, None}
use Rattle.std.specs.Prelude.{if◌then◌else◌, ◌==◌}
use Rattle.std.proofs.lemmas.Bool.Decides.{nat_tests}
use Rattle.nam_verbs.specs.declared.now.Now.{Now}
use Rattle.nam_verbs.specs.declared.now.Now.TheVariants.{At, Over}
use Rattle.nam_verbs.proofs.TestLemmas.{by_test}
use Rattle.nam_verbs.specs.Falls.{Falls, Any}
use Rattle.nam_header.specs.Stamp.{is_locked, is_deleted}
use Rattle.nam_layout.specs.declared.field.Place.{Place}
use Rattle.nam_layout.specs.PlaceFits.{FitsPlace}
use Rattle.nam_layout.specs.Place.{slot_of}
use Rattle.nam_calls.specs.declared.index.FindEnd.{FindEnd}
use Rattle.nam_calls.specs.declared.index.ClaimKeyPoint.{ClaimKeyPoint}
use Rattle.nam_calls.specs.declared.index.ClaimKeyPoint.TheVariants.{KeyLook, KeyTake}
use Rattle.nam_calls.specs.declared.index.ClaimKeyEnd.{ClaimKeyEnd}
use Rattle.nam_calls.specs.declared.record.CurrentPoint.{CurrentPoint}
use Rattle.nam_calls.specs.declared.record.CurrentPoint.TheVariants.{CurrentHead, CurrentWords, CurrentAgain}
use Rattle.nam_calls.specs.declared.record.CurrentEnd.{CurrentEnd}
use Rattle.nam_calls.specs.declared.record.InstallPoint.{InstallPoint}
use Rattle.nam_calls.specs.declared.record.InstallPoint.TheVariants.{InstallWord, InstallCount, InstallHead}
use Rattle.nam_calls.specs.declared.ring.SlotPoint.{SlotPoint}
use Rattle.nam_calls.specs.declared.ring.SlotPoint.TheVariants.{CheckCount, CheckHead}
use Rattle.nam_calls.specs.declared.ring.SlotEnd.{SlotEnd}
use Rattle.nam_calls.specs.declared.ring.SlotEnd.TheVariants.{Free, NotMoved}
use Rattle.nam_calls.specs.declared.ring.CopyPoint.{CopyPoint}
use Rattle.nam_calls.specs.declared.ring.CopyPoint.TheVariants.{CopyMark, CopyEnding, CopyWord, CopyHead}
use Rattle.nam_calls.specs.declared.ring.RingPoint.{RingPoint}
use Rattle.nam_calls.specs.declared.ring.RingPoint.TheVariants.{SlotHead, SlotEnding, SlotWords, SlotAgain}
use Rattle.nam_calls.specs.declared.ring.SearchEnd.{SearchEnd}
use Rattle.nam_calls.specs.declared.ring.SearchEnd.TheVariants.{Found, NotThere}
use Rattle.nam_calls.specs.Words.{key_word}
use Rattle.nam_calls.specs.Index.{nth_position, find_after, find_left, claim_key_after, claim_key_next}
use Rattle.nam_calls.specs.Index.{claim_key_left}
use Rattle.nam_calls.specs.Record.{current_after, current_left, words_after, words_left, install_after, install_left}
use Rattle.nam_calls.specs.Ring.{slot_after, slot_left, copy_after, copy_left, next_slot, ring_after, slots_left}
use Rattle.nam_calls.specs.Ring.{ring_left}
use Rattle.nam_calls.specs.Fits.{FindFits, FindEnds, ClaimKeyFits, ClaimKeyEnds, CurrentFits, CurrentEnds}
use Rattle.nam_calls.specs.Fits.{WordsFit, WordsEnd, InstallFits, SlotEnds, CopyFits, RingFits, SearchEnds}
use Rattle.nam_calls.proofs.FallsTests.{either, or_last, one_more, later_row, wide_or_none}
use Rattle.nam_calls.specs.declared.index.Path.{Path}
use Rattle.nam_calls.specs.declared.index.FindEnd.TheVariants as found_key
use Rattle.nam_calls.specs.declared.index.ClaimKeyEnd.TheVariants as claimed_key
use Rattle.nam_calls.specs.declared.record.CurrentEnd.TheVariants as current

-- 1. Finding and claiming a key

module _ (path : Path) where
  abbrev capacity : ℕ
  capacity = path.capacity

  abbrev pub FindFalls : ℕ → Now ℕ FindEnd → Type 0
  FindFalls = Falls (FindFits capacity) (FindEnds capacity) (find_left path)

  abbrev pub ClaimKeyFalls : ℕ → Now ClaimKeyPoint ClaimKeyEnd → Type 0
  ClaimKeyFalls = Falls (ClaimKeyFits capacity) (ClaimKeyEnds capacity) (claim_key_left path)

  -- each position of a path is one of the table
  path_within : (passed : ℕ) → passed < capacity → nth_position path passed < capacity
  path_within passed l = omega arith

  pub find_falls : (passed found : ℕ) → FindFits capacity passed
      → FindFalls (find_left path passed) (find_after path passed found)
  find_falls passed found l =
      let n = find_left path passed in
      let r = path_within passed l in
      either (FindFalls n) (found == key_word path.key) (Over (found_key.At (nth_position path passed)))
      (if (found == 0) || (passed + 1 == capacity) then Over found_key.Absent else At (passed + 1))
      (r, omega arith)
      (by_test (FindFalls n) ((found == 0) || (passed + 1 == capacity)) (Over found_key.Absent) (At (passed + 1))
      (λ e. (tt, omega arith))
      (λ e. grind (arith, nat_tests)))

  next_falls : (passed n : ℕ) → passed < capacity → 2 * (capacity - passed - 1) < n
      → ClaimKeyFalls n (claim_key_next path passed)
  next_falls passed n l m =
      or_last (ClaimKeyFalls n) capacity passed (Over claimed_key.NoSpace) (At (KeyLook (passed + 1))) l
      (λ e. (tt, omega arith))
      (λ e. (e, omega arith))

  pub claim_key_falls : (place : ClaimKeyPoint) (found : ℕ) → ClaimKeyFits capacity place
      → ClaimKeyFalls (claim_key_left path place) (claim_key_after path place found)
  claim_key_falls (KeyLook passed) found l =
      let n = claim_key_left path (KeyLook passed) in
      let r = path_within passed l in
      either (ClaimKeyFalls n) (found == key_word path.key) (Over (claimed_key.At (nth_position path passed)))
      (if found == 0 then At (KeyTake passed) else claim_key_next path passed)
      (r, omega arith)
      (either (ClaimKeyFalls n) (found == 0) (At (KeyTake passed)) (claim_key_next path passed) (l, omega arith)
      (next_falls passed n l (omega arith)))
  claim_key_falls (KeyTake passed) found l =
      let n = claim_key_left path (KeyTake passed) in
      let r = path_within passed l in
      either (ClaimKeyFalls n) ((found == 0) || (found == key_word path.key))
      (Over (claimed_key.At (nth_position path passed)))
      (claim_key_next path passed)
      (r, omega arith) (next_falls passed n l (omega arith))

-- 2. A position's words

module _ (place : Place) (fits : FitsPlace place) where
  abbrev pub CurrentFalls : ℕ → Now CurrentPoint CurrentEnd → Type 0
  CurrentFalls = Falls (CurrentFits place) (CurrentEnds place) (current_left place)

  pub current_falls : (seen : List ℕ) (at : CurrentPoint) (found : ℕ) → CurrentFits place at
      → CurrentFalls (current_left place at) (current_after place seen at found)
  current_falls seen CurrentHead found l =
      let w = fits.least_width in
      let n = current_left place CurrentHead in
      either (CurrentFalls n) _ (if is_deleted place.form found then Over (current.Found None)
      else At (CurrentWords found [])) (Over current.GoOld)
      (either (CurrentFalls n) _ (Over (current.Found None)) (At (CurrentWords found [])) (tt, omega arith)
      (omega arith, omega arith))
      (tt, omega arith)
  current_falls seen (CurrentWords header got) found l =
      one_more (λ at. CurrentFits place at × (current_left place at < current_left place (CurrentWords header got)))
      place.width got found (CurrentWords header) (CurrentAgain header) l (λ e m. (m, omega arith))
      (λ e m. (m, omega arith))
  current_falls seen (CurrentAgain header value) found l =
      either (CurrentFalls 1) _
      (if is_locked place.form header || is_locked place.form found then Over (current.Unsure value header)
      else Over (current.Found (Some value)))
      (Over current.GoOld)
      (either (CurrentFalls 1) _ (Over (current.Unsure value header)) (Over (current.Found (Some value)))
      (l, omega arith) (l, omega arith))
      (tt, omega arith)

  abbrev pub WordsFall : ℕ → Now (List ℕ) (List ℕ) → Type 0
  WordsFall = Falls (WordsFit place) (WordsEnd place) (words_left place)

  pub words_fall : (got : List ℕ) (found : ℕ) → WordsFit place got
      → WordsFall (words_left place got) (words_after place got found)
  words_fall got found l =
      one_more (WordsFall (words_left place got)) place.width got found At Over l (λ e m. (m, omega arith))
      (λ e m. (m, omega arith))

  abbrev pub InstallFalls : ℕ → Now InstallPoint (Unit {0}) → Type 0
  InstallFalls = Falls (InstallFits place) Any (install_left place)

  pub install_falls : (at : InstallPoint) → InstallFits place at
      → InstallFalls (install_left place at) (install_after place at)
  install_falls (InstallWord nth) l =
      or_last (InstallFalls (install_left place (InstallWord nth))) place.width nth (At InstallCount)
      (At (InstallWord (nth + 1))) l
      (λ e. (tt, omega arith)) (λ e. (e, omega arith))
  install_falls InstallCount l = (tt, omega arith)
  install_falls InstallHead l = (tt, omega arith)

  abbrev pub SlotFalls : ℕ → Now SlotPoint SlotEnd → Type 0
  SlotFalls = Falls Any (SlotEnds place) slot_left

  pub slot_within : (count : ℕ) → slot_of place count < place.ring
  slot_within count = let r = fits.least_ring in omega arith

  pub slot_falls : (at : SlotPoint) (found : ℕ) → SlotFalls (slot_left at) (slot_after place at found)
  slot_falls CheckCount found = (tt, omega arith)
  slot_falls (CheckHead count) found =
      either (SlotFalls 1) _ (Over (Free count)) (Over (NotMoved (slot_of place count) found)) (tt, omega arith)
      (slot_within count, omega arith)

  abbrev pub CopyFalls : ℕ → Now CopyPoint (Unit {0}) → Type 0
  CopyFalls = Falls (CopyFits place) Any (copy_left place)

  pub copy_falls : (at : CopyPoint) → CopyFits place at → CopyFalls (copy_left place at) (copy_after place at)
  copy_falls CopyMark l = (tt, omega arith)
  copy_falls CopyEnding l = let w = fits.least_width in (omega arith, omega arith)
  copy_falls (CopyWord nth) l =
      or_last (CopyFalls (copy_left place (CopyWord nth))) place.width nth (At CopyHead) (At (CopyWord (nth + 1))) l
      (λ e. (tt, omega arith))
      (λ e. (e, omega arith))
  copy_falls CopyHead l = (tt, omega arith)

  abbrev pub RingFalls : ℕ → Now RingPoint SearchEnd → Type 0
  RingFalls = Falls (RingFits place) (SearchEnds place) (ring_left place)

  next_slot_falls : (slot n : ℕ) → slot < place.ring → slots_left place slot < n → RingFalls n (next_slot place slot)
  next_slot_falls slot n l m =
      or_last (RingFalls n) place.ring slot (Over NotThere) (At (SlotHead (slot + 1))) l (λ e. (tt, omega arith))
      (λ e. (e, rw (later_row place.ring slot (place.width + 3) e) m))

  pub ring_falls : (seen : List ℕ) (at : RingPoint) (found : ℕ) → RingFits place at
      → RingFalls (ring_left place at) (ring_after place seen at found)
  ring_falls seen (SlotHead slot) found l =
      either (RingFalls (ring_left place (SlotHead slot))) _ (next_slot place slot) (At (SlotEnding slot found))
      (next_slot_falls slot _ l (omega arith)) (l, omega arith)
  ring_falls seen (SlotEnding slot header) found l =
      let w = fits.least_width in
      either (RingFalls (ring_left place (SlotEnding slot header))) _ (next_slot place slot)
      (At (SlotWords slot header []))
      (next_slot_falls slot _ l (omega arith)) ((l, omega arith), omega arith)
  ring_falls seen (SlotWords slot header got) found l =
      one_more (λ at. RingFits place at × (ring_left place at < ring_left place (SlotWords slot header got)))
      place.width got found (SlotWords slot header) (SlotAgain slot header) l.1 (λ e m. ((l.0, m), omega arith))
      (λ e m. ((l.0, m), omega arith))
  ring_falls seen (SlotAgain slot header value) found l =
      either (RingFalls (ring_left place (SlotAgain slot header value))) _
      (Over (Found (if is_deleted place.form header then None else Some value)))
      (next_slot place slot)
      (wide_or_none place.width (is_deleted place.form header) value l.1, omega arith)
      (next_slot_falls slot _ l.0 (omega arith))
