-- The words that a call may still write are below 2^64 after each word below 2^64, and each verb writes such a word.
use Rattle.std.specs.Prelude.{if◌then◌else◌, nat_lt, slice_index}
use Rattle.std.proofs.Common.{Bool, List, None, Some, [], length, not, ℕ, ◌&&◌, ◌++◌, ◌+◌, ◌==◌, ◌||◌, ◌∷◌, ◌≤◌}
use Rattle.nam_verbs.specs.declared.now.Now.TheVariants.{At, Over}
use Rattle.nam_verbs.specs.declared.now.Now.{Now}
use Rattle.nam_verbs.specs.Falls.{Any}
use Rattle.nam_catalog.specs.declared.bounds.TheConstants.{MOST_WORKERS}
use Rattle.nam_catalog.specs.declared.form.Form.{Form}
use Rattle.nam_header.specs.Stamp.{is_deleted, is_locked, is_moved, mark, sees, stamp_in, without_moved, same_stamp}
use Rattle.nam_header.specs.Stamp.{is_within}
use Rattle.nam_header.specs.Tag.{has_next, is_free, is_full, written}
use Rattle.nam_layout.specs.declared.field.Cells.{Cells}
use Rattle.nam_layout.specs.declared.field.Place.{Place}
use Rattle.nam_vector.specs.declared.snap.SnapPoint.TheVariants.{First, Second}
use Rattle.nam_vector.specs.declared.snap.SnapPoint.{SnapPoint}
use Rattle.nam_vector.specs.Snap.{snap_after}
use Rattle.nam_vector.specs.declared.snap.SnapEnd.TheVariants as snap_end
use Rattle.nam_calls.specs.declared.horizon.CollectPoint.TheVariants.{CollectEnding, CollectFree, CollectTag}
use Rattle.nam_calls.specs.declared.horizon.CollectPoint.TheVariants.{HorizonLook, HorizonRaise}
use Rattle.nam_calls.specs.declared.horizon.CollectPoint.{CollectPoint}
use Rattle.nam_calls.specs.declared.horizon.OldEnd.TheVariants.{TooOld, NotPassed}
use Rattle.nam_calls.specs.declared.horizon.OldEnd.{OldEnd}
use Rattle.nam_calls.specs.declared.lock.LockEnd.TheVariants.{Locked, Newer}
use Rattle.nam_calls.specs.declared.lock.LockEnd.{LockEnd}
use Rattle.nam_calls.specs.declared.lock.LockPoint.TheVariants.{GiveBack, Peek, Seize}
use Rattle.nam_calls.specs.declared.lock.LockPoint.{LockPoint}
use Rattle.nam_calls.specs.declared.lock.Locks.{Locks}
use Rattle.nam_calls.specs.declared.mover.MoveAnswer.{MoveAnswer}
use Rattle.nam_calls.specs.declared.mover.MovePoint.TheVariants.{MoveAgain, MoveBack, MoveClaim, MoveCount, MoveEnding}
use Rattle.nam_calls.specs.declared.mover.MovePoint.TheVariants.{MoveFill, MoveFlag, MoveFull, MoveHead, MoveWords}
use Rattle.nam_calls.specs.declared.mover.MovePoint.{MovePoint}
use Rattle.nam_calls.specs.declared.overflow.CellPoint.TheVariants.{CellAgain, CellBegin, CellEnding, CellOwner}
use Rattle.nam_calls.specs.declared.overflow.CellPoint.TheVariants.{CellTag, CellWords}
use Rattle.nam_calls.specs.declared.overflow.CellPoint.{CellPoint}
use Rattle.nam_calls.specs.declared.overflow.ClaimEnd.TheVariants.{Claimed, NoRoom}
use Rattle.nam_calls.specs.declared.overflow.ClaimEnd.{ClaimEnd}
use Rattle.nam_calls.specs.declared.overflow.ClaimPoint.TheVariants.{ClaimLook, ClaimTake}
use Rattle.nam_calls.specs.declared.overflow.ClaimPoint.{ClaimPoint}
use Rattle.nam_calls.specs.declared.overflow.FillPoint.TheVariants.{FillBegin, FillEnding, FillOwner, FillWord}
use Rattle.nam_calls.specs.declared.overflow.FillPoint.{FillPoint}
use Rattle.nam_calls.specs.declared.overflow.Version.{Version}
use Rattle.nam_calls.specs.declared.reading.ReadPoint.TheVariants.{ReadCells, ReadCurrent, ReadHorizon, ReadRecheck}
use Rattle.nam_calls.specs.declared.reading.ReadPoint.TheVariants.{ReadRing, ReadUnsure}
use Rattle.nam_calls.specs.declared.reading.ReadPoint.{ReadPoint}
use Rattle.nam_calls.specs.declared.reading.ReadingEnd.TheVariants.{Got}
use Rattle.nam_calls.specs.declared.reading.ReadingEnd.{ReadingEnd}
use Rattle.nam_calls.specs.declared.reading.Sight.{Sight}
use Rattle.nam_calls.specs.declared.record.CurrentEnd.{CurrentEnd}
use Rattle.nam_calls.specs.declared.record.CurrentPoint.TheVariants.{CurrentAgain, CurrentHead, CurrentWords}
use Rattle.nam_calls.specs.declared.record.CurrentPoint.{CurrentPoint}
use Rattle.nam_calls.specs.declared.ring.RingPoint.TheVariants.{SlotAgain, SlotEnding, SlotHead, SlotWords}
use Rattle.nam_calls.specs.declared.ring.RingPoint.{RingPoint}
use Rattle.nam_calls.specs.declared.ring.SearchEnd.TheVariants.{Found, NotThere}
use Rattle.nam_calls.specs.declared.ring.SearchEnd.{SearchEnd}
use Rattle.nam_calls.specs.Holds.{AreWords, CellHolds, ClaimEndHolds, ClaimHolds, CollectHolds, CurrentEndHolds}
use Rattle.nam_calls.specs.Holds.{CurrentHolds, HasWords, IsWord, LockEndHolds, LockHolds, LocksHold, MoveHolds, ReadHolds}
use Rattle.nam_calls.specs.Holds.{HoldsNow, ReadingHolds, RingHolds, SearchHolds, SnapEndHolds, SnapHolds, VersionHolds}
use Rattle.nam_calls.specs.Holds.{WritesWord}
use Rattle.nam_calls.specs.Horizon.{collect_after, collect_next, collect_verb, entry_known}
use Rattle.nam_calls.specs.Lock.{give_back, lock_after, lock_next, lock_verb, locks_at, loss_of, nth_place}
use Rattle.nam_calls.specs.Mover.{move_after, move_verb, on_claim, on_fill}
use Rattle.nam_calls.specs.Overflow.{cell_after, claim_after, claim_next, claim_verb, fill_begin, fill_verb, next_cell}
use Rattle.nam_calls.specs.Reading.{on_cells, on_current, on_horizon, on_ring, on_unsure, read_after}
use Rattle.nam_calls.specs.Record.{current_after, recheck_end, words_after}
use Rattle.nam_calls.specs.Ring.{next_slot, ring_after, ring_begin}
use Rattle.nam_calls.proofs.FallsTests.{either}
use Rattle.nam_calls.proofs.HoldsWords.{freed_word, full_word, moved_word, unmoved_word, words_at, words_push}
use Rattle.nam_calls.proofs.HoldsWords.{locked_word, until_holds, written_word}
use Rattle.nam_calls.specs.declared.lock.LockEnd.TheVariants as lock_end
use Rattle.nam_calls.specs.declared.mover.MoveAnswer.TheVariants as move_end
use Rattle.nam_calls.specs.declared.record.CurrentEnd.TheVariants as current

-- 1. A snapshot

pub snap_holds : (workers : ℕ) (at : SnapPoint) (found : ℕ) → SnapHolds at → IsWord found
    → HoldsNow SnapHolds SnapEndHolds (snap_after workers at found)
snap_holds workers (First got) found h is =
    let all = words_push got found h is in
    until_holds SnapHolds workers (got ++ found ∷ []) First (λ seen. Second seen 0) all all
snap_holds workers (Second seen at) found h is =
    either (HoldsNow SnapHolds SnapEndHolds) (found == slice_index seen at)
    (if at + 1 == workers then Over (snap_end.Done seen) else At (Second seen (at + 1)))
    (Over (snap_end.Again (at + 1) (slice_index seen at) found))
    (either (HoldsNow SnapHolds SnapEndHolds) (at + 1 == workers) (Over (snap_end.Done seen))
    (At (Second seen (at + 1))) h h)
    tt

-- 2. A read

module _ (place : Place) (seen : List ℕ) where
  abbrev Current : Now CurrentPoint CurrentEnd → Type 0
  Current = HoldsNow CurrentHolds CurrentEndHolds

  current_holds : (at : CurrentPoint) (found : ℕ) → CurrentHolds at → IsWord found
      → Current (current_after place seen at found)
  current_holds CurrentHead found h is =
      either Current (sees place.form seen found)
      (if is_deleted place.form found then Over (current.Found None) else At (CurrentWords found []))
      (Over current.GoOld)
      (either Current (is_deleted place.form found) (Over (current.Found None)) (At (CurrentWords found [])) tt tt) tt
  current_holds (CurrentWords header got) found h is =
      let all = words_push got found h is in
      until_holds CurrentHolds place.width (got ++ found ∷ []) (CurrentWords header) (CurrentAgain header) all all
  current_holds (CurrentAgain header value) found h is =
      let locked = is_locked place.form header || is_locked place.form found in
      either Current (same_stamp place.form found header)
      (if locked then Over (current.Unsure value header) else Over (current.Found (Some value))) (Over current.GoOld)
      (either Current locked (Over (current.Unsure value header)) (Over (current.Found (Some value))) h h) tt

  abbrev Ring : Now RingPoint SearchEnd → Type 0
  Ring = HoldsNow RingHolds SearchHolds

  next_slot_holds : (slot : ℕ) → Ring (next_slot place slot)
  next_slot_holds slot = either Ring (slot + 1 == place.ring) (Over NotThere) (At (SlotHead (slot + 1))) tt tt

  value_or_none : (deleted : Bool) (value : List ℕ) → AreWords value → HasWords (if deleted then None else Some value)
  value_or_none deleted value all = either HasWords deleted None (Some value) tt all

  ring_holds : (at : RingPoint) (found : ℕ) → RingHolds at → IsWord found → Ring (ring_after place seen at found)
  ring_holds (SlotHead slot) found h is =
      either Ring ((found == mark) || not (sees place.form seen found)) (next_slot place slot)
      (At (SlotEnding slot found)) (next_slot_holds slot) tt
  ring_holds (SlotEnding slot header) found h is =
      either Ring (sees place.form seen found) (next_slot place slot) (At (SlotWords slot header []))
      (next_slot_holds slot) tt
  ring_holds (SlotWords slot header got) found h is =
      let all = words_push got found h is in
      until_holds RingHolds place.width (got ++ found ∷ []) (SlotWords slot header) (SlotAgain slot header) all all
  ring_holds (SlotAgain slot header value) found h is =
      either Ring (same_stamp place.form found header && not (found == mark))
      (Over (Found (if is_deleted place.form header then None else Some value))) (next_slot place slot)
      (value_or_none (is_deleted place.form header) value h) (next_slot_holds slot)

  module _ (cells : Cells) where
    abbrev Search : Now CellPoint SearchEnd → Type 0
    Search = HoldsNow CellHolds SearchHolds

    next_cell_holds : (cell : ℕ) → Search (next_cell cells cell)
    next_cell_holds cell = either Search (cell + 1 == cells.cells) (Over NotThere) (At (CellTag (cell + 1))) tt tt

    cell_holds : (at : CellPoint) (found : ℕ) → CellHolds at → IsWord found
        → Search (cell_after cells place seen at found)
    cell_holds (CellTag cell) found h is =
        either Search (is_full found) (At (CellOwner cell found)) (next_cell cells cell) tt (next_cell_holds cell)
    cell_holds (CellOwner cell tag) found h is =
        either Search (found == place.row) (At (CellBegin cell tag)) (next_cell cells cell) tt (next_cell_holds cell)
    cell_holds (CellBegin cell tag) found h is =
        either Search (sees place.form seen found) (At (CellEnding cell tag found)) (next_cell cells cell) tt
        (next_cell_holds cell)
    cell_holds (CellEnding cell tag header) found h is =
        either Search (sees place.form seen found) (next_cell cells cell) (At (CellWords cell tag header []))
        (next_cell_holds cell) tt
    cell_holds (CellWords cell tag header got) found h is =
        let all = words_push got found h is in
        until_holds CellHolds place.width (got ++ found ∷ []) (CellWords cell tag header) (CellAgain cell tag header)
        all all
    cell_holds (CellAgain cell tag header value) found h is =
        either Search (found == tag) (Over (Found (if is_deleted place.form header then None else Some value)))
        (next_cell cells cell) (value_or_none (is_deleted place.form header) value h) (next_cell_holds cell)

abbrev Reads : Now ReadPoint ReadingEnd → Type 0
Reads = HoldsNow ReadHolds ReadingHolds

on_current_holds : (now : Now CurrentPoint CurrentEnd) → HoldsNow CurrentHolds CurrentEndHolds now
    → Reads (on_current now)
on_current_holds (At at) h = h
on_current_holds (Over (current.Found value)) h = h
on_current_holds (Over (current.Unsure value header)) h = (h, tt)
on_current_holds (Over current.GoOld) h = tt

on_unsure_holds : (value : List ℕ) (header : ℕ) (now : Now RingPoint SearchEnd) → AreWords value
    → HoldsNow RingHolds SearchHolds now → Reads (on_unsure value header now)
on_unsure_holds value header (At at) v h = (v, h)
on_unsure_holds value header (Over (Found old)) v h = h
on_unsure_holds value header (Over NotThere) v h = v

on_ring_holds : (now : Now RingPoint SearchEnd) → HoldsNow RingHolds SearchHolds now → Reads (on_ring now)
on_ring_holds (At at) h = h
on_ring_holds (Over (Found old)) h = h
on_ring_holds (Over NotThere) h = tt

on_cells_holds : (now : Now CellPoint SearchEnd) → HoldsNow CellHolds SearchHolds now → Reads (on_cells now)
on_cells_holds (At at) h = h
on_cells_holds (Over (Found old)) h = h
on_cells_holds (Over NotThere) h = tt

on_horizon_holds : (now : Now ℕ OldEnd) → Reads (on_horizon now)
on_horizon_holds (At worker) = tt
on_horizon_holds (Over (TooOld worker entry horizon)) = tt
on_horizon_holds (Over NotPassed) = tt

pub read_holds : (sight : Sight) (seen : List ℕ) (at : ReadPoint) (found : ℕ) → ReadHolds at → IsWord found
    → Reads (read_after sight seen at found)
read_holds sight seen (ReadCurrent at) found h is = on_current_holds _ (current_holds sight.place seen at found h is)
read_holds sight seen (ReadUnsure value header at) found h is =
    on_unsure_holds value header _ h.0 (ring_holds sight.place seen at found h.1 is)
read_holds sight seen (ReadRecheck value header) found h is =
    either Reads (recheck_end sight.place header found) (Over (Got (Some value))) (At (ReadRing ring_begin)) h tt
read_holds sight seen (ReadRing at) found h is = on_ring_holds _ (ring_holds sight.place seen at found h is)
read_holds sight seen (ReadCells at) found h is =
    on_cells_holds _ (cell_holds sight.place seen sight.cells at found h is)
read_holds sight seen (ReadHorizon worker) found h is = on_horizon_holds _

-- a value's words
pub value_holds : (place : Place) (got : List ℕ) (found : ℕ) → AreWords got → IsWord found
    → HoldsNow AreWords AreWords (words_after place got found)
value_holds place got found h is =
    let all = words_push got found h is in
    until_holds (HoldsNow AreWords AreWords) place.width (got ++ found ∷ []) At Over all all

-- 3. Locks

module _ (places : List Place) where
  abbrev LocksNow : Now Locks LockEnd → Type 0
  LocksNow = HoldsNow LocksHold LockEndHolds

  loss_holds : (form : Form) (nth found : ℕ) → LockEndHolds (loss_of form nth found)
  loss_holds form nth found = either LockEndHolds (is_locked form found) (Locked nth found) (Newer nth found) tt tt

  give_back_holds : (held : List ℕ) (given found : ℕ) → AreWords held → LocksNow (give_back places held given found)
  give_back_holds held given found h =
      either LocksNow (given == length held)
      (Over (loss_of (nth_place places (length held)).form (length held) found))
      (At (locks_at held (GiveBack given found)))
      (loss_holds (nth_place places (length held)).form (length held) found) (h, tt)

  pub lock_holds : (seen held : List ℕ) (at : LockPoint) (found : ℕ) → AreWords held → LockHolds at → IsWord found
      → LocksNow (lock_after places seen held at found)
  lock_holds seen held Peek found h p is =
      let form = (nth_place places (length held)).form in
      either LocksNow (is_locked form found) (give_back places held 0 found)
      (if sees form seen found then At (locks_at held (Seize found)) else give_back places held 0 found)
      (give_back_holds held 0 found h)
      (either LocksNow (sees form seen found) (At (locks_at held (Seize found))) (give_back places held 0 found)
      (h, is) (give_back_holds held 0 found h))
  lock_holds seen held (Seize header) found h p is =
      let all = words_push held header h p in
      either LocksNow (found == header) (lock_next places (held ++ header ∷ [])) (give_back places held 0 found)
      (either LocksNow (length (held ++ header ∷ []) == length places) (Over (lock_end.Held (held ++ header ∷ [])))
      (At (locks_at (held ++ header ∷ []) Peek)) all (all, tt))
      (give_back_holds held 0 found h)
  lock_holds seen held (GiveBack given word) found h p is = give_back_holds held (given + 1) word h

  pub lock_word : (worker : ℕ) (held : List ℕ) (at : LockPoint) → worker ≤ MOST_WORKERS → AreWords held
      → LockHolds at → WritesWord (lock_verb worker places held at)
  lock_word worker held Peek l h p = tt
  lock_word worker held (Seize header) l h p =
      locked_word (nth_place places (length held)).form worker header l p
  lock_word worker held (GiveBack given found) l h p = words_at held given h

-- 4. A move

module _ (place : Place) (cells : Cells) where
  abbrev Moves : Now MovePoint MoveAnswer → Type 0
  Moves = HoldsNow MoveHolds Any

  abbrev Claims : Now ClaimPoint ClaimEnd → Type 0
  Claims = HoldsNow ClaimHolds ClaimEndHolds

  claim_next_holds : (cell : ℕ) → Claims (claim_next cells cell)
  claim_next_holds cell = either Claims (cell + 1 == cells.cells) (Over NoRoom) (At (ClaimLook (cell + 1))) tt tt

  claim_holds : (at : ClaimPoint) (found : ℕ) → ClaimHolds at → IsWord found → Claims (claim_after cells at found)
  claim_holds (ClaimLook cell) found h is =
      either Claims (is_free found) (At (ClaimTake cell found)) (claim_next cells cell) is (claim_next_holds cell)
  claim_holds (ClaimTake cell tag) found h is =
      either Claims (found == tag) (Over (Claimed cell (written tag))) (claim_next cells cell) (written_word tag h)
      (claim_next_holds cell)

  on_claim_holds : (slot header ending : ℕ) (now : Now ClaimPoint ClaimEnd) → IsWord header → IsWord ending
      → Claims now → Moves (on_claim cells slot header ending now)
  on_claim_holds slot header ending (At at) h e c = (h, e, c)
  on_claim_holds slot header ending (Over (Claimed cell tag)) h e c = (h, e, c, tt)
  on_claim_holds slot header ending (Over NoRoom) h e c = tt

  on_fill_holds : (slot header cell tag : ℕ) (version : Version) (now : Now FillPoint (Unit {0})) → IsWord header
      → IsWord tag → VersionHolds version → Moves (on_fill slot header cell tag version now)
  on_fill_holds slot header cell tag version (At at) h t v = (h, t, v)
  on_fill_holds slot header cell tag version (Over done) h t v = (h, t)

  pub move_holds : (at : MovePoint) (found : ℕ) → MoveHolds at → IsWord found → Moves (move_after place cells at found)
  move_holds MoveCount found h is = tt
  move_holds (MoveHead slot) found h is =
      either Moves (is_moved place.form found) (Over move_end.Nothing) (At (MoveEnding slot found)) tt is
  move_holds (MoveEnding slot header) found h is = (h, is, tt)
  move_holds (MoveClaim slot header ending at) found h is =
      on_claim_holds slot header ending _ h.0 h.1 (claim_holds at found h.2 is)
  move_holds (MoveWords slot header ending cell tag got) found h is =
      let all = words_push got found h.3 is in
      until_holds MoveHolds place.width (got ++ found ∷ []) (MoveWords slot header ending cell tag)
      (λ value. MoveFill slot header cell tag
      record { begin = without_moved place.form header; «end» = ending; value = value } fill_begin)
      (h.0, h.1, h.2, all) (h.0, h.2, (unmoved_word place.form header h.0, h.1, all))
  move_holds (MoveFill slot header cell tag version at) found h is =
      on_fill_holds slot header cell tag version _ h.0 h.1 h.2
  move_holds (MoveAgain slot header cell tag) found h is =
      either Moves (found == header) (At (MoveFull slot header cell tag)) (At (MoveBack header cell tag)) h h.1
  move_holds (MoveFull slot header cell tag) found h is = h.0
  move_holds (MoveFlag slot header) found h is = tt
  move_holds (MoveBack header cell tag) found h is = tt

  claim_word : (at : ClaimPoint) → ClaimHolds at → WritesWord (claim_verb cells at)
  claim_word (ClaimLook cell) h = tt
  claim_word (ClaimTake cell tag) h = written_word tag h

  fill_word : (cell owner : ℕ) (version : Version) (at : FillPoint) → IsWord owner → VersionHolds version
      → WritesWord (fill_verb cells cell owner version at)
  fill_word cell owner version FillOwner o v = o
  fill_word cell owner version FillBegin o v = v.0
  fill_word cell owner version FillEnding o v = v.1
  fill_word cell owner version (FillWord nth) o v = words_at version.value nth v.2

  pub move_word : (at : MovePoint) → IsWord place.row → MoveHolds at → WritesWord (move_verb place cells at)
  move_word MoveCount r h = tt
  move_word (MoveHead slot) r h = tt
  move_word (MoveEnding slot header) r h = tt
  move_word (MoveClaim slot header ending at) r h = claim_word at h.2
  move_word (MoveWords slot header ending cell tag got) r h = tt
  move_word (MoveFill slot header cell tag version at) r h = fill_word cell place.row version at r h.2
  move_word (MoveAgain slot header cell tag) r h = tt
  move_word (MoveFull slot header cell tag) r h = full_word tag h.1
  move_word (MoveFlag slot header) r h = moved_word place.form header h
  move_word (MoveBack header cell tag) r h = freed_word tag h

-- 5. A collection

module _ (cells : Cells) (seen : List ℕ) where
  abbrev Collects : Now CollectPoint (List ℕ) → Type 0
  Collects = HoldsNow CollectHolds Any

  known_holds : (workers : ℕ) (known : List ℕ) → Collects (entry_known workers known)
  known_holds workers known = until_holds CollectHolds workers known HorizonLook (λ all. CollectTag all 0) tt tt

  collect_next_holds : (known : List ℕ) (cell : ℕ) → Collects (collect_next cells known cell)
  collect_next_holds known cell =
      either Collects (cell + 1 == cells.cells) (Over known) (At (CollectTag known (cell + 1))) tt tt

  pub collect_holds : (workers : ℕ) (at : CollectPoint) (found : ℕ) → CollectHolds at → IsWord found
      → Collects (collect_after cells workers seen at found)
  collect_holds workers (HorizonLook known) found h is =
      either Collects (nat_lt found (slice_index seen (length known))) (At (HorizonRaise known found))
      (entry_known workers (known ++ found ∷ [])) tt (known_holds workers (known ++ found ∷ []))
  collect_holds workers (HorizonRaise known expected) found h is = known_holds workers _
  collect_holds workers (CollectTag known cell) found h is =
      either Collects (is_full found) (At (CollectEnding known cell found)) (collect_next cells known cell) is
      (collect_next_holds known cell)
  collect_holds workers (CollectEnding known cell tag) found h is =
      either Collects (is_within (stamp_in cells.form found) known && has_next tag) (At (CollectFree known cell tag))
      (collect_next cells known cell) h (collect_next_holds known cell)
  collect_holds workers (CollectFree known cell tag) found h is = collect_next_holds known cell

  pub collect_word : (at : CollectPoint) → AreWords seen → CollectHolds at → WritesWord (collect_verb cells seen at)
  collect_word (HorizonLook known) s h = tt
  collect_word (HorizonRaise known found) s h = words_at seen (length known) s
  collect_word (CollectTag known cell) s h = tt
  collect_word (CollectEnding known cell tag) s h = tt
  collect_word (CollectFree known cell tag) s h = freed_word tag h
