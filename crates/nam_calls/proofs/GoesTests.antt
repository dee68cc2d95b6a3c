-- Where the calls go on by the tests of their words. For any property of what comes out: if it holds where a test leads
-- to, under what the test says, then it holds after the word.
use Rattle.std.specs.Prelude.{nat_lt, slice_index}
use Rattle.std.proofs.Common.{List, None, Some, [], arith, false, inl, inr, length, not, true, ℕ, ◌&&◌, ◌++◌, ◌+◌, ◌<◌}
use Rattle.std.proofs.Common.{◌==◌, ◌||◌, ◌∷◌, ◌≡◌, ◌≢◌, ◌≤◌, ◌⊎◌, ⊎_elim}
use Rattle.std.proofs.lemmas.Bool.Decides.{nat_tests}
use Rattle.std.proofs.lemmas.Bool.{not-true, not-false, and_parts, eqb-false, eqb-true, or_cases, or_parts}
use Rattle.nam_verbs.specs.declared.now.Now.TheVariants.{At, Over}
use Rattle.nam_verbs.specs.declared.now.Now.{Now}
use Rattle.nam_verbs.proofs.TestLemmas.{by_equal, by_test}
use Rattle.nam_catalog.specs.declared.form.Form.{Form}
use Rattle.nam_header.specs.Stamp.{is_deleted, is_locked, is_moved, is_within, mark, sees, stamp_in, same_stamp}
use Rattle.nam_header.specs.Tag.{has_next, is_free, is_full, written}
use Rattle.nam_layout.specs.declared.field.Cells.{Cells}
use Rattle.nam_layout.specs.declared.field.Place.{Place}
use Rattle.nam_layout.specs.Place.{slot_of}
use Rattle.nam_calls.specs.declared.horizon.CollectPoint.TheVariants.{CollectEnding, CollectFree, CollectTag}
use Rattle.nam_calls.specs.declared.horizon.CollectPoint.TheVariants.{HorizonLook, HorizonRaise}
use Rattle.nam_calls.specs.declared.horizon.CollectPoint.{CollectPoint}
use Rattle.nam_calls.specs.declared.lock.LockEnd.TheVariants.{Locked, Newer}
use Rattle.nam_calls.specs.declared.lock.LockEnd.{LockEnd}
use Rattle.nam_calls.specs.declared.lock.LockPoint.TheVariants.{GiveBack, Peek, Seize}
use Rattle.nam_calls.specs.declared.lock.Locks.{Locks}
use Rattle.nam_calls.specs.declared.overflow.ClaimEnd.TheVariants.{Claimed, NoRoom}
use Rattle.nam_calls.specs.declared.overflow.ClaimEnd.{ClaimEnd}
use Rattle.nam_calls.specs.declared.overflow.ClaimPoint.TheVariants.{ClaimLook, ClaimTake}
use Rattle.nam_calls.specs.declared.overflow.ClaimPoint.{ClaimPoint}
use Rattle.nam_calls.specs.declared.record.CurrentEnd.{CurrentEnd}
use Rattle.nam_calls.specs.declared.record.CurrentPoint.TheVariants.{CurrentAgain, CurrentHead, CurrentWords}
use Rattle.nam_calls.specs.declared.record.CurrentPoint.{CurrentPoint}
use Rattle.nam_calls.specs.declared.ring.RingPoint.TheVariants.{SlotAgain, SlotEnding, SlotHead, SlotWords}
use Rattle.nam_calls.specs.declared.ring.RingPoint.{RingPoint}
use Rattle.nam_calls.specs.declared.ring.SearchEnd.TheVariants.{Found, NotThere}
use Rattle.nam_calls.specs.declared.ring.SearchEnd.{SearchEnd}
use Rattle.nam_calls.specs.declared.ring.SlotEnd.TheVariants.{Free, NotMoved}
use Rattle.nam_calls.specs.declared.ring.SlotEnd.{SlotEnd}
use Rattle.nam_calls.specs.declared.ring.SlotPoint.TheVariants.{CheckHead}
use Rattle.nam_calls.specs.declared.ring.SlotPoint.{SlotPoint}
use Rattle.nam_calls.specs.Horizon.{collect_after, collect_next, entry_known}
use Rattle.nam_calls.specs.Lock.{give_back, lock_after, locks_at, loss_of, nth_place}
use Rattle.nam_calls.specs.Overflow.{claim_after, claim_next}
use Rattle.nam_calls.specs.Record.{current_after}
use Rattle.nam_calls.specs.Ring.{next_slot, ring_after, slot_after}
use Rattle.nam_calls.specs.declared.lock.LockEnd.TheVariants as lock_end
use Rattle.nam_calls.specs.declared.record.CurrentEnd.TheVariants as current

-- 1. Locks

module _ (P : Now Locks LockEnd → Type 0) (places : List Place) where
  abbrev form_at : List ℕ → Form
  form_at held = (nth_place places (length held)).form

  pub loss_goes : (nth found : ℕ)
      → (is_locked (nth_place places nth).form found ≡ true → P (Over (Locked nth found)))
      → (is_locked (nth_place places nth).form found ≡ false → P (Over (Newer nth found)))
      → P (Over (loss_of (nth_place places nth).form nth found))
  loss_goes nth found locked newer =
      by_test (λ end. P (Over end)) (is_locked (nth_place places nth).form found) (Locked nth found) (Newer nth found)
      locked newer

  -- the locks are given back, one after another, before the loss is told
  pub give_back_goes : (held : List ℕ) (given found : ℕ)
      → (given ≡ length held → is_locked (form_at held) found ≡ true → P (Over (Locked (length held) found)))
      → (given ≡ length held → is_locked (form_at held) found ≡ false → P (Over (Newer (length held) found)))
      → (given ≢ length held → P (At (locks_at held (GiveBack given found))))
      → P (give_back places held given found)
  give_back_goes held given found locked newer next =
      by_equal P given (length held) _ _ (λ e. loss_goes (length held) found (locked e) (newer e)) next

  pub peek_goes : (seen held : List ℕ) (found : ℕ)
      → (is_locked (form_at held) found ≡ true → P (give_back places held 0 found))
      → (is_locked (form_at held) found ≡ false → sees (form_at held) seen found ≡ true
      → P (At (locks_at held (Seize found))))
      → (is_locked (form_at held) found ≡ false → sees (form_at held) seen found ≡ false
      → P (give_back places held 0 found))
      → P (lock_after places seen held Peek found)
  peek_goes seen held found locked free newer =
      by_test P (is_locked (form_at held) found) _ _ locked
      (λ e. by_test P (sees (form_at held) seen found) _ _ (free e) (newer e))

  pub seize_goes : (seen held : List ℕ) (header found : ℕ)
      → (found ≡ header → length (held ++ header ∷ []) ≡ length places → P (Over (lock_end.Held (held ++ header ∷ []))))
      → (found ≡ header → length (held ++ header ∷ []) ≢ length places → P (At (locks_at (held ++ header ∷ []) Peek)))
      → (found ≢ header → P (give_back places held 0 found))
      → P (lock_after places seen held (Seize header) found)
  seize_goes seen held header found last next lost =
      by_equal P found header _ _
      (λ e. by_equal P (length (held ++ header ∷ [])) (length places) _ _ (last e) (next e)) lost

-- 2. The current version, and the slot that the next one needs

module _ (P : Now CurrentPoint CurrentEnd → Type 0) (place : Place) (seen : List ℕ) where
  pub current_head_goes : (found : ℕ)
      → (sees place.form seen found ≡ true → is_deleted place.form found ≡ true → P (Over (current.Found None)))
      → (sees place.form seen found ≡ true → is_deleted place.form found ≡ false → P (At (CurrentWords found [])))
      → (sees place.form seen found ≡ false → P (Over current.GoOld))
      → P (current_after place seen CurrentHead found)
  current_head_goes found deleted words old =
      by_test P (sees place.form seen found) _ _
      (λ e. by_test P (is_deleted place.form found) _ _ (deleted e) (words e)) old

  pub current_words_goes : (header : ℕ) (got : List ℕ) (found : ℕ)
      → (length (got ++ found ∷ []) ≢ place.width → P (At (CurrentWords header (got ++ found ∷ []))))
      → (length (got ++ found ∷ []) ≡ place.width → P (At (CurrentAgain header (got ++ found ∷ []))))
      → P (current_after place seen (CurrentWords header got) found)
  current_words_goes header got found more all =
      by_equal (λ at. P (At at)) (length (got ++ found ∷ [])) place.width _ _ all more

  pub current_again_goes : (header : ℕ) (value : List ℕ) (found : ℕ)
      → (same_stamp place.form found header ≡ true
      → (is_locked place.form header || is_locked place.form found) ≡ true → P (Over (current.Unsure value header)))
      → (same_stamp place.form found header ≡ true
      → (is_locked place.form header || is_locked place.form found) ≡ false → P (Over (current.Found (Some value))))
      → (same_stamp place.form found header ≡ false → P (Over current.GoOld))
      → P (current_after place seen (CurrentAgain header value) found)
  current_again_goes header value found unsure sure old =
      by_test P (same_stamp place.form found header) _ _
      (λ e. by_test P (is_locked place.form header || is_locked place.form found) _ _ (unsure e) (sure e)) old

pub slot_goes : (P : Now SlotPoint SlotEnd → Type 0) (place : Place) (count found : ℕ)
    → (is_moved place.form found ≡ true → P (Over (Free count)))
    → (is_moved place.form found ≡ false → P (Over (NotMoved (slot_of place count) found)))
    → P (slot_after place (CheckHead count) found)
slot_goes P place count found free full = by_test P (is_moved place.form found) _ _ free full

-- 3. The ring

module _ (P : Now RingPoint SearchEnd → Type 0) (place : Place) (seen : List ℕ) where
  pub next_slot_goes : (slot : ℕ) → (slot + 1 ≡ place.ring → P (Over NotThere))
      → (slot + 1 ≢ place.ring → P (At (SlotHead (slot + 1)))) → P (next_slot place slot)
  next_slot_goes slot last next = by_equal P (slot + 1) place.ring _ _ last next

  -- the mark is no version, whatever stamp it bears
  pub slot_head_goes : (slot found : ℕ)
      → ((found ≡ mark) ⊎ (sees place.form seen found ≡ false) → P (next_slot place slot))
      → (found ≢ mark → sees place.form seen found ≡ true → P (At (SlotEnding slot found)))
      → P (ring_after place seen (SlotHead slot) found)
  slot_head_goes slot found skip stays =
      by_test P ((found == mark) || not (sees place.form seen found)) _ _
      (λ e. skip (⊎_elim (λ m. inl (eqb-true found mark m)) (λ n. inr (not-true (sees place.form seen found) n))
      (or_cases _ _ e)))
      (λ e. let n = or_parts (found == mark) _ e in
      stays (eqb-false found mark n.0) (not-false (sees place.form seen found) n.1))

  pub slot_ending_goes : (slot header found : ℕ)
      → (sees place.form seen found ≡ true → P (next_slot place slot))
      → (sees place.form seen found ≡ false → P (At (SlotWords slot header [])))
      → P (ring_after place seen (SlotEnding slot header) found)
  slot_ending_goes slot header found skip stays = by_test P (sees place.form seen found) _ _ skip stays

  pub slot_words_goes : (slot header : ℕ) (got : List ℕ) (found : ℕ)
      → (length (got ++ found ∷ []) ≢ place.width → P (At (SlotWords slot header (got ++ found ∷ []))))
      → (length (got ++ found ∷ []) ≡ place.width → P (At (SlotAgain slot header (got ++ found ∷ []))))
      → P (ring_after place seen (SlotWords slot header got) found)
  slot_words_goes slot header got found more all =
      by_equal (λ at. P (At at)) (length (got ++ found ∷ [])) place.width _ _ all more

  -- the version is still there after its words
  pub slot_again_goes : (slot header : ℕ) (value : List ℕ) (found : ℕ)
      → (same_stamp place.form found header ≡ true → found ≢ mark → is_deleted place.form header ≡ true
      → P (Over (Found None)))
      → (same_stamp place.form found header ≡ true → found ≢ mark → is_deleted place.form header ≡ false
      → P (Over (Found (Some value))))
      → ((same_stamp place.form found header && not (found == mark)) ≡ false → P (next_slot place slot))
      → P (ring_after place seen (SlotAgain slot header value) found)
  slot_again_goes slot header value found deleted present skip =
      by_test P (same_stamp place.form found header && not (found == mark)) _ _
      (λ e. let b = and_parts (same_stamp place.form found header) _ e in
      let n = eqb-false found mark (not-true (found == mark) b.1) in
      by_test (λ old. P (Over (Found old))) (is_deleted place.form header) _ _ (deleted b.0 n) (present b.0 n))
      skip

-- 4. The claim of a cell

module _ (P : Now ClaimPoint ClaimEnd → Type 0) (cells : Cells) where
  pub claim_next_goes : (cell : ℕ) → (cell + 1 ≡ cells.cells → P (Over NoRoom))
      → (cell + 1 ≢ cells.cells → P (At (ClaimLook (cell + 1)))) → P (claim_next cells cell)
  claim_next_goes cell last next = by_equal P (cell + 1) cells.cells _ _ last next

  pub claim_look_goes : (cell found : ℕ)
      → (is_free found ≡ true → P (At (ClaimTake cell found))) → (is_free found ≡ false → P (claim_next cells cell))
      → P (claim_after cells (ClaimLook cell) found)
  claim_look_goes cell found free taken = by_test P (is_free found) _ _ free taken

  pub claim_take_goes : (cell tag found : ℕ)
      → (found ≡ tag → P (Over (Claimed cell (written tag)))) → (found ≢ tag → P (claim_next cells cell))
      → P (claim_after cells (ClaimTake cell tag) found)
  claim_take_goes cell tag found won lost = by_equal P found tag _ _ won lost

-- 5. A collection

module _ (P : Now CollectPoint (List ℕ) → Type 0) (cells : Cells) (workers : ℕ) (seen : List ℕ) where
  pub entry_goes : (known : List ℕ) → (length known ≢ workers → P (At (HorizonLook known)))
      → (length known ≡ workers → P (At (CollectTag known 0))) → P (entry_known workers known)
  entry_goes known more all = by_equal (λ at. P (At at)) (length known) workers _ _ all more

  pub collect_next_goes : (known : List ℕ) (cell : ℕ) → (cell + 1 ≡ cells.cells → P (Over known))
      → (cell + 1 ≢ cells.cells → P (At (CollectTag known (cell + 1)))) → P (collect_next cells known cell)
  collect_next_goes known cell last next = by_equal P (cell + 1) cells.cells _ _ last next

  -- an entry below the snapshot's is to be raised
  pub horizon_look_goes : (known : List ℕ) (found : ℕ)
      → (found < slice_index seen (length known) → P (At (HorizonRaise known found)))
      → (slice_index seen (length known) ≤ found → P (entry_known workers (known ++ found ∷ [])))
      → P (collect_after cells workers seen (HorizonLook known) found)
  horizon_look_goes known found raise knows =
      by_test P (nat_lt found (slice_index seen (length known))) _ _ (λ e. raise (grind (arith, nat_tests)))
      (λ e. knows (grind (arith, nat_tests)))

  pub horizon_raise_goes : (known : List ℕ) (expected found : ℕ)
      → (found ≡ expected → P (entry_known workers (known ++ slice_index seen (length known) ∷ [])))
      → (found ≢ expected → P (entry_known workers (known ++ found ∷ [])))
      → P (collect_after cells workers seen (HorizonRaise known expected) found)
  horizon_raise_goes known expected found won lost =
      by_equal (λ entry. P (entry_known workers (known ++ entry ∷ []))) found expected _ _ won lost

  pub collect_tag_goes : (known : List ℕ) (cell found : ℕ)
      → (is_full found ≡ true → P (At (CollectEnding known cell found)))
      → (is_full found ≡ false → P (collect_next cells known cell))
      → P (collect_after cells workers seen (CollectTag known cell) found)
  collect_tag_goes known cell found full other = by_test P (is_full found) _ _ full other

  pub collect_ending_goes : (known : List ℕ) (cell tag found : ℕ)
      → (is_within (stamp_in cells.form found) known ≡ true → has_next tag ≡ true → P (At (CollectFree known cell tag)))
      → ((is_within (stamp_in cells.form found) known && has_next tag) ≡ false → P (collect_next cells known cell))
      → P (collect_after cells workers seen (CollectEnding known cell tag) found)
  collect_ending_goes known cell tag found frees stays =
      by_test P (is_within (stamp_in cells.form found) known && has_next tag) _ _
      (λ e. let b = and_parts _ _ e in frees b.0 b.1) stays
