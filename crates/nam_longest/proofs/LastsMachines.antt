-- Words that make each machine last as long as it can. What lasts so many verbs may be anything that lasts one more
-- before each word that it takes.
use Rattle.std.proofs.Common.{◌≡◌, ℕ, zero, suc, ◌+◌, ◌-◌, ◌*◌, ◌<◌, List, [], ◌∷◌, ◌++◌, length, refl, arith, Bool}
use Rattle.std.proofs.Common.{true, false, Some, None, not, ◌&&◌, ◌||◌, ◌∙◌, inl, inr, length-append}
use Rattle.std.proofs.Math.Nat.{suc-mul}
use Rattle.std.specs.Prelude.{if◌then◌else◌, ◌==◌, nat_lt, slice_index}
use Rattle.std.proofs.lemmas.Bool.{eq-eqb, cases_lt}
use Rattle.std.proofs.lemmas.List.{get_or_append_left}
use Rattle.std.proofs.Math.Seq.{get_or-append_seam}
use Rattle.std.proofs.lemmas.Bool.Decides.{nat_tests}
use Rattle.nam_verbs.proofs.TestLemmas.{by_test}
use Rattle.nam_verbs.specs.Until.{until}
use Rattle.nam_verbs.specs.declared.now.Now.{Now}
use Rattle.nam_verbs.specs.declared.now.Now.TheVariants.{At, Over}
use Rattle.nam_catalog.specs.declared.form.Form.{Form}
use Rattle.nam_catalog.specs.declared.form.Form.TheVariants.{Narrow, Wide, Held}
use Rattle.nam_header.specs.Stamp.{is_deleted, is_locked, same_stamp, sees}
use Rattle.nam_layout.specs.declared.field.Place.{Place}
use Rattle.nam_layout.specs.declared.field.Cells.{Cells}
use Rattle.nam_layout.specs.PlaceFits.{FitsPlace}
use Rattle.nam_calls.specs.declared.index.FindEnd.{FindEnd}
use Rattle.nam_calls.specs.declared.index.Path.{Path}
use Rattle.nam_calls.specs.declared.index.ClaimKeyPoint.{ClaimKeyPoint}
use Rattle.nam_calls.specs.declared.index.ClaimKeyPoint.TheVariants.{KeyLook, KeyTake}
use Rattle.nam_calls.specs.declared.index.ClaimKeyEnd.{ClaimKeyEnd}
use Rattle.nam_calls.specs.declared.index.ClaimKeyEnd.TheVariants.{NoSpace}
use Rattle.nam_calls.specs.declared.index.FindEnd.TheVariants as found_key
use Rattle.nam_calls.specs.declared.record.CurrentPoint.{CurrentPoint}
use Rattle.nam_calls.specs.declared.record.CurrentPoint.TheVariants.{CurrentHead, CurrentWords, CurrentAgain}
use Rattle.nam_calls.specs.declared.record.CurrentEnd.{CurrentEnd}
use Rattle.nam_calls.specs.declared.record.CurrentEnd.TheVariants.{Unsure}
use Rattle.nam_calls.specs.declared.record.CurrentEnd.TheVariants as current
use Rattle.nam_calls.specs.declared.ring.RingPoint.{RingPoint}
use Rattle.nam_calls.specs.declared.ring.RingPoint.TheVariants.{SlotHead, SlotEnding, SlotWords, SlotAgain}
use Rattle.nam_calls.specs.declared.ring.SearchEnd.{SearchEnd}
use Rattle.nam_calls.specs.declared.ring.SearchEnd.TheVariants.{Found, NotThere}
use Rattle.nam_calls.specs.declared.overflow.CellPoint.{CellPoint}
use Rattle.nam_calls.specs.declared.overflow.CellPoint.TheVariants.{CellTag, CellOwner, CellBegin, CellEnding}
use Rattle.nam_calls.specs.declared.overflow.CellPoint.TheVariants.{CellWords, CellAgain}
use Rattle.nam_calls.specs.declared.horizon.OldEnd.{OldEnd}
use Rattle.nam_calls.specs.declared.horizon.OldEnd.TheVariants.{TooOld, NotPassed}
use Rattle.nam_calls.specs.Holds.{IsWord}
use Rattle.nam_calls.specs.Words.{key_word}
use Rattle.nam_calls.specs.Index.{nth_position, find_after, claim_key_after}
use Rattle.nam_calls.specs.Record.{current_after}
use Rattle.nam_calls.specs.Ring.{ring_after, next_slot}
use Rattle.nam_calls.specs.Overflow.{cell_after, next_cell}
use Rattle.nam_calls.specs.Horizon.{old_after}
use Rattle.nam_calls.proofs.FallsTests.{or_last, one_more}

-- 1. Tests

pub on_true : {A : Type 0} (P : A → Type 0) (b : Bool) (x y : A) → b ≡ true → P x → P (if b then x else y)
on_true P b x y e p = rw e p

pub on_false : {A : Type 0} (P : A → Type 0) (b : Bool) (x y : A) → b ≡ false → P y → P (if b then x else y)
on_false P b x y e p = rw e p

-- each snapshot sees the loader's stamp, 0, and none sees 8, which bears another number of it
pub sees_0 : (form : Form) (seen : List ℕ) → sees form seen 0 ≡ true
sees_0 Narrow seen = refl
sees_0 Wide seen = refl
sees_0 Held seen = refl

sees_not_8 : (form : Form) (seen : List ℕ) → sees form seen 8 ≡ false
sees_not_8 Narrow seen = refl
sees_not_8 Wide seen = refl
sees_not_8 Held seen = refl

pub kept_0 : (form : Form) → is_deleted form 0 ≡ false
kept_0 Narrow = refl
kept_0 Wide = refl
kept_0 Held = refl

locked_1 : (form : Form) → is_locked form 1 ≡ true
locked_1 Narrow = refl
locked_1 Wide = refl
locked_1 Held = refl

same_1 : (form : Form) → same_stamp form 1 0 ≡ true
same_1 Narrow = refl
same_1 Wide = refl
same_1 Held = refl

pub other_8 : (form : Form) → same_stamp form 8 0 ≡ false
other_8 Narrow = refl
other_8 Wide = refl
other_8 Held = refl

-- before a word that leads on it lasts one verb more
abbrev pub LastsMore : {P E : Type 0} → (Now P E → ℕ → Type 0) → (P → ℕ → Now P E) → Type 0
LastsMore {P = P} Lasts after =
    (at : P) (found n m : ℕ) → IsWord found → m ≡ n + 1 → Lasts (after at found) n → Lasts (At at) m

-- 2. Words one after another

-- each of the words is this one
abbrev pub AreAll : ℕ → List ℕ → Type 0
AreAll word words = (nth : ℕ) → nth < length words → slice_index words nth ≡ word

pub all_none : (word : ℕ) → AreAll word []
all_none word nth l = absurd (omega arith)

pub all_more : (word : ℕ) (words : List ℕ) → AreAll word words → AreAll word (words ++ word ∷ [])
all_more word words all nth l =
    let e : length (words ++ word ∷ []) ≡ length words + 1 = length-append words (word ∷ []) in
    elim (cases_lt nth (length words)) [
      | inl less ↦ get_or_append_left words (word ∷ []) 0 nth less ∙ all nth less
      | inr not_less ↦ (let same : nth ≡ length words = omega arith in rw same (get_or-append_seam words word [] 0))
    ]

-- a word is read so many times
pub words_last : {P E : Type 0} (Lasts : Now P E → ℕ → Type 0) (word : ℕ) (is : IsWord word) (width : ℕ)
    (more done : List ℕ → P)
    → ((got : List ℕ) (found n m : ℕ) → IsWord found → m ≡ n + 1
    → Lasts (At (until width (got ++ found ∷ []) more done)) n
    → Lasts (At (more got)) m)
    → (rest : ℕ) (got : List ℕ) (n m : ℕ) → AreAll word got → length got + suc rest ≡ width → m ≡ n + suc rest
    → ((value : List ℕ) → length value ≡ width → AreAll word value → Lasts (At (done value)) n)
    → Lasts (At (more got)) m
words_last Lasts word is width more done step zero got n m q e f all =
    step got word n m is (omega arith)
    (one_more (λ at. Lasts (At at) n) width got word more done (omega arith) (λ a b. absurd (omega arith))
    (λ a b. all (got ++ word ∷ []) b (all_more word got q)))
words_last Lasts word is width more done step (suc rest) got n m q e f all =
    step got word (n + suc rest) m is (omega arith)
    (one_more (λ at. Lasts (At at) (n + suc rest)) width got word more done (omega arith)
    (λ a b. words_last Lasts word is width more done step rest (got ++ word ∷ []) n (n + suc rest) (all_more word got q)
    (omega arith) refl all)
    (λ a b. absurd (omega arith)))

-- 3. A position's words

module _ (place : Place) (fits : FitsPlace place) (seen : List ℕ) (word : ℕ) (is : IsWord word) where
  module _ (Lasts : Now CurrentPoint CurrentEnd → ℕ → Type 0) (step : LastsMore Lasts (current_after place seen)) where
    -- a version that the snapshot sees, locked once its words are read
    pub current_lasts : (n m : ℕ) → m ≡ n + (place.width + 2)
        → ((value : List ℕ) → length value ≡ place.width → Lasts (Over (Unsure value 0)) n)
        → Lasts (At CurrentHead) m
    current_lasts n m e all =
        let w = fits.least_width in
        step CurrentHead 0 (n + (place.width + 1)) m (omega arith) (omega arith)
        (on_true (λ now. Lasts now (n + (place.width + 1))) _ _ (Over current.GoOld) (sees_0 place.form seen)
        (on_false (λ now. Lasts now (n + (place.width + 1))) _ (Over (current.Found None)) _ (kept_0 place.form)
        (words_last Lasts word is place.width (CurrentWords 0) (CurrentAgain 0) (λ got. step (CurrentWords 0 got))
        (place.width - 1) [] (n + 1) (n + (place.width + 1)) (all_none word) (omega arith) (omega arith)
        (λ value wide same. step (CurrentAgain 0 value) 1 n (n + 1) (omega arith) refl
        (on_true (λ now. Lasts now n) _ _ (Over current.GoOld) (same_1 place.form)
        (on_true (λ now. Lasts now n) (is_locked place.form 0 || is_locked place.form 1) (Over (Unsure value 0))
        (Over (current.Found (Some value)))
        (either_locked (is_locked place.form 0) (is_locked place.form 1) (locked_1 place.form)) (all value wide)))))))
      where
        either_locked : (a b : Bool) → b ≡ true → (a || b) ≡ true
        either_locked true b e = refl
        either_locked false b e = e

  module _ (Lasts : Now RingPoint SearchEnd → ℕ → Type 0) (step : LastsMore Lasts (ring_after place seen)) where
    -- a version that isn't there any more once its words are read
    lost_slot : (slot n m : ℕ) → m ≡ n + (place.width + 3) → Lasts (next_slot place slot) n
        → Lasts (At (SlotHead slot)) m
    lost_slot slot n m e next =
        let w = fits.least_width in
        step (SlotHead slot) 0 (n + (place.width + 2)) m (omega arith) (omega arith)
        (on_false (λ now. Lasts now (n + (place.width + 2))) (not (sees place.form seen 0)) _ _
        (rw (sees_0 place.form seen) refl)
        (step (SlotEnding slot 0) 8 (n + (place.width + 1)) _ (omega arith) (omega arith)
        (on_false (λ now. Lasts now (n + (place.width + 1))) _ _ _ (sees_not_8 place.form seen)
        (words_last Lasts word is place.width (SlotWords slot 0) (SlotAgain slot 0) (λ got. step (SlotWords slot 0 got))
        (place.width - 1) [] (n + 1) (n + (place.width + 1)) (all_none word) (omega arith) (omega arith)
        (λ value wide same. step (SlotAgain slot 0 value) 8 n (n + 1) (omega arith) refl
        (on_false (λ now. Lasts now n) (same_stamp place.form 8 0 && true) _ _ (rw (other_8 place.form) refl) next))))))

    lost_slots : (rest slot n m : ℕ) → slot + suc rest ≡ place.ring → m ≡ n + suc rest * (place.width + 3)
        → Lasts (Over NotThere) n → Lasts (At (SlotHead slot)) m
    lost_slots zero slot n m e f last =
        lost_slot slot n m (omega arith)
        (or_last (λ now. Lasts now n) place.ring slot _ _ (omega arith) (λ t. last) (λ t. absurd (omega arith)))
    lost_slots (suc rest) slot n m e f last =
        let k = n + suc rest * (place.width + 3) in
        lost_slot slot k m (let t = suc-mul (suc rest) (place.width + 3) in omega arith)
        (or_last (λ now. Lasts now k) place.ring slot _ _ (omega arith) (λ t. absurd (omega arith))
        (λ t. lost_slots rest (slot + 1) n k (omega arith) refl last))

    pub ring_lasts : (n m : ℕ) → m ≡ n + place.ring * (place.width + 3) → Lasts (Over NotThere) n
        → Lasts (At (SlotHead 0)) m
    ring_lasts n m e last =
        let r = fits.least_ring in
        let all : suc (place.ring - 1) ≡ place.ring = omega arith in
        lost_slots (place.ring - 1) 0 n m (omega arith) (rw all e) last

  -- 4. The cells

  module _ (row : IsWord place.row) (cells : Cells) (Lasts : Now CellPoint SearchEnd → ℕ → Type 0)
      (step : LastsMore Lasts (cell_after cells place seen)) where
    -- a full cell of the row, up to its last word
    filled_cell : (cell n m : ℕ) → m ≡ n + (place.width + 4)
        → ((value : List ℕ) → length value ≡ place.width → AreAll word value → Lasts (At (CellAgain cell 2 0 value)) n)
        → Lasts (At (CellTag cell)) m
    filled_cell cell n m e all =
        let w = fits.least_width in
        step (CellTag cell) 2 (n + (place.width + 3)) m (omega arith) (omega arith)
        (step (CellOwner cell 2) place.row (n + (place.width + 2)) _ row (omega arith)
        (on_true (λ now. Lasts now (n + (place.width + 2))) (place.row == place.row) (At (CellBegin cell 2))
        (next_cell cells cell) (eq-eqb place.row place.row refl)
        (step (CellBegin cell 2) 0 (n + (place.width + 1)) _ (omega arith) (omega arith)
        (on_true (λ now. Lasts now (n + (place.width + 1))) _ (At (CellEnding cell 2 0)) (next_cell cells cell)
        (sees_0 place.form seen)
        (step (CellEnding cell 2 0) 8 (n + place.width) _ (omega arith) (omega arith)
        (on_false (λ now. Lasts now (n + place.width)) _ (next_cell cells cell) (At (CellWords cell 2 0 []))
        (sees_not_8 place.form seen)
        (words_last Lasts word is place.width (CellWords cell 2 0) (CellAgain cell 2 0)
        (λ got. step (CellWords cell 2 0 got))
        (place.width - 1) [] n (n + place.width) (all_none word) (omega arith) (omega arith) all)))))))

    -- it is lost by then, or it is there and the version is found
    pub lost_cell : (cell n m : ℕ) → m ≡ n + (place.width + 5) → Lasts (next_cell cells cell) n
        → Lasts (At (CellTag cell)) m
    lost_cell cell n m e next =
        filled_cell cell (n + 1) m (omega arith)
        (λ value wide same. step (CellAgain cell 2 0 value) 8 n (n + 1) (omega arith) refl next)

    pub found_cell : (cell n m : ℕ) → m ≡ n + (place.width + 5)
        → ((value : List ℕ) → length value ≡ place.width → AreAll word value → Lasts (Over (Found (Some value))) n)
        → Lasts (At (CellTag cell)) m
    found_cell cell n m e found =
        filled_cell cell (n + 1) m (omega arith)
        (λ value wide same. step (CellAgain cell 2 0 value) 2 n (n + 1) (omega arith) refl
        (on_false (λ value. Lasts (Over (Found value)) n) _ None (Some value) (kept_0 place.form)
        (found value wide same)))

    -- each cell but the last is lost
    pub to_last_cell : (rest cell n m : ℕ) → cell + suc rest ≡ cells.cells → m ≡ n + rest * (place.width + 5)
        → ((last : ℕ) → last + 1 ≡ cells.cells → Lasts (At (CellTag last)) n) → Lasts (At (CellTag cell)) m
    to_last_cell zero cell n m e f last = let same : m ≡ n = omega arith in rw same (last cell (omega arith))
    to_last_cell (suc rest) cell n m e f last =
        let k = n + rest * (place.width + 5) in
        lost_cell cell k m (let t = suc-mul rest (place.width + 5) in omega arith)
        (or_last (λ now. Lasts now k) cells.cells cell (Over NotThere) (At (CellTag (cell + 1))) (omega arith)
        (λ t. absurd (omega arith))
        (λ t. to_last_cell rest (cell + 1) n k (omega arith) refl last))

-- 5. The horizon's entries: none is above the snapshot's

pub entries_last : (workers : ℕ) (seen : List ℕ) (Lasts : Now ℕ OldEnd → ℕ → Type 0)
    → LastsMore Lasts (old_after workers seen)
    → (rest worker n m : ℕ) → worker + rest ≡ workers → m ≡ n + suc rest → Lasts (Over NotPassed) n
    → Lasts (At worker) m
entries_last workers seen Lasts step zero worker n m e f last =
    step worker 0 n m (omega arith) (omega arith)
    (on_false (λ now. Lasts now n) (nat_lt (slice_index seen (worker - 1)) 0)
    (Over (TooOld worker (slice_index seen (worker - 1)) 0))
    (if worker == workers then Over NotPassed else At (worker + 1)) (grind (arith, nat_tests))
    (on_true (λ now. Lasts now n) (worker == workers) (Over NotPassed) (At (worker + 1))
    (eq-eqb worker workers (omega arith)) last))
entries_last workers seen Lasts step (suc rest) worker n m e f last =
    step worker 0 (n + suc rest) m (omega arith) (omega arith)
    (on_false (λ now. Lasts now (n + suc rest)) (nat_lt (slice_index seen (worker - 1)) 0)
    (Over (TooOld worker (slice_index seen (worker - 1)) 0))
    (if worker == workers then Over NotPassed else At (worker + 1)) (grind (arith, nat_tests))
    (on_false (λ now. Lasts now (n + suc rest)) (worker == workers) (Over NotPassed) (At (worker + 1))
    (grind (arith, nat_tests))
    (entries_last workers seen Lasts step rest (worker + 1) n (n + suc rest) (omega arith) refl last)))

-- 6. The index

module _ (path : Path) (is : IsWord (key_word path.key)) where
  -- the word of another key
  abbrev other : ℕ
  other = if path.key == 0 then 2 else 1

  other_is : IsWord other
  other_is = by_test (λ word. IsWord word) (path.key == 0) 2 1 (λ e. omega arith) (λ e. omega arith)

  other_differs : (other == key_word path.key) ≡ false
  other_differs =
      by_test (λ word. (word == key_word path.key) ≡ false) (path.key == 0) 2 1 (λ e. grind (arith, nat_tests))
      (λ e. grind (arith, nat_tests))

  other_some : (other == 0) ≡ false
  other_some = by_test (λ word. (word == 0) ≡ false) (path.key == 0) 2 1 (λ e. refl) (λ e. refl)

  -- each position but the last has another key
  pub find_lasts : (Lasts : Now ℕ FindEnd → ℕ → Type 0) → LastsMore Lasts (find_after path)
      → (rest passed n m : ℕ) → passed + suc rest ≡ path.capacity → m ≡ n + suc rest
      → ((last : ℕ) → last < path.capacity → Lasts (Over (found_key.At (nth_position path last))) n)
      → Lasts (At passed) m
  find_lasts Lasts step zero passed n m e f found =
      step passed (path.key + 1) n m is (omega arith)
      (on_true (λ now. Lasts now n) (path.key + 1 == key_word path.key) (Over (found_key.At (nth_position path passed)))
      _ (eq-eqb (path.key + 1) (path.key + 1) refl) (found passed (omega arith)))
  find_lasts Lasts step (suc rest) passed n m e f found =
      step passed other (n + suc rest) m other_is (omega arith)
      (on_false (λ now. Lasts now (n + suc rest)) (other == key_word path.key)
      (Over (found_key.At (nth_position path passed)))
      (if (other == 0) || (passed + 1 == path.capacity) then Over found_key.Absent else At (passed + 1))
      other_differs
      (on_false (λ now. Lasts now (n + suc rest)) ((other == 0) || (passed + 1 == path.capacity))
      (Over found_key.Absent) (At (passed + 1)) (rw other_some (grind (arith, nat_tests)))
      (find_lasts Lasts step rest (passed + 1) n (n + suc rest) (omega arith) refl found)))

  -- each position is free, and another client has claimed it by then
  pub claim_lasts : (Lasts : Now ClaimKeyPoint ClaimKeyEnd → ℕ → Type 0) → LastsMore Lasts (claim_key_after path)
      → (rest passed n m : ℕ) → passed + suc rest ≡ path.capacity → m ≡ n + 2 * suc rest
      → Lasts (Over NoSpace) n → Lasts (At (KeyLook passed)) m
  claim_lasts Lasts step zero passed n m e f last =
      step (KeyLook passed) 0 (n + 1) m (omega arith) (omega arith)
      (on_false (λ now. Lasts now (n + 1)) (0 == key_word path.key) _ (At (KeyTake passed)) (grind (arith, nat_tests))
      (step (KeyTake passed) other n (n + 1) other_is refl
      (on_false (λ now. Lasts now n) ((other == 0) || (other == key_word path.key)) _ _
      (rw (other_some, other_differs) refl)
      (or_last (λ now. Lasts now n) path.capacity passed (Over NoSpace) (At (KeyLook (passed + 1))) (omega arith)
      (λ t. last) (λ t. absurd (omega arith))))))
  claim_lasts Lasts step (suc rest) passed n m e f last =
      step (KeyLook passed) 0 (n + 2 * suc rest + 1) m (omega arith) (omega arith)
      (on_false (λ now. Lasts now (n + 2 * suc rest + 1)) (0 == key_word path.key) _ (At (KeyTake passed))
      (grind (arith, nat_tests))
      (step (KeyTake passed) other (n + 2 * suc rest) (n + 2 * suc rest + 1) other_is refl
      (on_false (λ now. Lasts now (n + 2 * suc rest)) ((other == 0) || (other == key_word path.key)) _ _
      (rw (other_some, other_differs) refl)
      (or_last (λ now. Lasts now (n + 2 * suc rest)) path.capacity passed (Over NoSpace) (At (KeyLook (passed + 1)))
      (omega arith) (λ t. absurd (omega arith))
      (λ t. claim_lasts Lasts step rest (passed + 1) n (n + 2 * suc rest) (omega arith) refl last)))))
