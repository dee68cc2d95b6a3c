-- Words that make a snapshot, a move and a collection last as long as they can.
use Rattle.std.proofs.Common.{◌≡◌, ℕ, zero, suc, ◌+◌, ◌-◌, ◌*◌, ◌<◌, ◌≤◌, List, [], ◌∷◌, ◌++◌, length, refl, arith}
use Rattle.std.proofs.Common.{true, false, ◌&&◌}
use Rattle.std.proofs.lemmas.Bool.{eq-eqb}
use Rattle.std.proofs.lemmas.Bool.Decides.{nat_tests}
use Rattle.std.specs.Prelude.{◌==◌, nat_lt, slice_index}
use Rattle.nam_verbs.specs.Until.{until}
use Rattle.nam_verbs.specs.declared.now.Now.{Now}
use Rattle.nam_verbs.specs.declared.now.Now.TheVariants.{At, Over}
use Rattle.nam_catalog.specs.declared.form.Form.{Form}
use Rattle.nam_catalog.specs.declared.form.Form.TheVariants.{Narrow, Wide, Held}
use Rattle.nam_header.specs.Stamp.{is_moved, is_within, stamp_in, stamp_word, without_moved}
use Rattle.nam_header.specs.Tag.{has_next}
use Rattle.nam_layout.specs.declared.field.Cells.{Cells}
use Rattle.nam_layout.specs.declared.field.Place.{Place}
use Rattle.nam_layout.specs.Place.{slot_of}
use Rattle.nam_layout.specs.PlaceFits.{FitsPlace, FitsCells}
use Rattle.nam_vector.specs.declared.snap.SnapPoint.{SnapPoint}
use Rattle.nam_vector.specs.declared.snap.SnapPoint.TheVariants.{First, Second}
use Rattle.nam_vector.specs.declared.snap.SnapEnd.{SnapEnd}
use Rattle.nam_vector.specs.declared.snap.SnapEnd.TheVariants.{Done, Again}
use Rattle.nam_vector.specs.Snap.{snap_after}
use Rattle.nam_calls.specs.declared.horizon.CollectPoint.{CollectPoint}
use Rattle.nam_calls.specs.declared.horizon.CollectPoint.TheVariants.{HorizonLook, HorizonRaise, CollectTag}
use Rattle.nam_calls.specs.declared.horizon.CollectPoint.TheVariants.{CollectEnding, CollectFree}
use Rattle.nam_calls.specs.declared.overflow.ClaimPoint.{ClaimPoint}
use Rattle.nam_calls.specs.declared.overflow.ClaimPoint.TheVariants.{ClaimLook, ClaimTake}
use Rattle.nam_calls.specs.declared.overflow.ClaimEnd.{ClaimEnd}
use Rattle.nam_calls.specs.declared.overflow.ClaimEnd.TheVariants.{Claimed, NoRoom}
use Rattle.nam_calls.specs.declared.overflow.FillPoint.TheVariants.{FillOwner, FillBegin, FillEnding, FillWord}
use Rattle.nam_calls.specs.declared.overflow.Version.{Version}
use Rattle.nam_calls.specs.declared.mover.MovePoint.{MovePoint}
use Rattle.nam_calls.specs.declared.mover.MovePoint.TheVariants.{MoveCount, MoveHead, MoveEnding, MoveClaim}
use Rattle.nam_calls.specs.declared.mover.MovePoint.TheVariants.{MoveWords, MoveFill, MoveAgain, MoveFull, MoveFlag}
use Rattle.nam_calls.specs.declared.mover.MoveAnswer.{MoveAnswer}
use Rattle.nam_calls.specs.declared.mover.MoveAnswer.TheVariants.{Nothing}
use Rattle.nam_calls.specs.Holds.{IsWord}
use Rattle.nam_calls.specs.Overflow.{fill_begin}
use Rattle.nam_calls.specs.Mover.{on_claim, on_fill, move_after}
use Rattle.nam_calls.specs.Horizon.{collect_begin, collect_after, collect_next}
use Rattle.nam_calls.proofs.FallsTests.{or_last, one_more}
use Rattle.nam_longest.proofs.LastsMachines.{AreAll, all_none, LastsMore, on_true, on_false, words_last}

-- 1. A snapshot: both passes find this word in each entry

module _ (workers : ℕ) (some : 1 ≤ workers) (word : ℕ) (is : IsWord word) (Lasts : Now SnapPoint SnapEnd → ℕ → Type 0)
    (step : LastsMore Lasts (snap_after workers)) where
  second_lasts : (seen : List ℕ) → AreAll word seen → length seen ≡ workers → (rest nth n m : ℕ)
      → nth + suc rest ≡ workers → m ≡ n + suc rest → Lasts (Over (Done seen)) n → Lasts (At (Second seen nth)) m
  second_lasts seen all whole zero nth n m e f last =
      step (Second seen nth) word n m is (omega arith)
      (on_true (λ now. Lasts now n) (word == slice_index seen nth) _
      (Over (Again (nth + 1) (slice_index seen nth) word))
      (rw (all nth (omega arith)) (eq-eqb word word refl))
      (or_last (λ now. Lasts now n) workers nth (Over (Done seen)) (At (Second seen (nth + 1))) (omega arith)
      (λ t. last) (λ t. absurd (omega arith))))
  second_lasts seen all whole (suc rest) nth n m e f last =
      step (Second seen nth) word (n + suc rest) m is (omega arith)
      (on_true (λ now. Lasts now (n + suc rest)) (word == slice_index seen nth) _
      (Over (Again (nth + 1) (slice_index seen nth) word))
      (rw (all nth (omega arith)) (eq-eqb word word refl))
      (or_last (λ now. Lasts now (n + suc rest)) workers nth (Over (Done seen)) (At (Second seen (nth + 1)))
      (omega arith) (λ t. absurd (omega arith))
      (λ t. second_lasts seen all whole rest (nth + 1) n (n + suc rest) (omega arith) refl last)))

  pub snap_lasts : (n m : ℕ) → m ≡ n + 2 * workers
      → ((seen : List ℕ) → length seen ≡ workers → AreAll word seen → Lasts (Over (Done seen)) n)
      → Lasts (At (First [])) m
  snap_lasts n m e last =
      words_last Lasts word is workers First (λ seen. Second seen 0) (λ got. step (First got)) (workers - 1) []
      (n + workers) m (all_none word) (omega arith) (omega arith)
      (λ seen whole all. second_lasts seen all whole (workers - 1) 0 n (n + workers) (omega arith) (omega arith)
      (last seen whole all))

-- 2. A collection: each entry of the horizon is raised, and each cell set free

-- the stamp of worker 1 that each horizon has passed
abbrev passed : Form → ℕ
passed form = stamp_word form (record { thread = 1; number = 0 })

passed_is : (form : Form) → IsWord (passed form)
passed_is Narrow = omega arith
passed_is Wide = omega arith
passed_is Held = omega arith

passed_within : (form : Form) (known : List ℕ) → 1 ≤ length known → is_within (stamp_in form (passed form)) known ≡ true
passed_within Narrow known some = grind (arith, nat_tests)
passed_within Wide known some = grind (arith, nat_tests)
passed_within Held known some = grind (arith, nat_tests)

module _ (cells : Cells) (room : FitsCells cells) (workers : ℕ) (some : 1 ≤ workers) (seen : List ℕ)
    (ones : AreAll 1 seen) (whole : length seen ≡ workers) (Lasts : Now CollectPoint (List ℕ) → ℕ → Type 0)
    (step : LastsMore Lasts (collect_after cells workers seen)) where
  cell_freed : (known : List ℕ) → length known ≡ workers → (cell n m : ℕ) → m ≡ n + 3
      → Lasts (collect_next cells known cell) n → Lasts (At (CollectTag known cell)) m
  cell_freed known all cell n m e next =
      step (CollectTag known cell) 2 (n + 2) m (omega arith) (omega arith)
      (step (CollectEnding known cell 2) (passed cells.form) (n + 1) (n + 2) (passed_is cells.form) (omega arith)
      (on_true (λ now. Lasts now (n + 1)) (is_within (stamp_in cells.form (passed cells.form)) known && has_next 2)
      (At (CollectFree known cell 2)) (collect_next cells known cell)
      (rw (passed_within cells.form known (omega arith)) refl)
      (step (CollectFree known cell 2) 2 n (n + 1) (omega arith) refl next)))

  cells_freed : (known : List ℕ) → length known ≡ workers → (rest cell n m : ℕ) → cell + suc rest ≡ cells.cells
      → m ≡ n + 3 * suc rest → Lasts (Over known) n → Lasts (At (CollectTag known cell)) m
  cells_freed known all zero cell n m e f last =
      cell_freed known all cell n m (omega arith)
      (or_last (λ now. Lasts now n) cells.cells cell (Over known) (At (CollectTag known (cell + 1))) (omega arith)
      (λ t. last) (λ t. absurd (omega arith)))
  cells_freed known all (suc rest) cell n m e f last =
      cell_freed known all cell (n + 3 * suc rest) m (omega arith)
      (or_last (λ now. Lasts now (n + 3 * suc rest)) cells.cells cell (Over known) (At (CollectTag known (cell + 1)))
      (omega arith) (λ t. absurd (omega arith))
      (λ t. cells_freed known all rest (cell + 1) n (n + 3 * suc rest) (omega arith) refl last))

  entry_raised : (known : List ℕ) (n m : ℕ) → length known < workers → m ≡ n + 2
      → ((entry : ℕ) → Lasts (At (until workers (known ++ entry ∷ []) HorizonLook (λ all. CollectTag all 0))) n)
      → Lasts (At (HorizonLook known)) m
  entry_raised known n m l e next =
      step (HorizonLook known) 0 (n + 1) m (omega arith) (omega arith)
      (on_true (λ now. Lasts now (n + 1)) (nat_lt 0 (slice_index seen (length known)))
      (At (HorizonRaise known 0)) _ (rw (ones (length known) (omega arith)) refl)
      (step (HorizonRaise known 0) 0 n (n + 1) (omega arith) refl (next _)))

  raised_last : (rest : ℕ) (known : List ℕ) (n m : ℕ) → length known + suc rest ≡ workers → m ≡ n + 2 * suc rest
      → ((all : List ℕ) → length all ≡ workers → Lasts (At (CollectTag all 0)) n) → Lasts (At (HorizonLook known)) m
  raised_last zero known n m e f last =
      entry_raised known n m (omega arith) (omega arith)
      (λ entry. one_more (λ at. Lasts (At at) n) workers known entry HorizonLook (λ all. CollectTag all 0) (omega arith)
      (λ a b. absurd (omega arith)) (λ a b. last (known ++ entry ∷ []) b))
  raised_last (suc rest) known n m e f last =
      entry_raised known (n + 2 * suc rest) m (omega arith) (omega arith)
      (λ entry. one_more (λ at. Lasts (At at) (n + 2 * suc rest)) workers known entry HorizonLook
      (λ all. CollectTag all 0) (omega arith)
      (λ a b. raised_last rest (known ++ entry ∷ []) n (n + 2 * suc rest) (omega arith) refl last)
      (λ a b. absurd (omega arith)))

  pub collect_lasts : (n m : ℕ) → m ≡ n + (2 * workers + 3 * cells.cells)
      → ((known : List ℕ) → Lasts (Over known) n) → Lasts (At collect_begin) m
  collect_lasts n m e last =
      let c = room.least_cells in
      raised_last (workers - 1) [] (n + 3 * cells.cells) m (omega arith) (omega arith)
      (λ known all. cells_freed known all (cells.cells - 1) 0 n (n + 3 * cells.cells) (omega arith) (omega arith)
      (last known))

-- 3. A move: each cell but the last is lost to another exchange, and the last one takes the version

not_moved : (form : Form) → is_moved form 0 ≡ false
not_moved Narrow = refl
not_moved Wide = refl
not_moved Held = refl

module _ (place : Place) (cells : Cells) (fits : FitsPlace place) (room : FitsCells cells)
    (Lasts : Now MovePoint MoveAnswer → ℕ → Type 0) (step : LastsMore Lasts (move_after place cells)) where
  abbrev claiming : ℕ → Now ClaimPoint ClaimEnd → ℕ → Type 0
  claiming slot now n = Lasts (on_claim cells slot 0 0 now) n

  cell_claimed : (slot rest cell n m : ℕ) → cell + suc rest ≡ cells.cells → m ≡ n + 2 * suc rest
      → ((last : ℕ) → claiming slot (Over (Claimed last 1)) n) → claiming slot (At (ClaimLook cell)) m
  cell_claimed slot zero cell n m e f last =
      step (MoveClaim slot 0 0 (ClaimLook cell)) 0 (n + 1) m (omega arith) (omega arith)
      (step (MoveClaim slot 0 0 (ClaimTake cell 0)) 0 n (n + 1) (omega arith) refl (last cell))
  cell_claimed slot (suc rest) cell n m e f last =
      step (MoveClaim slot 0 0 (ClaimLook cell)) 0 (n + 2 * suc rest + 1) m (omega arith) (omega arith)
      (step (MoveClaim slot 0 0 (ClaimTake cell 0)) 4 (n + 2 * suc rest) (n + 2 * suc rest + 1) (omega arith) refl
      (or_last (λ now. claiming slot now (n + 2 * suc rest)) cells.cells cell (Over NoRoom) (At (ClaimLook (cell + 1)))
      (omega arith) (λ t. absurd (omega arith))
      (λ t. cell_claimed slot rest (cell + 1) n (n + 2 * suc rest) (omega arith) refl last)))

  filled : (slot cell : ℕ) (value : List ℕ) (rest nth n m : ℕ) → nth + suc rest ≡ place.width → m ≡ n + suc rest
      → Lasts (At (MoveAgain slot 0 cell 1)) n
      → Lasts (At (MoveFill slot 0 cell 1
      record { begin = without_moved place.form 0; «end» = 0; value = value } (FillWord nth))) m
  filled slot cell value zero nth n m e f last =
      let version : Version = record { begin = without_moved place.form 0; «end» = 0; value = value } in
      step (MoveFill slot 0 cell 1 version (FillWord nth)) 0 n m (omega arith) (omega arith)
      (or_last (λ now. Lasts (on_fill slot 0 cell 1 version now) n) place.width nth (Over tt) (At (FillWord (nth + 1)))
      (omega arith) (λ t. last) (λ t. absurd (omega arith)))
  filled slot cell value (suc rest) nth n m e f last =
      let version : Version = record { begin = without_moved place.form 0; «end» = 0; value = value } in
      step (MoveFill slot 0 cell 1 version (FillWord nth)) 0 (n + suc rest) m (omega arith) (omega arith)
      (or_last (λ now. Lasts (on_fill slot 0 cell 1 version now) (n + suc rest)) place.width nth (Over tt)
      (At (FillWord (nth + 1)))
      (omega arith) (λ t. absurd (omega arith))
      (λ t. filled slot cell value rest (nth + 1) n (n + suc rest) (omega arith) refl last))

  -- once the cell is claimed
  version_moved : (slot cell n m : ℕ) → m ≡ n + (2 * place.width + 6)
      → ((end : MoveAnswer) → Lasts (Over end) n)
      → Lasts (At (MoveWords slot 0 0 cell 1 [])) m
  version_moved slot cell n m e last =
      let w = fits.least_width in
      words_last Lasts 0 (omega arith) place.width (MoveWords slot 0 0 cell 1)
      (λ value. MoveFill slot 0 cell 1
      record { begin = without_moved place.form 0; «end» = 0; value = value } fill_begin)
      (λ got. step (MoveWords slot 0 0 cell 1 got)) (place.width - 1) [] (n + (place.width + 6)) m (all_none 0)
      (omega arith) (omega arith)
      (λ value wide all.
      let version : Version = record { begin = without_moved place.form 0; «end» = 0; value = value } in
      step (MoveFill slot 0 cell 1 version FillOwner) 0 (n + (place.width + 5)) _ (omega arith) (omega arith)
      (step (MoveFill slot 0 cell 1 version FillBegin) 0 (n + (place.width + 4)) _ (omega arith) (omega arith)
      (step (MoveFill slot 0 cell 1 version FillEnding) 0 (n + (place.width + 3)) _ (omega arith) (omega arith)
      (filled slot cell value (place.width - 1) 0 (n + 3) _ (omega arith) (omega arith)
      (step (MoveAgain slot 0 cell 1) 0 (n + 2) (n + 3) (omega arith) (omega arith)
      (step (MoveFull slot 0 cell 1) 0 (n + 1) (n + 2) (omega arith) (omega arith)
      (step (MoveFlag slot 0) 0 n (n + 1) (omega arith) refl (last _))))))))

  pub move_lasts : (n m : ℕ) → m ≡ n + (2 * cells.cells + 2 * place.width + 9)
      → ((end : MoveAnswer) → Lasts (Over end) n) → Lasts (At MoveCount) m
  move_lasts n m e last =
      let c = room.least_cells in
      let k = n + (2 * place.width + 6) in
      let slot = slot_of place 0 in
      step MoveCount 0 (k + 2 * cells.cells + 2) m (omega arith) (omega arith)
      (step (MoveHead slot) 0 (k + 2 * cells.cells + 1) _ (omega arith) (omega arith)
      (on_false (λ now. Lasts now (k + 2 * cells.cells + 1)) (is_moved place.form 0) (Over Nothing)
      (At (MoveEnding slot 0)) (not_moved place.form)
      (step (MoveEnding slot 0) 0 (k + 2 * cells.cells) _ (omega arith) (omega arith)
      (cell_claimed slot (cells.cells - 1) 0 k (k + 2 * cells.cells) (omega arith) (omega arith)
      (λ cell. version_moved slot cell n k refl last)))))
