-- The snapshot and the collection are their straight programs.
use Rattle.std.proofs.Common.{◌≡◌, ℕ, zero, suc, ◌+◌, ◌<◌, false, ◌&&◌, List, [], ◌∷◌, ◌++◌, length, refl}
use Rattle.std.proofs.Common.{arith, length-append, subst}
use Rattle.std.specs.Prelude.{if◌then◌else◌, ◌==◌, nat_lt, slice_index}
use Rattle.std.proofs.lemmas.Bool.Decides.{nat_tests}
use Rattle.nam_verbs.specs.declared.now.Now.{Now}
use Rattle.nam_verbs.specs.declared.now.Now.TheVariants.{At, Over}
use Rattle.nam_verbs.proofs.TestLemmas.{if_in}
use Rattle.nam_header.specs.Stamp.{stamp_in, is_within}
use Rattle.nam_header.specs.Tag.{is_full, has_next}
use Rattle.nam_layout.specs.declared.field.Cells.{Cells}
use Rattle.nam_vector.specs.declared.snap.SnapPoint.{SnapPoint}
use Rattle.nam_vector.specs.declared.snap.SnapPoint.TheVariants.{First, Second}
use Rattle.nam_vector.specs.declared.snap.SnapEnd.{SnapEnd}
use Rattle.nam_vector.specs.declared.snap.SnapEnd.TheVariants.{Done}
use Rattle.nam_vector.specs.Snap.{snap_begin, snap_verb, snap_after, nth_entry}
use Rattle.nam_calls.specs.declared.horizon.CollectPoint.{CollectPoint}
use Rattle.nam_calls.specs.declared.horizon.CollectPoint.TheVariants.{HorizonLook, CollectTag}
use Rattle.nam_calls.specs.Horizon.{collect_begin, collect_verb, collect_after, collect_next, entry_known}
use Rattle.nam_calls.specs.Program.{Prog, ◌>>=◌, IsProgram, standing, taking}
use Rattle.nam_calls.specs.ProgramCollect.{second_pass, snap_program, raised, raise_entries, free_cells}
use Rattle.nam_calls.specs.ProgramCollect.{collect_program, CollectIsProgram}
use Rattle.nam_calls.proofs.Programs.{both, both_not, is_last, is_more, at_last, before_last, word_then, words_is}
use Rattle.nam_calls.proofs.Programs.{the_program}

-- 1. The snapshot

module _ (workers : ℕ) (some : 0 < workers) where
  abbrev IsSnap : Now SnapPoint SnapEnd → Prog SnapEnd → Type 0
  IsSnap = IsProgram (standing snap_verb) (taking (snap_after workers))

  entry_is : (seen : List ℕ) (rest entry : ℕ)
      → IsSnap (if entry + 1 == workers then Over (Done seen) else At (Second seen (entry + 1)))
      (second_pass seen rest (entry + 1))
      → IsSnap (At (Second seen entry)) (second_pass seen (suc rest) entry)
  entry_is seen rest entry next =
      word_then refl λ found. both IsSnap (found == slice_index seen entry) _ _ _ _ (λ e. next) (λ e. refl)

  second_from : (seen : List ℕ) (rest entry : ℕ) → entry + suc rest ≡ workers
      → IsSnap (At (Second seen entry)) (second_pass seen (suc rest) entry)
  second_from seen zero entry e =
      entry_is seen zero entry
      (is_last (λ call. IsSnap call (second_pass seen zero (entry + 1))) entry workers _ _ (omega arith) refl)
  second_from seen (suc rest) entry e =
      entry_is seen (suc rest) entry
      (is_more (λ call. IsSnap call (second_pass seen (suc rest) (entry + 1))) entry workers _ _ rest (omega arith)
      (second_from seen rest (entry + 1) (omega arith)))

  second_of : (seen : List ℕ) (count : ℕ) → count ≡ workers → IsSnap (At (Second seen 0)) (second_pass seen count 0)
  second_of seen zero e = absurd (omega arith)
  second_of seen (suc rest) e = second_from seen rest 0 (omega arith)

  pub snap_is : IsSnap (At snap_begin) (snap_program workers)
  snap_is =
      words_is (standing snap_verb) (taking (snap_after workers)) nth_entry workers
      (λ got. At (First got)) (λ seen. At (Second seen 0)) _ (λ got. refl) (λ got word. if_in At _ _ _) some λ seen l.
      second_of seen workers refl

-- 2. The collection

module _ (cells : Cells) (workers : ℕ) (seen : List ℕ) (some : 0 < workers) (room : 0 < cells.cells) where
  abbrev IsCollect : Now CollectPoint (List ℕ) → Prog (List ℕ) → Type 0
  IsCollect = IsProgram (standing (collect_verb cells seen)) (taking (collect_after cells workers seen))

  cell_is : (known : List ℕ) (rest cell : ℕ)
      → IsCollect (collect_next cells known cell) (free_cells cells workers seen known rest (cell + 1))
      → IsCollect (At (CollectTag known cell)) (free_cells cells workers seen known (suc rest) cell)
  cell_is known rest cell next =
      word_then refl λ tag.
      both_not IsCollect (is_full tag) _ _ _ _ (λ e. next) λ e.
      word_then refl λ ending.
      both_not IsCollect (is_within (stamp_in cells.form ending) known && has_next tag) _ _ _ _ (λ e. next) λ e.
      word_then refl λ found.
      next

  cells_from : (known : List ℕ) (rest cell : ℕ) → cell + suc rest ≡ cells.cells
      → IsCollect (At (CollectTag known cell)) (free_cells cells workers seen known (suc rest) cell)
  cells_from known zero cell e =
      cell_is known zero cell
      (is_last (λ call. IsCollect call (free_cells cells workers seen known zero (cell + 1))) cell cells.cells _ _
      (omega arith) refl)
  cells_from known (suc rest) cell e =
      cell_is known (suc rest) cell
      (is_more (λ call. IsCollect call (free_cells cells workers seen known (suc rest) (cell + 1))) cell cells.cells _
      _ rest (omega arith)
      (cells_from known rest (cell + 1) (omega arith)))

  cells_of : (known : List ℕ) (count : ℕ) → count ≡ cells.cells
      → IsCollect (At (CollectTag known 0)) (free_cells cells workers seen known count 0)
  cells_of known zero e = absurd (omega arith)
  cells_of known (suc rest) e = cells_from known rest 0 (omega arith)

  -- the program once so many more entries are known
  abbrev then_free : Prog (List ℕ) → Prog (List ℕ)
  then_free entries = entries >>= λ known. free_cells cells workers seen known cells.cells 0

  entries_from : (rest : ℕ) (known : List ℕ) → length known + rest ≡ workers
      → IsCollect (entry_known workers known) (then_free (raise_entries cells workers seen rest known))
  entries_from zero known e =
      at_last (λ place. IsCollect (At place) (then_free (raise_entries cells workers seen zero known)))
      (length known) workers _ _ (omega arith)
      (cells_of known cells.cells refl)
  entries_from (suc rest) known e =
      before_last (λ place. IsCollect (At place) (then_free (raise_entries cells workers seen (suc rest) known)))
      (length known) workers _ _ rest
      (omega arith) (
      word_then refl λ found.
      both_not (λ now entries. IsCollect now (then_free entries))
      (nat_lt found (slice_index seen (length known))) _ _ _ _
      (λ t. let l = length-append known (found ∷ []) in entries_from rest (known ++ found ∷ []) (omega arith)) λ t.
      word_then refl λ word.
      let l = length-append known (raised cells workers seen known found word ∷ []) in
      entries_from rest (known ++ raised cells workers seen known found word ∷ []) (omega arith))

  pub collect_is : IsCollect (At collect_begin) (collect_program cells workers seen)
  collect_is =
      let t : (0 == workers) ≡ false = grind (arith, nat_tests) in
      subst (λ b. IsCollect (At (if b then CollectTag [] 0 else HorizonLook [])) (collect_program cells workers seen)) t
      (entries_from workers [] (omega arith))

pub collections_are_programs : CollectIsProgram
collections_are_programs = record {
  snap = λ workers some. the_program (standing snap_verb) (taking (snap_after workers)) _ _ (snap_is workers some);
  collect = λ cells workers seen some room.
      the_program (standing (collect_verb cells seen)) (taking (collect_after cells workers seen)) _ _
      (collect_is cells workers seen some room);
}
