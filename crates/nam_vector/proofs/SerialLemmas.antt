-- a snapshot of words that nobody else changes
use Rattle.std.proofs.Common.{◌≡◌, ℕ, zero, suc, ◌+◌, ◌-◌, ◌<◌, ◌≤◌, List, [], ◌∷◌, ◌++◌, length, take, refl, sym}
use Rattle.std.proofs.Common.{◌∙◌, ap, subst, arith, Option, Some}
use Rattle.std.specs.Prelude.{◌==◌, if◌then◌else◌, slice_index}
use Rattle.std.proofs.lemmas.List.{length-append, get_or-take, take_more}
use Rattle.nam_verbs.specs.declared.now.Now.{Now}
use Rattle.nam_verbs.specs.declared.now.Now.TheVariants.{At, Over}
use Rattle.nam_verbs.specs.Machine.{driven}
use Rattle.nam_verbs.proofs.MachineLemmas.{driven-none}
use Rattle.nam_verbs.proofs.TestLemmas.{by_equal, if_in}
use Rattle.nam_vector.specs.declared.snap.SnapPoint.{SnapPoint}
use Rattle.nam_vector.specs.declared.snap.SnapPoint.TheVariants.{First, Second}
use Rattle.nam_vector.specs.declared.snap.SnapEnd.{SnapEnd}
use Rattle.nam_vector.specs.declared.snap.SnapEnd.TheVariants.{Done, Again}
use Rattle.nam_verbs.specs.Running.{Running, end_of, verbs_left}
use Rattle.nam_layout.specs.declared.field.Field.{Field}
use Rattle.nam_vector.specs.Snap.{snapping, running}

-- a snapshot as a running call
abbrev Call : Type 0
Call = Running Field SnapPoint SnapEnd

module _ (workers : ℕ) (words : List ℕ) (within : workers ≤ length words) where
  -- a snapshot of the vector, and where it stands
  abbrev snap_at : Now SnapPoint SnapEnd → Call
  snap_at state = running (record { workers = workers; state = state })

  -- so many verbs from here end with the vector's entries, and change no word
  abbrev IsDoneFrom : ℕ → Now SnapPoint SnapEnd → Type 0
  IsDoneFrom fuel state = driven fuel (snap_at state) words ≡ (snap_at (Over (Done (take workers words))), words)

  -- a snapshot that is done stays so
  is_done : (fuel : ℕ) (seen : List ℕ) → seen ≡ take workers words → IsDoneFrom fuel (Over (Done seen))
  is_done fuel seen entries = rw entries (driven-none fuel (snap_at (Over (Done (take workers words)))) words refl)

  -- the second pass finds every entry again
  second_is_done : (fuel : ℕ) (seen : List ℕ) (at : ℕ) → seen ≡ take workers words → at < workers
      → workers - at ≤ fuel → IsDoneFrom fuel (At (Second seen at))
  second_is_done zero seen at entries some enough = absurd (omega arith)
  second_is_done (suc fuel) seen at entries some enough =
      let word = slice_index words (at + 1 - 1) in
      let here : word ≡ slice_index words at = ap (λ n. slice_index words n) (omega arith) in
      by_equal (IsDoneFrom fuel) word (slice_index seen at)
      (if at + 1 == workers then Over (Done seen) else At (Second seen (at + 1)))
      (Over (Again (at + 1) (slice_index seen at) word))
      (λ same. by_equal (IsDoneFrom fuel) (at + 1) workers (Over (Done seen)) (At (Second seen (at + 1)))
      (λ last. is_done fuel seen entries)
      (λ more. second_is_done fuel seen (at + 1) entries (omega arith) (omega arith)))
      (λ other. absurd (other (here ∙ rw entries (sym (get_or-take workers words at 0 some)))))

  -- the first pass gets the front of the vector, word after word
  first_is_done : (fuel : ℕ) (got : List ℕ) → got ≡ take (length got) words → length got < workers
      → workers + (workers - length got) ≤ fuel → IsDoneFrom fuel (At (First got))
  first_is_done zero got front some enough = absurd (omega arith)
  first_is_done (suc fuel) got front some enough =
      let word = slice_index words (length got + 1 - 1) in
      let here : word ≡ slice_index words (length got) = ap (λ n. slice_index words n) (omega arith) in
      let seen = got ++ word ∷ [] in
      let long : length seen ≡ length got + 1 = length-append got (word ∷ []) in
      let longer : seen ≡ take (length got + 1) words =
      ap (λ (g : List ℕ). g ++ word ∷ []) front ∙ ap (λ w. take (length got) words ++ w ∷ []) here
      ∙ sym (take_more words (length got) 0 (omega arith)) in
      subst (IsDoneFrom fuel)
      (sym (if_in {B = Now SnapPoint SnapEnd} At (length seen == workers) (Second seen 0) (First seen)))
      (by_equal (IsDoneFrom fuel) (length seen) workers (At (Second seen 0)) (At (First seen))
      (λ last. second_is_done fuel seen 0 (longer ∙ ap (λ n. take n words) (sym long ∙ last)) (omega arith)
      (omega arith))
      (λ more. first_is_done fuel seen (rw long longer) (omega arith) (omega arith)))

  -- a new snapshot that is driven to its end
  pub snap_alone : 1 ≤ workers → (old new : Call) {after : List ℕ} {end : Option SnapEnd}
      → old ≡ running (snapping workers) → new ≡ (driven (verbs_left old) old words).0
      → after ≡ (driven (verbs_left old) old words).1 → end ≡ end_of new
      → (end ≡ Some (Done (take workers words))) × (after ≡ words)
  snap_alone least old new {after} {end} begins ends leaves answers =
      let run = first_is_done (workers + (workers - 0)) [] refl least (omega arith) in
      let begun = running (snapping workers) in
      let ends' : new ≡ (driven (verbs_left begun) begun words).0 = rw begins at ends in
      let leaves' : after ≡ (driven (verbs_left begun) begun words).1 = rw begins at leaves in (
        answers ∙ ap end_of (ends' ∙ ap (λ (all : Call × List ℕ). all.0) run),
        leaves' ∙ ap (λ (all : Call × List ℕ). all.1) run,
      )
