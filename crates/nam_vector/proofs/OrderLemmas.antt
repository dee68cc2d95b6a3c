-- what a snapshot reads, verb by verb
use Rattle.std.proofs.Common.{◌≡◌, ℕ, ◌+◌, ◌*◌, ◌%◌, ◌<◌, ◌≤◌, List, [], ◌∷◌, ◌++◌, length, zero-add}
use Rattle.std.proofs.Common.{refl, sym, ◌∙◌, ap, subst, arith}
use Rattle.std.specs.Prelude.{◌==◌, if◌then◌else◌, slice_index, IfSome}
use Rattle.std.proofs.lemmas.List.{length-append}
use Rattle.std.proofs.Math.Nat.{mod-eq_of_lt, add-mod_left}
use Rattle.nam_verbs.specs.declared.verb.Verb.TheVariants.{Read}
use Rattle.nam_verbs.specs.declared.now.Now.{Now}
use Rattle.nam_verbs.specs.declared.now.Now.TheVariants.{At, Over}
use Rattle.nam_verbs.specs.Now.{verb_now}
use Rattle.nam_verbs.specs.Running.{verb_from}
use Rattle.nam_verbs.specs.Machine.{after_words, Takes}
use Rattle.nam_verbs.proofs.TestLemmas.{by_equal, if_in}
use Rattle.nam_vector.specs.declared.snap.SnapPoint.{SnapPoint}
use Rattle.nam_vector.specs.declared.snap.SnapPoint.TheVariants.{First, Second}
use Rattle.nam_vector.specs.declared.snap.SnapEnd.{SnapEnd}
use Rattle.nam_vector.specs.declared.snap.SnapEnd.TheVariants.{Done, Again}
use Rattle.nam_vector.specs.Snap.{snap_begin, snap_after, snapping, running}
use Rattle.nam_vector.specs.SnapLaw.{SnapTakes}

module _ (workers : ℕ) where
  -- where a snapshot may stand after so many words
  abbrev pub IsAfter : ℕ → Now SnapPoint SnapEnd → Type 0
  IsAfter n (At (First got)) = (length got ≡ n) × (n < workers)
  IsAfter n (At (Second seen at)) = (n ≡ workers + at) × (length seen ≡ workers) × (at < workers)
  IsAfter n (Over end) = n ≤ workers + workers

  -- one more word is taken
  one_word : (n : ℕ) (place : SnapPoint) (word : ℕ) → IsAfter n (At place)
      → IsAfter (n + 1) (snap_after workers place word)
  one_word n (First got) word is =
      let long = length-append got (word ∷ []) in
      subst (IsAfter (n + 1)) (sym (if_in {B = Now SnapPoint SnapEnd} At (length (got ++ word ∷ []) == workers)
      (Second (got ++ word ∷ []) 0) (First (got ++ word ∷ []))))
      (by_equal (IsAfter (n + 1)) (length (got ++ word ∷ [])) workers (At (Second (got ++ word ∷ []) 0))
      (At (First (got ++ word ∷ [])))
      (λ last. (omega arith, omega arith, omega arith))
      (λ more. (omega arith, omega arith)))
  one_word n (Second seen at) word is =
      by_equal (IsAfter (n + 1)) word (slice_index seen at)
      (if at + 1 == workers then Over (Done seen) else At (Second seen (at + 1)))
      (Over (Again (at + 1) (slice_index seen at) word))
      (λ same. by_equal (IsAfter (n + 1)) (at + 1) workers (Over (Done seen)) (At (Second seen (at + 1)))
      (λ last. omega arith)
      (λ more. (omega arith, is.1, omega arith)))
      (λ other. omega arith)

  -- all words are taken
  all_words : (n : ℕ) (state : Now SnapPoint SnapEnd) (words : List ℕ) → IsAfter n state
      → Takes (running (record { workers = workers; state = state })) words
      → IsAfter (n + length words) (after_words (running (record { workers = workers; state = state })) words).state
  all_words n state [] is takes =
      let same : n ≡ n + length {A = ℕ} [] = omega arith in subst (λ n. IsAfter n state) same is
  all_words n (At place) (word ∷ words) is takes =
      let same : n + 1 + length words ≡ n + length (word ∷ words) = omega arith in
      rw (← same) (all_words (n + 1) (snap_after workers place word) words (one_word n place word is) takes.1)
  all_words n (Over end) (word ∷ words) is takes = let none = takes.0 in absurd (cc)

  -- where a new snapshot stands after the words that it takes
  pub stands_after : 1 ≤ workers → (words : List ℕ) → SnapTakes workers words
      → IsAfter (length words) (after_words (running (snapping workers)) words).state
  stands_after least words takes = rw zero-add at (all_words 0 (At snap_begin) words (refl, least) takes)

  -- no snapshot takes more than two words for each entry
  pub is_bounded : (n : ℕ) (state : Now SnapPoint SnapEnd) → IsAfter n state → n ≤ 2 * workers
  is_bounded n (At (First got)) is = omega arith
  is_bounded n (At (Second seen at)) is = omega arith
  is_bounded n (Over end) is = omega arith

  -- the verb that stands reads the next entry
  pub reads_next : (n : ℕ) (state : Now SnapPoint SnapEnd) → IsAfter n state
      → IfSome (verb_now (verb_from (running (snapping workers))) state) (λ verb. verb ≡ Read (n % workers))
  reads_next n (At (First got)) is = let same : n % workers ≡ n = mod-eq_of_lt is.1 in ap Read (omega arith)
  reads_next n (At (Second seen at)) is =
      let same : n % workers ≡ at = rw is.0 (add-mod_left workers at) ∙ mod-eq_of_lt is.2 in ap Read (omega arith)
  reads_next n (Over end) is = tt
