-- what a snapshot reads, when it is done, and when it has to be taken again
use Rattle.std.specs.Prelude.{◌≡◌, ◌≢◌, ℕ, ◌+◌, ◌*◌, ◌%◌, ◌<◌, ◌≤◌, ◌↔◌, List, [], ◌∷◌, ◌++◌, length, slice_index}
use Rattle.std.specs.Prelude.{Option, IfSome}
use Rattle.nam_verbs.specs.declared.verb.Verb.{Verb}
use Rattle.nam_verbs.specs.declared.verb.Verb.TheVariants.{Read}
use Rattle.nam_verbs.specs.Running.{next_verb}
use Rattle.nam_verbs.specs.Machine.{after_words, Takes}
use Rattle.nam_verbs.specs.Steps.{Step, saw_words, words_of, EndsWith}
use Rattle.nam_layout.specs.declared.field.Field.{Field}
use Rattle.nam_vector.specs.declared.snap.SnapEnd.{SnapEnd}
use Rattle.nam_vector.specs.declared.snap.SnapEnd.TheVariants.{Done, Again}
use Rattle.nam_vector.specs.Snap.{nth_entry, snapping, running}

-- a new snapshot of so many workers' entries takes these found words
abbrev pub SnapTakes : ℕ → List ℕ → Type 0
SnapTakes workers words = Takes (running (snapping workers)) words

-- the verb that stands after these found words
abbrev pub verb_after : ℕ → List ℕ → Option Verb
verb_after workers words = next_verb (after_words (running (snapping workers)) words)

-- the snapshot does these steps, and ends so with the last of them
abbrev pub SnapEndsWith : ℕ → List (Step Field) → SnapEnd → Type 0
SnapEndsWith workers steps end = EndsWith (running (snapping workers)) steps end

-- a pass found these entries, from the first worker's on
abbrev pub pass : List ℕ → List (Step Field)
pass entries = saw_words nth_entry entries

-- both passes found these entries
pub record BothPassesFound (workers : ℕ) (steps : List (Step Field)) (seen : List ℕ) : Type 0 where
  pub whole : length seen ≡ workers
  pub passes : steps ≡ pass seen ++ pass seen

-- the second pass found the first entries of the first pass again, and then `second` where `first` had been
pub record EntryDiffers (workers : ℕ) (steps : List (Step Field)) (worker first second : ℕ) : Type 0 where
  pub same : List ℕ
  pub later : List ℕ
  pub whole : length (same ++ first ∷ later) ≡ workers
  pub passes : steps ≡ pass (same ++ first ∷ later) ++ pass (same ++ second ∷ [])
  pub place : worker ≡ length same + 1
  pub differs : first ≢ second

-- no entry is lower when it is found again
abbrev pub NeverFall : ℕ → List ℕ → Type 0
NeverFall workers words =
    (k : ℕ) → k + workers < length words → slice_index words k ≤ slice_index words (k + workers)

-- each verb reads the next entry, and after the last entry the first again
abbrev pub OrderLaw : Type 0
OrderLaw = (workers : ℕ) → 1 ≤ workers → (words : List ℕ) → SnapTakes workers words
    → IfSome (verb_after workers words) (λ verb. verb ≡ Read (length words % workers))

-- there are at most two verbs for each entry
abbrev pub BoundLaw : Type 0
BoundLaw = (workers : ℕ) → 1 ≤ workers → (words : List ℕ) → SnapTakes workers words → length words ≤ 2 * workers

-- done with a snapshot exactly where both passes found it
abbrev pub DoneLaw : Type 0
DoneLaw = (workers : ℕ) → 1 ≤ workers → (steps : List (Step Field)) (seen : List ℕ)
    → SnapEndsWith workers steps (Done seen) ↔ BothPassesFound workers steps seen

-- again exactly where the last word found is the first of the second pass that differs
abbrev pub AgainLaw : Type 0
AgainLaw = (workers : ℕ) → 1 ≤ workers → (steps : List (Step Field)) (worker first second : ℕ)
    → SnapEndsWith workers steps (Again worker first second) ↔ EntryDiffers workers steps worker first second

-- the second word is above the first where no word falls
abbrev pub RiseLaw : Type 0
RiseLaw = (workers : ℕ) → 1 ≤ workers → (steps : List (Step Field)) (worker first second : ℕ)
    → NeverFall workers (words_of steps) → SnapEndsWith workers steps (Again worker first second) → first < second
