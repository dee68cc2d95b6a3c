-- When a snapshot is shown to be too old.
use Rattle.std.specs.Prelude.{◌≡◌, ◌↔◌, ℕ, ◌+◌, ◌<◌, ◌≤◌, List, [], ◌∷◌, slice_index}
use Rattle.nam_verbs.specs.Steps.{Step, saw, EndsWith, Stretches, StopsAt}
use Rattle.nam_verbs.specs.Machine.{Always}
use Rattle.nam_verbs.specs.VerbAt.{target}
use Rattle.nam_layout.specs.Known.{IsOfWorkers}
use Rattle.nam_layout.specs.declared.field.Field.{Field}
use Rattle.nam_layout.specs.declared.field.Field.TheVariants as field
use Rattle.nam_calls.specs.declared.horizon.OldEnd.TheVariants.{TooOld, NotPassed}
use Rattle.nam_calls.specs.Horizon.{old_verb}
use Rattle.nam_horizon.specs.Old.{showing, running}

module _ (seen : List ℕ) where
  -- a worker's horizon entry was found not to be above the snapshot's
  pub record NotAbove (nth : ℕ) (steps : List (Step Field)) : Type 0 where
    pub found : ℕ
    pub not_above : found ≤ slice_index seen nth
    pub steps_are : steps ≡ saw (field.Horizon (nth + 1)) found ∷ []

  -- this worker's horizon entry was found to be above this entry, which is the snapshot's
  pub record IsAbove (worker entry horizon nth : ℕ) (steps : List (Step Field)) : Type 0 where
    pub worker_is : worker ≡ nth + 1
    pub entry_is : entry ≡ slice_index seen nth
    pub above : entry < horizon
    pub steps_are : steps ≡ saw (field.Horizon (nth + 1)) horizon ∷ []

-- too old exactly at the first worker whose horizon entry was found to be above
abbrev pub TooOldLaw : Type 0
TooOldLaw = (workers : ℕ) → 1 ≤ workers → (seen : List ℕ) (steps : List (Step Field)) (worker entry horizon : ℕ)
    → EndsWith (running (showing workers seen)) steps (TooOld worker entry horizon)
    ↔ StopsAt (NotAbove seen) (IsAbove seen worker entry horizon) workers steps

-- not passed exactly where none was found to be above
abbrev pub NotPassedLaw : Type 0
NotPassedLaw = (workers : ℕ) → 1 ≤ workers → (seen : List ℕ) (steps : List (Step Field))
    → EndsWith (running (showing workers seen)) steps NotPassed ↔ Stretches (NotAbove seen) 0 workers steps

-- whatever words are found, each verb is at an entry of a worker
abbrev pub OldFieldLaw : Type 0
OldFieldLaw = (workers : ℕ) → 1 ≤ workers → (seen : List ℕ)
    → Always (λ worker. IsOfWorkers workers (target (old_verb worker))) (running (showing workers seen))
