-- What a collection has done at each moment, and what it exchanges then.
use Rattle.std.specs.Prelude.{◌≡◌, ◌⊎◌, ℕ, ◌+◌, ◌<◌, ◌≤◌, true, List, [], ◌∷◌, ◌++◌, length, Some, slice_index}
use Rattle.nam_verbs.specs.Machine.{after_words}
use Rattle.nam_verbs.specs.Now.{FitsNow}
use Rattle.nam_verbs.specs.Steps.{Step, saw, tried, Stretches}
use Rattle.nam_verbs.specs.SoFar.{steps_by, next_at}
use Rattle.nam_verbs.specs.VerbAt.{WriteAt, ExchangeAt}
use Rattle.nam_header.specs.Tag.{is_full}
use Rattle.nam_layout.specs.declared.field.Cells.{Cells}
use Rattle.nam_layout.specs.PlaceFits.{FitsCells}
use Rattle.nam_layout.specs.declared.field.Field.{Field}
use Rattle.nam_layout.specs.declared.field.Field.TheVariants as field
use Rattle.nam_calls.specs.declared.horizon.CollectPoint.{CollectPoint}
use Rattle.nam_calls.specs.declared.horizon.CollectPoint.TheVariants.{HorizonLook, HorizonRaise, CollectTag}
use Rattle.nam_calls.specs.declared.horizon.CollectPoint.TheVariants.{CollectEnding, CollectFree}
use Rattle.nam_horizon.specs.Collect.{collecting, running}
use Rattle.nam_horizon.specs.CollectLaw.{EntriesKnown, MayBeFreed, look_steps, CellCollected, RaisesEntry, FreesCell}

module _ (cells : Cells) (workers : ℕ) (seen : List ℕ) where
  -- 1. The steps that led to a point

  -- all entries became known, in order of workers, and then so many cells were collected under them, before these steps
  pub record CellsSoFar (known : List ℕ) (cell : ℕ) (last steps : List (Step Field)) : Type 0 where
    pub all : length known ≡ workers
    pub raising : List (Step Field)
    pub freeing : List (Step Field)
    pub entries : EntriesKnown seen 0 known raising
    pub bucket : Stretches (CellCollected cells known) 0 cell freeing
    pub steps_are : steps ≡ (raising ++ freeing) ++ last

  -- The entries that are known so far, each found or written, in order of workers, and the one that was found lower;
  -- and once all are known, the cells that were collected, and what was found of the next one.
  abbrev pub CollectedSoFar : CollectPoint → List (Step Field) → Type 0
  CollectedSoFar (HorizonLook known) steps = (length known < workers) × EntriesKnown seen 0 known steps
  CollectedSoFar (HorizonRaise known found) steps =
      (length known < workers) × (found < slice_index seen (length known))
      × (raising : List (Step Field)) × EntriesKnown seen 0 known raising
      × (steps ≡ raising ++ saw (field.Horizon (length known + 1)) found ∷ [])
  CollectedSoFar (CollectTag known cell) steps = (cell < cells.cells) × CellsSoFar known cell [] steps
  CollectedSoFar (CollectEnding known cell tag) steps =
      (cell < cells.cells) × (is_full tag ≡ true)
      × CellsSoFar known cell (saw (field.Tag cells.bucket cell) tag ∷ []) steps
  CollectedSoFar (CollectFree known cell tag) steps =
      (cell < cells.cells) × (ending : ℕ) × MayBeFreed cells known tag ending
      × CellsSoFar known cell (look_steps cells known cell tag ending) steps

  -- 2. The exchange that comes next

  -- all entries are known, and it frees a cell within them
  pub record FreesWithin (steps : List (Step Field)) (at : Field) (expected new : ℕ) : Type 0 where
    pub known : List ℕ
    pub all : length known ≡ workers
    pub raising : List (Step Field)
    pub later : List (Step Field)
    pub entries : EntriesKnown seen 0 known raising
    pub steps_are : steps ≡ raising ++ later
    pub frees : FreesCell cells known steps at expected new

-- whatever words were found, these are the steps so far, until the collection has ended
abbrev pub MomentLaw : Type 0
MomentLaw = (cells : Cells) → FitsCells cells → (workers : ℕ) → 1 ≤ workers → (seen words : List ℕ)
    → let call = running (collecting cells workers seen) in
    FitsNow (λ at. CollectedSoFar cells workers seen at (steps_by call words)) (after_words call words).state

-- whatever words were found, what is exchanged next is an entry that was found lower, for the snapshot's, or the tag of
-- a cell that may be freed, once all entries are known
abbrev pub NextExchangeLaw : Type 0
NextExchangeLaw = (cells : Cells) → FitsCells cells → (workers : ℕ) → 1 ≤ workers
    → (seen words : List ℕ) (at : Field) (expected new : ℕ)
    → let call = running (collecting cells workers seen) in
    next_at (after_words call words) ≡ Some (ExchangeAt at expected new)
    → RaisesEntry workers seen (steps_by call words) at expected new
    ⊎ FreesWithin cells workers seen (steps_by call words) at expected new

-- and so was each exchange that was done so far
abbrev pub DoneExchangeLaw : Type 0
DoneExchangeLaw = (cells : Cells) → FitsCells cells → (workers : ℕ) → 1 ≤ workers
    → (seen words : List ℕ) (before after : List (Step Field)) (at : Field) (expected new found : ℕ)
    → steps_by (running (collecting cells workers seen)) words ≡ before ++ tried at expected new found ∷ after
    → RaisesEntry workers seen before at expected new ⊎ FreesWithin cells workers seen before at expected new

-- and nothing is written but by exchanges
abbrev pub NoWriteLaw : Type 0
NoWriteLaw = (cells : Cells) (workers : ℕ) (seen words : List ℕ) (at : Field) (word : ℕ)
    → next_at (after_words (running (collecting cells workers seen)) words) ≡ Some (WriteAt at word) → ⊥
