-- What a collection does, and with which horizon it ends.
use Rattle.std.specs.Prelude.{◌≡◌, ◌≢◌, ◌⊎◌, ◌↔◌, ℕ, ◌+◌, ◌<◌, ◌≤◌, true, false, List, [], ◌∷◌, ◌++◌, length}
use Rattle.std.specs.Prelude.{slice_index}
use Rattle.nam_verbs.specs.Steps.{Step, saw, tried, EndsWith, Stretches}
use Rattle.nam_verbs.specs.Machine.{Always}
use Rattle.nam_verbs.specs.VerbAt.{target}
use Rattle.nam_header.specs.Stamp.{stamp_in, is_within}
use Rattle.nam_header.specs.Tag.{is_full, has_next, freed}
use Rattle.nam_layout.specs.declared.field.Cells.{Cells}
use Rattle.nam_layout.specs.PlaceFits.{FitsCells}
use Rattle.nam_layout.specs.Known.{IsKnown}
use Rattle.nam_layout.specs.Place.{no_place}
use Rattle.nam_layout.specs.declared.field.Field.{Field}
use Rattle.nam_layout.specs.declared.field.Field.TheVariants as field
use Rattle.nam_calls.specs.Horizon.{collect_verb}
use Rattle.nam_horizon.specs.Collect.{collecting, running}

-- 1. The horizon

module _ (seen : List ℕ) where
  -- a worker's horizon entry was found, and its exchange for the snapshot's found this word
  abbrev pub raise_steps : ℕ → ℕ → ℕ → List (Step Field)
  raise_steps nth entry word =
      saw (field.Horizon (nth + 1)) entry
      ∷ tried (field.Horizon (nth + 1)) entry (slice_index seen nth) word ∷ []

  -- The entry that is known of a worker: the one found, where it has reached the snapshot's; the snapshot's, where a
  -- lower one was exchanged for it; and the word to which that exchange was lost.
  pub data EntryKnown (nth known : ℕ) (steps : List (Step Field)) : Type 0 where
    was_reached : slice_index seen nth ≤ known → steps ≡ saw (field.Horizon (nth + 1)) known ∷ []
        → EntryKnown nth known steps
    is_raised : (entry : ℕ) → entry < slice_index seen nth → known ≡ slice_index seen nth
        → steps ≡ raise_steps nth entry entry → EntryKnown nth known steps
    was_lost : (entry : ℕ) → entry < slice_index seen nth → known ≢ entry → steps ≡ raise_steps nth entry known
        → EntryKnown nth known steps

  -- the entries that are known of workers one after another
  abbrev pub EntriesKnown : ℕ → List ℕ → List (Step Field) → Type 0
  EntriesKnown nth [] steps = steps ≡ []
  EntriesKnown nth (entry ∷ known) steps =
      (first rest : List (Step Field)) × (steps ≡ first ++ rest) × EntryKnown nth entry first
      × EntriesKnown (nth + 1) known rest

-- 2. The cells

module _ (cells : Cells) (known : List ℕ) where
  -- a cell with this tag and this end may be set free: it is full, its version ended within the known horizon, and its
  -- generation has a next one
  pub record MayBeFreed (tag ending : ℕ) : Type 0 where
    pub full : is_full tag ≡ true
    pub passed : is_within (stamp_in cells.form ending) known ≡ true
    pub next : has_next tag ≡ true

  abbrev pub look_steps : ℕ → ℕ → ℕ → List (Step Field)
  look_steps cell tag ending = saw (field.Tag cells.bucket cell) tag ∷ saw (field.End cells.bucket cell) ending ∷ []

  -- a cell's tag was read, where it is full the end too, and where it may be set free its tag was exchanged
  pub data CellCollected (cell : ℕ) (steps : List (Step Field)) : Type 0 where
    not_full : (tag : ℕ) → is_full tag ≡ false → steps ≡ saw (field.Tag cells.bucket cell) tag ∷ []
        → CellCollected cell steps
    is_kept : (tag ending : ℕ) → is_full tag ≡ true
        → (is_within (stamp_in cells.form ending) known ≡ false) ⊎ (has_next tag ≡ false)
        → steps ≡ look_steps cell tag ending → CellCollected cell steps
    is_freed : (tag ending word : ℕ) → MayBeFreed tag ending
        → steps ≡ look_steps cell tag ending ++ tried (field.Tag cells.bucket cell) tag (freed tag) word ∷ []
        → CellCollected cell steps

-- 3. A whole collection

-- the horizon became known, entry after entry, and then cell after cell was collected
pub record CollectedBy (cells : Cells) (workers : ℕ) (seen known : List ℕ) (steps : List (Step Field)) : Type 0 where
  pub all : length known ≡ workers
  pub raising : List (Step Field)
  pub freeing : List (Step Field)
  pub steps_are : steps ≡ raising ++ freeing
  pub entries : EntriesKnown seen 0 known raising
  pub bucket : Stretches (CellCollected cells known) 0 cells.cells freeing

-- a collection ends with a known horizon exactly so
abbrev pub CollectLaw : Type 0
CollectLaw = (cells : Cells) → FitsCells cells → (workers : ℕ) → 1 ≤ workers
    → (seen : List ℕ) (steps : List (Step Field)) (known : List ℕ)
    → EndsWith (running (collecting cells workers seen)) steps known ↔ CollectedBy cells workers seen known steps

-- each entry of the horizon that it ends with was found by it or written
abbrev pub KnownLaw : Type 0
KnownLaw = (cells : Cells) → FitsCells cells → (workers : ℕ) → 1 ≤ workers
    → (seen : List ℕ) (steps : List (Step Field)) (known : List ℕ)
    → EndsWith (running (collecting cells workers seen)) steps known → (nth : ℕ) → nth < workers
    → (before here after : List (Step Field)) × (steps ≡ before ++ here ++ after)
    × EntryKnown seen nth (slice_index known nth) here

-- 4. Its exchanges

-- a lower entry of the horizon, found just before, is exchanged for the snapshot's
pub record RaisesEntry (workers : ℕ) (seen : List ℕ) (before : List (Step Field)) (at : Field) (expected new : ℕ)
    : Type 0 where
  pub nth : ℕ
  pub within : nth < workers
  pub at_is : at ≡ field.Horizon (nth + 1)
  pub new_is : new ≡ slice_index seen nth
  pub rises : expected < new
  pub earlier : List (Step Field)
  pub before_is : before ≡ earlier ++ saw at expected ∷ []

-- the tag of a cell that may be set free, found just before, is exchanged for the free tag of the next generation
pub record FreesCell (cells : Cells) (known : List ℕ) (before : List (Step Field)) (at : Field) (expected new : ℕ)
    : Type 0 where
  pub cell : ℕ
  pub within : cell < cells.cells
  pub at_is : at ≡ field.Tag cells.bucket cell
  pub new_is : new ≡ freed expected
  pub ending : ℕ
  pub may : MayBeFreed cells known expected ending
  pub earlier : List (Step Field)
  pub before_is : before ≡ earlier ++ look_steps cells known cell expected ending

-- each exchange raises an entry, or frees a cell within the horizon that the collection ends with
abbrev pub ExchangeLaw : Type 0
ExchangeLaw = (cells : Cells) → FitsCells cells → (workers : ℕ) → 1 ≤ workers
    → (seen : List ℕ) (steps : List (Step Field)) (known : List ℕ)
    → EndsWith (running (collecting cells workers seen)) steps known
    → (before after : List (Step Field)) (at : Field) (expected new found : ℕ)
    → steps ≡ before ++ tried at expected new found ∷ after
    → RaisesEntry workers seen before at expected new ⊎ FreesCell cells known before at expected new

-- whatever words are found, each verb is at an entry of a worker, or at a field of the bucket's cells
abbrev pub CollectFieldLaw : Type 0
CollectFieldLaw = (cells : Cells) (workers : ℕ) → FitsCells cells → 1 ≤ workers → (seen : List ℕ)
    → Always (λ at. IsKnown no_place cells workers (target (collect_verb cells seen at)))
    (running (collecting cells workers seen))
