-- a snapshot: its points, verb by verb, and the same as a machine
use Rattle.std.specs.Prelude.{◌≡◌, ℕ, ◌+◌, ◌-◌, ◌<◌, ◌==◌, if◌then◌else◌, [], ◌∷◌, ◌++◌, length, slice_index}
use Rattle.nam_verbs.specs.declared.now.Now.{Now}
use Rattle.nam_verbs.specs.declared.now.Now.TheVariants.{At, Over}
use Rattle.nam_verbs.specs.VerbAt.{VerbAt, ReadAt}
use Rattle.nam_verbs.specs.Until.{until}
use Rattle.nam_verbs.specs.Running.{Running}
use Rattle.nam_layout.specs.declared.field.Field.{Field}
use Rattle.nam_layout.specs.declared.field.Field.TheVariants.{Entry}
use Rattle.nam_layout.specs.Place.{worker_address}
use Rattle.nam_vector.specs.declared.snap.SnapPoint.{SnapPoint}
use Rattle.nam_vector.specs.declared.snap.SnapPoint.TheVariants.{First, Second}
use Rattle.nam_vector.specs.declared.snap.SnapEnd.{SnapEnd}
use Rattle.nam_vector.specs.declared.snap.SnapEnd.TheVariants.{Done, Again}

-- 1. Its points

-- the first pass has got nothing yet
abbrev pub snap_begin : SnapPoint
snap_begin = First []

-- the entries from the first worker's on
abbrev pub nth_entry : ℕ → Field
nth_entry nth = Entry (nth + 1)

-- each pass reads entry after entry
abbrev pub snap_verb : SnapPoint → VerbAt Field
snap_verb (First got) = ReadAt (nth_entry (length got))
snap_verb (Second seen at) = ReadAt (nth_entry at)

-- the second pass goes on while it finds what the first found
abbrev pub snap_after : ℕ → SnapPoint → ℕ → Now SnapPoint SnapEnd
snap_after workers (First got) found = At (until workers (got ++ found ∷ []) First (λ seen. Second seen 0))
snap_after workers (Second seen at) found =
    if found == slice_index seen at
    then (if at + 1 == workers then Over (Done seen) else At (Second seen (at + 1)))
    else Over (Again (at + 1) (slice_index seen at) found)

-- the verbs to come where both passes come to their end
abbrev pub snap_left : ℕ → SnapPoint → ℕ
snap_left workers (First got) = workers + (workers - length got)
snap_left workers (Second seen at) = workers - at

-- a pass has an entry to read, and the second one has the whole first
abbrev pub SnapFits : ℕ → SnapPoint → Type 0
SnapFits workers (First got) = length got < workers
SnapFits workers (Second seen at) = (length seen ≡ workers) × (at < workers)

-- 2. The machine

-- a snapshot of so many workers' entries, and where it stands
pub record Snapping : Type 0 where
  pub workers : ℕ
  pub state : Now SnapPoint SnapEnd

-- a new snapshot
abbrev pub snapping : ℕ → Snapping
snapping workers = record { workers = workers; state = At snap_begin }

-- the same as a running call
abbrev pub running : Snapping → Running Field SnapPoint SnapEnd
running a = record {
  address = worker_address a.workers;
  reach = a.workers;
  verb = snap_verb;
  after = snap_after a.workers;
  left = snap_left a.workers;
  state = a.state;
}
