-- The horizon: collecting a bucket, and showing that a snapshot is too old.
use Rattle.std.specs.Prelude.{if◌then◌else◌, ℕ, ◌+◌, ◌-◌, ◌*◌, ◌==◌, ◌&&◌, nat_lt, List, [], ◌∷◌, ◌++◌, length}
use Rattle.std.specs.Prelude.{slice_index}
use Rattle.nam_verbs.specs.declared.now.Now.{Now}
use Rattle.nam_verbs.specs.declared.now.Now.TheVariants.{At, Over}
use Rattle.nam_verbs.specs.Until.{until}
use Rattle.nam_verbs.specs.VerbAt.{VerbAt, ReadAt, ExchangeAt}
use Rattle.nam_header.specs.Stamp.{stamp_in, is_within}
use Rattle.nam_header.specs.Tag.{is_full, has_next, freed}
use Rattle.nam_layout.specs.declared.field.Cells.{Cells}
use Rattle.nam_layout.specs.declared.field.Field.{Field}
use Rattle.nam_layout.specs.declared.field.Field.TheVariants as field
use Rattle.nam_calls.specs.declared.horizon.CollectPoint.{CollectPoint}
use Rattle.nam_calls.specs.declared.horizon.CollectPoint.TheVariants.{HorizonLook, HorizonRaise, CollectTag}
use Rattle.nam_calls.specs.declared.horizon.CollectPoint.TheVariants.{CollectEnding, CollectFree}
use Rattle.nam_calls.specs.declared.horizon.OldEnd.{OldEnd}
use Rattle.nam_calls.specs.declared.horizon.OldEnd.TheVariants.{TooOld, NotPassed}

-- 1. Collect: the horizon entries are raised to the snapshot's, then the cells within the known horizon are freed

abbrev pub collect_begin : CollectPoint
collect_begin = HorizonLook []

abbrev pub collect_verb : Cells → List ℕ → CollectPoint → VerbAt Field
collect_verb cells seen (HorizonLook known) = ReadAt (field.Horizon (length known + 1))
collect_verb cells seen (HorizonRaise known found) =
    ExchangeAt (field.Horizon (length known + 1)) found (slice_index seen (length known))
collect_verb cells seen (CollectTag known cell) = ReadAt (field.Tag cells.bucket cell)
collect_verb cells seen (CollectEnding known cell tag) = ReadAt (field.End cells.bucket cell)
collect_verb cells seen (CollectFree known cell tag) = ExchangeAt (field.Tag cells.bucket cell) tag (freed tag)

-- after the last entry the cells follow
abbrev pub entry_known : ℕ → List ℕ → Now CollectPoint (List ℕ)
entry_known workers known = At (until workers known HorizonLook (λ all. CollectTag all 0))

abbrev pub collect_next : Cells → List ℕ → ℕ → Now CollectPoint (List ℕ)
collect_next cells known cell = if cell + 1 == cells.cells then Over known else At (CollectTag known (cell + 1))

abbrev pub collect_after : Cells → ℕ → List ℕ → CollectPoint → ℕ → Now CollectPoint (List ℕ)
collect_after cells workers seen (HorizonLook known) found =
    if nat_lt found (slice_index seen (length known)) then At (HorizonRaise known found)
    else entry_known workers (known ++ found ∷ [])
collect_after cells workers seen (HorizonRaise known expected) found =
    entry_known workers (known ++ (if found == expected then slice_index seen (length known) else found) ∷ [])
collect_after cells workers seen (CollectTag known cell) found =
    if is_full found then At (CollectEnding known cell found) else collect_next cells known cell
collect_after cells workers seen (CollectEnding known cell tag) found =
    if is_within (stamp_in cells.form found) known && has_next tag then At (CollectFree known cell tag)
    else collect_next cells known cell
collect_after cells workers seen (CollectFree known cell tag) found = collect_next cells known cell

abbrev pub collect_left : Cells → ℕ → CollectPoint → ℕ
collect_left cells workers (HorizonLook known) = 2 * (workers - length known) + 3 * cells.cells
collect_left cells workers (HorizonRaise known found) = 2 * (workers - length known) - 1 + 3 * cells.cells
collect_left cells workers (CollectTag known cell) = 3 * (cells.cells - cell - 1) + 3
collect_left cells workers (CollectEnding known cell tag) = 3 * (cells.cells - cell - 1) + 2
collect_left cells workers (CollectFree known cell tag) = 3 * (cells.cells - cell - 1) + 1

-- 2. ShowOld: worker after worker, until one's horizon entry is above the snapshot's. The point is the worker

abbrev pub old_begin : ℕ
old_begin = 1

abbrev pub old_verb : ℕ → VerbAt Field
old_verb worker = ReadAt (field.Horizon worker)

abbrev pub old_after : ℕ → List ℕ → ℕ → ℕ → Now ℕ OldEnd
old_after workers seen worker found =
    if nat_lt (slice_index seen (worker - 1)) found then Over (TooOld worker (slice_index seen (worker - 1)) found)
    else if worker == workers then Over NotPassed
    else At (worker + 1)

abbrev pub old_left : ℕ → ℕ → ℕ
old_left workers worker = workers + 1 - worker
