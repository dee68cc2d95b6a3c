-- Which stamps a snapshot sees.
use Rattle.std.specs.Prelude.{◌≡◌, ◌⊎◌, ℕ, ◌-◌, ◌≤◌, ◌==◌, ◌&&◌, nat_le, Bool, List, length, slice_index, if◌then◌else◌}
use Rattle.si_model.specs.declared.log.Stamp.{Stamp}

-- the loader's stamp
abbrev pub IsLoaders : Stamp → Type 0
IsLoaders stamp = (stamp.thread ≡ 0) × (stamp.number ≡ 0)

-- the entry of the stamp's worker is at least its number
abbrev pub IsReached : Stamp → List ℕ → Type 0
IsReached stamp seen =
    (1 ≤ stamp.thread) × (stamp.thread ≤ length seen) × (stamp.number ≤ slice_index seen (stamp.thread - 1))

-- the snapshot sees the stamp
abbrev pub IsVisible : Stamp → List ℕ → Type 0
IsVisible stamp seen = IsLoaders stamp ⊎ IsReached stamp seen

-- the same as a test
abbrev pub is_visible : Stamp → List ℕ → Bool
is_visible stamp seen =
    if stamp.thread == 0
    then stamp.number == 0
    else nat_le stamp.thread (length seen) && nat_le stamp.number (slice_index seen (stamp.thread - 1))
