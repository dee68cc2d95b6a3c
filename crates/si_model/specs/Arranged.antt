-- The order in which listed commits make a history: by level, depth, worker and number.
use Rattle.std.specs.Prelude.{ℕ, suc, ◌<◌, ◌≡◌, ◌==◌, ◌&&◌, ◌⊎◌, max, min, Bool, if◌then◌else◌, List, [], ◌∷◌, length}
use Rattle.std.specs.Prelude.{filter, map, IsPermutation}
use Rattle.std.specs.List.{list_any}
use Rattle.si_model.specs.declared.log.Stamp.{Stamp}
use Rattle.si_model.specs.declared.report.CommitLine.{CommitLine}
use Rattle.si_model.specs.Lists.{Listed, Pairwise}
use Rattle.si_model.specs.Rows.{writes_key}
use Rattle.si_model.specs.Evaluation.{guard_keys}
use Rattle.si_model.specs.History.{stamp_of}
use Rattle.si_model.specs.Tells.{Tell}
use Rattle.si_model.specs.Commits.{Published, entry_of, published_by, snaps_by}
use Rattle.si_model.specs.Snapshots.{contains, sum_above}

-- the least prefix of a snapshot that contains the stamp, and top where none does
abbrev pub level_from : ℕ → ℕ → List (List ℕ) → Stamp → ℕ
level_from start top [] s = top
level_from start top (snap ∷ snaps) s =
    if contains snap s then min (sum_above start snap) (level_from start top snaps s) else level_from start top snaps s

-- the level of a commit: the least prefix of a listed snapshot that contains it, and one more than any where none does
abbrev pub level_of : ℕ → List (List Tell) → Stamp → ℕ
level_of start tss s = level_from start (suc (length (published_by tss))) (snaps_by tss) s

-- does the first commit guard a key that the second writes
abbrev pub guards_write : Published → Published → Bool
guards_write c d = list_any (λ key. writes_key d.line.writes key) (guard_keys c.ops)

-- do the two commits have one level, and does the first guard a key that the second writes
abbrev pub guards_beside : (Stamp → ℕ) → Published → Published → Bool
guards_beside level c d = (level (stamp_of c.line) == level (stamp_of d.line)) && guards_write c d

-- one more than the greatest depth of these commits, and 0 where there are none
abbrev pub above_all : (Stamp → ℕ) → List Published → ℕ
above_all depth [] = 0
above_all depth (c ∷ cs) = max (suc (depth (stamp_of c.line))) (above_all depth cs)

-- each commit's depth is one more than the greatest of those of its level that guard a key that it writes, and 0 where
-- none does
abbrev pub AreDepths : (Stamp → ℕ) → (Stamp → ℕ) → List Published → Type 0
AreDepths level depth cs =
    (c : Published) → Listed c cs → depth (stamp_of c.line) ≡ above_all depth (filter (λ d. guards_beside level d c) cs)

-- the first entry stands before the second, by level, depth, worker and number
abbrev pub Precedes : (Stamp → ℕ) → (Stamp → ℕ) → CommitLine → CommitLine → Type 0
Precedes level depth a b =
    (level (stamp_of a) < level (stamp_of b))
    ⊎ ((level (stamp_of a) ≡ level (stamp_of b))
    × ((depth (stamp_of a) < depth (stamp_of b))
    ⊎ ((depth (stamp_of a) ≡ depth (stamp_of b))
    × ((a.worker < b.worker) ⊎ ((a.worker ≡ b.worker) × (a.number < b.number))))))

-- the history has exactly the commits of the logs, in that order
pub record IsArranged (start : ℕ) (tss : List (List Tell)) (history : List CommitLine) : Type 0 where
  pub same : IsPermutation (map entry_of (published_by tss)) history
  pub depth : Stamp → ℕ
  pub depths : AreDepths (level_of start tss) depth (published_by tss)
  pub ordered : Pairwise (Precedes (level_of start tss) depth) history
