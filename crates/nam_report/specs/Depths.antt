-- The depths of placed commits, and how they settle.
use Rattle.std.specs.Prelude.{ℕ, suc, ◌-◌, ◌<◌, ◌≤◌, ◌≡◌, ◌==◌, ◌&&◌, ◌⊎◌, max, Bool, IsTrue, if◌then◌else◌, List, []}
use Rattle.std.specs.Prelude.{◌∷◌, map, slice_index_or, unwrap_or}
use Rattle.std.specs.List.{list_any, AllByRecursion}
use Rattle.std.specs.declared.cmp.Ordering.{Ordering}
use Rattle.std.specs.Ordering.{nat_cmp, ordering_then}
use Rattle.std.specs.BTreeMap.{BTreeMap, get}
use Rattle.si_model.specs.declared.row.Key.{Key}
use Rattle.si_model.specs.declared.row.Item.{Item}
use Rattle.si_model.specs.declared.op.Op.{Op}
use Rattle.si_model.specs.declared.log.Stamp.{Stamp}
use Rattle.si_model.specs.declared.report.CommitLine.{CommitLine}
use Rattle.si_model.specs.Lists.{Listed}
use Rattle.si_model.specs.Rows.{same_key, item_key, writes_key}
use Rattle.si_model.specs.Evaluation.{guard_keys}
use Rattle.si_model.specs.History.{stamp_of, same_stamp}
use Rattle.si_model.specs.Held.{key_cmp}
use Rattle.nam_report.specs.declared.arranging.placed.Placed.{Placed}
use Rattle.nam_report.specs.declared.arranging.placed.LevelKey.{LevelKey}

-- a commit at its level, at depth 0
abbrev pub placed_with : (Stamp → ℕ) → List (List Op) → CommitLine → Placed
placed_with level jobs e =
    record { level = level (stamp_of e); depth = 0; guards = guard_keys (slice_index_or jobs (e.txn - 1) []); line = e }

abbrev pub at_depth : ℕ → Placed → Placed
at_depth n p = record { level = p.level; depth = n; guards = p.guards; line = p.line }

-- the commit without its depth
abbrev pub flat : Placed → Placed
flat p = at_depth 0 p

abbrev pub level_key_cmp : LevelKey → LevelKey → Ordering
level_key_cmp a b = ordering_then (nat_cmp a.level b.level) (key_cmp a.key b.key)

abbrev pub same_level_key : LevelKey → LevelKey → Bool
same_level_key a b = (a.level == b.level) && same_key a.key b.key

abbrev pub level_key : ℕ → Key → LevelKey
level_key level key = record { level = level; key = key }

-- what a map says of a key at a level, and 0 where it says nothing
abbrev pub reach_in : BTreeMap LevelKey ℕ → LevelKey → ℕ
reach_in reached k = unwrap_or (get level_key_cmp reached k) 0

-- do a commit's guards at its level have the key
abbrev pub has_guard : ℕ → List Key → LevelKey → Bool
has_guard level guards k = (level == k.level) && list_any (λ key. same_key key k.key) guards

-- one more than the greatest depth of those that guard the key at its level, and 0 where none does
abbrev pub reach : List Placed → LevelKey → ℕ
reach [] k = 0
reach (p ∷ ps) k = max (if has_guard p.level p.guards k then suc p.depth else 0) (reach ps k)

-- the greatest of what is said of the written keys at a level
abbrev pub deepest : (LevelKey → ℕ) → ℕ → List Item → ℕ
deepest said level [] = 0
deepest said level (i ∷ is) = max (said (level_key level (item_key i))) (deepest said level is)

-- one more than the greatest depth of those of its level that guard a key that it writes, and 0 where none does
abbrev pub next_depth : List Placed → Placed → ℕ
next_depth ps p = deepest (reach ps) p.level p.line.writes

-- the commits at their next depths
abbrev pub with_next_depths : List Placed → List Placed
with_next_depths ps = map (λ p. at_depth (next_depth ps p) p) ps

-- all have their next depths
abbrev pub AreSettled : List Placed → Type 0
AreSettled ps = AllByRecursion (λ p. p.depth ≡ next_depth ps p) ps

-- does the first commit guard a key that the second, of the same level, writes
abbrev pub is_beside : Placed → Placed → Bool
is_beside p q = (p.level == q.level) && list_any (λ key. writes_key q.line.writes key) p.guards

-- the numbers rise from a commit to those that it stands beside
abbrev pub Rises : (Stamp → ℕ) → List Placed → Type 0
Rises number ps = (p q : Placed) → Listed p ps → Listed q ps → IsTrue (is_beside p q)
    → number (stamp_of p.line) < number (stamp_of q.line)

-- the commits whose number is below n have their next depths, however the numbers rise
abbrev pub SettledBelow : ℕ → List Placed → Type 0
SettledBelow n ps = (number : Stamp → ℕ) → Rises number ps → (p : Placed) → Listed p ps → number (stamp_of p.line) < n
    → p.depth ≡ next_depth ps p

-- no circle of commits in which each stands beside the next: they have numbers below n that rise
pub record AreAcyclic (n : ℕ) (ps : List Placed) : Type 0 where
  pub number : Stamp → ℕ
  pub below : (p : Placed) → Listed p ps → number (stamp_of p.line) < n
  pub rises : Rises number ps

-- the depth of the commit of this stamp
abbrev pub depth_in : List Placed → Stamp → ℕ
depth_in [] s = 0
depth_in (p ∷ ps) s = if same_stamp (stamp_of p.line) s then p.depth else depth_in ps s

-- the first commit stands before the second by level, depth, worker and number, or is at its place
abbrev pub NotAfter : Placed → Placed → Type 0
NotAfter a b =
    (a.level < b.level)
    ⊎ ((a.level ≡ b.level)
    × ((a.depth < b.depth)
    ⊎ ((a.depth ≡ b.depth) × ((a.line.worker < b.line.worker)
    ⊎ ((a.line.worker ≡ b.line.worker) × (a.line.number ≤ b.line.number))))))

abbrev pub line_of : Placed → CommitLine
line_of p = p.line
