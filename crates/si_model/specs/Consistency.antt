-- Logs that are consistent without a history: what they list is right by their snapshots alone.
use Rattle.std.specs.Prelude.{ℕ, suc, ◌<◌, ◌≤◌, ◌≡◌, ◌≢◌, ◌&&◌, ◌⊎◌, not, Bool, false, IsTrue, IfSome, List, [], ◌∷◌}
use Rattle.std.specs.Prelude.{length, map, replicate, is_some}
use Rattle.std.specs.List.{list_any, AllByRecursion}
use Rattle.si_model.specs.declared.row.Key.{Key}
use Rattle.si_model.specs.declared.row.Item.{Item}
use Rattle.si_model.specs.declared.op.Op.{Op}
use Rattle.si_model.specs.declared.log.Stamp.{Stamp}
use Rattle.si_model.specs.declared.log.Log.{Log}
use Rattle.si_model.specs.declared.evaluated.Evaluated.TheVariants.{Done}
use Rattle.si_model.specs.Lists.{Listed}
use Rattle.si_model.specs.Rows.{Rows, item_key, rows_of, writes_key}
use Rattle.si_model.specs.Evaluation.{evaluation_of}
use Rattle.si_model.specs.History.{stamp_of}
use Rattle.si_model.specs.Tells.{Tell, CountsFit, tells_of, prefix_in, commit_in, last_number}
use Rattle.si_model.specs.Commits.{Published, published_of, published_by, snaps_by}
use Rattle.si_model.specs.Snapshots.{contains, sum_above, rows_in}
use Rattle.si_model.specs.View.{View, by_snapshots}
use Rattle.si_model.specs.Setting.{Setting, Asked, by_script}
use Rattle.si_model.specs.Arranged.{level_of, guards_write, guards_beside}
use Rattle.si_model.specs.Knowledge.{AreAtMost, SeesForward}
use Rattle.si_model.specs.Answers.{AnswersMatch}
use Rattle.si_model.specs.Causes.{HaveCauses}
use Rattle.si_model.specs.Tries.{FollowsPolicy, Walk, FollowsSoFar}

-- an event's prefix is the sum of its snapshot above start, and a commit has a prefix
pub record OwnsSnapshot (start : ℕ) (t : Tell) : Type 0 where
  pub sum : IfSome (prefix_in t.event) (λ p. p ≡ sum_above start t.snap)
  pub commit : IsTrue (is_some (commit_in t.event)) → IsTrue (is_some (prefix_in t.event))

-- the commit numbers follow n one by one
abbrev pub NumbersFollow : ℕ → List Published → Type 0
NumbersFollow n [] = Unit {0}
NumbersFollow n (c ∷ cs) = (c.line.number ≡ suc n) × NumbersFollow (suc n) cs

-- worker j's events own their snapshots, and its commits are numbered in order
pub record OwnsAll (start j : ℕ) (ts : List Tell) : Type 0 where
  pub snapshots : AllByRecursion (OwnsSnapshot start) ts
  pub numbers : NumbersFollow start (published_of j ts)

-- the same of each worker from number j on
abbrev pub AreOwned : ℕ → ℕ → List (List Tell) → Type 0
AreOwned start j [] = Unit {0}
AreOwned start j (ts ∷ tss) = OwnsAll start j ts × AreOwned start (suc j) tss

-- the snapshot has an entry for each worker, from start to its last number
abbrev pub IsWithin : ℕ → List ℕ → List (List Tell) → Type 0
IsWithin start [] [] = Unit {0}
IsWithin start [] (ts ∷ tss) = ⊥
IsWithin start (n ∷ ns) [] = ⊥
IsWithin start (n ∷ ns) (ts ∷ tss) = (start ≤ n) × (n ≤ last_number start ts) × IsWithin start ns tss

-- the commits have an order: each snapshot is of what was published, and any two snapshots are ordered in every entry
pub record HaveOrder (start : ℕ) (tss : List (List Tell)) : Type 0 where
  pub owned : AreOwned start 1 tss
  pub within : (snap : List ℕ) → Listed snap (snaps_by tss) → IsWithin start snap tss
  pub ordered : (a b : List ℕ) → Listed a (snaps_by tss) → Listed b (snaps_by tss) → AreAtMost a b ⊎ AreAtMost b a

-- no circle of commits in which each stands so to the next: they can be numbered, below their count, so that the
-- numbers rise
pub record HaveNoCircle (before : Published → Published → Bool) (cs : List Published) : Type 0 where
  pub place : Stamp → ℕ
  pub below : (c : Published) → Listed c cs → place (stamp_of c.line) < length cs
  pub rises : (c d : Published) → Listed c cs → Listed d cs → IsTrue (before c d)
      → place (stamp_of c.line) < place (stamp_of d.line)

-- the condition of arranging: an order, the transactions in range, and no circle of guards within a level
pub record CanBeArranged (start : ℕ) (jobs : List (List Op)) (tss : List (List Tell)) : Type 0 where
  pub order : HaveOrder start tss
  pub jobs_in_range : (c : Published) → Listed c (published_by tss) → (1 ≤ c.line.txn) × (c.line.txn ≤ length jobs)
  pub no_circle : HaveNoCircle (guards_beside (level_of start tss)) (published_by tss)

-- a commit evaluates its operations on what its snapshot shows, where it isn't itself
pub record MayBePublished (widths : List ℕ) (rows : Rows) (cs : List Published) (c : Published) : Type 0 where
  pub own : contains c.snap (stamp_of c.line) ≡ false
  pub reads : List Item
  pub guards : List Key
  pub evaluates : evaluation_of widths (rows_in rows cs c.snap) c.ops ≡ Done reads c.line.writes guards
  pub writes : 0 < length c.line.writes

-- do the two commits write one key
abbrev pub share_key : Published → Published → Bool
share_key c d = list_any (λ i. writes_key d.line.writes (item_key i)) c.line.writes

-- of two commits that write one key, one is in the other's snapshot
abbrev pub FirstWins : List Published → Type 0
FirstWins cs =
    (c d : Published) → Listed c cs → Listed d cs → stamp_of c.line ≢ stamp_of d.line → IsTrue (share_key c d)
    → IsTrue (contains d.snap (stamp_of c.line)) ⊎ IsTrue (contains c.snap (stamp_of d.line))

-- does the second commit overtake the first: it writes a key that the first guards, and the first doesn't see it
abbrev pub is_overtaking : Published → Published → Bool
is_overtaking c d = guards_write c d && not (contains c.snap (stamp_of d.line))

-- a snapshot that contains a commit contains those that it overtakes
abbrev pub KeepsGuards : List Published → List ℕ → Type 0
KeepsGuards cs snap =
    (c d : Published) → Listed c cs → Listed d cs → IsTrue (is_overtaking c d)
    → IsTrue (contains snap (stamp_of d.line)) → IsTrue (contains snap (stamp_of c.line))

-- what worker j lists is right in the view, its policy apart
pub record IsSound (s : Setting) (asked : Asked) (v : View) (tss : List (List Tell)) (j : ℕ) (ts : List Tell) : Type 0
  where
    pub sees : SeesForward v j (replicate s.workers s.start) ts
    pub answers : AnswersMatch s asked v j ts
    pub causes : HaveCauses s v tss j ts

-- the same of each worker from number j on
abbrev pub AreSound : Setting → Asked → View → List (List Tell) → ℕ → List (List Tell) → Type 0
AreSound s asked v tss j [] = Unit {0}
AreSound s asked v tss j (ts ∷ more) = IsSound s asked v tss j ts × AreSound s asked v tss (suc j) more

-- the view that the snapshots of these logs make
abbrev pub view_by : Setting → List (List Tell) → View
view_by s tss = by_snapshots (rows_of s.rows) (published_by tss)

-- the logs are consistent over the calls: an event has the operations that its worker asked for, and asked has all of
-- them
pub record AreConsistent (s : Setting) (asked : Asked) (tss : List (List Tell)) : Type 0 where
  pub one_log_each : length tss ≡ s.workers
  pub order : HaveOrder s.start tss
  pub published : (c : Published) → Listed c (published_by tss)
      → MayBePublished s.widths (rows_of s.rows) (published_by tss) c
  pub first_wins : FirstWins (published_by tss)
  pub guards : (snap : List ℕ) → Listed snap (snaps_by tss) → KeepsGuards (published_by tss) snap
  pub no_circle : HaveNoCircle is_overtaking (published_by tss)
  pub sound : AreSound s asked (view_by s tss) tss 1 tss

-- each worker from number j on follows the policy
abbrev pub FollowPolicies : Setting → View → ℕ → List (List Tell) → Type 0
FollowPolicies s v j [] = Unit {0}
FollowPolicies s v j (ts ∷ tss) = FollowsPolicy s v j ts × FollowPolicies s v (suc j) tss

-- the logs are consistent for a script: the operations are those of its transactions, and each worker follows its
-- policy
pub record AreConsistentFor (s : Setting) (logs : List Log) : Type 0 where
  pub counts : AllByRecursion CountsFit logs
  pub calls : AreConsistent s (by_script s) (map (tells_of s.jobs) logs)
  pub jobs_in_range :
      (c : Published) → Listed c (published_by (map (tells_of s.jobs) logs)) → (1 ≤ c.line.txn)
      × (c.line.txn ≤ length s.jobs)
  pub policies : FollowPolicies s (view_by s (map (tells_of s.jobs) logs)) 1 (map (tells_of s.jobs) logs)

-- each worker from number j on follows the policy so far, by its walk
abbrev pub FollowSoFar : Setting → View → ℕ → List (List Tell) → List Walk → Type 0
FollowSoFar s v j [] [] = Unit {0}
FollowSoFar s v j [] (walk ∷ walks) = ⊥
FollowSoFar s v j (ts ∷ tss) [] = ⊥
FollowSoFar s v j (ts ∷ tss) (walk ∷ walks) = FollowsSoFar s v j ts walk × FollowSoFar s v (suc j) tss walks

-- the logs are consistent for a script so far: their workers may owe more, as their walks say
pub record AreConsistentSoFar (s : Setting) (logs : List Log) (walks : List Walk) : Type 0 where
  pub counts : AllByRecursion CountsFit logs
  pub calls : AreConsistent s (by_script s) (map (tells_of s.jobs) logs)
  pub jobs_in_range :
      (c : Published) → Listed c (published_by (map (tells_of s.jobs) logs)) → (1 ≤ c.line.txn)
      × (c.line.txn ≤ length s.jobs)
  pub follow : FollowSoFar s (view_by s (map (tells_of s.jobs) logs)) 1 (map (tells_of s.jobs) logs) walks
