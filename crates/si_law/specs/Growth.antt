-- How one worker's log may grow so that the logs of all stay consistent.
use Rattle.std.specs.Prelude.{ℕ, zero, suc, ◌+◌, ◌<◌, ◌≤◌, ◌≡◌, ◌⊎◌, Bool, false, IsTrue, List, [], ◌∷◌, ◌++◌, length}
use Rattle.std.specs.Prelude.{replicate, map, Some, None}
use Rattle.std.specs.List.{list_any, list_all, AllByRecursion}
use Rattle.si_model.specs.declared.row.Key.{Key}
use Rattle.si_model.specs.declared.op.Op.{Op}
use Rattle.si_model.specs.declared.log.Stamp.{Stamp}
use Rattle.si_model.specs.declared.log.Event.{Event}
use Rattle.si_model.specs.declared.log.Event.TheVariants.{Tried}
use Rattle.si_model.specs.declared.log.Log.{Log}
use Rattle.si_model.specs.declared.evaluated.Evaluated.TheVariants.{Done}
use Rattle.si_model.specs.Lists.{Listed, concat_of}
use Rattle.si_model.specs.Rows.{writes_key}
use Rattle.si_model.specs.Evaluation.{evaluation_of}
use Rattle.si_model.specs.History.{stamp_at, stamp_of, keys_of}
use Rattle.si_model.specs.Tells.{Tell, CountsFit, tells_of, empty_log, commit_in, last_number}
use Rattle.si_model.specs.Commits.{Published, published_by, snaps_of, snaps_by}
use Rattle.si_model.specs.Snapshots.{contains}
use Rattle.si_model.specs.View.{View}
use Rattle.si_model.specs.Setting.{Setting, Asked, by_script}
use Rattle.si_model.specs.Knowledge.{AreAtMost, known_after, SeesForward}
use Rattle.si_model.specs.Answers.{lock_key, AnswersMatch, AreNewest}
use Rattle.si_model.specs.Causes.{others_of, lists_lock, collects_entry, has_collected, move_count, moves_version}
use Rattle.si_model.specs.Causes.{is_done, keeps_bucket, ends_locking, HaveCausesAfter}
use Rattle.si_model.specs.Tries.{Walk, FollowsSoFar, is_through, first_walk}
use Rattle.si_model.specs.Consistency.{OwnsSnapshot, IsWithin, KeepsGuards, AreConsistent, AreConsistentFor}
use Rattle.si_model.specs.Consistency.{AreConsistentSoFar, view_by}
use Rattle.si_law.specs.Views.{AsksMore, moves_key_into, tells_newer}

-- the logs of all, where one worker's log has this end: the logs before it, its front, its end, and the logs after it
abbrev pub ending : List (List Tell) → List Tell → List Tell → List (List Tell) → List (List Tell)
ending before ts end after = before ++ (ts ++ end) ∷ after

-- the number of that worker
abbrev pub worker_of : List (List Tell) → ℕ
worker_of before = suc (length before)

-- what worker j knows after these events
abbrev pub known_after_all : View → ℕ → List ℕ → List Tell → List ℕ
known_after_all v j known [] = known
known_after_all v j known (t ∷ ts) = known_after_all v j (known_after v j t known t.event) ts

-- the new end lists what the old one listed, as far as other workers' events rest on it
pub record KeepsListed (was now : List Tell) : Type 0 where
  pub locks : (key : Key) (q : Stamp) → IsTrue (list_any (lists_lock key q) was)
      → IsTrue (list_any (lists_lock key q) now)
  pub entries : (i n : ℕ) → IsTrue (list_any (λ t. collects_entry i n t.event) was)
      → IsTrue (list_any (λ t. collects_entry i n t.event) now)
  pub collects : IsTrue (list_any (λ t. has_collected t.event) was) → IsTrue (list_any (λ t. has_collected t.event) now)
  pub done : (key : Key) (q : Stamp) → IsTrue (list_any (λ t. moves_version is_done key q t.event) was)
      → IsTrue (list_any (λ t. moves_version is_done key q t.event) now)
  pub moves : (b : ℕ) → move_count b was ≤ move_count b now

-- a new snapshot: of what is published, ordered with every other, and with what its commits overtake
pub record IsMoment (s : Setting) (tss : List (List Tell)) (now : List Tell) (snap : List ℕ) : Type 0 where
  pub within : IsWithin s.start snap tss
  pub ordered : (other : List ℕ) → Listed other (snaps_by tss) ⊎ Listed other (snaps_of now) → AreAtMost snap other
      ⊎ AreAtMost other snap
  pub guards : KeepsGuards (published_by tss) snap

-- did another worker find the version of the key that this one would publish next
abbrev pub is_found : Key → ℕ → List (List Tell) → List Tell → List Tell → List (List Tell) → Bool
is_found key last before ts was after =
    list_any (λ o. tells_newer key (stamp_at (worker_of before) (last + 1)) o.event)
    (others_of (worker_of before) (ending before ts was after))

-- what the new end owes whether it publishes or not; tss are the logs with the old end
pub record OwesAtEnd (s : Setting) (before : List (List Tell)) (ts was now : List Tell) (after : List (List Tell)) :
    Type 0 where
  pub listed : KeepsListed was now
  pub owned : AllByRecursion (OwnsSnapshot s.start) now
  pub moments : (snap : List ℕ) → Listed snap (snaps_of now) → IsMoment s (ending before ts was after) now snap
  pub sees :
      SeesForward (view_by s (ending before ts was after)) (worker_of before)
      (known_after_all (view_by s (ending before ts was after)) (worker_of before) (replicate s.workers s.start) ts) now
  pub causes : HaveCausesAfter s (view_by s (ending before ts was after)) (ending before ts now after)
      (worker_of before) ts now
  -- its events keep the buckets of all moves listed so far
  pub buckets :
      (b : ℕ) (key : Key)
      → IsTrue (list_any (λ o. moves_key_into b key o.event) (concat_of (ending before ts was after)))
      → IsTrue (list_all (λ o. keeps_bucket b key o.event) now)

abbrev pub IsNoCommit : Tell → Type 0
IsNoCommit t = commit_in t.event ≡ None

-- the new end publishes nothing
pub record OwesQuietly (s : Setting) (asked : Asked) (before : List (List Tell)) (ts was now : List Tell)
    (after : List (List Tell)) : Type 0 where
  pub silent : AllByRecursion IsNoCommit now
  pub owes : OwesAtEnd s before ts was now after
  pub answers : AnswersMatch s asked (view_by s (ending before ts was after)) (worker_of before) now
  -- where the old end was stopped under a lock, the new one is too, or nobody found the version that it would have
  -- published
  pub stops :
      (key : Key) → IsTrue (ends_locking key (ts ++ was))
      → IsTrue (ends_locking key (ts ++ now)) ⊎ (is_found key (last_number s.start ts) before ts was after ≡ false)

-- the commit is right in the view before it: it evaluates its operations there, and sees all that was written of its
-- keys
pub record IsNewCommit (s : Setting) (v : View) (cs : List Published) (last : ℕ) (t : Tell) : Type 0 where
  pub number : commit_in t.event ≡ Some (last + 1)
  pub guards : List Key
  pub evaluates : evaluation_of s.widths (v.value t) t.ops ≡ Done t.reads t.writes guards
  pub writes : 0 < length t.writes
  pub locks : map lock_key t.locks ≡ keys_of t.writes guards
  pub newest : AreNewest v t
  pub sees_writers :
      (d : Published) (key : Key) → Listed d cs → Listed key (keys_of t.writes guards)
      → IsTrue (writes_key d.line.writes key)
      → IsTrue (contains t.snap (stamp_of d.line))

-- the new end is a commit with what follows it
pub record OwesCommit (s : Setting) (asked : Asked) (before : List (List Tell)) (ts was : List Tell) (t : Tell)
    (rest : List Tell) (after : List (List Tell)) : Type 0 where
  pub commit : IsNewCommit s (view_by s (ending before ts was after)) (published_by (ending before ts was after))
      (last_number s.start ts) t
  pub silent : AllByRecursion IsNoCommit rest
  pub owes : OwesAtEnd s before ts was (t ∷ rest) after
  pub answers : AnswersMatch s asked (view_by s (ending before ts was after)) (worker_of before) rest
  -- where the old end was stopped under a lock, the commit writes the key, or nobody found that version
  pub stops :
      (key : Key) → IsTrue (ends_locking key (ts ++ was))
      → IsTrue (writes_key t.writes key) ⊎ (is_found key (last_number s.start ts) before ts was after ≡ false)

-- an end may be exchanged for one that publishes nothing, while more is asked for
abbrev pub QuietGrowth : Type 0
QuietGrowth =
    (s : Setting) (asked more : Asked) (before : List (List Tell)) (ts was now : List Tell) (after : List (List Tell))
    → AsksMore asked more → AreConsistent s asked (ending before ts was after) → AllByRecursion IsNoCommit was
    → OwesQuietly s more before ts was now after → AreConsistent s more (ending before ts now after)

-- and for one that starts with a commit
abbrev pub CommitGrowth : Type 0
CommitGrowth =
    (s : Setting) (asked more : Asked) (before : List (List Tell)) (ts was : List Tell) (t : Tell) (rest : List Tell)
    (after : List (List Tell))
    → AsksMore asked more → AreConsistent s asked (ending before ts was after) → AllByRecursion IsNoCommit was
    → OwesCommit s more before ts was t rest after → AreConsistent s more (ending before ts (t ∷ rest) after)

-- what each log tells by the script's jobs
abbrev pub told_by : Setting → List Log → List (List Tell)
told_by s logs = map (tells_of s.jobs) logs

-- what a worker's new log owes for a script besides: its counts fit, and it tells the front and the new end, which
-- follow the policy so far by this walk, full rings too, in the view before
pub record OwesForScript (s : Setting) (before : List (List Tell)) (ts was now : List Tell) (after : List (List Tell))
    (log : Log) (walk : Walk) : Type 0 where
  pub counts : CountsFit log
  pub tells : tells_of s.jobs log ≡ ts ++ now
  pub follows : FollowsSoFar s (view_by s (ending before ts was after)) (worker_of before) (ts ++ now) walk

-- an attempt is at one of these transactions
abbrev pub IsOfJobs : List (List Op) → Event → Type 0
IsOfJobs jobs (Tried a) = (1 ≤ a.txn) × (a.txn ≤ length jobs)
IsOfJobs jobs event = Unit {0}

-- for a script one worker's log may be exchanged for another one, and its walk with it, where the front stays and the
-- new end publishes nothing
abbrev pub ScriptQuietGrowth : Type 0
ScriptQuietGrowth =
    (s : Setting) (before : List Log) (log new : Log) (after : List Log) (walks : List Walk) (walk next : Walk)
    (rest : List Walk) (ts was now : List Tell) → length walks ≡ length before → tells_of s.jobs log ≡ ts ++ was
    → AreConsistentSoFar s (before ++ log ∷ after) (walks ++ walk ∷ rest) → AllByRecursion IsNoCommit was
    → OwesQuietly s (by_script s) (told_by s before) ts was now (told_by s after)
    → OwesForScript s (told_by s before) ts was now (told_by s after) new next
    → AreConsistentSoFar s (before ++ new ∷ after) (walks ++ next ∷ rest)

-- and where the new end starts with a commit
abbrev pub ScriptCommitGrowth : Type 0
ScriptCommitGrowth =
    (s : Setting) (before : List Log) (log new : Log) (after : List Log) (walks : List Walk) (walk next : Walk)
    (rest : List Walk) (ts was : List Tell) (t : Tell) (tail : List Tell) → length walks ≡ length before
    → tells_of s.jobs log ≡ ts ++ was → AreConsistentSoFar s (before ++ log ∷ after) (walks ++ walk ∷ rest)
    → AllByRecursion IsNoCommit was → IsOfJobs s.jobs t.event
    → OwesCommit s (by_script s) (told_by s before) ts was t tail (told_by s after)
    → OwesForScript s (told_by s before) ts was (t ∷ tail) (told_by s after) new next
    → AreConsistentSoFar s (before ++ new ∷ after) (walks ++ next ∷ rest)

-- of workers from number j on, as many
abbrev pub first_walks : Setting → ℕ → ℕ → List Walk
first_walks s j zero = []
first_walks s j (suc n) = first_walk s j ∷ first_walks s (suc j) n

-- for a script logs without events are consistent so far
abbrev pub ScriptStart : Type 0
ScriptStart = (s : Setting) → AreConsistentSoFar s (replicate s.workers empty_log) (first_walks s 1 s.workers)

-- where all workers are through, the logs are consistent for the script
abbrev pub ScriptThrough : Type 0
ScriptThrough = (s : Setting) (logs : List Log) (walks : List Walk) → AreConsistentSoFar s logs walks
    → IsTrue (list_all is_through walks) → AreConsistentFor s logs

-- and only there
abbrev pub ScriptWhole : Type 0
ScriptWhole = (s : Setting) (logs : List Log) → AreConsistentFor s logs
    → (walks : List Walk) × AreConsistentSoFar s logs walks × IsTrue (list_all is_through walks)
