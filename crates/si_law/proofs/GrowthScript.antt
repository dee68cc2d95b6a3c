-- For a script: one worker's log and walk are exchanged, and the walks of the others stay.
use Rattle.std.proofs.Common.{◌≡◌, ℕ, zero, suc, ◌+◌, ◌≤◌, true, inl, inr, List, [], ◌∷◌, ◌++◌, length, refl, ap}
use Rattle.std.proofs.Common.{sym, ◌∙◌, subst, arith}
use Rattle.std.specs.Prelude.{replicate}
use Rattle.std.specs.List.{list_all, AllByRecursion}
use Rattle.std.proofs.lemmas.Bool.{and_parts}
use Rattle.std.proofs.lemmas.List.{map-append, length-map}
use Rattle.si_model.specs.declared.log.Attempt.{Attempt}
use Rattle.si_model.specs.declared.log.Log.{Log}
use Rattle.si_model.specs.Lists.{Listed, concat_of}
use Rattle.si_model.specs.Rows.{rows_of}
use Rattle.si_model.specs.Tells.{Tell, CountsFit, ops_in, tells_of, OwnsItems, empty_log, with_tell, ListsTells}
use Rattle.si_model.specs.Tells.{last_number}
use Rattle.si_model.specs.Commits.{Published, published_from, published_by}
use Rattle.si_model.specs.View.{View, by_snapshots}
use Rattle.si_model.specs.Setting.{Setting, Asked, by_script}
use Rattle.si_model.specs.Answers.{AnswersIn}
use Rattle.si_model.specs.Tries.{Walk, FollowsSoFar, is_through}
use Rattle.si_model.specs.Consistency.{IsSound, AreSound, AreConsistent, FollowPolicies}
use Rattle.si_model.specs.Consistency.{FollowSoFar, AreConsistentSoFar, view_by}
use Rattle.si_model.proofs.ListLemmas.{listed_append_cases, listed_append_left, listed_append_right}
use Rattle.si_model.proofs.TellsLemmas.{listed_tells_by_jobs, lists_counts, counts_grow, tells_grow_by_jobs}
use Rattle.si_model.proofs.TriesLemmas.{follows_nothing, through_follows, follows_through}
use Rattle.si_law.specs.Views.{AsksMore, AgreeOn}
use Rattle.si_law.specs.Growth.{ending, worker_of, IsNoCommit, OwesQuietly, OwesCommit, told_by, OwesForScript}
use Rattle.si_law.specs.Growth.{IsOfJobs, ScriptQuietGrowth, ScriptCommitGrowth, first_walks, ScriptStart}
use Rattle.si_law.specs.Growth.{ScriptThrough, ScriptWhole}
use Rattle.si_law.proofs.GrowthEnds.{number_after, number_is}
use Rattle.si_law.proofs.GrowthCommits.{IsCommitOn}
use Rattle.si_law.proofs.GrowthKeeps.{All-front}
use Rattle.si_law.proofs.GrowthQuiet.{quiet_growth, same_published}
use Rattle.si_law.proofs.GrowthView.{one_more_cases}
use Rattle.si_law.proofs.GrowthCommit.{commit_growth, tried, mine, one_more, agree_old, agree_new, agree_front}
use Rattle.si_law.proofs.GrowthOldEnd.{log_sound}
use Rattle.si_law.proofs.GrowthStart.{start_consistent}
use Rattle.si_law.proofs.Fulls.{FullSees, fulls_see, moved_so_far}

pub asks-refl : (asked : Asked) → AsksMore asked asked
asks-refl asked = record { ops = λ op l. l; by_calls = λ h. h }

-- ---- the walks of all

-- each log's walk stays, and one log gets another one
module _ (s : Setting) (asked : Asked) (v w : View) (old : List (List Tell))
    (each : (i : ℕ) (log : List Tell) (walk : Walk) → ((t : Tell) → Listed t log → Listed t (concat_of old))
    → IsSound s asked v old i log → FollowsSoFar s v i log walk → FollowsSoFar s w i log walk) where
  follow_after : (k : ℕ) (tss : List (List Tell)) (walks : List Walk)
      → ((t : Tell) → Listed t (concat_of tss) → Listed t (concat_of old)) → AreSound s asked v old k tss
      → FollowSoFar s v k tss walks → FollowSoFar s w k tss walks
  follow_after k [] [] among sound h = tt
  follow_after k [] (walk ∷ walks) among sound h = elim h [ ]
  follow_after k (ts ∷ tss) [] among sound h = elim h [ ]
  follow_after k (ts ∷ tss) (walk ∷ walks) among sound h = (
    each k ts walk (λ t l. among t (listed_append_left ts (concat_of tss) t l)) sound.0 h.0,
    follow_after (suc k) tss walks (λ t l. among t (listed_append_right ts (concat_of tss) t l)) sound.1 h.1,
  )

  follow_end : (k : ℕ) (before : List (List Tell)) (was now : List Tell) (after : List (List Tell))
      (walks : List Walk) (walk next : Walk) (rest : List Walk) → length walks ≡ length before
      → FollowsSoFar s w (number_after k before) now next
      → ((t : Tell) → Listed t (concat_of (before ++ was ∷ after)) → Listed t (concat_of old))
      → AreSound s asked v old k (before ++ was ∷ after)
      → FollowSoFar s v k (before ++ was ∷ after) (walks ++ walk ∷ rest)
      → FollowSoFar s w k (before ++ now ∷ after) (walks ++ next ∷ rest)
  follow_end k [] was now after [] walk next rest same own among sound h =
      let behind : (t : Tell) → Listed t (concat_of after) → Listed t (concat_of old) =
      λ t l. among t (listed_append_right was (concat_of after) t l) in
      (own, follow_after (suc k) after rest behind sound.1 h.1)
  follow_end k [] was now after (x ∷ walks) walk next rest same own among sound h = absurd (omega (arith, same))
  follow_end k (b ∷ before) was now after [] walk next rest same own among sound h = absurd (omega (arith, same))
  follow_end k (b ∷ before) was now after (x ∷ walks) walk next rest same own among sound h = (
    each k b x (λ t l. among t (listed_append_left b (concat_of (before ++ was ∷ after)) t l)) sound.0 h.0,
    follow_end (suc k) before was now after walks walk next rest (omega (arith, same)) own
        (λ t l. among t (listed_append_right b (concat_of (before ++ was ∷ after)) t l)) sound.1 h.1,
  )

-- ---- logs and what they tell

All-ending : {X : Type 0} (P : X → Type 0) (before : List X) (was now : X) (after : List X) → P now
    → AllByRecursion P (before ++ was ∷ after) → AllByRecursion P (before ++ now ∷ after)
All-ending P [] was now after p h = (p, h.1)
All-ending P (b ∷ before) was now after p h = (h.0, All-ending P before was now after p h.1)

told_ending : (s : Setting) (before : List Log) (log : Log) (after : List Log) (ts end : List Tell)
    → tells_of s.jobs log ≡ ts ++ end
    → told_by s (before ++ log ∷ after) ≡ ending (told_by s before) ts end (told_by s after)
told_ending s before log after ts end tells =
    map-append (tells_of s.jobs) before (log ∷ after) ∙ ap (λ us. told_by s before ++ us ∷ told_by s after) tells

-- ---- an end is exchanged

commit_sees : (t : Tell) (a : Attempt) (p n : ℕ) → IsCommitOn t a p n → FullSees t.event
commit_sees t a p n is = subst FullSees (sym is.tried) (λ l e. (p, is.prefix))

module _ (s : Setting) (before : List Log) (log : Log) (after : List Log) (walks : List Walk) (walk : Walk)
    (rest : List Walk) (ts was : List Tell) (same : length walks ≡ length before)
    (tells : tells_of s.jobs log ≡ ts ++ was)
    (consistent : AreConsistentSoFar s (before ++ log ∷ after) (walks ++ walk ∷ rest))
    (silent : AllByRecursion IsNoCommit was) where
  abbrev bt : List (List Tell)
  bt = told_by s before

  abbrev at : List (List Tell)
  at = told_by s after

  abbrev old : List (List Tell)
  old = ending bt ts was at

  abbrev asked : Asked
  asked = by_script s

  abbrev v : View
  v = view_by s old

  told_old : told_by s (before ++ log ∷ after) ≡ old
  told_old = told_ending s before log after ts was tells

  calls : AreConsistent s asked old
  calls = subst (AreConsistent s asked) told_old consistent.calls

  follow : FollowSoFar s v 1 old (walks ++ walk ∷ rest)
  follow = subst (λ tss. FollowSoFar s (view_by s tss) 1 tss (walks ++ walk ∷ rest)) told_old consistent.follow

  same_told : length walks ≡ length bt
  same_told = same ∙ sym (length-map before (tells_of s.jobs))

  -- for one that publishes nothing
  module _ (new : Log) (next : Walk) (now : List Tell) (owes : OwesQuietly s asked bt ts was now at)
      (owes_script : OwesForScript s bt ts was now at new next) where
    abbrev quiet_logs : List (List Tell)
    quiet_logs = ending bt ts now at

    published : published_by old ≡ published_by quiet_logs
    published = same_published s asked asked bt ts was now at (asks-refl asked) calls silent owes

    quiet_follow : FollowSoFar s (view_by s quiet_logs) 1 quiet_logs (walks ++ next ∷ rest)
    quiet_follow =
        subst (λ cs. FollowSoFar s (by_snapshots (rows_of s.rows) cs) 1 quiet_logs (walks ++ next ∷ rest)) published
        (follow_end s asked v v old (λ i us x among sound h. h) 1 bt (ts ++ was) (ts ++ now) at walks walk next rest
        same_told (subst (λ j. FollowsSoFar s v j (ts ++ now) next) (sym (number_is bt)) owes_script.follows)
        (λ t l. l) calls.sound follow)

    quiet_so_far : AreConsistentSoFar s (before ++ new ∷ after) (walks ++ next ∷ rest)
    quiet_so_far =
        let told = sym (told_ending s before new after ts now owes_script.tells) in
        record {
          counts = All-ending CountsFit before log new after owes_script.counts consistent.counts;
          calls =
              subst (AreConsistent s asked) told
              (quiet_growth s asked asked bt ts was now at (asks-refl asked) calls silent owes);
          jobs_in_range = λ c l. consistent.jobs_in_range c
              (subst (Listed c) (sym (ap published_by told_old ∙ published ∙ ap published_by told)) l);
          follow = subst (λ tss. FollowSoFar s (view_by s tss) 1 tss (walks ++ next ∷ rest)) told quiet_follow;
        }

  -- for one that starts with a commit
  module _ (new : Log) (next : Walk) (t : Tell) (tail : List Tell) (of_jobs : IsOfJobs s.jobs t.event)
      (owes : OwesCommit s asked bt ts was t tail at)
      (owes_script : OwesForScript s bt ts was (t ∷ tail) at new next) where
    abbrev commit_logs : List (List Tell)
    commit_logs = ending bt ts (t ∷ tail) at

    abbrev w : View
    w = view_by s commit_logs

    on : (a : Attempt) × (p : ℕ) × IsCommitOn t a p (last_number s.start ts + 1)
    on = tried s asked asked bt ts was t tail at (asks-refl asked) calls silent owes

    each_follows : (i : ℕ) (us : List Tell) (x : Walk) → ((u : Tell) → Listed u us → Listed u (concat_of old))
        → IsSound s asked v old i us → FollowsSoFar s v i us x → FollowsSoFar s w i us x
    each_follows i us x among sound h =
        moved_so_far v w i us (agree_old s asked asked bt ts was t tail at (asks-refl asked) calls silent owes us among)
        (fulls_see s asked v i us sound.answers) s x h

    own_agrees : AgreeOn v w (ts ++ t ∷ tail)
    own_agrees u l = elim (listed_append_cases ts (t ∷ tail) u l) [
      | inl a ↦ agree_front s asked asked bt ts was t tail at (asks-refl asked) calls silent owes u a
      | inr a ↦ agree_new s asked asked bt ts was t tail at (asks-refl asked) calls silent owes u a
    ]

    own_sees : (u : Tell) → Listed u (ts ++ t ∷ tail) → FullSees u.event
    own_sees u l = elim (listed_append_cases ts (t ∷ tail) u l) [
      | inl a ↦
          fulls_see s asked v (worker_of bt) ts
          (All-front (λ x. AnswersIn s asked v (worker_of bt) x x.event) ts was
          (log_sound s asked bt (ts ++ was) at calls).answers) u a
      | inr a ↦ elim a [
        | inl e ↦ subst (λ x. FullSees x.event) e (commit_sees t on.0 on.1 (last_number s.start ts + 1) on.2)
        | inr b ↦ fulls_see s asked v (worker_of bt) tail owes.answers u b
      ]
    ]

    commit_follow : FollowSoFar s w 1 commit_logs (walks ++ next ∷ rest)
    commit_follow =
        follow_end s asked v w old each_follows 1 bt (ts ++ was) (ts ++ t ∷ tail) at walks walk next rest same_told
        (subst (λ j. FollowsSoFar s w j (ts ++ t ∷ tail) next) (sym (number_is bt))
        (moved_so_far v w (worker_of bt) (ts ++ t ∷ tail) own_agrees own_sees s next owes_script.follows))
        (λ u l. l) calls.sound follow

    in_range : (c : Published) → Listed c (published_by commit_logs) → (1 ≤ c.line.txn) × (c.line.txn ≤ length s.jobs)
    unfolding on
    in_range c l =
        let its = mine s asked asked bt ts was t tail at (asks-refl asked) calls silent owes in
        let more = one_more s asked asked bt ts was t tail at (asks-refl asked) calls silent owes in
        elim (one_more_cases its (published_by old) (published_by commit_logs) more c l) [
          | inl a ↦ consistent.jobs_in_range c (subst (Listed c) (sym (ap published_by told_old)) a)
          | inr e ↦
              subst (λ d. (1 ≤ d.line.txn) × (d.line.txn ≤ length s.jobs)) e
              (subst (IsOfJobs s.jobs) on.2.tried of_jobs)
        ]

    commit_so_far : AreConsistentSoFar s (before ++ new ∷ after) (walks ++ next ∷ rest)
    commit_so_far =
        let told = sym (told_ending s before new after ts (t ∷ tail) owes_script.tells) in
        record {
          counts = All-ending CountsFit before log new after owes_script.counts consistent.counts;
          calls =
              subst (AreConsistent s asked) told
              (commit_growth s asked asked bt ts was t tail at (asks-refl asked) calls silent owes);
          jobs_in_range = λ c l. in_range c (subst (Listed c) (sym (ap published_by told)) l);
          follow = subst (λ tss. FollowSoFar s (view_by s tss) 1 tss (walks ++ next ∷ rest)) told commit_follow;
        }

pub script_quiet_growth : ScriptQuietGrowth
script_quiet_growth s before log new after walks walk next rest ts was now same tells consistent silent owes
    owes_script =
    quiet_so_far s before log after walks walk rest ts was same tells consistent silent new next now owes owes_script

pub script_commit_growth : ScriptCommitGrowth
script_commit_growth s before log new after walks walk next rest ts was t tail same tells consistent silent of_jobs
    owes owes_script =
    commit_so_far s before log after walks walk rest ts was same tells consistent silent new next t tail of_jobs owes
    owes_script

-- ---- what the new log owes, from what it lists

-- a log that lists the front and the new end with their items, each attempt's operations those of its job
pub owes_script : (s : Setting) (before : List (List Tell)) (ts was now : List Tell) (after : List (List Tell))
    (log : Log) (walk : Walk) → ListsTells log (ts ++ now) [] [] [] []
    → AllByRecursion (λ t. t.ops ≡ ops_in s.jobs t.event) (ts ++ now)
    → FollowsSoFar s (view_by s (ending before ts was after)) (worker_of before) (ts ++ now) walk
    → OwesForScript s before ts was now after log walk
owes_script s before ts was now after log walk lists jobs follows = record {
  counts = lists_counts log (ts ++ now) lists;
  tells = listed_tells_by_jobs log (ts ++ now) [] [] [] [] lists s.jobs jobs;
  follows = follows;
}

-- the log of the front, with one event more, in the place of whatever end
pub owes_script_event : (s : Setting) (before : List (List Tell)) (front : Log) (was : List Tell) (t : Tell)
    (after : List (List Tell)) (walk : Walk) → CountsFit front → OwnsItems t → t.ops ≡ ops_in s.jobs t.event
    → FollowsSoFar s (view_by s (ending before (tells_of s.jobs front) was after)) (worker_of before)
    (tells_of s.jobs front ++ t ∷ []) walk
    → OwesForScript s before (tells_of s.jobs front) was (t ∷ []) after (with_tell front t) walk
owes_script_event s before front was t after walk fits owns job follows = record {
  counts = counts_grow front t fits owns;
  tells = tells_grow_by_jobs s.jobs front t fits owns job;
  follows = follows;
}

-- ---- the start, and the end

told_nothing : (s : Setting) (n : ℕ) → told_by s (replicate n empty_log) ≡ replicate n []
told_nothing s zero = refl
told_nothing s (suc n) = ap (λ tss. [] ∷ tss) (told_nothing s n)

empty_counts : (n : ℕ) → AllByRecursion CountsFit (replicate n empty_log)
empty_counts zero = tt
empty_counts (suc n) = (record { reads = refl; locks = refl; writes = refl; snaps = refl }, empty_counts n)

first_follow : (s : Setting) (v : View) (j n : ℕ) → FollowSoFar s v j (replicate n []) (first_walks s j n)
first_follow s v j zero = tt
first_follow s v j (suc n) = (follows_nothing s v j, first_follow s v (suc j) n)

no_commit : (k n : ℕ) (c : Published) → Listed c (published_from k (replicate n [])) → ⊥
no_commit k zero c l = elim l [ ]
no_commit k (suc n) c l = no_commit (suc k) n c l

pub script_start : ScriptStart
script_start s =
    let told = sym (told_nothing s s.workers) in
    record {
      counts = empty_counts s.workers;
      calls = subst (AreConsistent s (by_script s)) told (start_consistent s (by_script s));
      jobs_in_range = λ c l. absurd (no_commit 1 s.workers c (subst (Listed c) (sym (ap published_by told)) l));
      follow =
          subst (λ tss. FollowSoFar s (view_by s tss) 1 tss (first_walks s 1 s.workers)) told
          (first_follow s (view_by s (replicate s.workers [])) 1 s.workers);
    }

all_follow : (s : Setting) (v : View) (j : ℕ) (tss : List (List Tell)) (walks : List Walk)
    → FollowSoFar s v j tss walks → list_all is_through walks ≡ true → FollowPolicies s v j tss
all_follow s v j [] walks h through = tt
all_follow s v j (ts ∷ tss) [] h through = elim h [ ]
all_follow s v j (ts ∷ tss) (walk ∷ walks) h through =
    let both = and_parts (is_through walk) (list_all is_through walks) through in
    (through_follows s v j ts walk h.0 both.0, all_follow s v (suc j) tss walks h.1 both.1)

pub script_through : ScriptThrough
script_through s logs walks h through = record {
  counts = h.counts;
  calls = h.calls;
  jobs_in_range = h.jobs_in_range;
  policies =
      all_follow s (view_by s (told_by s logs)) 1 (told_by s logs) walks h.follow through;
}

all_through : (s : Setting) (v : View) (j : ℕ) (tss : List (List Tell)) → FollowPolicies s v j tss
    → (walks : List Walk) × FollowSoFar s v j tss walks × (list_all is_through walks ≡ true)
all_through s v j [] h = ([], tt, refl)
all_through s v j (ts ∷ tss) h =
    let own = follows_through s v j ts h.0 in
    let rest = all_through s v (suc j) tss h.1 in
    (own.0 ∷ rest.0, (own.1, rest.1), rw (own.2, rest.2) refl)

pub script_whole : ScriptWhole
script_whole s logs h =
    let all = all_through s (view_by s (told_by s logs)) 1 (told_by s logs) h.policies in
    (all.0, record { counts = h.counts; calls = h.calls; jobs_in_range = h.jobs_in_range; follow = all.1 }, all.2)
