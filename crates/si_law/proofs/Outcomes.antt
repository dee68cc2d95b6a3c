-- What an event owes, by its outcome: answers and causes from plain facts.
use Rattle.std.proofs.Common.{◌≡◌, ◌≢◌, ℕ, suc, ◌+◌, ◌-◌, ◌<◌, ◌≤◌, Bool, false, inl, inr, List, [], ◌∷◌, ◌++◌, length}
use Rattle.std.proofs.Common.{take, refl, ap, sym, ◌∙◌, subst, Option, Some, None}
use Rattle.std.specs.Prelude.{IsTrue, ◌^◌, map, slice_index, is_some, IfSome}
use Rattle.std.specs.List.{list_any, list_all, AllByRecursion}
use Rattle.std.proofs.lemmas.List.{append-nil}
use Rattle.std.proofs.lemmas.Bool.{true≢false}
use Rattle.si_model.specs.declared.row.Key.{Key}
use Rattle.si_model.specs.declared.row.Item.{Item}
use Rattle.si_model.specs.declared.op.Op.{Op}
use Rattle.si_model.specs.declared.log.Stamp.{Stamp}
use Rattle.si_model.specs.declared.log.Lock.{Lock}
use Rattle.si_model.specs.declared.log.Attempt.{Attempt}
use Rattle.si_model.specs.declared.log.Outcome.{Outcome}
use Rattle.si_model.specs.declared.log.Outcome.TheVariants.{Commit, ReadOnly, Declined as DeclinedAt, NoSpace, Spent}
use Rattle.si_model.specs.declared.log.Outcome.TheVariants.{Again, Locked, Newer, TooOld, Full, Cut, Left}
use Rattle.si_model.specs.declared.log.MoveEnd.{MoveEnd}
use Rattle.si_model.specs.declared.log.MoveEnd.TheVariants.{Back}
use Rattle.si_model.specs.declared.log.Finish.{Finish}
use Rattle.si_model.specs.declared.log.Finish.TheVariants.{RolledOn}
use Rattle.si_model.specs.declared.log.Event.{Event}
use Rattle.si_model.specs.declared.log.Event.TheVariants.{Tried, NoRoom, Moved, Collected, CollectAgain, CollectCut}
use Rattle.si_model.specs.declared.log.Event.TheVariants.{TidyCut, TailCut, Finished}
use Rattle.si_model.specs.declared.evaluated.Evaluated.TheVariants.{Done, Declined}
use Rattle.si_model.specs.Lists.{StandsAt, concat_of}
use Rattle.si_model.specs.Rows.{key_at, writes_key}
use Rattle.si_model.specs.Evaluation.{evaluation_of, reads_of}
use Rattle.si_model.specs.History.{stamp_at, has_stamp, is_version, keys_of}
use Rattle.si_model.specs.Tells.{Tell, attempt_in, prefix_in, number_in, commit_in, last_number}
use Rattle.si_model.specs.Snapshots.{sum_above}
use Rattle.si_model.specs.Knowledge.{AreAtMost, SeesPrefix, SeesFirst, SeesOutcome, SeesEvent, known_with, known_by}
use Rattle.si_model.specs.Knowledge.{known_after, knowledge_with}
use Rattle.si_model.specs.Consistency.{OwnsSnapshot}
use Rattle.si_law.specs.Growth.{IsNoCommit}
use Rattle.si_model.specs.View.{View}
use Rattle.si_model.specs.Setting.{Setting, Asked, is_crowded}
use Rattle.si_model.specs.Answers.{lock_key, reads_overtaken, ClaimsFirst, ReadsFirst, AnswersWith, AnswersWithout}
use Rattle.si_model.specs.Answers.{AnswersOn, AnswersIn, AreNewest}
use Rattle.si_model.specs.Causes.{others_of, tells_by, lists_lock, ends_locking, is_written, collects_entry}
use Rattle.si_model.specs.Causes.{has_collected, moves_version, is_done, is_over, keeps_bucket, filling, move_count}
use Rattle.si_model.specs.Causes.{follows_one, is_guarding, ends_commit, is_stopped, OutcomeCause, EventCause}

-- the event is this attempt, with this prefix and this outcome
pub record IsAttempt (t : Tell) (a : Attempt) (p : Option ℕ) (o : Outcome) : Type 0 where
  pub event : t.event ≡ Tried a
  pub prefix : a.prefix ≡ p
  pub outcome : a.outcome ≡ o

-- an attempt that has locked nothing
pub record IsUnlocked (t : Tell) (a : Attempt) (p : ℕ) (outcome : Outcome) : Type 0 where
  pub is : IsAttempt t a (Some p) outcome
  pub none : t.locks ≡ []

-- an attempt that was done, with these writes and guards, and has locked keys at their newest versions
pub record IsLocking (s : Setting) (v : View) (t : Tell) (a : Attempt) (p : ℕ) (outcome : Outcome) (writes : List Item)
    (guards : List Key) : Type 0 where
  pub is : IsAttempt t a (Some p) outcome
  pub done : evaluation_of s.widths (v.value t) t.ops ≡ Done t.reads writes guards
  pub writes_some : 0 < length writes
  pub newest : AreNewest v t

-- an attempt that stopped before operation k, counted from 0, which is this one
pub record StopsAt (s : Setting) (v : View) (t : Tell) (a : Attempt) (p : ℕ) (outcome : Outcome) (k : ℕ) (op : Op) :
    Type 0 where
  pub is : IsUnlocked t a p outcome
  pub stands : StandsAt k op t.ops

module _ (s : Setting) (asked : Asked) (v : View) (j : ℕ) (t : Tell) where
  -- ---- answers

  -- only attempts answer
  pub answers_no_attempt : attempt_in t.event ≡ None → AnswersIn s asked v j t t.event
  answers_no_attempt none = at t.event none
    where
      at : (e : Event) → attempt_in e ≡ None → AnswersIn s asked v j t e
      at (Tried a) h = absurd (true≢false (ap is_some h))
      at e h = tt

  module _ (a : Attempt) where
    pub answers_with : (p : ℕ) (o : Outcome) → IsAttempt t a (Some p) o
        → AnswersWith s asked v j t a (evaluation_of s.widths (v.value t) t.ops) p o →
        AreNewest v t → AnswersIn s asked v j t t.event
    answers_with p o is answers newest =
        let on : AnswersOn s asked v j t a (Some p) = (
          subst (AnswersWith s asked v j t a (evaluation_of s.widths (v.value t) t.ops) p) (sym is.outcome) answers,
          newest,
        ) in
        subst (AnswersIn s asked v j t) (sym is.event) (subst (AnswersOn s asked v j t a) (sym is.prefix) on)

    answers_unlocked : (p : ℕ) (o : Outcome) → IsUnlocked t a p o
        → AnswersWith s asked v j t a (evaluation_of s.widths (v.value t) t.ops) p o →
        AnswersIn s asked v j t t.event
    answers_unlocked p o h answers =
        answers_with p o h.is answers (subst (AllByRecursion (λ l. l.stamp ≡ v.newest t (lock_key l))) (sym h.none) tt)

    answers_without : (o : Outcome) → IsAttempt t a None o → AnswersWithout t o → AnswersIn s asked v j t t.event
    answers_without o is answers =
        subst (AnswersIn s asked v j t) (sym is.event)
        (subst (AnswersOn s asked v j t a) (sym is.prefix) (subst (AnswersWithout t) (sym is.outcome) answers))

    pub answers_read_only : (p : ℕ) (guards : List Key) → IsUnlocked t a p ReadOnly →
        evaluation_of s.widths (v.value t) t.ops ≡ Done t.reads [] guards → AnswersIn s asked v j t t.event
    answers_read_only p guards h done = answers_unlocked p ReadOnly h (guards, done, h.none)

    pub answers_declined : (p op : ℕ) → IsUnlocked t a p (DeclinedAt op)
        → evaluation_of s.widths (v.value t) t.ops ≡ Declined op t.reads →
        AnswersIn s asked v j t t.event
    answers_declined p op h declined = answers_unlocked p (DeclinedAt op) h (declined, h.none)

    -- operation k claims a position of a crowded table, and has been read
    pub answers_no_space : (p table k : ℕ) (op : Op) (key : Key) → StopsAt s v t a p (NoSpace table) k op
        → ClaimsFirst table (take k t.ops) op key →
        IsTrue (is_crowded s asked key) →
        ReadsFirst s.widths (v.value t) t.ops (suc k) t.reads → AnswersIn s asked v j t t.event
    answers_no_space p table k op key h claims crowded reads =
        answers_unlocked p (NoSpace table) h.is (k, op, h.stands, (key, claims, crowded), reads, h.is.none)

    pub answers_spent : (p : ℕ) (writes : List Item) (guards : List Key) → IsLocking s v t a p Spent writes guards
        → t.locks ≡ [] →
        AnswersIn s asked v j t t.event
    answers_spent p writes guards h none =
        answers_with p Spent h.is (writes, guards, h.done, (h.writes_some, none)) h.newest

    pub answers_again : (i first second : ℕ) → IsAttempt t a None (Again i first second) → t.reads ≡ [] → t.locks ≡ [] →
        AnswersIn s asked v j t t.event
    answers_again i first second is reads locks = answers_without (Again i first second) is (reads, locks)

    pub answers_locked : (p : ℕ) (l : Lock) (writes : List Item) (guards rest : List Key)
        → IsLocking s v t a p (Locked l) writes guards →
        keys_of writes guards ≡ map lock_key t.locks ++ lock_key l ∷ rest → AnswersIn s asked v j t t.event
    answers_locked p l writes guards rest h keys =
        answers_with p (Locked l) h.is (writes, guards, h.done, (h.writes_some, rest, keys)) h.newest

    pub answers_newer : (p : ℕ) (l : Lock) (writes : List Item) (guards rest : List Key)
        → IsLocking s v t a p (Newer l) writes guards →
        keys_of writes guards ≡ map lock_key t.locks ++ lock_key l ∷ rest → AnswersIn s asked v j t t.event
    answers_newer p l writes guards rest h keys =
        answers_with p (Newer l) h.is (writes, guards, h.done, (h.writes_some, rest, keys)) h.newest

    -- operation k, which has not been read, reads what a later entry overwrites
    pub answers_too_old : (p i entry horizon k : ℕ) (op : Op) → StopsAt s v t a p (TooOld i entry horizon) k op →
        IsTrue (reads_overtaken v t (take k t.ops) op) →
        ReadsFirst s.widths (v.value t) t.ops k t.reads → AnswersIn s asked v j t t.event
    answers_too_old p i entry horizon k op h overtaken reads =
        answers_unlocked p (TooOld i entry horizon) h.is (k, op, h.stands, overtaken, reads, h.is.none)

    pub answers_full : (p : ℕ) (l : Lock) (writes : List Item) (guards : List Key)
        → IsLocking s v t a p (Full l) writes guards →
        IsTrue (writes_key writes (lock_key l)) → map lock_key t.locks ≡ keys_of writes guards
        → AnswersIn s asked v j t t.event
    answers_full p l writes guards h writes_it keys =
        answers_with p (Full l) h.is (writes, guards, h.done, (writes_it, keys)) h.newest

    -- a cut before the first lock, within the reads
    pub answers_cut : (p : ℕ) (rest : List Item) → IsUnlocked t a p Cut → t.reads
        ++ rest ≡ reads_of (evaluation_of s.widths (v.value t) t.ops) →
        AnswersIn s asked v j t t.event
    answers_cut p rest h reads = answers_unlocked p Cut h ((rest, reads), inl h.none)

    -- a cut once some of the first keys are locked
    pub answers_cut_locking : (p : ℕ) (writes : List Item) (guards rest : List Key)
        → IsLocking s v t a p Cut writes guards →
        map lock_key t.locks ++ rest ≡ keys_of writes guards → AnswersIn s asked v j t t.event
    answers_cut_locking p writes guards rest h keys =
        answers_with p Cut h.is (
          ([], append-nil t.reads ∙ sym (ap reads_of h.done)),
          inr (writes, guards, h.done, (h.writes_some, (rest, keys))),
        ) h.newest

    -- a cut within the two passes
    pub answers_cut_without : IsAttempt t a None Cut → t.reads ≡ [] → t.locks ≡ [] → AnswersIn s asked v j t t.event
    answers_cut_without is reads locks = answers_without Cut is (reads, locks)

    pub answers_left : (p : ℕ) (rest : List Item) → IsUnlocked t a p Left → IsTrue asked.by_calls →
        t.reads ++ rest ≡ reads_of (evaluation_of s.widths (v.value t) t.ops) → AnswersIn s asked v j t t.event
    answers_left p rest h calls reads = answers_unlocked p Left h (calls, (rest, reads), h.none)

module _ (s : Setting) (v : View) (tss : List (List Tell)) (j : ℕ) (done : List Tell) (t : Tell) where
  -- ---- causes of attempts

  module _ (a : Attempt) (p : Option ℕ) where
    pub cause_with : (o : Outcome) → IsAttempt t a p o → OutcomeCause s v tss j done t o
        → EventCause s v tss j done t t.event
    cause_with o is cause =
        subst (EventCause s v tss j done t) (sym is.event)
        (subst (OutcomeCause s v tss j done t) (sym is.outcome) cause)

    pub cause_commit : (number : ℕ) → IsAttempt t a p (Commit number) → EventCause s v tss j done t t.event
    cause_commit number is = cause_with (Commit number) is tt

    pub cause_read_only : IsAttempt t a p ReadOnly → EventCause s v tss j done t t.event
    cause_read_only is = cause_with ReadOnly is tt

    pub cause_declined : (op : ℕ) → IsAttempt t a p (DeclinedAt op) → EventCause s v tss j done t t.event
    cause_declined op is = cause_with (DeclinedAt op) is tt

    pub cause_no_space : (table : ℕ) → IsAttempt t a p (NoSpace table) → EventCause s v tss j done t t.event
    cause_no_space table is = cause_with (NoSpace table) is tt

    pub cause_cut : IsAttempt t a p Cut → EventCause s v tss j done t t.event
    cause_cut is = cause_with Cut is tt

    pub cause_left : IsAttempt t a p Left → EventCause s v tss j done t t.event
    cause_left is = cause_with Left is tt

    pub cause_spent : IsAttempt t a p Spent → last_number s.start done ≡ s.greatest
        → EventCause s v tss j done t t.event
    cause_spent is spent = cause_with Spent is spent

    pub cause_again : (i first second : ℕ) → IsAttempt t a p (Again i first second) → i ≢ j → first < second →
        IsTrue (has_stamp v.all (stamp_at i second)) → EventCause s v tss j done t t.event
    cause_again i first second is other rises published = cause_with (Again i first second) is (other, rises, published)

    pub cause_locked : (l : Lock) → IsAttempt t a p (Locked l)
        → IsTrue (list_any (lists_lock (lock_key l) l.stamp) (others_of j tss)) →
        (IsTrue (is_version (lock_key l) l.stamp v.all) → v.later t (lock_key l) l.stamp ≡ 0)
        → EventCause s v tss j done t t.event
    cause_locked l is listed newest = cause_with (Locked l) is (listed, newest)

    -- another worker published the newer version
    pub cause_newer_published : (l : Lock) → IsAttempt t a p (Newer l) → l.stamp.thread ≢ j → v.has t l.stamp ≡ false →
        IsTrue (is_written v (lock_key l) l.stamp) → EventCause s v tss j done t t.event
    cause_newer_published l is other behind written = cause_with (Newer l) is (other, behind, inl written)

    -- it was stopped before it did
    pub cause_newer_stopped : (l : Lock) → IsAttempt t a p (Newer l) → l.stamp.thread ≢ j → v.has t l.stamp ≡ false →
        IsTrue (ends_locking (lock_key l) (tells_by l.stamp.thread tss)) →
        l.stamp.number ≡ last_number s.start (tells_by l.stamp.thread tss) + 1 → EventCause s v tss j done t t.event
    cause_newer_stopped l is other behind stopped next = cause_with (Newer l) is (other, behind, inr (stopped, next))

    pub cause_too_old : (i entry horizon : ℕ) → IsAttempt t a p (TooOld i entry horizon) → i ≢ j
        → slice_index (v.entries t) (i - 1) ≡ entry →
        entry < horizon →
        IsTrue (list_any (λ o. collects_entry i horizon o.event) (others_of j tss))
        → EventCause s v tss j done t t.event
    cause_too_old i entry horizon is other here passed collected =
        cause_with (TooOld i entry horizon) is (other, here, passed, collected)

    pub cause_full : (l : Lock) → IsAttempt t a p (Full l) → IsTrue (is_version (lock_key l) l.stamp v.all) →
        slice_index s.rings l.table ≤ v.later t (lock_key l) l.stamp →
        list_any (λ d. moves_version is_over (lock_key l) l.stamp d.event) done ≡ false
        → EventCause s v tss j done t t.event
    cause_full l is version later unmoved = cause_with (Full l) is (version, later, unmoved)

  -- ---- causes of the other events

  -- moves fill all cells of the bucket
  pub cause_no_cell : (b : ℕ) → t.event ≡ NoRoom b →
      s.cells ≤ filling v (list_any (λ o. has_collected o.event) (others_of j tss)) b done
      + move_count b (others_of j tss) →
      EventCause s v tss j done t t.event
  cause_no_cell b is filled = subst (EventCause s v tss j done t) (sym is) (inl filled)

  -- its tags are used up
  pub cause_no_tag : (b : ℕ) → t.event ≡ NoRoom b → 2 ^ 62 - 1 ≤ move_count b (concat_of tss)
      → EventCause s v tss j done t t.event
  cause_no_tag b is used = subst (EventCause s v tss j done t) (sym is) (inr used)

  pub cause_moved : (b table k : ℕ) (q : Stamp) (how : MoveEnd) → t.event ≡ Moved b table k q how
      → IsTrue (is_version (key_at table k) q v.all) →
      IsTrue (list_all (λ o. keeps_bucket b (key_at table k) o.event) (concat_of tss)) →
      (how ≡ Back → IsTrue (list_any (λ o. moves_version is_done (key_at table k) q o.event) (others_of j tss)))
      → EventCause s v tss j done t t.event
  cause_moved b table k q how is version bucket back =
      subst (EventCause s v tss j done t) (sym is) (version, bucket, back)

  pub cause_collected : (b prefix : ℕ) (entries : List ℕ) (cut : Bool) → t.event ≡ Collected b prefix entries cut
      → entries ≡ v.entries t →
      EventCause s v tss j done t t.event
  cause_collected b prefix entries cut is same = subst (EventCause s v tss j done t) (sym is) same

  pub cause_collect_again : (b i first second : ℕ) → t.event ≡ CollectAgain b i first second → i ≢ j → first < second →
      IsTrue (has_stamp v.all (stamp_at i second)) → EventCause s v tss j done t t.event
  cause_collect_again b i first second is other rises published =
      subst (EventCause s v tss j done t) (sym is) (other, rises, published)

  pub cause_collect_cut : (b : ℕ) → t.event ≡ CollectCut b → EventCause s v tss j done t t.event
  cause_collect_cut b is = subst (EventCause s v tss j done t) (sym is) tt

  pub cause_tidy_cut : (table k : ℕ) → t.event ≡ TidyCut table k → EventCause s v tss j done t t.event
  cause_tidy_cut table k is = subst (EventCause s v tss j done t) (sym is) tt

  pub cause_tail_cut : t.event ≡ TailCut → IsTrue (follows_one (is_guarding s.held) done)
      → EventCause s v tss j done t t.event
  cause_tail_cut is guarding = subst (EventCause s v tss j done t) (sym is) guarding

  -- what was committed was rolled on
  pub cause_rolled_on : t.event ≡ Finished RolledOn → IsTrue s.held
      → IsTrue (follows_one (λ d. ends_commit d.event) done) →
      EventCause s v tss j done t t.event
  cause_rolled_on is held commits = subst (EventCause s v tss j done t) (sym is) (held, commits)

  -- a stopped worker was finished otherwise
  pub cause_finished : (how : Finish) → t.event ≡ Finished how → how ≢ RolledOn → IsTrue s.held →
      IsTrue (follows_one (λ d. is_stopped d.event) done) → EventCause s v tss j done t t.event
  cause_finished how is other held stopped = subst (EventCause s v tss j done t) (sym is) (by how other)
    where
      by : (how : Finish) → how ≢ RolledOn → EventCause s v tss j done t (Finished how)
      by RolledOn apart = absurd (apart refl)
      by how apart = (held, stopped)

module _ (s : Setting) (v : View) (j : ℕ) (known : List ℕ) (t : Tell) where
  -- ---- knowledge: what is seen is no less than is known, and what is known then

  module _ (a : Attempt) (o : Outcome) where
    pub sees_attempt : (p : ℕ) → IsAttempt t a (Some p) o → p ≤ length v.all → AreAtMost known (v.entries t)
        → SeesOutcome (v.entries t) o →
        SeesEvent v t known t.event
    sees_attempt p is below least outcome =
        subst (SeesEvent v t known) (sym is.event) (
          subst (SeesPrefix v t known) (sym is.prefix) (below, least),
          subst (λ q. SeesOutcome (known_with v t known q) a.outcome) (sym is.prefix)
              (subst (SeesOutcome (v.entries t)) (sym is.outcome) outcome),
        )

    pub sees_attempt_without : IsAttempt t a None o → SeesOutcome known o → SeesEvent v t known t.event
    sees_attempt_without is outcome =
        subst (SeesEvent v t known) (sym is.event) (
          subst (SeesPrefix v t known) (sym is.prefix) tt,
          subst (λ q. SeesOutcome (known_with v t known q) a.outcome) (sym is.prefix)
              (subst (SeesOutcome known) (sym is.outcome) outcome),
        )

    pub known_attempt : (p : Option ℕ) → IsAttempt t a p o
        → known_after v j t known t.event ≡ known_by j (known_with v t known p) o
    known_attempt p is =
        ap (known_after v j t known) is.event ∙ ap (λ q. known_by j (known_with v t known q) a.outcome) is.prefix
        ∙ ap (known_by j (known_with v t known p)) is.outcome

  pub sees_collected : (b prefix : ℕ) (entries : List ℕ) (cut : Bool) → t.event ≡ Collected b prefix entries cut
      → prefix ≤ length v.all →
      AreAtMost known (v.entries t) → SeesEvent v t known t.event
  sees_collected b prefix entries cut is below least = subst (SeesEvent v t known) (sym is) (below, least)

  pub known_collected : (b prefix : ℕ) (entries : List ℕ) (cut : Bool) → t.event ≡ Collected b prefix entries cut →
      known_after v j t known t.event ≡ v.entries t
  known_collected b prefix entries cut is = ap (known_after v j t known) is

  pub sees_collect_again : (b i first second : ℕ) → t.event ≡ CollectAgain b i first second → SeesFirst known i first
      → SeesEvent v t known t.event
  sees_collect_again b i first second is sees = subst (SeesEvent v t known) (sym is) sees

  pub known_collect_again : (b i first second : ℕ) → t.event ≡ CollectAgain b i first second
      → known_after v j t known t.event ≡ knowledge_with known i second
  known_collect_again b i first second is = ap (known_after v j t known) is

-- ---- snapshots owned, and nothing published

-- a prefix is the sum of the snapshot
pub owns_prefix : (start : ℕ) (t : Tell) (p : ℕ) → prefix_in t.event ≡ Some p → p ≡ sum_above start t.snap
    → OwnsSnapshot start t
owns_prefix start t p is same = record {
  sum = subst (λ o. IfSome o (λ q. q ≡ sum_above start t.snap)) (sym is) same;
  commit = λ h. ap is_some is;
}

-- no prefix and no commit
pub owns_nothing : (start : ℕ) (t : Tell) → prefix_in t.event ≡ None → commit_in t.event ≡ None → OwnsSnapshot start t
owns_nothing start t none silent = record {
  sum = subst (λ o. IfSome o (λ q. q ≡ sum_above start t.snap)) (sym none) tt;
  commit = λ h. absurd (true≢false (sym h ∙ ap is_some silent));
}

pub silent_attempt : (t : Tell) (a : Attempt) (p : Option ℕ) (o : Outcome) → IsAttempt t a p o → number_in o ≡ None
    → IsNoCommit t
silent_attempt t a p o is none = ap commit_in is.event ∙ ap number_in is.outcome ∙ none

pub silent_other : (t : Tell) → attempt_in t.event ≡ None → IsNoCommit t
silent_other t none = ap (λ o. elim o [ None ↦ None | Some a ↦ number_in a.outcome ]) none
