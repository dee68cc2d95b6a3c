-- An end may be exchanged for one that publishes nothing.
use Rattle.std.proofs.Common.{◌≡◌, ◌≢◌, ℕ, suc, inl, inr, List, [], ◌∷◌, ◌++◌, length, refl, ap, sym, ◌∙◌, subst, arith}
use Rattle.std.specs.Prelude.{replicate}
use Rattle.std.specs.List.{AllByRecursion}
use Rattle.std.proofs.lemmas.List.{append-nil}
use Rattle.si_model.specs.Lists.{Listed}
use Rattle.si_model.specs.Rows.{rows_of}
use Rattle.si_model.specs.Tells.{Tell, last_number}
use Rattle.si_model.specs.Commits.{Published, published_of, published_from, published_by, snaps_by}
use Rattle.si_model.specs.View.{View, by_snapshots}
use Rattle.si_model.specs.Setting.{Setting, Asked}
use Rattle.si_model.specs.Answers.{AnswersIn}
use Rattle.si_model.specs.Causes.{others_of}
use Rattle.si_model.specs.Consistency.{OwnsSnapshot, NumbersFollow, OwnsAll, KeepsGuards, MayBePublished, FirstWins}
use Rattle.si_model.specs.Consistency.{is_overtaking, HaveNoCircle, IsSound, AreSound, AreConsistent, view_by}
use Rattle.si_law.specs.Views.{AsksMore, Extends, AgreeOn, KeepCauses}
use Rattle.si_law.specs.Growth.{ending, worker_of, IsNoCommit, OwesQuietly, QuietGrowth}
use Rattle.si_model.proofs.ListLemmas.{All-append, listed_append_left}
use Rattle.si_law.proofs.Moved.{moved_answers, moved_causes_after, moved_sound}
use Rattle.si_law.proofs.GrowthEnds.{number_after, number_is, published_ending, last_number-append, others_joined}
use Rattle.si_law.proofs.GrowthEnds.{listed_own, snaps_cases}
use Rattle.si_law.proofs.GrowthCommits.{published_of-append, silent_published, silent_last}
use Rattle.si_law.proofs.GrowthKeeps.{All-front, sees_front, sees_append, causes_front, causes_append, keeps_causes}
use Rattle.si_law.proofs.GrowthKeeps.{order_end, owned_end, sound_end, Stops}

-- a view by snapshots extends itself, and agrees with itself
pub extends-refl : (s : Setting) (tss : List (List Tell)) → Extends (view_by s tss) (view_by s tss)
extends-refl s tss = record { listed = λ e l. l; long = omega arith; unversioned = λ t key q e. rw e refl }

pub agree-refl : (v : View) (ts : List Tell) → AgreeOn v v ts
agree-refl v ts t l p e = record { value = refl; newest = refl; entries = refl; has = refl; later = λ key q. refl }

-- a log's commits don't change with an end without any
pub silent_end : (j : ℕ) (ts end : List Tell) → AllByRecursion IsNoCommit end
    → published_of j (ts ++ end) ≡ published_of j ts
silent_end j ts end silent =
    published_of-append j ts end ∙ ap (λ cs. published_of j ts ++ cs) (silent_published j end silent)
    ∙ append-nil (published_of j ts)

module _ (s : Setting) (asked more : Asked) (before : List (List Tell)) (ts was now : List Tell)
    (after : List (List Tell))
    (asks : AsksMore asked more) (consistent : AreConsistent s asked (ending before ts was after))
    (silent : AllByRecursion IsNoCommit was)
    (owes : OwesQuietly s more before ts was now after) where
  abbrev old : List (List Tell)
  old = ending before ts was after

  abbrev new : List (List Tell)
  new = ending before ts now after

  abbrev worker : ℕ
  worker = worker_of before

  abbrev v : View
  v = view_by s old

  same_of : (j : ℕ) → published_of j (ts ++ was) ≡ published_of j (ts ++ now)
  same_of j = silent_end j ts was silent ∙ sym (silent_end j ts now owes.silent)

  pub same_published : published_by old ≡ published_by new
  same_published =
      published_ending (ts ++ was) after before
      ∙ ap (λ cs. published_by before ++ (cs ++ published_from (suc worker) after)) (same_of worker)
      ∙ sym (published_ending (ts ++ now) after before)

  last_was : last_number s.start (ts ++ was) ≡ last_number s.start ts
  last_was = last_number-append s.start ts was ∙ silent_last (last_number s.start ts) was silent

  last_now : last_number s.start (ts ++ now) ≡ last_number s.start ts
  last_now = last_number-append s.start ts now ∙ silent_last (last_number s.start ts) now owes.silent

  quiet_stops : Stops s before ts was now after v
  quiet_stops key ends = elim (owes.stops key ends) [ inl e ↦ inr (inl (e, last_now)) | inr e ↦ inr (inr e) ]

  keep_of : (i : ℕ) (log : List Tell) → i ≢ worker → ((t : Tell) → Listed t log → Listed t (others_of worker old))
      → KeepCauses s v old new i log
  keep_of i log apart listed =
      keeps_causes s before ts was now after v silent quiet_stops i log (λ _. listed) owes.owes.listed owes.owes.buckets
      (λ t l. others_joined 1 worker old t (listed t l))

  keep_own : KeepCauses s v old new worker ts
  keep_own =
      keeps_causes s before ts was now after v silent quiet_stops worker ts (λ apart. absurd (apart refl))
      owes.owes.listed owes.owes.buckets
      (λ t l. listed_own t before (ts ++ was) after (listed_append_left ts was t l))

  each_sound : (i : ℕ) (log : List Tell) → i ≢ worker → ((t : Tell) → Listed t log → Listed t (others_of worker old))
      → IsSound s asked v old i log →
      IsSound s more v new i log
  each_sound i log apart listed sound =
      moved_sound s asked more v v old new i log asks (extends-refl s old) (keep_of i log apart listed)
      (agree-refl v log) sound

  own_sound : IsSound s asked v old worker (ts ++ was) → IsSound s more v new worker (ts ++ now)
  own_sound sound =
      let answers = All-front (λ t. AnswersIn s asked v worker t t.event) ts was sound.answers in
      let causes = causes_front s v old worker [] ts was sound.causes in
      record {
        sees =
            sees_append v worker (replicate s.workers s.start) ts now
            (sees_front v worker (replicate s.workers s.start) ts was sound.sees) owes.owes.sees;
        answers =
            All-append (λ t. AnswersIn s more v worker t t.event) ts now
            (moved_answers s asked more v v asks (extends-refl s old) worker ts (agree-refl v ts) answers) owes.answers;
        causes = causes_append s v new worker [] ts now
            (moved_causes_after s asked more v v asks (extends-refl s old) old new worker ts [] ts keep_own
            (agree-refl v []) (agree-refl v ts) (λ t l. l) answers causes)
            owes.owes.causes;
      }

  quiet_sound : AreSound s more v new 1 new
  quiet_sound =
      sound_end s asked more v v old new worker each_sound 1 before (ts ++ was) (ts ++ now) after (number_is before)
      own_sound (λ t l. l) consistent.sound

  quiet_owned : (j : ℕ) → OwnsAll s.start j (ts ++ was) → OwnsAll s.start j (ts ++ now)
  quiet_owned j owned = record {
    snapshots = All-append (OwnsSnapshot s.start) ts now (All-front (OwnsSnapshot s.start) ts was owned.snapshots)
        owes.owes.owned;
    numbers = subst (NumbersFollow s.start) (same_of j) owned.numbers;
  }

  quiet_guards : (snap : List ℕ) → Listed snap (snaps_by new) → KeepsGuards (published_by old) snap
  quiet_guards snap l = elim (snaps_cases snap before ts was now after l) [
    | inl a ↦ consistent.guards snap a
    | inr a ↦ (owes.owes.moments snap a).guards
  ]

  quiet_consistent : AreConsistent s more new
  quiet_consistent = record {
    one_log_each = same_length before ∙ consistent.one_log_each;
    order = order_end s before ts was now after consistent.order owes.owes.moments (omega (arith, last_was, last_now))
        (owned_end s.start 1 before (ts ++ was) (ts ++ now) after (quiet_owned (number_after 1 before))
        consistent.order.owned);
    published = subst (λ cs. (c : Published) → Listed c cs → MayBePublished s.widths (rows_of s.rows) cs c)
        same_published consistent.published;
    first_wins = subst FirstWins same_published consistent.first_wins;
    guards = λ snap l. subst (λ cs. KeepsGuards cs snap) same_published (quiet_guards snap l);
    no_circle = subst (HaveNoCircle is_overtaking) same_published consistent.no_circle;
    sound = subst (λ cs. AreSound s more (by_snapshots (rows_of s.rows) cs) new 1 new) same_published quiet_sound;
  }
    where
      same_length : (before : List (List Tell))
          → length (ending before ts now after) ≡ length (ending before ts was after)
      same_length [] = refl
      same_length (b ∷ before) = ap suc (same_length before)

pub quiet_growth : QuietGrowth
quiet_growth s asked more before ts was now after asks consistent silent owes =
    quiet_consistent s asked more before ts was now after asks consistent silent owes
