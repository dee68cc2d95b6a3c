-- What an end of one event owes after an end without events, from plain facts, where no commit has guards.
use Rattle.std.proofs.Common.{◌≡◌, ℕ, ◌≤◌, true, false, inl, inr, List, [], ◌∷◌, ◌++◌, length, ap, subst}
use Rattle.std.proofs.Common.{Some, None, arith}
use Rattle.std.specs.Prelude.{IsTrue, ◌&&◌, ◌||◌, ◌⊎◌, not, if◌then◌else◌, is_some, replicate}
use Rattle.std.specs.List.{list_any, AllByRecursion}
use Rattle.std.proofs.lemmas.Bool.{false≢true}
use Rattle.si_model.specs.declared.row.Key.{Key}
use Rattle.si_model.specs.declared.log.Stamp.{Stamp}
use Rattle.si_model.specs.declared.log.Attempt.{Attempt}
use Rattle.si_model.specs.declared.log.Event.TheVariants.{Tried}
use Rattle.si_model.specs.Lists.{Listed, concat_of}
use Rattle.si_model.specs.Rows.{writes_key}
use Rattle.si_model.specs.Evaluation.{guard_keys}
use Rattle.si_model.specs.History.{stamp_of}
use Rattle.si_model.specs.Tells.{Tell, prefix_in, last_number}
use Rattle.si_model.specs.Commits.{Published, published_by, snaps_of, snaps_by}
use Rattle.si_model.specs.Snapshots.{contains, sum_above}
use Rattle.si_model.specs.View.{View}
use Rattle.si_model.specs.Setting.{Setting, Asked}
use Rattle.si_model.specs.Knowledge.{AreAtMost, SeesEvent}
use Rattle.si_model.specs.Answers.{AnswersIn}
use Rattle.si_model.specs.Causes.{lists_lock, collects_entry, has_collected, moves_into, moves_version, is_done}
use Rattle.si_model.specs.Causes.{move_count, keeps_bucket, ends_locking, EventCause}
use Rattle.si_model.specs.Consistency.{IsWithin, KeepsGuards, view_by}
use Rattle.si_model.proofs.ListLemmas.{All-listed}
use Rattle.si_law.specs.Views.{moves_key_into}
use Rattle.si_law.specs.Growth.{IsMoment, IsNoCommit, OwesAtEnd, OwesQuietly, KeepsListed, ending, known_after_all}
use Rattle.si_law.specs.Growth.{worker_of, is_found}
use Rattle.si_law.proofs.Outcomes.{owns_prefix, owns_nothing}

-- nothing is kept of an end without events
pub keeps_nothing : (now : List Tell) → KeepsListed [] now
keeps_nothing now = record {
  locks = λ key q h. absurd (false≢true h);
  entries = λ i n h. absurd (false≢true h);
  collects = λ h. absurd (false≢true h);
  done = λ key q h. absurd (false≢true h);
  moves = λ b. omega arith;
}

-- of an attempt the locks are
pub keeps_tried : (t : Tell) (a : Attempt) (now : List Tell) → t.event ≡ Tried a
    → ((key : Key) (q : Stamp) → IsTrue (lists_lock key q t || false) → IsTrue (list_any (lists_lock key q) now))
    → KeepsListed (t ∷ []) now
keeps_tried t a now is locks = record {
  locks = locks;
  entries = λ i n h. absurd (false≢true (subst (λ e. IsTrue (collects_entry i n e || false)) is h));
  collects = λ h. absurd (false≢true (subst (λ e. IsTrue (has_collected e || false)) is h));
  done = λ key q h. absurd (false≢true (subst (λ e. IsTrue (moves_version is_done key q e || false)) is h));
  moves = λ b.
      let none : move_count b (t ∷ []) ≡ 0 = ap (λ e. length (if moves_into b e then t ∷ [] else [])) is in
      omega (arith, none);
}

abbrev pub IsOrderedWith : List ℕ → List ℕ → Type 0
IsOrderedWith a b = AreAtMost a b ⊎ AreAtMost b a

-- a worker that knows so much may get the snapshot next, with this prefix
pub record IsNextSnapshot (s : Setting) (tss : List (List Tell)) (known : List ℕ) (p : ℕ) (snap : List ℕ) : Type 0
  where
    pub sum : p ≡ sum_above s.start snap
    pub below : p ≤ length (published_by tss)
    pub least : AreAtMost known snap
    pub within : IsWithin s.start snap tss
    pub ordered : AllByRecursion (IsOrderedWith snap) (snaps_by tss)
    pub unguarded : AllByRecursion (λ c. guard_keys c.ops ≡ []) (published_by tss)

at_most_self : (ns : List ℕ) → AreAtMost ns ns
at_most_self [] = tt
at_most_self (n ∷ ns) = (omega arith, at_most_self ns)

none_overtaken : (cs : List Published) (snap : List ℕ) → AllByRecursion (λ c. guard_keys c.ops ≡ []) cs
    → KeepsGuards cs snap
none_overtaken cs snap none c d l m over inside =
    let overtakes : List Key → Type 0 = λ keys.
    IsTrue (list_any (λ key. writes_key d.line.writes key) keys && not (contains c.snap (stamp_of d.line))) in
    absurd (false≢true (subst overtakes (All-listed (λ c. guard_keys c.ops ≡ []) cs c none l) over))

module _ (s : Setting) (tss : List (List Tell)) (known : List ℕ) (p : ℕ) (t : Tell) where
  -- the snapshot of the only event is a moment
  pub next_moment : prefix_in t.event ≡ Some p → IsNextSnapshot s tss known p t.snap → (snap : List ℕ)
      → Listed snap (snaps_of (t ∷ [])) → IsMoment s tss (t ∷ []) snap
  next_moment has next snap l =
      elim (only snap l) [ inl e ↦ subst (IsMoment s tss (t ∷ [])) e its | inr none ↦ absurd none ]
    where
      only : (snap : List ℕ) → Listed snap (snaps_of (t ∷ [])) → Listed snap (t.snap ∷ [])
      only snap l = subst (Listed snap) (ap (λ o. if is_some o then t.snap ∷ [] else []) has) l

      its : IsMoment s tss (t ∷ []) t.snap
      its = record {
        within = next.within;
        ordered = λ other l.
            elim l [
              | inl a ↦ All-listed (IsOrderedWith t.snap) (snaps_by tss) other next.ordered a
              | inr b ↦
                  All-listed (IsOrderedWith t.snap) (t.snap ∷ []) other (inl (at_most_self t.snap), tt) (only other b)
            ];
        guards = none_overtaken (published_by tss) t.snap next.unguarded;
      }

module _ (s : Setting) (asked : Asked) (before : List (List Tell)) (ts : List Tell) (t : Tell)
    (after : List (List Tell)) where
  abbrev pub logs_before : List (List Tell)
  logs_before = ending before ts [] after

  abbrev pub view_before : View
  view_before = view_by s logs_before

  abbrev pub known_before : List ℕ
  known_before = known_after_all view_before (worker_of before) (replicate s.workers s.start) ts

  -- its moves are into the buckets of the moves so far
  abbrev pub KeepsBuckets : Type 0
  KeepsBuckets =
      (b : ℕ) (key : Key) → IsTrue (list_any (λ o. moves_key_into b key o.event) (concat_of logs_before))
      → IsTrue (keeps_bucket b key t.event && true)

  -- what the event owes by itself
  pub record OwesAlone : Type 0 where
    pub silent : IsNoCommit t
    pub sees : SeesEvent view_before t known_before t.event
    pub answers : AnswersIn s asked view_before (worker_of before) t t.event
    pub cause : EventCause s view_before (ending before ts (t ∷ []) after) (worker_of before) ts t t.event
    pub buckets : KeepsBuckets
    pub stops :
        (key : Key) → IsTrue (ends_locking key (ts ++ []))
        → IsTrue (ends_locking key (ts ++ t ∷ [])) ⊎ (is_found key (last_number s.start ts) before ts [] after ≡ false)

  owes_quietly : OwesAlone → OwesAtEnd s before ts [] (t ∷ []) after → OwesQuietly s asked before ts [] (t ∷ []) after
  owes_quietly h owes = record {
    silent = (h.silent, tt);
    owes = owes;
    answers = (h.answers, tt);
    stops = h.stops;
  }

  -- with a snapshot
  pub owes_with : (p : ℕ) → prefix_in t.event ≡ Some p → IsNextSnapshot s logs_before known_before p t.snap → OwesAlone
      → OwesQuietly s asked before ts [] (t ∷ []) after
  owes_with p has next h =
      owes_quietly h (record {
        listed = keeps_nothing (t ∷ []);
        owned = (owns_prefix s.start t p has next.sum, tt);
        moments = next_moment s logs_before known_before p t has next;
        sees = (h.sees, tt);
        causes = (h.cause, tt);
        buckets = h.buckets;
      })

  -- without one
  pub owes_without : prefix_in t.event ≡ None → OwesAlone → OwesQuietly s asked before ts [] (t ∷ []) after
  owes_without none h =
      owes_quietly h (record {
        listed = keeps_nothing (t ∷ []);
        owned = (owns_nothing s.start t none h.silent, tt);
        moments = λ snap l.
            absurd (subst (Listed snap) (ap (λ o. if is_some o then t.snap ∷ [] else []) none) l);
        sees = (h.sees, tt);
        causes = (h.cause, tt);
        buckets = h.buckets;
      })
