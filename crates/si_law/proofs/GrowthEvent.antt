-- What a worker owes for one event as its new end.
use Rattle.std.proofs.Common.{◌≡◌, ℕ, ◌+◌, Bool, true, false, cond, ◌⊎◌, inl, inr, List, [], ◌∷◌, ◌++◌, refl, ap, sym}
use Rattle.std.proofs.Common.{◌∙◌}
use Rattle.std.proofs.Common.{subst, arith}
use Rattle.std.proofs.Common.{Option, Some, None}
use Rattle.std.specs.Prelude.{IsTrue, ◌&&◌, replicate, is_some}
use Rattle.std.specs.List.{list_any, list_all}
use Rattle.si_model.specs.declared.row.Key.{Key}
use Rattle.si_model.specs.declared.log.Attempt.{Attempt}
use Rattle.si_model.specs.declared.log.Event.TheVariants.{Tried, TailCut}
use Rattle.si_model.specs.Lists.{Listed, concat_of, last_of}
use Rattle.si_model.specs.Rows.{writes_key}
use Rattle.si_model.specs.Tells.{Tell, prefix_in, attempt_in, commit_in, last_number}
use Rattle.si_model.specs.Commits.{published_by, snaps_of, snaps_by}
use Rattle.si_model.specs.View.{View}
use Rattle.si_model.specs.Setting.{Setting, Asked}
use Rattle.si_model.specs.Knowledge.{AreAtMost, SeesEvent, known_after}
use Rattle.si_model.specs.Answers.{AnswersIn}
use Rattle.si_model.specs.Causes.{keeps_bucket, is_guarding, is_cut_locking, follows_one, ends_locking, EventCause}
use Rattle.si_model.specs.Consistency.{OwnsSnapshot, IsWithin, KeepsGuards, view_by}
use Rattle.si_law.specs.Views.{moves_key_into}
use Rattle.si_law.specs.Growth.{ending, worker_of, known_after_all, KeepsListed, IsMoment, is_found, OwesAtEnd}
use Rattle.si_law.specs.Growth.{IsNoCommit, OwesQuietly, IsNewCommit, OwesCommit}
use Rattle.std.proofs.lemmas.Bool.{true≢false, and_parts}
use Rattle.si_law.proofs.GrowthCommits.{owned_commit}
use Rattle.si_law.proofs.GrowthListed.{listed_trans, listed_more}
use Rattle.si_law.proofs.Outcomes.{answers_no_attempt, cause_commit, cause_tail_cut, owns_nothing}

-- ---- the last event

last_of-append : {X : Type 0} (xs : List X) (x : X) → last_of (xs ++ x ∷ []) ≡ Some x
last_of-append [] x = refl
last_of-append (y ∷ []) x = refl
last_of-append (y ∷ z ∷ xs) x = last_of-append (z ∷ xs) x

pub follows_one-last : (test : Tell → Bool) (ts : List Tell) (t : Tell) → follows_one test (ts ++ t ∷ []) ≡ test t
follows_one-last test ts t = ap (λ o. elim o as (λ x. Bool) [ None ↦ false | Some u ↦ test u ]) (last_of-append ts t)

pub ends_locking-last : (key : Key) (ts : List Tell) (t : Tell) → ends_locking key (ts ++ t ∷ []) ≡ is_cut_locking key t
ends_locking-last key ts t = follows_one-last (is_cut_locking key) ts t

-- ---- snapshots

pub at_most-refl : (ns : List ℕ) → AreAtMost ns ns
at_most-refl [] = tt
at_most-refl (n ∷ ns) = (omega arith, at_most-refl ns)

-- the one snapshot of an event
one_snap : (t : Tell) (snap : List ℕ) → Listed snap (snaps_of (t ∷ [])) → (p : ℕ) × (prefix_in t.event ≡ Some p)
    × (t.snap ≡ snap)
one_snap t snap l = by_prefix (prefix_in t.event) refl
  where
    by_prefix : (o : Option ℕ) → prefix_in t.event ≡ o → (p : ℕ) × (prefix_in t.event ≡ Some p) × (t.snap ≡ snap)
    by_prefix None e = elim (subst (λ o. Listed snap (cond (is_some o) (t.snap ∷ []) [])) e l) [ ]
    by_prefix (Some p) e = (
      p,
      e,
      elim (subst (λ o. Listed snap (cond (is_some o) (t.snap ∷ []) [])) e l) [
        | inl same ↦ same
        | inr none ↦ elim none [ ]
      ],
    )

-- an attempt keeps the buckets of all moves
pub attempt_keeps_buckets : (t : Tell) (a : Attempt) (b : ℕ) (key : Key) → t.event ≡ Tried a →
    IsTrue (list_all (λ o. keeps_bucket b key o.event) (t ∷ []))
attempt_keeps_buckets t a b key is = ap (λ e. keeps_bucket b key e && true) is

-- the event's snapshot, if it has one, is of what is published, ordered with all listed before, and with what its
-- commits overtake
pub record IsOneMoment (s : Setting) (tss : List (List Tell)) (t : Tell) : Type 0 where
  pub within : IsWithin s.start t.snap tss
  pub ordered : (other : List ℕ) → Listed other (snaps_by tss) → AreAtMost t.snap other ⊎ AreAtMost other t.snap
  pub guards : KeepsGuards (published_by tss) t.snap

pub moment_of_one : (s : Setting) (tss : List (List Tell)) (t : Tell)
    → ((p : ℕ) → prefix_in t.event ≡ Some p → IsOneMoment s tss t) →
    (snap : List ℕ) → Listed snap (snaps_of (t ∷ [])) → IsMoment s tss (t ∷ []) snap
moment_of_one s tss t one snap l =
    let h = one_snap t snap l in
    let m = one h.0 h.1 in
    subst (IsMoment s tss (t ∷ [])) h.2 (record {
      within = m.within;
      ordered = λ other which. elim which [
        | inl a ↦ m.ordered other a
        | inr a ↦ inl (subst (AreAtMost t.snap) (one_snap t other a).2 (at_most-refl t.snap))
      ];
      guards = m.guards;
    })

module _ (s : Setting) (before : List (List Tell)) (ts was : List Tell) (t : Tell) (after : List (List Tell)) where
  abbrev old : List (List Tell)
  old = ending before ts was after

  abbrev v : View
  v = view_by s old

  -- what the worker owes for the event, whether it publishes or not
  pub record OwesEvent : Type 0 where
    pub listed : KeepsListed was (t ∷ [])
    pub owned : OwnsSnapshot s.start t
    pub moment : (p : ℕ) → prefix_in t.event ≡ Some p → IsOneMoment s old t
    pub sees : SeesEvent v t (known_after_all v (worker_of before) (replicate s.workers s.start) ts) t.event
    pub cause : EventCause s v (ending before ts (t ∷ []) after) (worker_of before) ts t t.event
    pub buckets :
        (b : ℕ) (key : Key) → IsTrue (list_any (λ o. moves_key_into b key o.event) (concat_of old))
        → IsTrue (list_all (λ o. keeps_bucket b key o.event) (t ∷ []))

  pub owes_end : OwesEvent → OwesAtEnd s before ts was (t ∷ []) after
  owes_end h = record {
    listed = h.listed;
    owned = (h.owned, tt);
    moments = moment_of_one s old t h.moment;
    sees = (h.sees, tt);
    causes = (h.cause, tt);
    buckets = h.buckets;
  }

  -- an event that publishes nothing
  pub owes_quiet_event : (more : Asked) → OwesEvent → IsNoCommit t → AnswersIn s more v (worker_of before) t t.event →
      ((key : Key) → IsTrue (ends_locking key (ts ++ was)) →
      IsTrue (ends_locking key (ts ++ t ∷ [])) ⊎ (is_found key (last_number s.start ts) before ts was after ≡ false)) →
      OwesQuietly s more before ts was (t ∷ []) after
  owes_quiet_event more h silent answers stops =
      record { silent = (silent, tt); owes = owes_end h; answers = (answers, tt); stops = stops }

  -- an event that commits
  pub owes_commit_event : (more : Asked) → OwesEvent → IsNewCommit s v (published_by old) (last_number s.start ts) t →
      ((key : Key) → IsTrue (ends_locking key (ts ++ was)) →
      IsTrue (writes_key t.writes key) ⊎ (is_found key (last_number s.start ts) before ts was after ≡ false)) →
      OwesCommit s more before ts was t [] after
  owes_commit_event more h commit stops =
      record { commit = commit; silent = tt; owes = owes_end h; answers = tt; stops = stops }

  -- an event that commits, with the stop behind it, while its locks aren't all given back
  pub owes_commit_tail : (more : Asked) (tail : Tell) → tail.event ≡ TailCut → OwesEvent →
      IsNewCommit s v (published_by old) (last_number s.start ts) t →
      IsTrue (is_guarding s.held t) →
      ((key : Key) → IsTrue (ends_locking key (ts ++ was)) →
      IsTrue (writes_key t.writes key) ⊎ (is_found key (last_number s.start ts) before ts was after ≡ false)) →
      OwesCommit s more before ts was t (tail ∷ []) after
  owes_commit_tail more tail is h commit guarding stops =
      let none : prefix_in tail.event ≡ None = ap prefix_in is in
      let silent : commit_in tail.event ≡ None = ap commit_in is in
      let on = owned_commit s.start t (last_number s.start ts + 1) h.owned commit.number in
      let now = ending before ts (t ∷ tail ∷ []) after in
      record {
        commit = commit;
        silent = (silent, tt);
        owes = record {
          listed = listed_trans was (t ∷ []) (t ∷ tail ∷ []) h.listed (listed_more (t ∷ []) (tail ∷ []));
          owned = (h.owned, (owns_nothing s.start tail none silent, tt));
          moments = tail_moments;
          sees = (
            h.sees,
            (
              subst (SeesEvent v tail (known_after v (worker_of before) t
                  (known_after_all v (worker_of before) (replicate s.workers s.start) ts) t.event)) (sym is) tt,
              tt,
            ),
          );
          causes = (
            cause_commit s v now (worker_of before) ts t on.0 (Some on.1) (last_number s.start ts + 1)
                (record { event = on.2.tried; prefix = on.2.prefix; outcome = on.2.outcome }),
            (
              cause_tail_cut s v now (worker_of before) (ts ++ t ∷ []) tail is
                  (follows_one-last (is_guarding s.held) ts t ∙ guarding),
              tt,
            ),
          );
          buckets = λ b key m. ap (λ a. a && (keeps_bucket b key tail.event && true)) (kept b key m)
              ∙ ap (λ e. keeps_bucket b key e && true) is;
        };
        answers = (answers_no_attempt s more v (worker_of before) tail (ap attempt_in is), tt);
        stops = stops;
      }
    where
      one_more : snaps_of (t ∷ tail ∷ []) ≡ snaps_of (t ∷ [])
      one_more = ap (λ ss. cond (is_some (prefix_in t.event)) (t.snap ∷ ss) ss)
          (ap (λ e. cond (is_some (prefix_in e)) (tail.snap ∷ []) []) is)

      tail_moments : (snap : List ℕ) → Listed snap (snaps_of (t ∷ tail ∷ [])) → IsMoment s old (t ∷ tail ∷ []) snap
      tail_moments snap l =
          let m = moment_of_one s old t h.moment snap (subst (Listed snap) one_more l) in
          record {
            within = m.within;
            ordered = λ other which. m.ordered other (elim which [
              | inl a ↦ inl a
              | inr a ↦ inr (subst (Listed other) one_more a)
            ]);
            guards = m.guards;
          }

      kept : (b : ℕ) (key : Key) → IsTrue (list_any (λ o. moves_key_into b key o.event) (concat_of old))
          → keeps_bucket b key t.event ≡ true
      kept b key m = (and_parts (keeps_bucket b key t.event) true (h.buckets b key m)).0

-- ---- an end that is dropped

module _ (s : Setting) (before : List (List Tell)) (ts was : List Tell) (after : List (List Tell)) where
  -- others rest on nothing in it, and it was no stop under a lock whose version another worker found
  pub owes_dropped : (more : Asked) → KeepsListed was [] →
      ((key : Key) → IsTrue (ends_locking key (ts ++ was)) →
      IsTrue (ends_locking key (ts ++ [])) ⊎ (is_found key (last_number s.start ts) before ts was after ≡ false)) →
      OwesQuietly s more before ts was [] after
  owes_dropped more listed stops = record {
    silent = tt;
    owes = record {
      listed = listed;
      owned = tt;
      moments = λ snap l. elim l [ ];
      sees = tt;
      causes = tt;
      buckets = λ b key h. refl;
    };
    answers = tt;
    stops = stops;
  }

  -- where the front ends under no lock a new end owes nothing of stops, nor does one that stood under none
  pub stops_under_none : (now : List Tell) → ((key : Key) → ends_locking key (ts ++ was) ≡ false) → (key : Key)
      → IsTrue (ends_locking key (ts ++ was))
      → IsTrue (ends_locking key (ts ++ now)) ⊎ (is_found key (last_number s.start ts) before ts was after ≡ false)
  stops_under_none now none key h = absurd (true≢false (sym h ∙ none key))
