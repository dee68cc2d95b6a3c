-- What the consistency of the logs says of one worker's log, and of an end of one event.
use Rattle.std.proofs.Common.{◌≡◌, ℕ, suc, inl, List, [], ◌∷◌, ◌++◌, refl, sym, subst, Some}
use Rattle.std.specs.Prelude.{replicate}
use Rattle.std.specs.List.{AllByRecursion}
use Rattle.si_model.specs.Lists.{Listed}
use Rattle.si_model.specs.Tells.{Tell, prefix_in}
use Rattle.si_model.specs.Commits.{snaps_of, snaps_by}
use Rattle.si_model.specs.View.{View}
use Rattle.si_model.specs.Setting.{Setting, Asked}
use Rattle.si_model.specs.Knowledge.{SeesForward, SeesEvent, known_after}
use Rattle.si_model.specs.Answers.{AnswersIn}
use Rattle.si_model.specs.Consistency.{OwnsSnapshot, OwnsAll, AreOwned, IsSound, AreSound, AreConsistent, view_by}
use Rattle.si_model.proofs.ListLemmas.{listed_append_left, listed_append_right}
use Rattle.si_law.specs.Growth.{ending, worker_of, known_after_all}
use Rattle.si_law.proofs.GrowthEnds.{number_after, number_is, snaps_ending, listed_snap}
use Rattle.si_law.proofs.GrowthEvent.{IsOneMoment}

-- ---- walks over a front and an end

pub All-back : {X : Type 0} (P : X → Type 0) (xs ys : List X) → AllByRecursion P (xs ++ ys) → AllByRecursion P ys
All-back P [] ys h = h
All-back P (x ∷ xs) ys h = All-back P xs ys h.1

pub sees_back : (v : View) (j : ℕ) (known : List ℕ) (xs ys : List Tell) → SeesForward v j known (xs ++ ys)
    → SeesForward v j (known_after_all v j known xs) ys
sees_back v j known [] ys h = h
sees_back v j known (x ∷ xs) ys h = sees_back v j (known_after v j x known x.event) xs ys h.1

-- ---- one worker's log

sound_at : (s : Setting) (asked : Asked) (v : View) (tss : List (List Tell)) (k : ℕ) (before : List (List Tell))
    (ts : List Tell) (after : List (List Tell)) → AreSound s asked v tss k (before ++ ts ∷ after)
    → IsSound s asked v tss (number_after k before) ts
sound_at s asked v tss k [] ts after h = h.0
sound_at s asked v tss k (b ∷ before) ts after h = sound_at s asked v tss (suc k) before ts after h.1

owned_at : (start k : ℕ) (before : List (List Tell)) (ts : List Tell) (after : List (List Tell))
    → AreOwned start k (before ++ ts ∷ after)
    → OwnsAll start (number_after k before) ts
owned_at start k [] ts after h = h.0
owned_at start k (b ∷ before) ts after h = owned_at start (suc k) before ts after h.1

module _ (s : Setting) (asked : Asked) (before : List (List Tell)) (ts : List Tell) (after : List (List Tell))
    (consistent : AreConsistent s asked (before ++ ts ∷ after)) where
  abbrev logs : List (List Tell)
  logs = before ++ ts ∷ after

  pub log_sound : IsSound s asked (view_by s logs) logs (worker_of before) ts
  log_sound =
      subst (λ j. IsSound s asked (view_by s logs) logs j ts) (number_is before)
      (sound_at s asked (view_by s logs) logs 1 before ts after consistent.sound)

  pub log_owned : OwnsAll s.start (worker_of before) ts
  log_owned =
      subst (λ j. OwnsAll s.start j ts) (number_is before) (owned_at s.start 1 before ts after consistent.order.owned)

-- ---- an end of one event

module _ (s : Setting) (asked : Asked) (before : List (List Tell)) (ts : List Tell) (t : Tell)
    (after : List (List Tell))
    (consistent : AreConsistent s asked (ending before ts (t ∷ []) after)) where
  abbrev old : List (List Tell)
  old = ending before ts (t ∷ []) after

  abbrev v : View
  v = view_by s old

  pub end_sees : SeesEvent v t (known_after_all v (worker_of before) (replicate s.workers s.start) ts) t.event
  end_sees =
      (sees_back v (worker_of before) (replicate s.workers s.start) ts (t ∷ [])
      (log_sound s asked before (ts ++ t ∷ []) after consistent).sees).0

  pub end_answers : AnswersIn s asked v (worker_of before) t t.event
  end_answers =
      (All-back (λ u. AnswersIn s asked v (worker_of before) u u.event) ts (t ∷ [])
      (log_sound s asked before (ts ++ t ∷ []) after consistent).answers).0

  pub end_owned : OwnsSnapshot s.start t
  end_owned =
      (All-back (OwnsSnapshot s.start) ts (t ∷ [])
      (log_owned s asked before (ts ++ t ∷ []) after consistent).snapshots).0

  pub end_listed : (p : ℕ) → prefix_in t.event ≡ Some p → Listed t.snap (snaps_by old)
  end_listed p is =
      subst (Listed t.snap) (sym (snaps_ending (ts ++ t ∷ []) after before))
      (listed_append_right (snaps_by before) (snaps_of (ts ++ t ∷ []) ++ snaps_by after) t.snap
      (listed_append_left (snaps_of (ts ++ t ∷ [])) (snaps_by after) t.snap
      (listed_snap t (ts ++ t ∷ []) p (listed_append_right ts (t ∷ []) t (inl refl)) is)))

  -- its snapshot is a moment, whichever event has it
  pub end_moment : (p : ℕ) → prefix_in t.event ≡ Some p → (u : Tell) → u.snap ≡ t.snap → IsOneMoment s old u
  end_moment p is u same =
      let listed : Listed u.snap (snaps_by old) = subst (λ z. Listed z (snaps_by old)) (sym same) (end_listed p is) in
      record {
        within = consistent.order.within u.snap listed;
        ordered = λ other l. consistent.order.ordered u.snap other listed l;
        guards = consistent.guards u.snap listed;
      }
