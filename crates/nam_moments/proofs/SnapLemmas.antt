-- What a step of a client owes as one of an observer of the vector: nothing new is seen, a snapshot begins, a number is
-- published, or a word of a snapshot is taken.
use Rattle.std.proofs.Common.{List, None, Some, [], ap, arith, inl, inr, le_of_eq, length, refl, subst, sym, ℕ, ◌++◌}
use Rattle.std.proofs.Common.{◌+◌, ◌<◌, ◌∙◌, ◌∷◌, ◌≡◌, ◌≢◌, ◌≤◌, ◌⊎◌}
use Rattle.std.proofs.lemmas.Bool.{cases_lt}
use Rattle.std.proofs.lemmas.List.{get_or_append_left, get_or_push, length_push}
use Rattle.std.specs.Prelude.{if◌then◌else◌, slice_get, slice_index, ◌==◌}
use Rattle.nam_ghost.specs.Moments.{AreFound, AreObservers, FindsOwn, HasGrown, IsCandidateOf, IsFollowing, IsPassing}
use Rattle.nam_ghost.specs.Moments.{Observer, ObserverNext, ObserverOk, PassOk}
use Rattle.nam_moments.proofs.NextLemmas.{observer_within}
use Rattle.nam_vector.specs.Snap.{snap_after, snap_begin}
use Rattle.nam_vector.specs.declared.snap.SnapEnd.{SnapEnd}
use Rattle.nam_vector.specs.declared.snap.SnapEnd.TheVariants.{Again, Done}
use Rattle.nam_vector.specs.declared.snap.SnapPoint.{SnapPoint}
use Rattle.nam_vector.specs.declared.snap.SnapPoint.TheVariants.{First, Second}
use Rattle.nam_verbs.proofs.TestLemmas.{by_equal}
use Rattle.nam_verbs.specs.declared.now.Now.{Now}
use Rattle.nam_verbs.specs.declared.now.Now.TheVariants.{At, Over}
use Rattle.si_model.proofs.ListLemmas.{listed_append_cases}
use Rattle.si_model.specs.Lists.{Listed}

-- 1. An observer after a step

-- it takes no snapshot
abbrev pub aside : Observer → Observer
aside observer = record observer { pass = None }

-- it begins one
abbrev pub beginning : Observer → Observer
beginning observer = record observer { pass = Some snap_begin }

-- the entry that a snapshot's verb reads
abbrev pub entry_of : SnapPoint → ℕ
entry_of (First got) = length got
entry_of (Second seen at) = at

-- a snapshot's word was taken
abbrev pub observed : Observer → Now SnapPoint SnapEnd → Observer
observed observer (At at) = record observer { pass = Some at }
observed observer (Over (Done seen)) = record observer { pass = None; snaps = observer.snaps ++ seen ∷ [] }
observed observer (Over (Again worker first second)) = aside observer

-- a snapshot is done by a word of its second pass
pub done_is : (workers : ℕ) (point : SnapPoint) (found : ℕ) (seen : List ℕ)
    → snap_after workers point found ≡ Over (Done seen) → (k : ℕ) × (point ≡ Second seen k)
done_is workers (First got) found seen e = absurd (cc)
done_is workers (Second s k) found seen e =
    by_equal (λ now. now ≡ Over (Done seen) → Was) found (slice_index s k)
    (if k + 1 == workers then Over (Done s) else At (Second s (k + 1)))
    (Over (Again (k + 1) (slice_index s k) found))
    (λ equal. by_equal (λ now. now ≡ Over (Done seen) → Was) (k + 1) workers (Over (Done s)) (At (Second s (k + 1)))
    (λ last is. (k, ap (λ x. Second x k) (ap (seen_in s) is))) (λ more is. absurd (cc)))
    (λ other is. absurd (cc)) e
  where
    Was : Type 0
    Was = (j : ℕ) × (Second s k ≡ Second seen j)

    seen_in : List ℕ → Now SnapPoint SnapEnd → List ℕ
    seen_in none (Over (Done seen)) = seen
    seen_in none _ = none

module _ (start workers : ℕ) (V : ℕ → ℕ) (observers : List Observer) (ok : AreObservers start workers V observers)
    (nth : ℕ) (before : Observer) (here : slice_get observers nth ≡ Some before) where
  own : ObserverOk start workers V nth before
  own = ok.each nth before here

  within : nth < workers
  within = observer_within start workers V observers ok nth before here

  abbrev Next : (ℕ → ℕ) → Observer → Type 0
  Next now after = ObserverNext start workers V now nth before after

  abbrev Grown : (ℕ → ℕ) → List ℕ → ℕ → Type 0
  Grown now s confirmed = HasGrown start workers now (IsCandidateOf workers before) s confirmed

  -- a candidate that was there before, with as many entries confirmed
  was_grown : (now : ℕ → ℕ) (s : List ℕ) (confirmed : ℕ) → IsCandidateOf workers before s confirmed
      → Grown now s confirmed
  was_grown now s confirmed was = inl (confirmed, was, λ a from less. absurd (omega arith))

  -- 2. No word of a snapshot

  -- the snapshots are those that were taken, and none is being taken
  taken_grown : (now : ℕ → ℕ) (s : List ℕ) (confirmed : ℕ)
      → ⊥ ⊎ ((confirmed ≡ workers) × Listed s before.snaps) → Grown now s confirmed
  taken_grown now s confirmed (inl none) = absurd none
  taken_grown now s confirmed (inr taken) = was_grown now s confirmed (inr taken)

  pub stays_next : Next V before
  stays_next = record {
    others = λ a less apart. refl;
    rises = omega arith;
    own = own;
    grown = was_grown V;
  }

  pub aside_next : (now : ℕ → ℕ) → ((a : ℕ) → a < workers → now a ≡ V a) → Next now (aside before)
  aside_next now same = let here = same nth within in record {
    others = λ a less apart. same a less;
    rises = omega arith;
    own = record { entry = here ∙ own.entry; pass = tt; finds_own = tt; wide = own.wide };
    grown = taken_grown now;
  }

  pub begins_next : Next V (beginning before)
  begins_next = record {
    others = λ a less apart. refl;
    rises = omega arith;
    own = record {
      entry = own.entry;
      pass = (
        let less = within in omega arith,
        (λ a less. absurd (omega arith)),
        (λ t listed a less. absurd (omega arith)),
      );
      finds_own = λ less. absurd (omega arith);
      wide = own.wide;
    };
    grown = taken_grown V;
  }

  pub publishes_next : (now : ℕ → ℕ) → now nth ≡ before.number + 1
      → ((a : ℕ) → a < workers → a ≢ nth → now a ≡ V a)
      → Next now (record before { number = before.number + 1; pass = None })
  publishes_next now next others = record {
    others = others;
    rises = let entry = own.entry in omega arith;
    own = record { entry = next; pass = tt; finds_own = tt; wide = own.wide };
    grown = taken_grown now;
  }

  -- 3. A word of the first pass

  module _ (got : List ℕ) (at : before.pass ≡ Some (First got)) where
    pass : PassOk start workers V before.snaps (Some (First got))
    pass = subst (PassOk start workers V before.snaps) at own.pass

    abbrev more : List ℕ
    more = got ++ V (length got) ∷ []

    long : length more ≡ length got + 1
    long = length_push got (V (length got))

    -- an entry of it is one of those got before, or that of the vector
    by_entry : (P : ℕ → ℕ → Type 0) → ((a : ℕ) → a < length got → P a (slice_index got a))
        → P (length got) (V (length got)) → (a : ℕ) → a < length got + 1 → P a (slice_index more a)
    by_entry P earlier last a less = elim (cases_lt a (length got)) [
      | inl short ↦
          subst (P a) (sym (get_or_append_left got (V (length got) ∷ []) 0 a short)) (earlier a short)
      | inr past ↦
          let same : a ≡ length got = omega arith in
          subst (λ (x : ℕ). P x (slice_index more x)) (sym same)
          (subst (P (length got)) (sym (get_or_push got (V (length got)) 0 (length got) refl)) last)
    ]

    more_found : AreFound start V (length got + 1) more
    more_found =
        by_entry (λ a entry. (start ≤ entry) × (entry ≤ V a)) pass.1
        (let least = ok.least (length got) pass.0 in (least, omega arith))

    -- an entry that is found now is at least that of a snapshot that was taken before
    more_follows : IsFollowing (length got + 1) before.snaps more
    more_follows t listed =
        by_entry (λ a entry. slice_index t a ≤ entry) (pass.2 t listed)
        ((ok.moments.within t workers (nth, (before, (here, inr (refl, listed)))) (length got) pass.0).1)

    -- its own entry is its number
    own_got : FindsOwn nth before.number (Some (First got))
    own_got = subst (FindsOwn nth before.number) at own.finds_own

    more_own : nth < length got + 1 → slice_index more nth ≡ before.number
    more_own less =
        by_entry (λ a entry. a ≡ nth → entry ≡ before.number)
        (λ a short same. subst (λ (x : ℕ). x < length got → slice_index got x ≡ before.number) (sym same) own_got short)
        (λ same. ap V same ∙ own.entry) nth less refl

    -- a candidate where the first pass is over
    first_grown : (s : List ℕ) (confirmed : ℕ) → length got + 1 ≡ workers
        → ((more ≡ s) × (0 ≡ confirmed)) ⊎ ((confirmed ≡ workers) × Listed s before.snaps) → Grown V s confirmed
    first_grown s confirmed all (inl (same, none)) =
        inr (sym none, subst (AreFound start V workers) same (λ a less. more_found a (omega arith)))
    first_grown s confirmed all (inr taken) = was_grown V s confirmed (inr taken)

    pub first_next : Next V (observed before (snap_after workers (First got) (V (length got))))
    first_next =
        by_equal (λ point. Next V (observed before (At point))) (length more) workers (Second more 0) (First more)
        (λ full. let all : length got + 1 ≡ workers = let e = long in omega arith in record {
          others = λ a less apart. refl;
          rises = omega arith;
          own = record {
            entry = own.entry;
            pass = (omega arith, full, (λ t listed a less. more_follows t listed a (omega arith)));
            finds_own = more_own (let less = within in omega arith);
            wide = own.wide;
          };
          grown = λ s confirmed is. first_grown s confirmed all is;
        })
        (λ other. let e = long in let short = pass.0 in record {
          others = λ a less apart. refl;
          rises = omega arith;
          own = record {
            entry = own.entry;
            pass = (
              omega arith,
              (λ a less. more_found a (omega arith)),
              (λ t listed a less. more_follows t listed a (omega arith)),
            );
            finds_own = λ less. more_own (omega arith);
            wide = own.wide;
          };
          grown = taken_grown V;
        })

  -- 4. A word of the second pass

  module _ (seen : List ℕ) (k : ℕ) (at : before.pass ≡ Some (Second seen k)) where
    passing : PassOk start workers V before.snaps (Some (Second seen k))
    passing = subst (PassOk start workers V before.snaps) at own.pass

    passing_own : slice_index seen nth ≡ before.number
    passing_own = subst (FindsOwn nth before.number) at own.finds_own

    candidate : IsCandidateOf workers before seen k
    candidate = inl (subst (λ pass. IsPassing pass seen k) (sym at) (refl, refl))

    -- the next entry is the vector's, so it isn't passed
    confirmed_grown : (s : List ℕ) (confirmed : ℕ) → V k ≡ slice_index seen k → seen ≡ s → confirmed ≡ k + 1
        → Grown V s confirmed
    confirmed_grown s confirmed equal same next = inl (
      k,
      subst (λ x. IsCandidateOf workers before x k) same candidate,
      λ a from less. let this : a ≡ k = omega arith in
          subst (λ x. V a ≤ slice_index x a) same (subst (λ x. V x ≤ slice_index seen x) (sym this) (le_of_eq equal)),
    )

    second_grown : (s : List ℕ) (confirmed : ℕ) → V k ≡ slice_index seen k
        → ((seen ≡ s) × (k + 1 ≡ confirmed)) ⊎ ((confirmed ≡ workers) × Listed s before.snaps) → Grown V s confirmed
    second_grown s confirmed equal (inl (same, next)) = confirmed_grown s confirmed equal same (sym next)
    second_grown s confirmed equal (inr taken) = was_grown V s confirmed (inr taken)

    -- what is listed after the last entry
    done_grown : (s : List ℕ) (confirmed : ℕ) → V k ≡ slice_index seen k → k + 1 ≡ workers
        → ⊥ ⊎ ((confirmed ≡ workers) × Listed s (before.snaps ++ seen ∷ [])) → Grown V s confirmed
    done_grown s confirmed equal last (inl none) = absurd none
    done_grown s confirmed equal last (inr (whole, listed)) =
        elim (listed_append_cases before.snaps (seen ∷ []) s listed) [
          | inl earlier ↦ was_grown V s confirmed (inr (whole, earlier))
          | inr new ↦ elim new [
            | inl same ↦ confirmed_grown s confirmed equal same (omega arith)
            | inr none ↦ absurd none
          ]
        ]

    done_wide : (s : List ℕ) → Listed s (before.snaps ++ seen ∷ []) → length s ≡ workers
    done_wide s listed = elim (listed_append_cases before.snaps (seen ∷ []) s listed) [
      | inl earlier ↦ own.wide s earlier
      | inr new ↦ elim new [
        | inl same ↦ ap length (sym same) ∙ passing.1
        | inr none ↦ absurd none
      ]
    ]

    pub second_next : Next V (observed before (snap_after workers (Second seen k) (V k)))
    second_next =
        by_equal (λ now. Next V (observed before now)) (V k) (slice_index seen k)
        (if k + 1 == workers then Over (Done seen) else At (Second seen (k + 1)))
        (Over (Again (k + 1) (slice_index seen k) (V k)))
        (λ equal.
        by_equal (λ now. Next V (observed before now)) (k + 1) workers (Over (Done seen)) (At (Second seen (k + 1)))
        (λ last. record {
          others = λ a less apart. refl;
          rises = omega arith;
          own = record { entry = own.entry; pass = tt; finds_own = tt; wide = done_wide };
          grown = λ s confirmed is. done_grown s confirmed equal last is;
        })
        (λ more. let less = passing.0 in record {
          others = λ a less apart. refl;
          rises = omega arith;
          own = record {
            entry = own.entry;
            pass = (omega arith, passing.1, passing.2);
            finds_own = passing_own;
            wide = own.wide;
          };
          grown = λ s confirmed is. second_grown s confirmed equal is;
        }))
        (λ other. aside_next V (λ a less. refl))

  pub snap_next : (point : SnapPoint) → before.pass ≡ Some point
      → Next V (observed before (snap_after workers point (V (entry_of point))))
  snap_next (First got) at = first_next got at
  snap_next (Second seen k) at = second_next seen k at
