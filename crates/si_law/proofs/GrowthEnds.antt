-- What logs list where one worker's log has another end.
use Rattle.std.proofs.Common.{◌≡◌, ◌≢◌, ℕ, zero, suc, ◌+◌, ◌-◌, ◌≤◌, Bool, true, false, cond, ◌⊎◌, inl, inr, List, []}
use Rattle.std.proofs.Common.{◌∷◌}
use Rattle.std.proofs.Common.{◌++◌, length, get_or, refl, ap, sym, ◌∙◌, subst, arith, Some}
use Rattle.std.specs.Prelude.{◌==◌, filter, is_some, slice_index_or}
use Rattle.std.specs.List.{list_any, list_all}
use Rattle.std.proofs.lemmas.Bool.{cases_Bool, cond_both, true≢false, false_from_ne_true, and_parts, or_cases, or_left}
use Rattle.std.proofs.lemmas.Bool.{or_right}
use Rattle.std.proofs.lemmas.Bool.Decides.{nat_tests}
use Rattle.std.proofs.lemmas.List.{append_assoc, append-nil, length-append}
use Rattle.std.proofs.lemmas.List.Elements.{filter-append}
use Rattle.std.proofs.lemmas.List.Folds.{list_any-append, list_all-append}
use Rattle.si_model.specs.Lists.{Listed, concat_of}
use Rattle.si_model.specs.History.{stamp_at}
use Rattle.si_model.specs.Tells.{Tell, prefix_in, last_number}
use Rattle.si_model.specs.Commits.{published_of, published_from, published_by, snaps_of, snaps_by}
use Rattle.si_model.specs.Snapshots.{contains}
use Rattle.si_model.specs.Causes.{others_from, others_of, tells_by, moves_into, move_count}
use Rattle.si_model.specs.Consistency.{IsWithin}
use Rattle.si_law.specs.Growth.{ending, worker_of}
use Rattle.si_model.proofs.ListLemmas.{listed_append_cases, listed_append_left, listed_append_right}
use Rattle.si_model.proofs.SnapshotLemmas.{contains_says}

-- ---- what stands between two lists

pub any_between : {X : Type 0} (p : X → Bool) (front was now back : List X)
    → (list_any p was ≡ true → list_any p now ≡ true) →
    list_any p (front ++ (was ++ back)) ≡ true → list_any p (front ++ (now ++ back)) ≡ true
any_between p front was now back keep h =
    let a = list_any-append p front (was ++ back) in
    let b = list_any-append p was back in
    let c = list_any-append p front (now ++ back) in
    let d = list_any-append p now back in
    c ∙ elim (or_cases (list_any p front) (list_any p (was ++ back)) (sym a ∙ h)) [
      | inl e ↦ or_left (list_any p front) (list_any p (now ++ back)) e
      | inr e ↦ or_right (list_any p front) (list_any p (now ++ back)) (d
          ∙ elim (or_cases (list_any p was) (list_any p back) (sym b ∙ e)) [
            | inl f ↦ or_left (list_any p now) (list_any p back) (keep f)
            | inr f ↦ or_right (list_any p now) (list_any p back) f
          ])
    ]

pub any_behind : {X : Type 0} (p : X → Bool) (front was now : List X) → (list_any p was ≡ true → list_any p now ≡ true)
    →
    list_any p (front ++ was) ≡ true → list_any p (front ++ now) ≡ true
any_behind p front was now keep h =
    subst (λ xs. list_any p (front ++ xs) ≡ true) (append-nil now)
    (any_between p front was now [] keep (subst (λ xs. list_any p (front ++ xs) ≡ true) (sym (append-nil was)) h))

pub all_between : {X : Type 0} (p : X → Bool) (front was now back : List X) → list_all p now ≡ true
    → list_all p (front ++ (was ++ back)) ≡ true →
    list_all p (front ++ (now ++ back)) ≡ true
all_between p front was now back new h =
    let a = list_all-append p front (was ++ back) in
    let b = list_all-append p was back in
    let c = list_all-append p front (now ++ back) in
    let d = list_all-append p now back in
    let both = and_parts (list_all p front) (list_all p (was ++ back)) (sym a ∙ h) in
    let rest = and_parts (list_all p was) (list_all p back) (sym b ∙ both.1) in
    c ∙ rw (both.0, d, new, rest.1) refl

move_count-append : (b : ℕ) (xs ys : List Tell) → move_count b (xs ++ ys) ≡ move_count b xs + move_count b ys
move_count-append b xs ys =
    ap length (filter-append (λ t. moves_into b t.event) xs ys)
    ∙ length-append (filter (λ t. moves_into b t.event) xs) (filter (λ t. moves_into b t.event) ys)

pub moves_between : (b : ℕ) (front was now back : List Tell) → move_count b was ≤ move_count b now →
    move_count b (front ++ (was ++ back)) ≤ move_count b (front ++ (now ++ back))
moves_between b front was now back le =
    omega (
      arith,
      le,
      move_count-append b front (was ++ back),
      move_count-append b was back,
      move_count-append b front (now ++ back),
      move_count-append b now back,
    )

pub moves_behind : (b : ℕ) (front was now : List Tell) → move_count b was ≤ move_count b now →
    move_count b (front ++ was) ≤ move_count b (front ++ now)
moves_behind b front was now le = omega (arith, le, move_count-append b front was, move_count-append b front now)

-- ---- the number of the worker after the first logs

abbrev pub number_after : ℕ → List (List Tell) → ℕ
number_after k [] = k
number_after k (ts ∷ tss) = number_after (suc k) tss

pub number_after_is : (k : ℕ) (tss : List (List Tell)) → number_after k tss ≡ k + length tss
number_after_is k [] = omega arith
number_after_is k (ts ∷ tss) = omega (arith, number_after_is (suc k) tss)

pub number_is : (before : List (List Tell)) → number_after 1 before ≡ worker_of before
number_is before = omega (arith, number_after_is 1 before)

-- ---- what all list

module _ (ts : List Tell) (after : List (List Tell)) where
  published_after : (k : ℕ) (before : List (List Tell)) →
      published_from k (before ++ ts ∷ after) ≡ published_from k before ++
      (published_of (number_after k before) ts ++ published_from (suc (number_after k before)) after)
  published_after k [] = refl
  published_after k (b ∷ before) =
      ap (λ cs. published_of k b ++ cs) (published_after (suc k) before)
      ∙ sym
      (append_assoc (published_of k b) (published_from (suc k) before) (published_of (number_after (suc k) before) ts
      ++ published_from (suc (number_after (suc k) before)) after))

  pub published_ending : (before : List (List Tell)) →
      published_by (before ++ ts ∷ after) ≡ published_by before
      ++ (published_of (worker_of before) ts ++ published_from (suc (worker_of before)) after)
  published_ending before =
      subst (λ j. published_by (before ++ ts ∷ after) ≡ published_by before
      ++ (published_of j ts ++ published_from (suc j) after)) (number_is before)
      (published_after 1 before)

  pub snaps_ending : (before : List (List Tell)) → snaps_by (before ++ ts ∷ after) ≡ snaps_by before
      ++ (snaps_of ts ++ snaps_by after)
  snaps_ending [] = refl
  snaps_ending (b ∷ before) =
      ap (λ ss. snaps_of b ++ ss) (snaps_ending before)
      ∙ sym (append_assoc (snaps_of b) (snaps_by before) (snaps_of ts ++ snaps_by after))

  pub joined_ending : (before : List (List Tell)) → concat_of (before ++ ts ∷ after) ≡ concat_of before
      ++ (ts ++ concat_of after)
  joined_ending [] = refl
  joined_ending (b ∷ before) = ap (λ xs. b ++ xs) (joined_ending before)
      ∙ sym (append_assoc b (concat_of before) (ts ++ concat_of after))

  pub tells_own : (before : List (List Tell)) → tells_by (worker_of before) (before ++ ts ∷ after) ≡ ts
  tells_own [] = refl
  tells_own (b ∷ before) = tells_own before

-- ---- what the others list

not_equal : (k j : ℕ) → k ≢ j → (k == j) ≡ false
not_equal k j apart = grind (arith, nat_tests)

equal : (k j : ℕ) → k ≡ j → (k == j) ≡ true
equal k j same = grind (arith, nat_tests)

pub others_skip : (k j : ℕ) (ts : List Tell) (tss : List (List Tell)) → k ≢ j → others_from k j (ts ∷ tss) ≡ ts
    ++ others_from (suc k) j tss
others_skip k j ts tss apart = rw (not_equal k j apart) refl

module _ (j : ℕ) (ts : List Tell) (after : List (List Tell)) where
  others_apart : (k : ℕ) (before : List (List Tell)) → number_after k before ≢ j →
      others_from k j (before ++ ts ∷ after) ≡ others_from k j before
      ++ (ts ++ others_from (suc (number_after k before)) j after)
  others_apart k [] apart = others_skip k j ts after apart
  others_apart k (b ∷ before) apart =
      let rest = others_apart (suc k) before apart in
      elim (cases_Bool (k == j)) [
        | inl e ↦ rw e rest
        | inr e ↦
            rw e
            (ap (λ xs. b ++ xs) rest
            ∙ sym (append_assoc b (others_from (suc k) j before) (ts
            ++ others_from (suc (number_after (suc k) before)) j after)))
      ]

  others_same : (k : ℕ) (before : List (List Tell)) → number_after k before ≡ j →
      others_from k j (before ++ ts ∷ after) ≡ others_from k j before
      ++ others_from (suc (number_after k before)) j after
  others_same k [] same = rw (equal k j same) refl
  others_same k (b ∷ before) same =
      let rest = others_same (suc k) before same in
      elim (cases_Bool (k == j)) [
        | inl e ↦ rw e rest
        | inr e ↦
            rw e (ap (λ xs. b ++ xs) rest
            ∙ sym (append_assoc b (others_from (suc k) j before)
            (others_from (suc (number_after (suc k) before)) j after)))
      ]

-- another worker's others list the end too
pub others_of_other : (j : ℕ) (before : List (List Tell)) (ts : List Tell) (after : List (List Tell))
    → worker_of before ≢ j →
    others_of j (before ++ ts ∷ after) ≡ others_of j before ++ (ts ++ others_from (suc (worker_of before)) j after)
others_of_other j before ts after apart =
    subst (λ n. others_of j (before ++ ts ∷ after) ≡ others_of j before ++ (ts ++ others_from (suc n) j after))
    (number_is before)
    (others_apart j ts after 1 before (λ e. apart (sym (number_is before) ∙ e)))

-- the worker's own others don't
pub others_of_own : (before : List (List Tell)) (was now : List Tell) (after : List (List Tell)) →
    others_of (worker_of before) (before ++ was ∷ after) ≡ others_of (worker_of before) (before ++ now ∷ after)
others_of_own before was now after =
    others_same (worker_of before) was after 1 before (number_is before)
    ∙ sym (others_same (worker_of before) now after 1 before (number_is before))

-- another worker's log is the same
pub tells_other : (j : ℕ) (before : List (List Tell)) (was now : List Tell) (after : List (List Tell))
    → j ≢ worker_of before →
    tells_by j (before ++ was ∷ after) ≡ tells_by j (before ++ now ∷ after)
tells_other zero before was now after apart = refl
tells_other (suc i) before was now after apart = places i before (λ e. apart (ap suc e))
  where
    places : (i : ℕ) (before : List (List Tell)) → i ≢ length before →
        slice_index_or (before ++ was ∷ after) i [] ≡ slice_index_or (before ++ now ∷ after) i []
    places zero [] apart = absurd (apart refl)
    places (suc i) [] apart = refl
    places zero (b ∷ before) apart = refl
    places (suc i) (b ∷ before) apart = places i before (λ e. apart (ap suc e))

-- ---- last numbers, and snapshots within them

pub last_number-append : (n : ℕ) (xs ys : List Tell) → last_number n (xs ++ ys) ≡ last_number (last_number n xs) ys
last_number-append n [] ys = refl
last_number-append n (x ∷ xs) ys = last_number-append _ xs ys

pub within_end : (start : ℕ) (snap : List ℕ) (before : List (List Tell)) (was now : List Tell)
    (after : List (List Tell)) →
    last_number start was ≤ last_number start now → IsWithin start snap (before ++ was ∷ after)
    → IsWithin start snap (before ++ now ∷ after)
within_end start [] [] was now after le h = elim h [ ]
within_end start (n ∷ ns) [] was now after le h = (h.0, omega (arith, le, h.1), h.2)
within_end start [] (b ∷ before) was now after le h = elim h [ ]
within_end start (n ∷ ns) (b ∷ before) was now after le h = (h.0, h.1, within_end start ns before was now after le h.2)

-- the worker's entry in a snapshot is at most its last number
pub within_entry : (start : ℕ) (snap : List ℕ) (before : List (List Tell)) (ts : List Tell) (after : List (List Tell)) →
    IsWithin start snap (before ++ ts ∷ after) → get_or snap (length before) 0 ≤ last_number start ts
within_entry start [] [] ts after h = elim h [ ]
within_entry start (n ∷ ns) [] ts after h = h.1
within_entry start [] (b ∷ before) ts after h = elim h [ ]
within_entry start (n ∷ ns) (b ∷ before) ts after h = within_entry start ns before ts after h.2

-- a snapshot of what is published doesn't contain the commit that the worker makes next
pub next_outside : (start : ℕ) (snap : List ℕ) (before : List (List Tell)) (ts : List Tell) (after : List (List Tell)) →
    IsWithin start snap (before ++ ts ∷ after)
    → contains snap (stamp_at (worker_of before) (last_number start ts + 1)) ≡ false
next_outside start snap before ts after within =
    false_from_ne_true (contains snap (stamp_at (worker_of before) (last_number start ts + 1))) refuted
  where
    refuted : contains snap (stamp_at (worker_of before) (last_number start ts + 1)) ≡ true → ⊥
    refuted e =
        let says = (contains_says snap (stamp_at (worker_of before) (last_number start ts + 1)) e).1 in
        let entry = within_entry start snap before ts after within in
        let place : worker_of before - 1 ≡ length before = omega arith in
        omega (arith, says, entry, ap (λ i. get_or snap i 0) place)

-- ---- members

pub listed_snap : (t : Tell) (ts : List Tell) (p : ℕ) → Listed t ts → prefix_in t.event ≡ Some p
    → Listed t.snap (snaps_of ts)
listed_snap t [] p l e = elim l [ ]
listed_snap t (x ∷ xs) p l e =
    cond_both (is_some (prefix_in x.event)) (x.snap ∷ snaps_of xs) (snaps_of xs) (Listed t.snap)
    (λ some. elim l [ inl q ↦ inl (ap (λ z. z.snap) q) | inr r ↦ inr (listed_snap t xs p r e) ])
    (λ none. elim l [
      | inl q ↦ absurd (true≢false (sym (ap is_some (ap (λ z. prefix_in z.event) q ∙ e)) ∙ none))
      | inr r ↦ listed_snap t xs p r e
    ])

pub snaps_of-append : (xs ys : List Tell) → snaps_of (xs ++ ys) ≡ snaps_of xs ++ snaps_of ys
snaps_of-append [] ys = refl
snaps_of-append (x ∷ xs) ys =
    elim (cases_Bool (is_some (prefix_in x.event))) [
      | inl e ↦ rw e (ap (λ ss. x.snap ∷ ss) (snaps_of-append xs ys))
      | inr e ↦ rw e (snaps_of-append xs ys)
    ]

pub listed_joined_snap : (t : Tell) (tss : List (List Tell)) (p : ℕ) → Listed t (concat_of tss)
    → prefix_in t.event ≡ Some p →
    Listed t.snap (snaps_by tss)
listed_joined_snap t [] p l e = elim l [ ]
listed_joined_snap t (ts ∷ tss) p l e = elim (listed_append_cases ts (concat_of tss) t l) [
  | inl a ↦ listed_append_left (snaps_of ts) (snaps_by tss) t.snap (listed_snap t ts p a e)
  | inr a ↦ listed_append_right (snaps_of ts) (snaps_by tss) t.snap (listed_joined_snap t tss p a e)
]

pub others_joined : (k j : ℕ) (tss : List (List Tell)) (t : Tell) → Listed t (others_from k j tss)
    → Listed t (concat_of tss)
others_joined k j [] t l = l
others_joined k j (ts ∷ tss) t l =
    elim (cases_Bool (k == j)) [
      | inl e ↦
          listed_append_right ts (concat_of tss) t
          (others_joined (suc k) j tss t
          (subst (λ b. Listed t (cond b (others_from (suc k) j tss) (ts ++ others_from (suc k) j tss))) e l))
      | inr e ↦
          elim
          (listed_append_cases ts (others_from (suc k) j tss) t
          (subst (λ b. Listed t (cond b (others_from (suc k) j tss) (ts ++ others_from (suc k) j tss))) e l)) [
            | inl a ↦ listed_append_left ts (concat_of tss) t a
            | inr a ↦ listed_append_right ts (concat_of tss) t (others_joined (suc k) j tss t a)
          ]
    ]

-- the events of the worker, and the snapshots of its front and of its end
pub listed_own : (t : Tell) (before : List (List Tell)) (ts : List Tell) (after : List (List Tell)) → Listed t ts →
    Listed t (concat_of (before ++ ts ∷ after))
listed_own t [] ts after l = listed_append_left ts (concat_of after) t l
listed_own t (b ∷ before) ts after l =
    listed_append_right b (concat_of (before ++ ts ∷ after)) t (listed_own t before ts after l)

-- each snapshot with the new end is one with the old end, or one of the new end
pub snaps_cases : (snap : List ℕ) (before : List (List Tell)) (ts was now : List Tell) (after : List (List Tell)) →
    Listed snap (snaps_by (ending before ts now after)) → Listed snap (snaps_by (ending before ts was after))
    ⊎ Listed snap (snaps_of now)
snaps_cases snap before ts was now after l =
    elim
    (listed_append_cases (snaps_by before) (snaps_of (ts ++ now) ++ snaps_by after) snap
    (subst (Listed snap) (snaps_ending (ts ++ now) after before) l)) [
      | inl a ↦ inl (old (listed_append_left (snaps_by before) (snaps_of (ts ++ was) ++ snaps_by after) snap a))
      | inr a ↦ elim (listed_append_cases (snaps_of (ts ++ now)) (snaps_by after) snap a) [
        | inl b ↦ elim (listed_append_cases (snaps_of ts) (snaps_of now) snap
            (subst (Listed snap) (snaps_of-append ts now) b)) [
              | inl c ↦
                  let own : Listed snap (snaps_of (ts ++ was)) =
                  subst (Listed snap) (sym (snaps_of-append ts was))
                  (listed_append_left (snaps_of ts) (snaps_of was) snap c) in
                  inl (old (right (listed_append_left (snaps_of (ts ++ was)) (snaps_by after) snap own)))
              | inr c ↦ inr c
            ]
        | inr b ↦ inl (old (right (listed_append_right (snaps_of (ts ++ was)) (snaps_by after) snap b)))
      ]
    ]
  where
    old : Listed snap (snaps_by before ++ (snaps_of (ts ++ was) ++ snaps_by after))
        → Listed snap (snaps_by (ending before ts was after))
    old m = subst (Listed snap) (sym (snaps_ending (ts ++ was) after before)) m

    right : Listed snap (snaps_of (ts ++ was) ++ snaps_by after)
        → Listed snap (snaps_by before ++ (snaps_of (ts ++ was) ++ snaps_by after))
    right m = listed_append_right (snaps_by before) (snaps_of (ts ++ was) ++ snaps_by after) snap m
