-- What stays where one worker's log gets another end: the causes of other events, the order, and what is right of each
-- log.
use Rattle.std.proofs.Common.{◌≡◌, ◌≢◌, ℕ, suc, ◌+◌, ◌<◌, ◌≤◌, Bool, true, false, cond, ◌⊎◌, inl, inr, List, [], ◌∷◌}
use Rattle.std.proofs.Common.{◌++◌, refl, ap, sym, ◌∙◌, subst, arith}
use Rattle.std.specs.Prelude.{◌==◌}
use Rattle.std.specs.List.{list_any, list_all, AllByRecursion}
use Rattle.std.proofs.lemmas.Bool.{cases_Bool, false≢true}
use Rattle.std.proofs.lemmas.Bool.Decides.{nat_tests}
use Rattle.std.proofs.lemmas.List.{append_assoc, append-nil}
use Rattle.si_model.specs.declared.row.Key.{Key}
use Rattle.si_model.specs.declared.log.Stamp.{Stamp}
use Rattle.si_model.specs.Lists.{Listed, concat_of}
use Rattle.si_model.specs.History.{stamp_at}
use Rattle.si_model.specs.Tells.{Tell, last_number}
use Rattle.si_model.specs.Commits.{snaps_of, snaps_by}
use Rattle.si_model.specs.View.{View}
use Rattle.si_model.specs.Setting.{Setting, Asked}
use Rattle.si_model.specs.Knowledge.{AreAtMost, known_after, SeesForward}
use Rattle.si_model.specs.Causes.{others_from, others_of, tells_by, lists_lock, collects_entry, has_collected}
use Rattle.si_model.specs.Causes.{move_count, moves_version, is_done, keeps_bucket, ends_locking, is_written}
use Rattle.si_model.specs.Causes.{HaveCausesAfter}
use Rattle.si_model.specs.Consistency.{OwnsAll, AreOwned, HaveOrder, IsWithin, IsSound, AreSound}
use Rattle.si_model.proofs.ListLemmas.{listed_append_left, listed_append_right}
use Rattle.si_law.specs.Views.{AsksMore, Extends, AgreeOn, moves_key_into, tells_newer, KeepCauses}
use Rattle.si_law.specs.Growth.{ending, worker_of, known_after_all, KeepsListed, IsMoment, is_found, IsNoCommit}
use Rattle.si_law.proofs.Moved.{list_any_stays, same_known}
use Rattle.si_law.proofs.GrowthEnds.{any_between, any_behind, all_between, moves_between, moves_behind, number_after}
use Rattle.si_law.proofs.GrowthEnds.{number_after_is, joined_ending, tells_own, others_skip, others_of_other}
use Rattle.si_law.proofs.GrowthEnds.{others_of_own, tells_other, last_number-append, within_end, snaps_cases}
use Rattle.si_law.proofs.GrowthCommits.{silent_last}

-- ---- walks over two lists, one after another

pub All-front : {X : Type 0} (P : X → Type 0) (xs ys : List X) → AllByRecursion P (xs ++ ys) → AllByRecursion P xs
All-front P [] ys h = tt
All-front P (x ∷ xs) ys h = (h.0, All-front P xs ys h.1)

pub sees_front : (v : View) (j : ℕ) (known : List ℕ) (xs ys : List Tell) → SeesForward v j known (xs ++ ys)
    → SeesForward v j known xs
sees_front v j known [] ys h = tt
sees_front v j known (x ∷ xs) ys h = (h.0, sees_front v j (known_after v j x known x.event) xs ys h.1)

pub sees_append : (v : View) (j : ℕ) (known : List ℕ) (xs ys : List Tell) → SeesForward v j known xs →
    SeesForward v j (known_after_all v j known xs) ys → SeesForward v j known (xs ++ ys)
sees_append v j known [] ys h k = k
sees_append v j known (x ∷ xs) ys h k = (h.0, sees_append v j (known_after v j x known x.event) xs ys h.1 k)

pub causes_front : (s : Setting) (v : View) (tss : List (List Tell)) (j : ℕ) (done xs ys : List Tell)
    → HaveCausesAfter s v tss j done (xs ++ ys) →
    HaveCausesAfter s v tss j done xs
causes_front s v tss j done [] ys h = tt
causes_front s v tss j done (x ∷ xs) ys h = (h.0, causes_front s v tss j (done ++ x ∷ []) xs ys h.1)

pub causes_append : (s : Setting) (v : View) (tss : List (List Tell)) (j : ℕ) (done xs ys : List Tell) →
    HaveCausesAfter s v tss j done xs → HaveCausesAfter s v tss j (done ++ xs) ys
    → HaveCausesAfter s v tss j done (xs ++ ys)
causes_append s v tss j done [] ys h k = subst (λ ds. HaveCausesAfter s v tss j ds ys) (append-nil done) k
causes_append s v tss j done (x ∷ xs) ys h k = (
  h.0,
  causes_append s v tss j (done ++ x ∷ []) xs ys h.1
      (subst (λ ds. HaveCausesAfter s v tss j ds ys) (sym (append_assoc done (x ∷ []) xs)) k),
)

pub same_known_all : (s : Setting) (asked more : Asked) (v w : View) (asks : AsksMore asked more)
    (extends : Extends v w) (j : ℕ) (known : List ℕ) (ts : List Tell) →
    AgreeOn v w ts → known_after_all v j known ts ≡ known_after_all w j known ts
same_known_all s asked more v w asks extends j known [] agree = refl
same_known_all s asked more v w asks extends j known (t ∷ ts) agree =
    ap (λ k. known_after_all v j k ts) (same_known s asked more v w asks extends j t known t.event (agree t (inl refl)))
    ∙ same_known_all s asked more v w asks extends j (known_after w j t known t.event) ts (λ x l. agree x (inr l))

-- ---- causes of the events of others, and of the front

pub same_or_apart : (a b : ℕ) → (a ≡ b) ⊎ (a ≢ b)
same_or_apart a b = elim (cases_Bool (a == b)) [ inl e ↦ inl (yes_same a b e) | inr e ↦ inr (no_same a b e) ]
  where
    yes_same : (a b : ℕ) → (a == b) ≡ true → a ≡ b
    yes_same a b e = grind (arith, nat_tests)

    no_same : (a b : ℕ) → (a == b) ≡ false → a ≢ b
    no_same a b e = grind (arith, nat_tests)

module _ (s : Setting) (before : List (List Tell)) (ts was now : List Tell) (after : List (List Tell)) where
  abbrev old : List (List Tell)
  old = ending before ts was after

  abbrev new : List (List Tell)
  new = ending before ts now after

  pub others_any : (p : Tell → Bool) (i : ℕ) → (list_any p was ≡ true → list_any p now ≡ true)
      → list_any p (others_of i old) ≡ true →
      list_any p (others_of i new) ≡ true
  others_any p i keep h = elim (same_or_apart (worker_of before) i) [
    | inl e ↦
        subst (λ n. list_any p (others_of n old) ≡ true → list_any p (others_of n new) ≡ true) e
        (λ k. subst (λ xs. list_any p xs ≡ true) (others_of_own before (ts ++ was) (ts ++ now) after) k) h
    | inr e ↦
        let front = others_of i before in
        let back = others_from (suc (worker_of before)) i after in
        subst (λ xs. list_any p xs ≡ true) (sym (others_of_other i before (ts ++ now) after e))
        (any_between p front (ts ++ was) (ts ++ now) back (any_behind p ts was now keep)
        (subst (λ xs. list_any p xs ≡ true) (others_of_other i before (ts ++ was) after e) h))
  ]

  pub others_moves : (b i : ℕ) → move_count b was ≤ move_count b now
      → move_count b (others_of i old) ≤ move_count b (others_of i new)
  others_moves b i le = elim (same_or_apart (worker_of before) i) [
    | inl e ↦ subst (λ n. move_count b (others_of n old) ≤ move_count b (others_of n new)) e (
        let same = ap (move_count b) (others_of_own before (ts ++ was) (ts ++ now) after) in omega (arith, same))
    | inr e ↦
        let more =
        moves_between b (others_of i before) (ts ++ was) (ts ++ now) (others_from (suc (worker_of before)) i after)
        (moves_behind b ts was now le) in
        let a = ap (move_count b) (others_of_other i before (ts ++ was) after e) in
        let c = ap (move_count b) (others_of_other i before (ts ++ now) after e) in
        omega (arith, more, a, c)
  ]

  pub all_moves : (b : ℕ) → move_count b was ≤ move_count b now
      → move_count b (concat_of old) ≤ move_count b (concat_of new)
  all_moves b le =
      let more = moves_between b (concat_of before) (ts ++ was) (ts ++ now) (concat_of after)
      (moves_behind b ts was now le) in
      let a = ap (move_count b) (joined_ending (ts ++ was) after before) in
      let c = ap (move_count b) (joined_ending (ts ++ now) after before) in
      omega (arith, more, a, c)

  -- a test that all events pass, and those of the new end
  pub all_pass_too : (p : Tell → Bool) → list_all p (concat_of old) ≡ true → list_all p now ≡ true
      → list_all p (concat_of new) ≡ true
  all_pass_too p h k =
      let front = concat_of before ++ ts in
      let parts : (end : List Tell) → concat_of (ending before ts end after) ≡ front ++ (end ++ concat_of after) =
      λ end.
      joined_ending (ts ++ end) after before ∙ ap (λ xs. concat_of before ++ xs) (append_assoc ts end (concat_of after))
      ∙ sym (append_assoc (concat_of before) ts (end ++ concat_of after)) in
      subst (λ xs. list_all p xs ≡ true) (sym (parts now))
      (all_between p front was now (concat_of after) k (subst (λ xs. list_all p xs ≡ true) (parts was) h))

  -- where the worker was stopped, it is still, or published the version, or nobody found that version
  abbrev pub Stops : View → Type 0
  Stops w =
      (key : Key) → ends_locking key (ts ++ was) ≡ true
      → (is_written w key (stamp_at (worker_of before) (last_number s.start ts + 1)) ≡ true)
      ⊎ (((ends_locking key (ts ++ now) ≡ true) × (last_number s.start (ts ++ now) ≡ last_number s.start ts))
      ⊎ (is_found key (last_number s.start ts) before ts was after ≡ false))

  module _ (w : View) (silent : AllByRecursion IsNoCommit was) (stops : Stops w) (i : ℕ) (log : List Tell)
      (others : worker_of before ≢ i → (t : Tell) → Listed t log → Listed t (others_of (worker_of before) old)) where
    abbrev last : ℕ
    last = last_number s.start ts

    pub kept_stops : (key : Key) (q : Stamp) → list_any (λ o. tells_newer key q o.event) log ≡ true → q.thread ≢ i →
        ends_locking key (tells_by q.thread old) ≡ true → q.number ≡ last_number s.start (tells_by q.thread old) + 1 →
        (is_written w key q ≡ true) ⊎ ((ends_locking key (tells_by q.thread new) ≡ true)
        × (q.number ≡ last_number s.start (tells_by q.thread new) + 1))
    kept_stops key q tells apart ends number = elim (same_or_apart q.thread (worker_of before)) [
      | inl e ↦
          let log_was : tells_by q.thread old ≡ ts ++ was =
          ap (λ n. tells_by n old) e ∙ tells_own (ts ++ was) after before in
          let log_now : tells_by q.thread new ≡ ts ++ now =
          ap (λ n. tells_by n new) e ∙ tells_own (ts ++ now) after before in
          let last_was : last_number s.start (ts ++ was) ≡ last =
          last_number-append s.start ts was ∙ silent_last last was silent in
          let next : q.number ≡ last + 1 = number ∙ ap (λ xs. last_number s.start xs + 1) log_was
          ∙ ap (λ n. n + 1) last_was in
          let is : stamp_at (worker_of before) (last + 1) ≡ q =
          ap (λ n. stamp_at n (last + 1)) (sym e) ∙ ap (stamp_at q.thread) (sym next) in
          elim (stops key (subst (λ xs. ends_locking key xs ≡ true) log_was ends)) [
            | inl written ↦ inl (subst (λ z. is_written w key z ≡ true) is written)
            | inr more ↦ elim more [
              | inl still ↦ inr (
                subst (λ xs. ends_locking key xs ≡ true) (sym log_now) still.0,
                next ∙ ap (λ n. n + 1) (sym still.1) ∙ ap (λ xs. last_number s.start xs + 1) (sym log_now),
              )
              | inr unfound ↦
                  let telling : Stamp → Tell → Bool = λ z o. tells_newer key z o.event in
                  let among = list_any_stays (telling q) log (others_of (worker_of before) old)
                  (others (λ f. apart (e ∙ f))) tells in
                  let found = subst (λ z. list_any (telling z) (others_of (worker_of before) old) ≡ true) (sym is) among
                  in
                  absurd (false≢true (sym unfound ∙ found))
            ]
          ]
      | inr e ↦
          let same = tells_other q.thread before (ts ++ was) (ts ++ now) after e in
          inr (subst (λ xs. ends_locking key xs ≡ true) same ends, number ∙ ap (λ xs. last_number s.start xs + 1) same)
    ]

    pub keeps_causes : KeepsListed was now →
        ((b : ℕ) (key : Key) → list_any (λ o. moves_key_into b key o.event) (concat_of old) ≡ true
        → list_all (λ o. keeps_bucket b key o.event) now ≡ true) →
        ((t : Tell) → Listed t log → Listed t (concat_of old)) → KeepCauses s w old new i log
    keeps_causes listed buckets within = record {
      locks = λ key q. others_any (lists_lock key q) i (listed.locks key q);
      entries = λ k n. others_any (λ o. collects_entry k n o.event) i (listed.entries k n);
      collects = others_any (λ o. has_collected o.event) i listed.collects;
      done = λ key q. others_any (λ o. moves_version is_done key q o.event) i (listed.done key q);
      moves = λ b. others_moves b i (listed.moves b);
      all_moves = λ b. all_moves b (listed.moves b);
      buckets = λ b key moves keep. all_pass_too (λ o. keeps_bucket b key o.event) keep (buckets b key
          (list_any_stays (λ o. moves_key_into b key o.event) log (concat_of old) within moves));
      stops = kept_stops;
    }

  -- ---- the order

  pub order_end : HaveOrder s.start old → ((snap : List ℕ) → Listed snap (snaps_of now) → IsMoment s old now snap) →
      last_number s.start (ts ++ was) ≤ last_number s.start (ts ++ now) → AreOwned s.start 1 new → HaveOrder s.start new
  order_end order moments rises owned = record {
    owned = owned;
    within = λ snap l. within_end s.start snap before (ts ++ was) (ts ++ now) after rises (within snap l);
    ordered = λ a b l m. ordered a b (snaps_cases a before ts was now after l)
        (snaps_cases b before ts was now after m);
  }
    where
      within : (snap : List ℕ) → Listed snap (snaps_by new) → IsWithin s.start snap old
      within snap l = elim (snaps_cases snap before ts was now after l) [
        | inl a ↦ order.within snap a
        | inr a ↦ (moments snap a).within
      ]

      ordered : (a b : List ℕ) → Listed a (snaps_by old) ⊎ Listed a (snaps_of now) → Listed b (snaps_by old)
          ⊎ Listed b (snaps_of now) →
          AreAtMost a b ⊎ AreAtMost b a
      ordered a b (inl l) (inl m) = order.ordered a b l m
      ordered a b (inr l) m = (moments a l).ordered b m
      ordered a b (inl l) (inr m) = elim ((moments b m).ordered a (inl l)) [ inl h ↦ inr h | inr h ↦ inl h ]

-- ---- what is right of each log

pub owned_end : (start k : ℕ) (before : List (List Tell)) (was now : List Tell) (after : List (List Tell)) →
    (OwnsAll start (number_after k before) was → OwnsAll start (number_after k before) now)
    → AreOwned start k (before ++ was ∷ after) →
    AreOwned start k (before ++ now ∷ after)
owned_end start k [] was now after own h = (own h.0, h.1)
owned_end start k (b ∷ before) was now after own h = (h.0, owned_end start (suc k) before was now after own h.1)

module _ (s : Setting) (asked more : Asked) (v w : View) (old new : List (List Tell)) (j : ℕ)
    (each : (i : ℕ) (log : List Tell) → i ≢ j → ((t : Tell) → Listed t log → Listed t (others_of j old))
    → IsSound s asked v old i log → IsSound s more w new i log) where
  sound_one : (k : ℕ) (log : List Tell) (rest : List (List Tell)) → k ≢ j →
      ((t : Tell) → Listed t (others_from k j (log ∷ rest)) → Listed t (others_of j old)) → IsSound s asked v old k log
      → IsSound s more w new k log
  sound_one k log rest apart listed h =
      each k log apart
      (λ t l. listed t (subst (Listed t) (sym (others_skip k j log rest apart))
      (listed_append_left log (others_from (suc k) j rest) t l))) h

  rest_listed : (k : ℕ) (log : List Tell) (rest : List (List Tell)) → k ≢ j →
      ((t : Tell) → Listed t (others_from k j (log ∷ rest)) → Listed t (others_of j old)) → (t : Tell)
      → Listed t (others_from (suc k) j rest) →
      Listed t (others_of j old)
  rest_listed k log rest apart listed t l =
      listed t (subst (Listed t) (sym (others_skip k j log rest apart))
      (listed_append_right log (others_from (suc k) j rest) t l))

  sound_after : (k : ℕ) (tss : List (List Tell)) → j < k
      → ((t : Tell) → Listed t (others_from k j tss) → Listed t (others_of j old)) →
      AreSound s asked v old k tss → AreSound s more w new k tss
  sound_after k [] above listed h = tt
  sound_after k (ts ∷ tss) above listed h =
      let apart : k ≢ j = omega (arith, above) in (
        sound_one k ts tss apart listed h.0,
        sound_after (suc k) tss (omega (arith, above))
            (rest_listed k ts tss apart listed) h.1,
      )

  -- each other log by itself, and the log of worker j
  pub sound_end : (k : ℕ) (before : List (List Tell)) (was now : List Tell) (after : List (List Tell))
      → number_after k before ≡ j →
      (IsSound s asked v old j was → IsSound s more w new j now) →
      ((t : Tell) → Listed t (others_from k j (before ++ was ∷ after)) → Listed t (others_of j old)) →
      AreSound s asked v old k (before ++ was ∷ after) → AreSound s more w new k (before ++ now ∷ after)
  sound_end k [] was now after is own listed h =
      let same : k ≡ j = is in (
        subst (λ n. IsSound s more w new n now) (sym same) (own (subst (λ n. IsSound s asked v old n was) same h.0)),
        sound_after (suc k) after (omega (arith, same))
            (λ t l. listed t
            (subst (λ b. Listed t (cond b (others_from (suc k) j after) (was ++ others_from (suc k) j after)))
            (sym (equal k j same)) l)) h.1,
      )
    where
      equal : (k j : ℕ) → k ≡ j → (k == j) ≡ true
      equal k j same = grind (arith, nat_tests)
  sound_end k (b ∷ before) was now after is own listed h =
      let apart : k ≢ j = omega (arith, is, number_after_is (suc k) before) in (
        sound_one k b (before ++ was ∷ after) apart listed h.0,
        sound_end (suc k) before was now after is own (rest_listed k b (before ++ was ∷ after) apart listed) h.1,
      )
