-- A stable sort by keys is the insertion of the rows, one after another.
use Rattle.std.proofs.Common.{◌≡◌, ℕ, zero, suc, ◌<◌, ◌≤◌, Bool, true, false, cond, List, [], ◌∷◌, ◌++◌, length, get_or}
use Rattle.std.proofs.Common.{filter, nat_cmp, is_lt, refl, sym, ap, ◌∙◌, arith, inl, inr, subst, suc-le-suc, zero-le}
use Rattle.std.proofs.Common.{append_assoc, append-nil}
use Rattle.std.proofs.lemmas.Bool.{cond-true, cond-false, cases_Bool, cases_lt}
use Rattle.std.proofs.lemmas.Bool.Decides.{nat_tests}
use Rattle.std.proofs.lemmas.List.Elements.{filter-append}
use Rattle.std.specs.List.Sorted.{ties, IsNonDecreasingBy, IsStableByKey}
use Rattle.si_model.specs.declared.report.AuditRow.{AuditRow}
use Rattle.nam_layout.proofs.TestLemmas.{if_less, if_not_less}
use Rattle.nam_protocol.specs.Closed.{inserted}

-- the rows inserted one after another
abbrev pub sorted_from : List AuditRow → List AuditRow → List AuditRow
sorted_from rows [] = rows
sorted_from rows (r ∷ rs) = sorted_from (inserted r rows) rs

pub sorted-push : (rows rs : List AuditRow) (r : AuditRow)
    → sorted_from rows (rs ++ r ∷ []) ≡ inserted r (sorted_from rows rs)
sorted-push rows [] r = refl
sorted-push rows (s ∷ rs) r = sorted-push (inserted s rows) rs r

-- 1. Rows of one key

abbrev same_key : AuditRow → AuditRow → Bool
same_key = ties (λ (x y : AuditRow). is_lt (nat_cmp x.key y.key))

ties_at : (m n : ℕ) → (ties (λ x y. is_lt (nat_cmp x y)) m n ≡ true → m ≡ n)
    × (m ≡ n → ties (λ x y. is_lt (nat_cmp x y)) m n ≡ true)
ties_at m n = (λ h. grind (arith, nat_tests), λ h. grind (arith, nat_tests))

key_same : (x y : AuditRow) → same_key x y ≡ true → x.key ≡ y.key
key_same x y = (ties_at x.key y.key).0

same_from : (x y : AuditRow) → x.key ≡ y.key → same_key x y ≡ true
same_from x y = (ties_at x.key y.key).1

kept : (p : AuditRow → Bool) (r : AuditRow) (rs : List AuditRow) → p r ≡ true → filter p (r ∷ rs) ≡ r ∷ filter p rs
kept p r rs h = cond-true _ _ _ h

dropped : (p : AuditRow → Bool) (r : AuditRow) (rs : List AuditRow) → p r ≡ false → filter p (r ∷ rs) ≡ filter p rs
dropped p r rs h = cond-false _ _ _ h

-- 2. Rising keys

abbrev AreAtLeast : ℕ → List AuditRow → Type 0
AreAtLeast n [] = Unit {0}
AreAtLeast n (r ∷ rs) = (n ≤ r.key) × AreAtLeast n rs

abbrev Rises : List AuditRow → Type 0
Rises [] = Unit {0}
Rises (r ∷ rs) = AreAtLeast r.key rs × Rises rs

least_falls : (n m : ℕ) (rs : List AuditRow) → n ≤ m → AreAtLeast m rs → AreAtLeast n rs
least_falls n m [] le h = tt
least_falls n m (r ∷ rs) le h = let first = h.0 in (omega arith, least_falls n m rs le h.1)

least_inserted : (n : ℕ) (r : AuditRow) (rs : List AuditRow) → n ≤ r.key → AreAtLeast n rs
    → AreAtLeast n (inserted r rs)
least_inserted n r [] le h = (le, tt)
least_inserted n r (s ∷ rs) le h = elim (cases_lt r.key s.key) [
  | inl less ↦ subst (AreAtLeast n) (sym (if_less r.key s.key _ _ less)) (le, h)
  | inr past ↦
      subst (AreAtLeast n) (sym (if_not_less r.key s.key _ _ past)) (h.0, least_inserted n r rs le h.1)
]

rises_inserted : (r : AuditRow) (rs : List AuditRow) → Rises rs → Rises (inserted r rs)
rises_inserted r [] h = (tt, tt)
rises_inserted r (s ∷ rs) h = elim (cases_lt r.key s.key) [
  | inl less ↦
      subst Rises (sym (if_less r.key s.key _ _ less))
      ((omega arith, least_falls r.key s.key rs (omega arith) h.0), h)
  | inr past ↦
      subst Rises (sym (if_not_less r.key s.key _ _ past)) (least_inserted s.key r rs past h.0, rises_inserted r rs h.1)
]

rises_sorted : (rows rs : List AuditRow) → Rises rows → Rises (sorted_from rows rs)
rises_sorted rows [] h = h
rises_sorted rows (r ∷ rs) h = rises_sorted (inserted r rows) rs (rises_inserted r rows h)

least_at : (n : ℕ) (rs : List AuditRow) (d : AuditRow) → ((j : ℕ) → j < length rs → n ≤ (get_or rs j d).key)
    → AreAtLeast n rs
least_at n [] d h = tt
least_at n (r ∷ rs) d h = (h zero (suc-le-suc zero-le), least_at n rs d (λ j lt. h (suc j) (suc-le-suc lt)))

rises_from_sort : (rs : List AuditRow) → IsNonDecreasingBy (λ (r : AuditRow). r.key) rs → Rises rs
rises_from_sort [] h = tt
rises_from_sort (r ∷ rs) h = (
  least_at r.key rs r (λ j lt. h zero (suc j) r zero-le (suc-le-suc lt)),
  rises_from_sort rs (λ i j d le lt. h (suc i) (suc j) d (suc-le-suc le) (suc-le-suc lt)),
)

-- 3. What insertion does to the rows of one key

-- none of the rows has the key, where all have greater ones
none_above : (x : AuditRow) (n : ℕ) (rs : List AuditRow) → x.key < n → AreAtLeast n rs → filter (same_key x) rs ≡ []
none_above x n [] less h = refl
none_above x n (r ∷ rs) less h = elim (cases_Bool (same_key x r)) [
  | inl with ↦ absurd (omega (arith, h.0, key_same x r with))
  | inr without ↦ dropped (same_key x) r rs without ∙ none_above x n rs less h.1
]

filter_inserted : (x r : AuditRow) (rs : List AuditRow) → Rises rs
    → filter (same_key x) (inserted r rs) ≡ filter (same_key x) (rs ++ r ∷ [])
filter_inserted x r [] h = refl
filter_inserted x r (s ∷ rs) h =
    let p = same_key x in
    elim (cases_lt r.key s.key) [
      | inl less ↦
          ap (filter p) (if_less r.key s.key _ _ less)
          ∙ elim (cases_Bool (p r)) [
            | inl with ↦
                let none : filter p (s ∷ rs) ≡ [] =
                none_above x s.key (s ∷ rs) (omega (arith, key_same x r with)) (omega arith, h.0) in
                kept p r (s ∷ rs) with ∙ ap (λ l. r ∷ l) none
                ∙ sym (filter-append p (s ∷ rs) (r ∷ []) ∙ ap (λ l. l ++ filter p (r ∷ [])) none ∙ kept p r [] with)
            | inr without ↦
                dropped p r (s ∷ rs) without
                ∙ sym
                (filter-append p (s ∷ rs) (r ∷ []) ∙ ap (λ l. filter p (s ∷ rs) ++ l) (dropped p r [] without)
                ∙ append-nil (filter p (s ∷ rs)))
          ]
      | inr past ↦
          ap (filter p) (if_not_less r.key s.key _ _ past)
          ∙ ap (λ l. cond (p s) (s ∷ l) l) (filter_inserted x r rs h.1)
    ]

filter_sorted : (x : AuditRow) (rows rs : List AuditRow) → Rises rows
    → filter (same_key x) (sorted_from rows rs) ≡ filter (same_key x) (rows ++ rs)
filter_sorted x rows [] h = ap (filter (same_key x)) (sym (append-nil rows))
filter_sorted x rows (r ∷ rs) h =
    let p = same_key x in
    filter_sorted x (inserted r rows) rs (rises_inserted r rows h)
    ∙ filter-append p (inserted r rows) rs
    ∙ ap (λ l. l ++ filter p rs) (filter_inserted x r rows h)
    ∙ sym (filter-append p (rows ++ r ∷ []) rs)
    ∙ ap (filter p) (append_assoc rows (r ∷ []) rs)

-- 4. Rising rows are known by the rows of each key

key_found : (n : ℕ) (x : AuditRow) (rs : List AuditRow) (w : AuditRow) (ws : List AuditRow) → AreAtLeast n rs
    → filter (same_key x) rs ≡ w ∷ ws → n ≤ x.key
key_found n x [] w ws h e = cc
key_found n x (r ∷ rs) w ws h e = elim (cases_Bool (same_key x r)) [
  | inl with ↦ omega (arith, h.0, key_same x r with)
  | inr without ↦ key_found n x rs w ws h.1 (sym (dropped (same_key x) r rs without) ∙ e)
]

same_rows : (rs ss : List AuditRow) → Rises rs → Rises ss
    → ((x : AuditRow) → filter (same_key x) rs ≡ filter (same_key x) ss) → rs ≡ ss
same_rows [] [] left right same = refl
same_rows [] (s ∷ ss) left right same = let clash = same s ∙ kept (same_key s) s ss (same_from s s refl) in cc
same_rows (r ∷ rs) [] left right same = let clash = sym (same r) ∙ kept (same_key r) r rs (same_from r r refl) in cc
same_rows (r ∷ rs) (s ∷ ss) left right same =
    let at_r = kept (same_key r) r rs (same_from r r refl) in
    let at_s = kept (same_key s) s ss (same_from s s refl) in
    let up = key_found s.key r (s ∷ ss) r _ (omega arith, right.0) (sym (same r) ∙ at_r) in
    let down = key_found r.key s (r ∷ rs) s _ (omega arith, left.0) (same s ∙ at_s) in
    let heads = sym at_r ∙ same r ∙ kept (same_key r) s ss (same_from r s (omega arith)) in
    let head : r ≡ s = cc in
    let tails : (x : AuditRow) → filter (same_key x) rs ≡ filter (same_key x) ss =
    λ x. elim (cases_Bool (same_key x r)) [
      | inl with ↦
          let both = sym (kept (same_key x) r rs with) ∙ same x
          ∙ kept (same_key x) s ss (ap (same_key x) (sym head) ∙ with) in cc
      | inr without ↦
          sym (dropped (same_key x) r rs without) ∙ same x
          ∙ dropped (same_key x) s ss (ap (same_key x) (sym head) ∙ without)
    ] in
    ap (λ w. w ∷ rs) head ∙ ap (λ l. s ∷ l) (same_rows rs ss left.1 right.1 tails)

-- rows that are sorted by keys, those of one key in their old order
pub sorted_is : (rows sorted : List AuditRow) → IsNonDecreasingBy (λ (r : AuditRow). r.key) sorted
    → IsStableByKey (λ (r : AuditRow). r.key) nat_cmp rows sorted → sorted ≡ sorted_from [] rows
sorted_is rows sorted rising stable =
    same_rows sorted (sorted_from [] rows) (rises_from_sort sorted rising) (rises_sorted [] rows tt)
    (λ x. stable x ∙ sym (filter_sorted x [] rows tt))
