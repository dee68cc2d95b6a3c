-- Rows sorted by key are the same rows, and rise where no two have one key; and lists that rise are one where they have
-- the same elements.
use Rattle.std.proofs.Common.{List, [], ap, arith, inl, inr, refl, subst, sym, ℕ, ◌<◌, ◌∙◌, ◌∷◌, ◌≡◌, ◌≢◌, ◌⊎◌}
use Rattle.std.proofs.lemmas.Bool.{ltb-false, ltb-true}
use Rattle.std.specs.Prelude.{nat_lt}
use Rattle.nam_protocol.specs.ScanCall.{inserted, sorted_onto}
use Rattle.nam_protocol.specs.declared.client.Scanned.{Scanned}
use Rattle.nam_verbs.proofs.TestLemmas.{by_test}
use Rattle.si_model.proofs.ListLemmas.{All-from_listed, All-listed}
use Rattle.si_model.specs.Lists.{Listed, Pairwise}

-- 1. One row is inserted

module _ (row : Scanned) where
  insert_from : (rows : List Scanned) (x : Scanned) → Listed x (inserted row rows) → (row ≡ x) ⊎ Listed x rows
  insert_from [] x listed = listed
  insert_from (r ∷ rs) x listed =
      by_test (λ all. Listed x all → (row ≡ x) ⊎ Listed x (r ∷ rs)) (nat_lt row.key r.key) (row ∷ r ∷ rs)
      (r ∷ inserted row rs) (λ e here. here)
      (λ e here. elim here [
        | inl first ↦ inr (inl first)
        | inr later ↦ elim (insert_from rs x later) [
          | inl same ↦ inl same
          | inr there ↦ inr (inr there)
        ]
      ])
      listed

  insert_has : (rows : List Scanned) (x : Scanned) → (row ≡ x) ⊎ Listed x rows → Listed x (inserted row rows)
  insert_has [] x has = has
  insert_has (r ∷ rs) x has =
      by_test (λ all. Listed x all) (nat_lt row.key r.key) (row ∷ r ∷ rs) (r ∷ inserted row rs) (λ e. has)
      (λ e. elim has [
        | inl same ↦ inr (insert_has rs x (inl same))
        | inr there ↦ elim there [
          | inl first ↦ inl first
          | inr later ↦ inr (insert_has rs x (inr later))
        ]
      ])

  -- rows that rise do so with it, where none has its key
  insert_rises : (rows : List Scanned) → Pairwise (λ (a b : Scanned). a.key < b.key) rows
      → ((x : Scanned) → Listed x rows → x.key ≢ row.key)
      → Pairwise (λ (a b : Scanned). a.key < b.key) (inserted row rows)
  insert_rises [] rises apart = (tt, tt)
  insert_rises (r ∷ rs) rises apart =
      by_test (Pairwise (λ (a b : Scanned). a.key < b.key)) (nat_lt row.key r.key) (row ∷ r ∷ rs) (r ∷ inserted row rs)
      (λ e.
      let less = ltb-true row.key r.key e in (
        (
          less,
          All-from_listed (λ (x : Scanned). row.key < x.key) rs (λ x listed.
              let more = All-listed (λ (y : Scanned). r.key < y.key) rs x rises.0 listed in omega arith),
        ),
        rises,
      ))
      (λ e.
      let least = ltb-false row.key r.key e in
      let other = apart r (inl refl) in (
        All-from_listed (λ (x : Scanned). r.key < x.key) (inserted row rs) (λ x listed.
            elim (insert_from rs x listed) [
              | inl same ↦ subst (λ (y : Scanned). r.key < y.key) same (omega arith)
              | inr there ↦ All-listed (λ (y : Scanned). r.key < y.key) rs x rises.0 there
            ]),
        insert_rises rs rises.1 (λ x listed. apart x (inr listed)),
      ))

-- 2. All of them

pub sort_from : (done rows : List Scanned) (x : Scanned) → Listed x (sorted_onto done rows)
    → Listed x done ⊎ Listed x rows
sort_from done [] x listed = inl listed
sort_from done (r ∷ rs) x listed = elim (sort_from (inserted r done) rs x listed) [
  | inl here ↦ elim (insert_from r done x here) [
    | inl same ↦ inr (inl same)
    | inr there ↦ inl there
  ]
  | inr later ↦ inr (inr later)
]

pub sort_has : (done rows : List Scanned) (x : Scanned) → Listed x done ⊎ Listed x rows
    → Listed x (sorted_onto done rows)
sort_has done [] x has = elim has [
  | inl here ↦ here
  | inr none ↦ absurd none
]
sort_has done (r ∷ rs) x has = sort_has (inserted r done) rs x (elim has [
  | inl here ↦ inl (insert_has r done x (inr here))
  | inr there ↦ elim there [
    | inl same ↦ inl (insert_has r done x (inl same))
    | inr later ↦ inr later
  ]
])

pub sort_rises : (done rows : List Scanned) → Pairwise (λ (a b : Scanned). a.key < b.key) done
    → Pairwise (λ (a b : Scanned). a.key ≢ b.key) rows
    → ((x y : Scanned) → Listed x done → Listed y rows → x.key ≢ y.key)
    → Pairwise (λ (a b : Scanned). a.key < b.key) (sorted_onto done rows)
sort_rises done [] rises apart others = rises
sort_rises done (r ∷ rs) rises apart others =
    sort_rises (inserted r done) rs (insert_rises r done rises (λ x listed. others x r listed (inl refl))) apart.1
    (λ x y one other. elim (insert_from r done x one) [
      | inl same ↦
          subst (λ (z : Scanned). z.key ≢ y.key) same
          (All-listed (λ (z : Scanned). r.key ≢ z.key) rs y apart.0 other)
      | inr there ↦ others x y there (inr other)
    ])

-- 3. Lists that rise

module _ {A : Type 0} (number : A → ℕ) where
  abbrev pub Rises : List A → Type 0
  Rises xs = Pairwise (λ a b. number a < number b) xs

  -- another element than the first comes after it
  rest_of : (x y : A) (xs ys : List A) → Rises (x ∷ xs) → x ≡ y → ((z : A) → Listed z (x ∷ xs) → Listed z (y ∷ ys))
      → (z : A) → Listed z xs → Listed z ys
  rest_of x y xs ys rises same has z listed = elim (has z (inr listed)) [
    | inl first ↦
        let more = All-listed (λ u. number x < number u) xs z rises.0 listed in
        let one : number x ≡ number z = ap number (same ∙ first) in
        absurd (omega arith)
    | inr there ↦ there
  ]

  first_same : (x y : A) (xs ys : List A) → Rises (x ∷ xs) → Rises (y ∷ ys) → Listed x (y ∷ ys) → Listed y (x ∷ xs)
      → x ≡ y
  first_same x y xs ys one other here there = elim here [
    | inl same ↦ sym same
    | inr later ↦ elim there [
      | inl same ↦ same
      | inr after ↦
          let more = All-listed (λ u. number y < number u) ys x other.0 later in
          let less = All-listed (λ u. number x < number u) xs y one.0 after in
          absurd (omega arith)
    ]
  ]

  pub rising_same : (xs ys : List A) → Rises xs → Rises ys → ((z : A) → Listed z xs → Listed z ys)
      → ((z : A) → Listed z ys → Listed z xs) → xs ≡ ys
  rising_same [] [] one other has from = refl
  rising_same [] (y ∷ ys) one other has from = absurd (from y (inl refl))
  rising_same (x ∷ xs) [] one other has from = absurd (has x (inl refl))
  rising_same (x ∷ xs) (y ∷ ys) one other has from =
      let same = first_same x y xs ys one other (has x (inl refl)) (from y (inl refl)) in
      let rest = rising_same xs ys one.1 other.1 (rest_of x y xs ys one same has)
      (rest_of y x ys xs other (sym same) from) in
      λ i. same i ∷ rest i
