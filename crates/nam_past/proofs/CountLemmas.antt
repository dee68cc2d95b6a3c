-- Counting stamps in a front of an order: one publication more, later moments, and the place of each number.
use Rattle.std.proofs.Common.{List, Some, [], ap, arith, inl, inr, le_refl, length, refl, suc, take, zero, ℕ, ◌++◌, ◌+◌}
use Rattle.std.proofs.Common.{◌<◌, ◌∷◌, ◌≡◌, ◌≢◌, ◌≤◌}
use Rattle.std.proofs.lemmas.Bool.{cases_eq}
use Rattle.std.proofs.lemmas.List.{take-append-le, take_all}
use Rattle.std.proofs.lemmas.Option.{none-some, same_Some}
use Rattle.std.specs.Prelude.{slice_get}
use Rattle.nam_past.specs.Past.{count_of, entry_after}
use Rattle.nam_verbs.proofs.TestLemmas.{by_equal}
use Rattle.si_model.specs.declared.log.Stamp.{Stamp}

-- 1. Stamps of one worker

pub count_own : (worker : ℕ) (stamp : Stamp) (rest : List Stamp) → stamp.thread ≡ worker + 1
    → count_of worker (stamp ∷ rest) ≡ count_of worker rest + 1
count_own worker stamp rest own =
    by_equal (λ n. n + count_of worker rest ≡ count_of worker rest + 1) stamp.thread (worker + 1) 1 0
    (λ e. omega arith) (λ other. absurd (other own))

pub count_other : (worker : ℕ) (stamp : Stamp) (rest : List Stamp) → stamp.thread ≢ worker + 1
    → count_of worker (stamp ∷ rest) ≡ count_of worker rest
count_other worker stamp rest other =
    by_equal (λ n. n + count_of worker rest ≡ count_of worker rest) stamp.thread (worker + 1) 1 0
    (λ e. absurd (other e)) (λ e. omega arith)

count_end : (worker : ℕ) (order : List Stamp) (stamp : Stamp)
    → count_of worker (order ++ stamp ∷ []) ≡ count_of worker order + count_of worker (stamp ∷ [])
count_end worker [] stamp = omega arith
count_end worker (x ∷ xs) stamp = let rest = count_end worker xs stamp in omega arith

-- 2. Fronts

count_rises : (worker : ℕ) (order : List Stamp) (i j : ℕ) → i ≤ j
    → count_of worker (take i order) ≤ count_of worker (take j order)
count_rises worker order zero j less = omega arith
count_rises worker order (suc i) zero less = absurd (omega arith)
count_rises worker [] (suc i) (suc j) less = omega arith
count_rises worker (x ∷ xs) (suc i) (suc j) less = let rest = count_rises worker xs i j (omega arith) in omega arith

count_next : (worker : ℕ) (order : List Stamp) (place : ℕ) (stamp : Stamp) → slice_get order place ≡ Some stamp
    → count_of worker (take (suc place) order) ≡ count_of worker (take place order) + count_of worker (stamp ∷ [])
count_next worker [] place stamp e = absurd (none-some stamp e)
count_next worker (x ∷ xs) zero stamp e =
    let same = ap (λ s. count_of worker (s ∷ [])) (same_Some x stamp e) in omega arith
count_next worker (x ∷ xs) (suc place) stamp e = let rest = count_next worker xs place stamp e in omega arith

-- a stamp of this worker that stands in the order, within a front of so many, after so many others of its own
pub record Stands (order : List Stamp) (worker count before : ℕ) : Type 0 where
  pub place : ℕ
  pub stamp : Stamp
  pub within : place < count
  pub is : slice_get order place ≡ Some stamp
  pub thread : stamp.thread ≡ worker + 1
  pub others : count_of worker (take place order) ≡ before

stands_first : (x : Stamp) (xs : List Stamp) (worker count : ℕ) → x.thread ≡ worker + 1
    → Stands (x ∷ xs) worker (suc count) 0
stands_first x xs worker count own =
    record { place = 0; stamp = x; within = omega arith; is = refl; thread = own; others = refl }

stands_later : (x : Stamp) (xs : List Stamp) (worker count before now : ℕ) (at : Stands xs worker count before)
    → count_of worker (x ∷ take at.place xs) ≡ now → Stands (x ∷ xs) worker (suc count) now
stands_later x xs worker count before now at others = record {
  place = suc at.place;
  stamp = at.stamp;
  within = let within = at.within in omega arith;
  is = at.is;
  thread = at.thread;
  others = others;
}

stands_own : (x : Stamp) (xs : List Stamp) (worker count before : ℕ) → x.thread ≡ worker + 1
    → before < count_of worker (x ∷ take count xs)
    → ((n : ℕ) → n < count_of worker (take count xs) → Stands xs worker count n)
    → Stands (x ∷ xs) worker (suc count) before
stands_own x xs worker count zero own less rest = stands_first x xs worker count own
stands_own x xs worker count (suc n) own less rest =
    let more = count_own worker x (take count xs) own in
    let at = rest n (omega arith) in
    let others = at.others in
    let place = count_own worker x (take at.place xs) own in
    stands_later x xs worker count n (suc n) at (omega arith)

-- each number that is counted stands there
pub stands : (order : List Stamp) (worker count before : ℕ) → before < count_of worker (take count order)
    → Stands order worker count before
stands order worker zero before less = absurd (omega arith)
stands [] worker (suc count) before less = absurd (omega arith)
stands (x ∷ xs) worker (suc count) before less = elim (cases_eq x.thread (worker + 1)) [
  | inl own ↦ stands_own x xs worker count before own less (stands xs worker count)
  | inr other ↦
      let same = count_other worker x (take count xs) other in
      let at = stands xs worker count before (omega arith) in
      let others = at.others in
      let place = count_other worker x (take at.place xs) other in
      stands_later x xs worker count before before at (omega arith)
]

-- 3. Entries

module _ (start : ℕ) (order : List Stamp) where
  -- moments stay what they were
  pub after_stays : (stamp : Stamp) (count worker : ℕ) → count ≤ length order
      → entry_after start (order ++ stamp ∷ []) count worker ≡ entry_after start order count worker
  after_stays stamp count worker less =
      ap (λ front. start + count_of worker front) (take-append-le count order (stamp ∷ []) less)

  pub after_all : (worker : ℕ) → entry_after start order (length order) worker ≡ start + count_of worker order
  after_all worker =
      ap (λ front. start + count_of worker front) (take_all (length order) order (le_refl (length order)))

  pub after_rises : (i j worker : ℕ) → i ≤ j → entry_after start order i worker ≤ entry_after start order j worker
  after_rises i j worker less = let more = count_rises worker order i j less in omega arith

  pub after_next : (place worker : ℕ) (stamp : Stamp) → slice_get order place ≡ Some stamp
      → stamp.thread ≡ worker + 1
      → entry_after start order (suc place) worker ≡ entry_after start order place worker + 1
  after_next place worker stamp at own =
      let next = count_next worker order place stamp at in
      let one = count_own worker stamp [] own in omega arith

  -- one publication more
  module _ (stamp : Stamp) where
    longer : (worker : ℕ) → entry_after start (order ++ stamp ∷ []) (length (order ++ stamp ∷ [])) worker
        ≡ start + count_of worker (order ++ stamp ∷ [])
    longer worker =
        ap (λ front. start + count_of worker front)
        (take_all (length (order ++ stamp ∷ [])) (order ++ stamp ∷ []) (le_refl (length (order ++ stamp ∷ []))))

    pub more_own : (worker : ℕ) → stamp.thread ≡ worker + 1
        → entry_after start (order ++ stamp ∷ []) (length (order ++ stamp ∷ [])) worker
        ≡ entry_after start order (length order) worker + 1
    more_own worker own =
        let now = longer worker in
        let all = after_all worker in
        let pushed = count_end worker order stamp in
        let one = count_own worker stamp [] own in omega arith

    pub more_other : (worker : ℕ) → stamp.thread ≢ worker + 1
        → entry_after start (order ++ stamp ∷ []) (length (order ++ stamp ∷ [])) worker
        ≡ entry_after start order (length order) worker
    more_other worker other =
        let now = longer worker in
        let all = after_all worker in
        let pushed = count_end worker order stamp in
        let none = count_other worker stamp [] other in omega arith
