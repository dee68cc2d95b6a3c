-- Sums of snapshots: along a chain they rise, since each version's writer has seen the version before, which that one's
-- writer had not; so a chain is no longer than its last snapshot's sum.
use Rattle.std.proofs.Common.{List, [], arith, length, suc, zero, ℕ, ◌*◌, ◌+◌, ◌<◌, ◌∷◌, ◌≡◌}
use Rattle.std.proofs.Common.{◌≤◌}
use Rattle.std.specs.Prelude.{slice_index}

abbrev pub total : List ℕ → ℕ
total [] = 0
total (x ∷ xs) = x + total xs

pub total_most : (most : ℕ) (xs : List ℕ) → ((a : ℕ) → a < length xs → slice_index xs a ≤ most)
    → total xs ≤ length xs * most
total_most most [] small = omega arith
total_most most (x ∷ xs) small =
    let first = small 0 (omega arith) in
    let rest = total_most most xs (λ a less. small (suc a) (omega arith)) in omega arith

total_grows : (xs ys : List ℕ) → length xs ≡ length ys
    → ((a : ℕ) → a < length xs → slice_index xs a ≤ slice_index ys a) → total xs ≤ total ys
total_grows [] [] long most = omega arith
total_grows [] (y ∷ ys) long most = absurd (omega arith)
total_grows (x ∷ xs) [] long most = absurd (omega arith)
total_grows (x ∷ xs) (y ∷ ys) long most =
    let first = most 0 (omega arith) in
    let rest = total_grows xs ys (omega arith) (λ a less. most (suc a) (omega arith)) in omega arith

-- where one is at most the other, and less at one entry, so are the sums
pub total_rises : (xs ys : List ℕ) → length xs ≡ length ys
    → ((a : ℕ) → a < length xs → slice_index xs a ≤ slice_index ys a) → (n : ℕ) → n < length xs
    → slice_index xs n < slice_index ys n → total xs < total ys
total_rises [] ys long most n less rises = absurd (omega arith)
total_rises (x ∷ xs) [] long most n less rises = absurd (omega arith)
total_rises (x ∷ xs) (y ∷ ys) long most zero less rises =
    let rest = total_grows xs ys (omega arith) (λ a short. most (suc a) (omega arith)) in omega arith
total_rises (x ∷ xs) (y ∷ ys) long most (suc n) less rises =
    let first = most 0 (omega arith) in
    let rest = total_rises xs ys (omega arith) (λ a short. most (suc a) (omega arith)) n (omega arith) rises in
    omega arith
