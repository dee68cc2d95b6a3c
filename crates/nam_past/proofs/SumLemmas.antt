-- Sums: over all workers the stamps of an order are as many as it has; and a snapshot's entries above the start, as a
-- number and modulo 2^64.
use Rattle.std.proofs.Common.{List, Some, [], ap, arith, inl, inr, length, refl, suc, sym, zero, ℕ, ◌*◌, ◌+◌, ◌-◌, ◌<◌}
use Rattle.std.proofs.Common.{◌^◌, ◌∙◌, ◌∷◌, ◌≡◌, ◌≢◌, ◌≤◌}
use Rattle.std.proofs.Math.Nat.{add-mod_left, mod-eq_of_lt}
use Rattle.std.proofs.lemmas.Bool.{cases_eq}
use Rattle.std.specs.Prelude.{slice_get, slice_index}
use Rattle.nam_calls.specs.Words.{wrapped}
use Rattle.nam_past.proofs.CountLemmas.{count_other, count_own}
use Rattle.nam_past.specs.Past.{count_of}
use Rattle.nam_protocol.specs.Log.{prefix_of}
use Rattle.si_model.specs.Snapshots.{sum_above}
use Rattle.si_model.specs.declared.log.Stamp.{Stamp}

-- 1. Over so many workers, from one on

abbrev pub sum_over : (ℕ → ℕ) → ℕ → ℕ → ℕ
sum_over f from zero = 0
sum_over f from (suc workers) = f from + sum_over f (suc from) workers

sum_none : (from workers : ℕ) → sum_over (λ a. 0) from workers ≡ 0
sum_none from zero = refl
sum_none from (suc workers) = let rest = sum_none (suc from) workers in omega arith

sum_same : (f g : ℕ → ℕ) (from workers : ℕ) → ((a : ℕ) → from ≤ a → f a ≡ g a)
    → sum_over f from workers ≡ sum_over g from workers
sum_same f g from zero same = refl
sum_same f g from (suc workers) same =
    let first = same from (omega arith) in
    let rest = sum_same f g (suc from) workers (λ a less. same a (omega arith)) in omega arith

-- one of them has one more
sum_more : (f g : ℕ → ℕ) (worker from workers : ℕ) → from ≤ worker → worker < from + workers
    → f worker ≡ g worker + 1 → ((a : ℕ) → a ≢ worker → f a ≡ g a)
    → sum_over f from workers ≡ sum_over g from workers + 1
sum_more f g worker from zero least less one others = absurd (omega arith)
sum_more f g worker from (suc workers) least less one others = elim (cases_eq from worker) [
  | inl here ↦
      let first : f from ≡ g from + 1 = ap f here ∙ one ∙ ap (λ a. g a + 1) (sym here) in
      let rest = sum_same f g (suc from) workers (λ a past. others a (λ e. omega arith)) in omega arith
  | inr apart ↦
      let first = others from apart in
      let rest = sum_more f g worker (suc from) workers (omega arith) (omega arith) one others in omega arith
]

-- 2. Stamps

-- it is one of so many workers'
pub record IsWorkers (workers : ℕ) (stamp : Stamp) : Type 0 where
  pub worker : ℕ
  pub inside : worker < workers
  pub thread : stamp.thread ≡ worker + 1

pub all_counted : (order : List Stamp) (workers : ℕ)
    → ((place : ℕ) (stamp : Stamp) → slice_get order place ≡ Some stamp → IsWorkers workers stamp)
    → sum_over (λ a. count_of a order) 0 workers ≡ length order
all_counted [] workers all = sum_none 0 workers
all_counted (x ∷ xs) workers all =
    let own = all zero x refl in
    let inside = own.inside in
    let thread = own.thread in
    let rest = all_counted xs workers (λ place. all (suc place)) in
    let more = sum_more (λ a. count_of a (x ∷ xs)) (λ a. count_of a xs) own.worker 0 workers (omega arith) (omega arith)
    (count_own own.worker x xs own.thread) (λ a apart. count_other a x xs (λ e. apart (omega arith))) in
    omega arith

-- 3. Entries

pub sum_entries : (start : ℕ) (f : ℕ → ℕ) (s : List ℕ) (from : ℕ)
    → ((a b : ℕ) → a < length s → b ≡ from + a → slice_index s a ≡ start + f b)
    → sum_above start s ≡ sum_over f from (length s)
sum_entries start f [] from each = refl
sum_entries start f (n ∷ ns) from each =
    let first = each zero from (omega arith) (omega arith) in
    let rest = sum_entries start f ns (suc from) (λ a b less is. each (suc a) b (omega arith) (omega arith)) in
    omega arith

pub sum_most : (start most : ℕ) (s : List ℕ) → ((a : ℕ) → a < length s → slice_index s a ≤ most)
    → sum_above start s ≤ length s * most
sum_most start most [] each = omega arith
sum_most start most (n ∷ ns) each =
    let first = each zero (omega arith) in
    let rest = sum_most start most ns (λ a less. each (suc a) (omega arith)) in omega arith

-- nothing wraps
pub prefix_sum : (start : ℕ) (s : List ℕ) → start ≤ 2 ^ 64 → ((a : ℕ) → a < length s → start ≤ slice_index s a)
    → sum_above start s < 2 ^ 64 → prefix_of start s ≡ sum_above start s
prefix_sum start [] small least fits = refl
prefix_sum start (n ∷ ns) small least fits =
    let above = least zero (omega arith) in
    let rest = prefix_sum start ns small (λ a less. least (suc a) (omega arith)) (omega arith) in
    let moved : n + (2 ^ 64 - start) ≡ 2 ^ 64 + (n - start) = omega arith in
    let entry : wrapped (n + (2 ^ 64 - start)) ≡ n - start =
    ap wrapped moved ∙ add-mod_left (2 ^ 64) (n - start) ∙ mod-eq_of_lt (omega arith) in
    ap wrapped (omega (arith, entry, rest)) ∙ mod-eq_of_lt fits
