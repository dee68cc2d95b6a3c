-- A walk along a path, from one position to the next.
use Rattle.std.proofs.Common.{◌≡◌, ℕ, ◌+◌, ◌%◌, ◌<◌, ◌≤◌, sym, ap, ◌∙◌, arith}
use Rattle.std.proofs.Math.Nat.{mod-add-mod, mod-eq_of_lt, mod-lt, mod_self}
use Rattle.nam_calls.specs.Words.{on_path}

pub on_path_less : (capacity key passed : ℕ) → 1 ≤ capacity → on_path capacity key passed < capacity
on_path_less capacity key passed some = mod-lt (key % capacity + passed) (omega arith)

pub on_path_first : (capacity key : ℕ) → 1 ≤ capacity → on_path capacity key 0 ≡ key % capacity
on_path_first capacity key some =
    let none : key % capacity + 0 ≡ key % capacity = omega arith in
    ap (λ n. n % capacity) none ∙ mod-eq_of_lt (mod-lt key (omega arith))

next_is : (capacity key passed : ℕ) → on_path capacity key (passed + 1) ≡ (on_path capacity key passed + 1) % capacity
next_is capacity key passed =
    let sum : key % capacity + (passed + 1) ≡ key % capacity + passed + 1 = omega arith in
    ap (λ n. n % capacity) sum ∙ sym (mod-add-mod (key % capacity + passed) capacity 1)

pub on_path_wraps : (capacity key passed : ℕ) → on_path capacity key passed + 1 ≡ capacity
    → on_path capacity key (passed + 1) ≡ 0
on_path_wraps capacity key passed last =
    next_is capacity key passed ∙ ap (λ n. n % capacity) last ∙ mod_self capacity

pub on_path_next : (capacity key passed : ℕ) → on_path capacity key passed + 1 < capacity
    → on_path capacity key (passed + 1) ≡ on_path capacity key passed + 1
on_path_next capacity key passed more = next_is capacity key passed ∙ mod-eq_of_lt more
