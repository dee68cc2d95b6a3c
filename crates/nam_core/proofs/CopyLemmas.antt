-- Words that are appended again and again.
use Rattle.std.proofs.Common.{◌≡◌, ℕ, ◌+◌, ◌-◌, ◌<◌, ◌≤◌, suc, zero, List, [], ◌++◌, ap, refl, sym, ◌∙◌, arith}
use Rattle.std.proofs.Common.{append-nil, append_assoc}
use Rattle.nam_protocol.specs.Opening.{copies}

copies_suc : (n : ℕ) (pattern : List ℕ) → copies (suc n) pattern ≡ pattern ++ copies n pattern
unfolding copies
copies_suc n pattern = refl

copies_zero : (pattern : List ℕ) → copies zero pattern ≡ []
unfolding copies
copies_zero pattern = refl

pub copies_next : (words : List ℕ) (n count : ℕ) (pattern : List ℕ) → n < count
    → (words ++ pattern) ++ copies (count - (n + 1)) pattern ≡ words ++ copies (count - n) pattern
copies_next words n count pattern less =
    let more : suc (count - (n + 1)) ≡ count - n = omega arith in
    append_assoc words pattern (copies (count - (n + 1)) pattern)
    ∙ ap (λ ws. words ++ ws) (sym (copies_suc (count - (n + 1)) pattern) ∙ ap (λ k. copies k pattern) more)

pub copies_done : (words : List ℕ) (n count : ℕ) (pattern : List ℕ) → count ≤ n
    → words ++ copies (count - n) pattern ≡ words
copies_done words n count pattern past =
    let none : count - n ≡ zero = omega arith in
    ap (λ k. words ++ copies k pattern) none ∙ ap (λ ws. words ++ ws) (copies_zero pattern) ∙ append-nil words
