-- What a found word of a key's path tells, of the words as they are after it was found.
use Rattle.std.proofs.Common.{ap, arith, inl, inr, subst, sym, ℕ, ◌+◌, ◌∙◌, ◌≡◌, ◌≢◌}
use Rattle.std.proofs.lemmas.Bool.{cases_lt, eqb-false, eqb-true, or_cases, or_parts}
use Rattle.std.specs.Prelude.{◌==◌, ◌||◌}
use Rattle.nam_calls.proofs.FieldLemmas.{key_is}
use Rattle.nam_calls.specs.Index.{claim_key_after, claim_key_next, find_after, nth_key, nth_position}
use Rattle.nam_calls.specs.Words.{capacity_of, key_word, path_of}
use Rattle.nam_calls.specs.declared.index.ClaimKeyPoint.TheVariants.{KeyLook, KeyTake}
use Rattle.nam_calls.specs.declared.index.Path.{Path}
use Rattle.nam_catalog.specs.declared.shape.Shape.{Shape}
use Rattle.nam_ghost.specs.Keys.{Bears, IsPast}
use Rattle.nam_keys.specs.Tells.{ClaimTells, FindTells}
use Rattle.nam_layout.specs.declared.field.Field.{Field}
use Rattle.nam_verbs.proofs.TestLemmas.{by_equal, by_test}
use Rattle.si_model.specs.declared.row.Key.{Key}

-- nothing was passed
pub none_past : (shape : Shape) (m : Field → ℕ) (table key : ℕ) → IsPast shape m table key 0
none_past shape m table key q less = absurd (omega arith)

module _ (shape : Shape) (m : Field → ℕ) (key : Key) (passed found : ℕ)
    (past : IsPast shape m key.table key.key passed) where
  abbrev path : Path
  path = path_of shape key.table key.key

  abbrev word : ℕ
  word = m (nth_key (path_of shape key.table key.key) passed)

  -- one position more was passed
  pub past_more : word ≢ 0 → word ≢ key_word key.key → IsPast shape m key.table key.key (passed + 1)
  past_more some other q less = elim (cases_lt q passed) [
    | inl before ↦ past q before
    | inr least ↦
        let here : passed ≡ q = omega arith in
        subst (λ k. let w = m (nth_key (path_of shape key.table key.key) k) in (w ≢ 0) × (w ≢ key_word key.key)) here
        (some, other)
  ]

  bears_here : word ≡ key_word key.key
      → Bears shape m key.table key.key (nth_position (path_of shape key.table key.key) passed)
  bears_here here = ap m (sym (key_is shape key.table key.key passed)) ∙ here

  -- a key word that was found stands
  module _ (says : found ≢ 0 → word ≡ found) where
    found_key : found ≡ key_word key.key
        → Bears shape m key.table key.key (nth_position (path_of shape key.table key.key) passed)
    found_key e = bears_here (says (λ none. omega arith) ∙ e)

    found_other : found ≢ 0 → found ≢ key_word key.key → IsPast shape m key.table key.key (passed + 1)
    found_other some other =
        past_more (λ none. some (sym (says some) ∙ none)) (λ same. other (sym (says some) ∙ same))

    pub find_tells : FindTells shape m key (find_after path passed found)
    find_tells =
        by_equal (FindTells shape m key) found (key_word key.key) _ _ found_key
        (λ other. by_test (FindTells shape m key) ((found == 0) || (passed + 1 == capacity_of shape key.table)) _ _
        (λ e. tt) (λ e. found_other (eqb-false found 0 (or_parts (found == 0) _ e).0) other))

    next_tells : IsPast shape m key.table key.key (passed + 1) → ClaimTells shape m key (claim_key_next path passed)
    next_tells more =
        by_equal (ClaimTells shape m key) (passed + 1) (capacity_of shape key.table) _ _
        (λ e. subst (IsPast shape m key.table key.key) e more) (λ e. more)

    pub look_tells : ClaimTells shape m key (claim_key_after path (KeyLook passed) found)
    look_tells =
        by_equal (ClaimTells shape m key) found (key_word key.key) _ _ found_key
        (λ other. by_equal (ClaimTells shape m key) found 0 _ _ (λ none. past)
        (λ some. next_tells (found_other some other)))

    -- where no key was found the exchange has left the key
    pub take_tells : (found ≡ 0 → word ≡ key_word key.key)
        → ClaimTells shape m key (claim_key_after path (KeyTake passed) found)
    take_tells taken =
        by_test (ClaimTells shape m key) ((found == 0) || (found == key_word key.key)) _ _
        (λ e. elim (or_cases (found == 0) (found == key_word key.key) e) [
          | inl none ↦ bears_here (taken (eqb-true found 0 none))
          | inr same ↦ found_key (eqb-true found (key_word key.key) same)
        ])
        (λ e. let parts = or_parts (found == 0) (found == key_word key.key) e in
        next_tells (found_other (eqb-false found 0 parts.0) (eqb-false found (key_word key.key) parts.1)))
