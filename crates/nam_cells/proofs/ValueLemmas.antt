-- A stamp within what a collector knows is below the horizon; and versions by their stamps.
use Rattle.std.proofs.Common.{List, Some, [], ap, arith, eqb, false, leb, length, not, refl, slice_get, subst, suc, sym}
use Rattle.std.proofs.Common.{true, zero, ℕ, ◌&&◌, ◌+◌, ◌-◌, ◌<◌, ◌∙◌, ◌∷◌, ◌≡◌, ◌≤◌}
use Rattle.std.proofs.lemmas.Bool.{and_from, and_parts, cond_both, eq-eqb, eqb-false, eqb-true, leb-true, not-true}
use Rattle.std.proofs.lemmas.Bool.{true≢false}
use Rattle.std.proofs.lemmas.Option.{none-some, same_Some}
use Rattle.std.specs.Prelude.{Bool, slice_index}
use Rattle.nam_ghost.specs.Cells.{IsBelowHorizon}
use Rattle.nam_ghost.specs.Versions.{Version, number_by}
use Rattle.nam_header.specs.Stamp.{is_within}
use Rattle.nam_layout.specs.declared.field.Field.{Field}
use Rattle.nam_layout.specs.declared.field.Field.TheVariants.{Horizon}
use Rattle.si_model.specs.declared.log.Stamp.{Stamp}

-- a stamp within entries that are at most the horizon's is below the horizon
pub within_below : (m : Field → ℕ) (workers : ℕ) (stamp : Stamp) (known : List ℕ) → length known ≡ workers
    → ((a : ℕ) → a < length known → slice_index known a ≤ m (Horizon (a + 1))) → is_within stamp known ≡ true
    → IsBelowHorizon m workers stamp
within_below m workers stamp known long knows is =
    let some = not (eqb stamp.thread 0) in
    let small = leb stamp.thread (length known) in
    let parts = and_parts (some && small) (leb stamp.number (slice_index known (stamp.thread - 1))) is in
    let inner = and_parts some small parts.0 in
    let least = positive stamp.thread (eqb-false stamp.thread 0 (not-true _ inner.0)) in
    let most = leb-true stamp.thread (length known) inner.1 in
    let less = leb-true stamp.number (slice_index known (stamp.thread - 1)) parts.1 in
    (least, omega arith, up stamp.thread least most stamp.number less)
  where
    positive : (thread : ℕ) → (thread ≡ 0 → ⊥) → 1 ≤ thread
    positive zero some = absurd (some refl)
    positive (suc thread) some = omega arith

    up : (thread : ℕ) → 1 ≤ thread → thread ≤ length known → (number : ℕ)
        → number ≤ slice_index known (thread - 1) → number ≤ m (Horizon thread)
    up thread least most number less =
        let same : (thread - 1) + 1 ≡ thread = omega arith in
        let entry : slice_index known (thread - 1) ≤ m (Horizon thread) =
        subst (λ x. slice_index known (thread - 1) ≤ m (Horizon x)) same (knows (thread - 1) (omega arith)) in
        omega arith

-- Versions by their stamps

abbrev same_stamps : Stamp → Stamp → Bool
same_stamps a b = eqb a.thread b.thread && eqb a.number b.number

stamps_equal : (a b : Stamp) → a ≡ b → same_stamps a b ≡ true
stamps_equal a b same =
    and_from (eqb a.thread b.thread) (eqb a.number b.number)
    (eq-eqb a.thread b.thread (ap (λ (s : Stamp). s.thread) same))
    (eq-eqb a.number b.number (ap (λ (s : Stamp). s.number) same))

-- where a version bears the stamp, the number that the stamp gives is that of one that bears it
pub number_found : (vs : List Version) (stamp : Stamp) (number : ℕ) (version : Version)
    → slice_get vs number ≡ Some version → version.stamp ≡ stamp
    → (found : Version) × (slice_get vs (number_by vs stamp) ≡ Some found) × (found.stamp ≡ stamp)
unfolding number_by
number_found [] stamp number version is same = absurd (none-some version is)
number_found (v ∷ vs) stamp number version is same =
    cond_both (same_stamps v.stamp stamp) 0 (suc (number_by vs stamp))
    (λ n. (found : Version) × (slice_get (v ∷ vs) n ≡ Some found) × (found.stamp ≡ stamp))
    (λ e. let parts = and_parts (eqb v.stamp.thread stamp.thread) (eqb v.stamp.number stamp.number) e in
    let thread = eqb-true v.stamp.thread stamp.thread parts.0 in
    let at = eqb-true v.stamp.number stamp.number parts.1 in
    (v, refl, λ k. record { thread = thread k; number = at k }))
    (λ e. rest (λ n at. number_found vs stamp n version at same) number is e)
  where
    rest : ((n : ℕ) → slice_get vs n ≡ Some version
        → (found : Version) × (slice_get vs (number_by vs stamp) ≡ Some found) × (found.stamp ≡ stamp))
        → (n : ℕ) → slice_get (v ∷ vs) n ≡ Some version → same_stamps v.stamp stamp ≡ false
        → (found : Version) × (slice_get vs (number_by vs stamp) ≡ Some found) × (found.stamp ≡ stamp)
    rest again zero is apart =
        let here = ap (λ (u : Version). u.stamp) (same_Some v version is) ∙ same in
        absurd (true≢false (sym (stamps_equal v.stamp stamp here) ∙ apart))
    rest again (suc n) is apart = again n is
