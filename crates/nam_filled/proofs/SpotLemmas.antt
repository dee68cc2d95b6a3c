-- One cell is put, or gets one more holder; and what becomes of the others.
use Rattle.std.proofs.Common.{List, [], ap, inl, inr, refl, subst, sym, ℕ, ⊎_elim, ◌++◌, ◌∷◌, ◌≡◌}
use Rattle.std.proofs.Common.{◌&&◌, ◌⊎◌}
use Rattle.std.specs.Prelude.{if◌then◌else◌, ◌==◌}
use Rattle.std.proofs.lemmas.Bool.{and_from, and_parts, cases_eq, eq-eqb, eqb-true}
use Rattle.nam_filled.specs.Holders.{Holders, Mover, add_holder}
use Rattle.nam_ghost.specs.Cells.{Cell, CellMap, put_cell}
use Rattle.nam_layout.specs.declared.field.Field.TheVariants.{Tag}
use Rattle.nam_layout.specs.declared.field.Field.{Field}
use Rattle.nam_verbs.proofs.TestLemmas.{by_test}

abbrev pub IsSpot : ℕ → ℕ → ℕ → ℕ → Type 0
IsSpot bucket cell b c = (b ≡ bucket) × (c ≡ cell)

pub spot_cases : (bucket cell b c : ℕ) → IsSpot bucket cell b c ⊎ (IsSpot bucket cell b c → ⊥)
spot_cases bucket cell b c =
    ⊎_elim (λ (e : b ≡ bucket). ⊎_elim (λ (f : c ≡ cell). inl (e, f)) (λ apart. inr (λ spot. apart spot.1))
    (cases_eq c cell)) (λ apart. inr (λ spot. apart spot.0)) (cases_eq b bucket)

-- a claim of the spot
pub at_spot : (P : ℕ → ℕ → Type 0) (bucket cell b c : ℕ) → IsSpot bucket cell b c → P bucket cell → P b c
at_spot P bucket cell b c spot is = subst (λ (z : ℕ × ℕ). P z.0 z.1) (λ k. (sym spot.0 k, sym spot.1 k)) is

module _ (bucket cell b c : ℕ) where
  -- by the test of the spot
  tested : {A : Type 0} (P : A → Type 0) (x y : A) → (IsSpot bucket cell b c → P x)
      → ((IsSpot bucket cell b c → ⊥) → P y) → P (if (b == bucket) && (c == cell) then x else y)
  tested P x y here beside =
      by_test P ((b == bucket) && (c == cell)) x y
      (λ e. let t = and_parts (b == bucket) (c == cell) e in here (eqb-true b bucket t.0, eqb-true c cell t.1))
      (λ e. beside (λ spot. absurd (cc (
        e,
        and_from (b == bucket) (c == cell) (eq-eqb b bucket spot.0) (eq-eqb c cell spot.1),
      ))))

  pub put_apart : (cells : CellMap) (x : Cell) → (IsSpot bucket cell b c → ⊥)
      → put_cell cells bucket cell x b c ≡ cells b c
  put_apart cells x apart = tested (λ y. y ≡ cells b c) x (cells b c) (λ spot. absurd (apart spot)) (λ beside. refl)

  module _ (holders : Holders) (mover : Mover) where
    pub added_cases : (P : List Mover → Type 0) → (b ≡ bucket → c ≡ cell → P (holders b c ++ mover ∷ []))
        → P (holders b c) → P (add_holder holders bucket cell mover b c)
    added_cases P here beside =
        tested P (holders b c ++ mover ∷ []) (holders b c) (λ spot. here spot.0 spot.1) (λ apart. beside)

    pub added_apart : (IsSpot bucket cell b c → ⊥) → add_holder holders bucket cell mover b c ≡ holders b c
    added_apart apart =
        tested (λ xs. xs ≡ holders b c) (holders b c ++ mover ∷ []) (holders b c) (λ spot. absurd (apart spot))
        (λ beside. refl)

module _ (bucket cell : ℕ) where
  pub put_here : (cells : CellMap) (x : Cell) → put_cell cells bucket cell x bucket cell ≡ x
  put_here cells x =
      tested bucket cell bucket cell (λ y. y ≡ x) x (cells bucket cell) (λ spot. refl)
      (λ apart. absurd (apart (refl, refl)))

  pub added_here : (holders : Holders) (mover : Mover)
      → add_holder holders bucket cell mover bucket cell ≡ holders bucket cell ++ mover ∷ []
  added_here holders mover =
      tested bucket cell bucket cell (λ xs. xs ≡ holders bucket cell ++ mover ∷ [])
      (holders bucket cell ++ mover ∷ []) (holders bucket cell) (λ spot. refl) (λ apart. absurd (apart (refl, refl)))

bucket_in : Field → ℕ
bucket_in (Tag bucket cell) = bucket
bucket_in _ = 0

cell_in : Field → ℕ
cell_in (Tag bucket cell) = cell
cell_in _ = 0

pub tag_one : {b c bucket cell : ℕ} → Tag b c ≡ Tag bucket cell → IsSpot bucket cell b c
unfolding bucket_in cell_in
tag_one same = (ap bucket_in same, ap cell_in same)
