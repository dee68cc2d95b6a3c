-- What stays of cells by what a step owes: where a version stands, and what is claimed of a cell under its tag.
use Rattle.std.proofs.Common.{arith, inl, inr, subst, sym, ℕ, ⊎_elim, ◌+◌, ◌-◌, ◌<◌, ◌∙◌, ◌≡◌, ◌≤◌}
use Rattle.nam_catalog.specs.Fits.{FitsLimits}
use Rattle.nam_catalog.specs.declared.shape.Shape.{Shape}
use Rattle.nam_ghost.specs.Cells.{CellMap, InCell, IsBelowHorizon, IsElsewhere, IsEnded, IsOverflowed, copied_at}
use Rattle.nam_ghost.specs.Cells.{end_at}
use Rattle.nam_ghost.specs.Turn.{Turn}
use Rattle.nam_ghost.specs.Upkeep.{CellsNext, WhileTagged}
use Rattle.nam_layout.specs.Address.{IsCell, IsRow}
use Rattle.nam_layout.specs.Place.{bucket_of}
use Rattle.nam_layout.specs.declared.field.Field.TheVariants.{Horizon, Tag}

pub bucket_within : (shape : Shape) → FitsLimits shape → (row : ℕ) → bucket_of shape row < shape.buckets
bucket_within shape limits row = let least = limits.least_buckets in omega arith

module _ (shape : Shape) (turn : Turn shape) (after : CellMap) (i : ℕ)
    (spares : CellsNext shape turn.m turn.now turn.later turn.next turn.cells after i) where
  -- 1. Where a version stands

  pub ended_stays : (row number : ℕ) → IsRow shape row → number < copied_at shape turn.chains turn.rings row
      → IsEnded shape turn.chains turn.rings turn.m turn.cells row number
      → IsEnded shape turn.later turn.next turn.now after row number
  ended_stays row number is less ended =
      let was = end_at shape turn.chains turn.rings row number in
      subst (IsBelowHorizon turn.now shape.workers) (sym (turn.rows.ends row number is less))
      (ended.0, ended.1, up was.thread was.number ended.0 ended.1 ended.2)
    where
      up : (thread number : ℕ) → 1 ≤ thread → thread ≤ shape.workers → number ≤ turn.m (Horizon thread)
          → number ≤ turn.now (Horizon thread)
      up thread number least most less =
          let same : (thread - 1) + 1 ≡ thread = omega arith in
          let rises : turn.m (Horizon thread) ≤ turn.now (Horizon thread) =
          subst (λ w. turn.m (Horizon w) ≤ turn.now (Horizon w)) same (spares.horizon (thread - 1) (omega arith)) in
          omega arith

  pub overflow_stays : (from row number : ℕ) → IsRow shape row → number < copied_at shape turn.chains turn.rings row
      → IsOverflowed shape turn.chains turn.rings turn.m turn.cells from row number
      → IsOverflowed shape turn.later turn.next turn.now after from row number
  overflow_stays from row number is less =
      ⊎_elim (λ (in_cell : InCell shape turn.chains turn.rings turn.m turn.cells from row number).
      ⊎_elim (λ kept. inl (in_cell.0, in_cell.1, in_cell.2, kept.0)) (λ ended. inr ended)
      (spares.stored (bucket_of shape row) in_cell.0 row number (bucket_within shape turn.limits row, in_cell.2)
      in_cell.3))
      (λ ended. inr (ended_stays row number is less ended))

  pub elsewhere_stays : (row number : ℕ) → IsElsewhere shape turn.chains turn.rings turn.m turn.cells row number
      → IsElsewhere shape turn.later turn.next turn.now after row number
  elsewhere_stays row number is =
      let up = turn.rows.counts row is.0 in
      let less = is.1 in
      (is.0, omega arith, overflow_stays 0 row number is.0 is.1 is.2)

  -- 2. What is claimed of a cell under its tag

  module _ (j : ℕ) where
    tag_was : (bucket cell tag : ℕ) → IsCell shape bucket cell → tag ≤ turn.m (Tag bucket cell)
        → turn.now (Tag bucket cell) ≡ tag → turn.m (Tag bucket cell) ≡ tag
    tag_was bucket cell tag is least e = let up = spares.rises bucket cell is in omega arith

    -- a claim under a tag
    pub tagged_stays : (bucket cell tag : ℕ) (P Q : Type 0) → IsCell shape bucket cell
        → (turn.now (Tag bucket cell) ≡ turn.m (Tag bucket cell) → P → Q)
        → WhileTagged shape turn.chains turn.rings turn.m turn.cells j bucket cell tag P
        → WhileTagged shape turn.later turn.next turn.now after j bucket cell tag Q
    tagged_stays bucket cell tag P Q is goes was =
        let least = was.0 in
        let up = spares.rises bucket cell is in
        (omega arith, λ e. let same = tag_was bucket cell tag is was.0 e in goes (e ∙ sym same) (was.1 same))
