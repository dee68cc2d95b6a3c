use Rattle.std.proofs.Common.{◌≡◌, ℕ, drop, length}
use Rattle.nam_catalog.specs.declared.shape.Shape.{Shape}
use Rattle.nam_layout.specs.Place.{place_at}
use Rattle.nam_protocol.specs.Opening.{with_value, with_row}
use Rattle.nam_core.proofs.load.put_row.Given as goal

abbrev pub invariant-loop-nth : goal.invariant-loop-nth
invariant-loop-nth l = record {
  long : length l.words ≡ length l.fn.words;
  rest :
      (shape : Shape) (at : ℕ) → l.place ≡ place_at shape at
      → with_value shape at l.nth (drop l.nth l.row.value) l.words ≡ with_row shape at l.row l.fn.words;
}
