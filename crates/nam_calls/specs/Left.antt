-- How many verbs of a move and of a collection are to come at the most.
use Rattle.std.specs.Prelude.{ℕ, ◌+◌, ◌*◌}
use Rattle.nam_catalog.specs.declared.shape.Shape.{Shape}
use Rattle.nam_calls.specs.Words.{width_of}

module _ (shape : Shape) where
  -- what a move takes at the most, and a collection after its snapshot
  abbrev pub move_most : ℕ → ℕ
  move_most table = 2 * shape.cells + 2 * width_of shape table + 9

  abbrev pub collect_most : ℕ
  collect_most = 2 * shape.workers + 3 * shape.cells
