-- A walk along the path of a key.
use Rattle.std.specs.Prelude.{◌≡◌, ◌<◌}
use Rattle.nam_calls.specs.Index.{nth_position}
use Rattle.nam_index.specs.Path.{FitsPath}
use Rattle.nam_txn.specs.declared.walk.Walk.{Walk}

-- it is at the position that follows as many as it has passed
pub record IsWalk (walk : Walk) : Type 0 where
  pub path : FitsPath walk.path
  pub passed : walk.passed < walk.path.capacity
  pub position : walk.position ≡ nth_position walk.path walk.passed
  pub start : walk.start ≡ nth_position walk.path 0
