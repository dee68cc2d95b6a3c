use Rattle.nam_calls.specs.declared.mover.MoveAnswer.TheVariants.{Moved, Back, Nothing, NoRoom}
use Rattle.nam_mover.proofs.MoveLemmas.{did_by, by_did}
use Rattle.nam_mover.proofs.laws.move_law.Goals as goal

pub returns-clause-nothing : goal.returns-clause-nothing
returns-clause-nothing c place cells fits room steps = (
  did_by place cells fits room steps Nothing,
  by_did place cells
      fits room steps Nothing,
)

pub returns-clause-no_room : goal.returns-clause-no_room
returns-clause-no_room c place cells fits room steps bucket =
    (did_by place cells fits room steps (NoRoom bucket), by_did place cells fits room steps (NoRoom bucket))

pub returns-clause-moved : goal.returns-clause-moved
returns-clause-moved c place cells fits room steps stamp =
    (did_by place cells fits room steps (Moved stamp), by_did place cells fits room steps (Moved stamp))

pub returns-clause-back : goal.returns-clause-back
returns-clause-back c place cells fits room steps stamp =
    (did_by place cells fits room steps (Back stamp), by_did place cells fits room steps (Back stamp))
