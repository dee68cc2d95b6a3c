use Rattle.nam_protocol.proofs.RoomDriver.{room_suffices}
use Rattle.nam_protocol.proofs.laws_room.room_suffices.Goals as goal

pub returns : goal.returns
returns c = room_suffices
