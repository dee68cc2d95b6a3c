-- A log that grows, and the room that it has.
use Rattle.std.specs.Prelude.{max}
use Rattle.si_model.specs.declared.log.Log.{Log}
use Rattle.nam_log.specs.declared.room.LogRoom.{LogRoom}

-- what is listed, and how much more may be listed without memory
pub record Running : Type 0 where
  pub log : Log
  pub room : LogRoom

abbrev pub no_room : LogRoom
no_room = record { events = 0; reads = 0; locks = 0; writes = 0; snaps = 0 }

-- of each count the greater
abbrev pub greater_room : LogRoom → LogRoom → LogRoom
greater_room a b = record {
  events = max a.events b.events;
  reads = max a.reads b.reads;
  locks = max a.locks b.locks;
  writes = max a.writes b.writes;
  snaps = max a.snaps b.snaps;
}
