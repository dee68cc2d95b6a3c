-- The newest stamp of each key that was written.
use Rattle.std.specs.Prelude.{unwrap_or}
use Rattle.std.specs.BTreeMap.{BTreeMap, get}
use Rattle.si_model.specs.declared.row.Key.{Key}
use Rattle.si_model.specs.declared.log.Stamp.{Stamp}
use Rattle.si_model.specs.declared.log.Lock.{Lock}
use Rattle.si_model.specs.Held.{key_cmp}
use Rattle.si_model.specs.History.{loader}

-- the stamp of a key, and the loader's where none is noted
abbrev pub stamp_held : BTreeMap Key Stamp → Key → Stamp
stamp_held stamps key = unwrap_or (get key_cmp stamps key) loader

-- a lock of the key, with its stamp
abbrev pub lock_held : BTreeMap Key Stamp → Key → Lock
lock_held stamps key = record { table = key.table; key = key.key; stamp = stamp_held stamps key }
