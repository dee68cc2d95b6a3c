use Rattle.std.proofs.Common.{◌≡◌, ◌++◌, drop}
use Rattle.std.specs.Prelude.{map}
use Rattle.namdb.specs.Stamps.{lock_held}
use Rattle.namdb.proofs.stamps.locks_on.Given as goal

-- the locks so far, and those of the keys to come
abbrev pub invariant-loop-key : goal.invariant-loop-key
invariant-loop-key l = l.locks ++ map (lock_held l.stamps) (drop l.key-index l.keys) ≡ map (lock_held l.stamps) l.keys
