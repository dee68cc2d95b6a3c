use Rattle.std.proofs.Common.{◌≡◌, drop}
use Rattle.std.specs.Prelude.{if◌then◌else◌}
use Rattle.si_model.specs.declared.row.Key.{Key}
use Rattle.si_model.specs.Rows.{writes_key}
use Rattle.namdb.specs.Stamps.{stamp_held}
use Rattle.namdb.proofs.stamps.note.Given as goal

-- what is noted so far, and the writes to come
abbrev pub invariant-loop-item : goal.invariant-loop-item
invariant-loop-item l =
    (key : Key) → (if writes_key (drop l.item-index l.writes) key then l.stamp else stamp_held l.stamps key)
    ≡ (if writes_key l.writes key then l.stamp else stamp_held l.initial.stamps key)
