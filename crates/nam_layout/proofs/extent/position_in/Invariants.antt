use Rattle.std.proofs.Common.{◌≡◌, drop}
use Rattle.nam_layout.specs.Extent.{position_in}
use Rattle.nam_layout.proofs.extent.position_in.Given as goal

-- the row is at this position of the extents that are still to come
abbrev pub invariant-loop-extent : goal.invariant-loop-extent
invariant-loop-extent l = record {
  counted : l.table ≡ l.extent-index;
  same : position_in l.table (drop l.extent-index l.extents) l.position ≡ position_in 0 l.extents l.fn.row;
}
