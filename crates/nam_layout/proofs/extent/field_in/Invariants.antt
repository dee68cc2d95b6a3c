use Rattle.std.proofs.Common.{◌≡◌, drop}
use Rattle.nam_layout.specs.Extent.{IsIn, field_in_extents}
use Rattle.nam_layout.proofs.extent.field_in.Given as goal

-- the address is in an extent that is still to come
abbrev pub invariant-loop-extent : goal.invariant-loop-extent
invariant-loop-extent l = record {
  within : IsIn l.address (drop l.extent-index l.extents);
  same : field_in_extents (drop l.extent-index l.extents) l.address ≡ field_in_extents l.extents l.address;
}
