use Rattle.std.proofs.Common.{◌≡◌, ◌+◌, ◌≤◌, ◌++◌, length, map, drop}
use Rattle.si_model.specs.Evaluation.{unwritten}
use Rattle.nam_protocol.specs.Commit.{record_in}
use Rattle.nam_commit.proofs.asking.fill_guarded.Given as goal

abbrev pub invariant-loop-guard : goal.invariant-loop-guard
invariant-loop-guard l = record {
  filled : l.records ++ map (record_in l.claims) (unwritten l.writes (drop l.guard-index l.guards))
      ≡ l.initial.records ++ map (record_in l.claims) (unwritten l.writes l.guards);
  room : length l.records + length (unwritten l.writes (drop l.guard-index l.guards)) ≤ 16;
}
