use Rattle.std.proofs.Common.{◌≡◌, ◌+◌, drop}
use Rattle.nam_protocol.specs.Left.{jobs_writes}
use Rattle.nam_worker.proofs.room.jobs_writes.Given as goal

abbrev pub invariant-loop-job : goal.invariant-loop-job
invariant-loop-job l = l.writes + jobs_writes (drop l.job-index l.jobs) ≡ jobs_writes l.jobs
