use Rattle.std.proofs.Common.{ℕ}
use Rattle.nam_commit.specs.Commits.{CommitsFit, commits_left}
use Rattle.nam_commit.proofs.tests.run.Given as goal

-- the commit fits, and comes nearer to its end
abbrev pub invariant-verbs : goal.invariant-verbs
invariant-verbs l = record { fits : CommitsFit l.layout l.state l.committer }

abbrev pub decreases-verbs : goal.decreases-verbs
decreases-verbs l = commits_left l.state l.committer
