use Rattle.std.proofs.Common.{sym, ap, subst}
use Rattle.nam_commit.specs.Commits.{Commits}
use Rattle.nam_commit.specs.Stands.{NowStands, NowPlaced}
use Rattle.nam_commit.proofs.StandsLemmas.{commits_stand, commits_placed}
use Rattle.nam_commit.proofs.committer.Committer.left.Goals as goal

pub step_left-requires-clause-stands : goal.step_left-requires-clause-stands
step_left-requires-clause-stands c =
    subst (NowStands c.args.state.now) (ap (λ (a : Commits). a.state) (sym c.self.view_is))
    (commits_stand c.args.state.now c.args.self.now c.requires)

pub step_left-requires-clause-placed : goal.step_left-requires-clause-placed
step_left-requires-clause-placed c =
    subst (NowPlaced c.args.state.now) (ap (λ (a : Commits). a.state) (sym c.self.view_is))
    (commits_placed c.args.state.now c.args.self.now c.requires)
