use Rattle.std.proofs.Common.{◌≡◌, sym, ◌∙◌, ap, subst}
use Rattle.nam_commit.specs.Commits.{Commits, commits_after}
use Rattle.nam_commit.specs.Stands.{NowStands}
use Rattle.nam_commit.proofs.StandsLemmas.{commits_stand}
use Rattle.nam_commit.proofs.KeptLemmas.{kept, falls}
use Rattle.nam_commit.proofs.committer.Committer.take.Goals as goal

pub step_after-self-inside-requires : goal.step_after-self-inside-requires
step_after-self-inside-requires c =
    subst (NowStands c.args.state.now) (ap (λ (a : Commits). a.state) (sym c.self.view_is))
    (commits_stand c.args.state.now c.args.self.now c.requires.fit)

pub returns-clause-fit : goal.returns-clause-fit
returns-clause-fit c shape fit =
    let intent = ap (λ (a : Commits). a.intent_at) c.self.view_is in
    let goes = c.step_after-self-inside.ensures
    ∙ ap (λ (a : Commits). commits_after c.args.state.now a.state c.args.found) c.self.view_is in
    (kept shape _ _ c.args.found _ _ fit c.requires.stands goes intent).0

pub returns-clause-falls : goal.returns-clause-falls
returns-clause-falls c =
    let intent = ap (λ (a : Commits). a.intent_at) c.self.view_is in
    let goes = c.step_after-self-inside.ensures
    ∙ ap (λ (a : Commits). commits_after c.args.state.now a.state c.args.found) c.self.view_is in
    falls _ _ c.args.found _ _ c.requires.fit c.requires.stands goes intent
