use Rattle.nam_commit.proofs.KeptLemmas.{begun}
use Rattle.nam_commit.proofs.committer.Committer.ask.Goals as goal

pub returns-clause-fit : goal.returns-clause-fit
returns-clause-fit c =
    (begun c.args.layout.now c.total-words.ensures.fits c.args.state.now _ _ c.requires
    (c.begin-self-inside.ensures c.self.inside.words) c.intent_at-self-inside.ensures.value).0

pub returns-clause-left : goal.returns-clause-left
returns-clause-left c =
    (begun c.args.layout.now c.total-words.ensures.fits c.args.state.now _ _ c.requires
    (c.begin-self-inside.ensures c.self.inside.words) c.intent_at-self-inside.ensures.value).1
