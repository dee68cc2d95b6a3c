use Rattle.nam_follows.proofs.AnswerLemmas.{new_follows, take_follows, view_follows}
use Rattle.nam_follows.proofs.laws.follows_law.Goals as goal

pub returns-clause-new : goal.returns-clause-new
returns-clause-new c = new_follows

pub returns-clause-take : goal.returns-clause-take
returns-clause-take c = take_follows

pub returns-clause-view : goal.returns-clause-view
returns-clause-view c = view_follows
