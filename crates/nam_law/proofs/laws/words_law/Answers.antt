use Rattle.nam_law.proofs.GroundLemmas.{ground_law}
use Rattle.nam_law.proofs.LawLemmas.{law_keeps, law_opens, law_reached, words_hold, words_stand}
use Rattle.nam_law.proofs.laws.words_law.Goals as goal

pub returns-clause-opening : goal.returns-clause-opening
returns-clause-opening c = law_opens

pub returns-clause-step : goal.returns-clause-step
returns-clause-step c = law_keeps

pub returns-clause-ground : goal.returns-clause-ground
returns-clause-ground c = ground_law

pub returns-clause-reached : goal.returns-clause-reached
returns-clause-reached c = law_reached

pub returns-clause-words : goal.returns-clause-words
returns-clause-words c = words_hold

pub returns-clause-some : goal.returns-clause-some
returns-clause-some c = words_stand
