use Rattle.nam_tells.proofs.EndWords.{ask_law, idle_law, leave_law, rest_law, word_law}
use Rattle.nam_tells.proofs.GrowLemmas.{grows_law}
use Rattle.nam_tells.proofs.laws.ended_law.Goals as goal

pub returns-clause-word : goal.returns-clause-word
returns-clause-word c = word_law

pub returns-clause-ask : goal.returns-clause-ask
returns-clause-ask c = ask_law

pub returns-clause-leave : goal.returns-clause-leave
returns-clause-leave c = leave_law

pub returns-clause-idle : goal.returns-clause-idle
returns-clause-idle c = idle_law

pub returns-clause-rest : goal.returns-clause-rest
returns-clause-rest c = rest_law

pub returns-clause-grows : goal.returns-clause-grows
returns-clause-grows c = grows_law
