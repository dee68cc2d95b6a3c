use Rattle.nam_worker.proofs.CallAnswers.{word_answers, ask_answers}
use Rattle.nam_worker.proofs.laws.answers_fit.Goals as goal

pub returns-clause-words : goal.returns-clause-words
returns-clause-words c = word_answers

pub returns-clause-asks : goal.returns-clause-asks
returns-clause-asks c = ask_answers
