use Rattle.nam_scan.proofs.AnswerLemmas as lemma
use Rattle.nam_scan.proofs.laws.answer_law.Goals as goal

pub returns-clause-key : goal.returns-clause-key
returns-clause-key c = lemma.answers_key

pub returns-clause-done : goal.returns-clause-done
returns-clause-done c = lemma.done

pub returns-clause-last : goal.returns-clause-last
returns-clause-last c = lemma.last

pub returns-clause-row : goal.returns-clause-row
returns-clause-row c = lemma.row

pub returns-clause-too_old : goal.returns-clause-too_old
returns-clause-too_old c = lemma.too_old

pub returns-clause-astray : goal.returns-clause-astray
returns-clause-astray c = lemma.astray
