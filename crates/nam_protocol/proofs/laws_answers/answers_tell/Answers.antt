use Rattle.nam_protocol.proofs.AnswersClient.{answers_tell, carries_kept}
use Rattle.nam_protocol.proofs.KeptSession.{session_carries}
use Rattle.nam_protocol.proofs.laws_answers.answers_tell.Goals as goal

pub returns-clause-carries : goal.returns-clause-carries
returns-clause-carries c = carries_kept

pub returns-clause-answers : goal.returns-clause-answers
returns-clause-answers c = answers_tell

pub returns-clause-sessions : goal.returns-clause-sessions
returns-clause-sessions c = session_carries
