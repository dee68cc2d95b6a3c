use Rattle.nam_protocol.proofs.EndsSession.{new_session_ends, session_word}
use Rattle.nam_protocol.proofs.EndsSettled.{sessions_settle, session_cut_ends}
use Rattle.nam_protocol.proofs.laws_ends.sessions_settle.Goals as goal

pub returns-clause-settles : goal.returns-clause-settles
returns-clause-settles c = sessions_settle

pub returns-clause-new : goal.returns-clause-new
returns-clause-new c = new_session_ends

pub returns-clause-word : goal.returns-clause-word
returns-clause-word c = session_word

pub returns-clause-cut : goal.returns-clause-cut
returns-clause-cut c = session_cut_ends
