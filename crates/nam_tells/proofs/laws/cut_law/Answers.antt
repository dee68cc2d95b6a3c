use Rattle.nam_tells.proofs.CutLemmas.{log_lists, log_tells, told_cut}
use Rattle.nam_tells.proofs.HeldLemmas.{held_law}
use Rattle.nam_tells.proofs.laws.cut_law.Goals as goal
use Rattle.nam_protocol.specs.CutClient.{client_cut}

pub returns-clause-lists : goal.returns-clause-lists
returns-clause-lists c = log_lists

pub returns-clause-tells : goal.returns-clause-tells
returns-clause-tells c shape client teller told =
    log_tells shape (client_cut client) teller (told_cut client teller told)

pub returns-clause-held : goal.returns-clause-held
returns-clause-held c = held_law
