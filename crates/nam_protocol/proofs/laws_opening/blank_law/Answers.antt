use Rattle.nam_protocol.proofs.BlankLemmas.{blank_law}
use Rattle.nam_protocol.proofs.laws_opening.blank_law.Goals as goal

pub returns : goal.returns
returns c = blank_law
