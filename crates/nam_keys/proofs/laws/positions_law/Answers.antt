use Rattle.nam_keys.proofs.PositionLemmas.{absent_law, found_law, full_law, once_law, passed_law}
use Rattle.nam_keys.proofs.laws.positions_law.Goals as goal

pub returns-clause-once : goal.returns-clause-once
returns-clause-once c = once_law

pub returns-clause-found : goal.returns-clause-found
returns-clause-found c = found_law

pub returns-clause-passed : goal.returns-clause-passed
returns-clause-passed c = passed_law

pub returns-clause-absent : goal.returns-clause-absent
returns-clause-absent c = absent_law

pub returns-clause-full : goal.returns-clause-full
returns-clause-full c = full_law
