use Rattle.nam_index.proofs.PathLemmas.{stands}
use Rattle.nam_index.proofs.FieldLemmas.{finds_at_keys, claims_at_keys}
use Rattle.nam_index.proofs.laws.field_law.Goals as goal

pub returns-clause-addresses : goal.returns-clause-addresses
returns-clause-addresses c = stands

pub returns-clause-find : goal.returns-clause-find
returns-clause-find c = finds_at_keys

pub returns-clause-claim : goal.returns-clause-claim
returns-clause-claim c = claims_at_keys
