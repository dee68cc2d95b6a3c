use Rattle.nam_ring.proofs.FieldLemmas.{check_fields, copy_fields, search_fields}
use Rattle.nam_ring.proofs.laws.field_law.Goals as goal

pub returns-clause-check : goal.returns-clause-check
returns-clause-check c = check_fields

pub returns-clause-copy : goal.returns-clause-copy
returns-clause-copy c = copy_fields

pub returns-clause-search : goal.returns-clause-search
returns-clause-search c = search_fields
