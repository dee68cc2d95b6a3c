use Rattle.nam_overflow.proofs.FieldLemmas.{search_fields, claim_fields, fill_fields}
use Rattle.nam_overflow.proofs.laws.field_law.Goals as goal

pub returns-clause-search : goal.returns-clause-search
returns-clause-search c = search_fields

pub returns-clause-claim : goal.returns-clause-claim
returns-clause-claim c = claim_fields

pub returns-clause-fill : goal.returns-clause-fill
returns-clause-fill c = fill_fields
