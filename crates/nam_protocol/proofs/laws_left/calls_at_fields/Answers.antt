use Rattle.nam_protocol.proofs.FieldLemmas.{table_fields, commit_fields, txn_fields, call_fields, client_fields}
use Rattle.nam_protocol.proofs.laws_left.calls_at_fields.Goals as goal

pub returns-clause-table : goal.returns-clause-table
returns-clause-table c = table_fields

pub returns-clause-commit : goal.returns-clause-commit
returns-clause-commit c = commit_fields

pub returns-clause-txn : goal.returns-clause-txn
returns-clause-txn c = txn_fields

pub returns-clause-call : goal.returns-clause-call
returns-clause-call c = call_fields

pub returns-clause-client : goal.returns-clause-client
returns-clause-client c = client_fields
