use Rattle.nam_record.proofs.FieldLemmas.{current_fields, recheck_fields, words_fields, install_fields}
use Rattle.nam_record.proofs.laws.field_law.Goals as goal

pub returns-clause-current : goal.returns-clause-current
returns-clause-current c = current_fields

pub returns-clause-recheck : goal.returns-clause-recheck
returns-clause-recheck c = recheck_fields

pub returns-clause-words : goal.returns-clause-words
returns-clause-words c = words_fields

pub returns-clause-install : goal.returns-clause-install
returns-clause-install c = install_fields
