use Rattle.nam_text.proofs.Tokens.{utf8_from_name}
use Rattle.nam_text.proofs.reading.table_name.Goals as goal

-- a name is plain text
pub returns-in-Err : goal.returns-in-Err
returns-in-Err c = absurd (c.in-Err.ensures.cases.0 (utf8_from_name c.args.text.now c.requires))
