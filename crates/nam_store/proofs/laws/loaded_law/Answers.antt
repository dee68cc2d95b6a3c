use Rattle.nam_store.proofs.KeysOpen.{keys_open}
use Rattle.nam_store.proofs.RowsStand.{rows_stand}
use Rattle.nam_store.proofs.laws.loaded_law.Goals as goal

pub returns-clause-keys : goal.returns-clause-keys
returns-clause-keys c = keys_open

pub returns-clause-rows : goal.returns-clause-rows
returns-clause-rows c = rows_stand
