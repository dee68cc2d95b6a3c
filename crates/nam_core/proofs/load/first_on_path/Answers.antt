use Rattle.std.proofs.lemmas.Nat.{mod_below}
use Rattle.nam_core.proofs.LoadLemmas.{path_begins}
use Rattle.nam_core.proofs.load.first_on_path.Goals as goal

pub returns-clause-value : goal.returns-clause-value
returns-clause-value c = path_begins c.args.capacity c.args.key c.requires

pub returns-clause-within : goal.returns-clause-within
returns-clause-within c = mod_below c.args.key c.args.capacity c.requires
