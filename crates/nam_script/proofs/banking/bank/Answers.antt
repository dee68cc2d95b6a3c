use Rattle.std.proofs.Common.{rules}
use Rattle.nam_script.proofs.BankLimits.{bank_limits}
use Rattle.nam_script.proofs.banking.bank.Goals as goal

pub returns-clause-limits : goal.returns-clause-limits
returns-clause-limits c = bank_limits _ c.args.seed c.args.size (search rules) c.requires.1
