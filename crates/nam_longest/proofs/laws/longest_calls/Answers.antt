use Rattle.nam_longest.proofs.ClientToCome.{client_lowers, client_asked, no_longer}
use Rattle.nam_longest.proofs.LastsClient.{reached}
use Rattle.nam_longest.proofs.laws.longest_calls.Goals as goal

pub returns-clause-falls : goal.returns-clause-falls
returns-clause-falls c = client_lowers

pub returns-clause-begins : goal.returns-clause-begins
returns-clause-begins c = client_asked

pub returns-clause-longest : goal.returns-clause-longest
returns-clause-longest c = no_longer

pub returns-clause-reached : goal.returns-clause-reached
returns-clause-reached c = reached
