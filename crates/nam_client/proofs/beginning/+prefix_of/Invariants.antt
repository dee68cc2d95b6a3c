use Rattle.std.proofs.Common.{length}
use Rattle.nam_client.proofs.beginning.+prefix_of.Given as goal

abbrev pub decreases-prefix_of : goal.decreases-prefix_of
decreases-prefix_of a = length a.entries.now
