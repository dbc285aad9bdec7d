use Rattle.std.proofs.Common.{length}
use Rattle.arbiter.proofs.tree.+best.Given as goal

abbrev pub decreases-best : goal.decreases-best
decreases-best g l = length l.leaves.now
