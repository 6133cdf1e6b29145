use Rattle.std.proofs.Common.{length}
use Rattle.btree_pack.proofs.grouper.+append.Given as goal

abbrev pub decreases-append : goal.decreases-append
decreases-append l = length l.extra.now
