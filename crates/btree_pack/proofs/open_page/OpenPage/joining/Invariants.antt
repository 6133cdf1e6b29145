use Rattle.std.proofs.Common.{drop}
use Rattle.btree_pack.proofs.Joinings.{Joined}
use Rattle.btree_pack.proofs.open_page.OpenPage.joining.Given as goal

abbrev pub invariant-loop-count : goal.invariant-loop-count
invariant-loop-count l = Joined l.fillfactor l.self (drop l.from l.leaves) l.count l.fill
