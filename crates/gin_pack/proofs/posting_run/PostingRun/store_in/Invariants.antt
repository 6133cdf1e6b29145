use Rattle.std.proofs.Common.{drop}
use Rattle.gin_pack.proofs.Runs.{AreStored}
use Rattle.gin_pack.proofs.posting_run.PostingRun.store_in.Given as goal

abbrev pub invariant-loop-head : goal.invariant-loop-head
invariant-loop-head l = AreStored l.fn.store l.store l.self (drop l.head-index l.head-items) l.left
