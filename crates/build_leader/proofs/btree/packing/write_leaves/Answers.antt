use Rattle.build_leader.proofs.LeafRuns.{written_run}
use Rattle.build_leader.proofs.btree.packing.write_leaves.Goals as goal

pub returns-clause-written : goal.returns-clause-written
returns-clause-written c =
    written_run c.args.spec.now c.args.kinds c.args.merge.order c.args.merge.left c.in_ok-writer.writer c.put_rows.new.packer
    c.in_ok-finish.field-0 c.in_ok-writer.ensures c.in_ok-put_rows.ensures.put c.in_ok-finish.ensures.leaves
