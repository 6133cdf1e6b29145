use Rattle.build_leader.proofs.WorkerBlocks.{same_both}
use Rattle.build_leader.proofs.scan.worker.scan_share.Goals as goal

pub claims-preserved : goal.claims-preserved
claims-preserved g c = record {
  same = same_both c.args.share c.claims.share c.scan_claim.new.share c.claims.invariant.same c.in_ok-scan_claim.ensures.same;
  between = c.in_ok-scan_claim.ensures.between;
}
