use Rattle.std.proofs.Common.{◌≡◌, ◌-◌, ◌≤◌, ℕ, subst, ◌∙◌, arith}
use Rattle.std.specs.List.{range_with_len}
use Rattle.build_leader.specs.Scanning.{TakesBlocks}
use Rattle.build_leader.proofs.WorkerBlocks.{same_both, takes_more}
use Rattle.build_leader.proofs.scan.worker.scan_blocks.Goals as goal

pub loop-block-preserved : goal.loop-block-preserved
loop-block-preserved c =
    let inv = c.loop-block.invariant in
    let rows = c.scan_one.ensures.rows in
    let before = inv.rows in
    let from : c.args.first ≤ c.loop-block.block = omega (arith, c.loop-block.auto.block) in
    record {
      worker = c.scan_one.ensures.worker;
      same = same_both c.args.share.now c.loop-block.share c.scan_one.new.share inv.same c.scan_one.ensures.same;
      claims = c.scan_one.ensures.claims ∙ inv.claims;
      rows = omega arith;
      taken = takes_more c.args.reader.now c.args.heap.now c.args.first c.loop-block.block c.args.share.now c.loop-block.share
          c.scan_one.new.share from inv.taken c.in_ok-scan_one.ensures.taken;
    }

pub returns-clause-taken : goal.returns-clause-taken
returns-clause-taken c =
    let last : c.loop-block.block ≡ c.args.end = omega (arith, c.requires.range.0, c.loop-block.auto.block-end) in
    subst (λ (n : ℕ). TakesBlocks c.args.reader.now c.args.heap.now (range_with_len c.args.first (n - c.args.first)) c.args.share.now c.loop-block.share)
    last c.loop-block.invariant.taken

pub returns-in_err-scan_one-clause-same : goal.returns-in_err-scan_one-clause-same
returns-in_err-scan_one-clause-same c =
    same_both c.args.share.now c.loop-block.share c.scan_one.new.share c.loop-block.invariant.same c.scan_one.ensures.same
