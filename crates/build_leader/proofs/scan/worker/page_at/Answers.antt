use Rattle.std.proofs.Common.{◌≡◌, ℕ, ◌+◌, ◌-◌, ◌*◌, ap, ◌∙◌, arith, take, drop}
use Rattle.build_leader.proofs.scan.worker.page_at.Goals as goal
use Rattle.pg_bytes.specs.Blocks.{block_at}

pub returns : goal.returns
unfolding block_at
returns c =
    let size : 8192 * c.args.block + 8192 - 8192 * c.args.block ≡ 8192 = omega arith in
    c.in-Some.ensures.page ∙ ap (λ (n : ℕ). take n (drop (8192 * c.args.block) c.args.heap.now)) size
