use Rattle.std.proofs.Common.{arith}
use Rattle.run_merge.proofs.Shares.{key_found}
use Rattle.run_merge.proofs.cutting.key_at.Goals as goal

pub slice_bounds-result-count : goal.slice_bounds-result-count
slice_bounds-result-count c =
    omega (arith, (key_found c.args.run.now c.args.at _ c.requires c.order_at-order_bytes.ensures).0)

pub returns : goal.returns
returns c = (key_found c.args.run.now c.args.at _ c.requires c.order_at-order_bytes.ensures).1
