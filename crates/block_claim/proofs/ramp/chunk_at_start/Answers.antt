use Rattle.std.proofs.Common.{◌/◌, ◌≤◌, ◌⊎◌, inr, refl, sym, ◌∙◌, arith}
use Rattle.block_claim.specs.Ramp.{chunk_at_start}
use Rattle.block_claim.proofs.Doubling.{doubles, doubled}
use Rattle.block_claim.proofs.ramp.chunk_at_start.Goals as goal

pub loop-chunk-init : goal.loop-chunk-init
unfolding chunk_at_start
loop-chunk-init c = record { some = omega arith; doublings = (13, refl, refl) }

pub loop-chunk-preserved : goal.loop-chunk-preserved
loop-chunk-preserved c =
    let was = c.loop-chunk.invariant.doublings in
    let some = c.loop-chunk.invariant.some in
    let next = doubles (c.args.blocks / 2048) was.0 c.loop-chunk.chunk (omega arith) (omega arith) was.1 in record {
      some = omega arith;
      doublings = (next.0, next.1, next.2 ∙ was.2);
    }

pub returns-else-chunk-lt-LARGEST_CHUNK : goal.returns-else-chunk-lt-LARGEST_CHUNK
returns-else-chunk-lt-LARGEST_CHUNK c =
    let was = c.loop-chunk.invariant.doublings in
    let large : (c.args.blocks / 2048 ≤ c.loop-chunk.chunk) ⊎ (8192 ≤ c.loop-chunk.chunk) = inr c.if-chunk-lt-LARGEST_CHUNK.false in
    sym (doubled (c.args.blocks / 2048) was.0 c.loop-chunk.chunk c.loop-chunk.invariant.some large was.1) ∙ was.2
