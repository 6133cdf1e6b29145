use Rattle.std.proofs.Common.{◌≡◌, ℕ, ◌-◌, ◌*◌, ◌/◌, ◌≤◌, ◌^◌}
use Rattle.block_claim.specs.Ramp.{doubled_to}
use Rattle.block_claim.specs.Ramp as ramp
use Rattle.block_claim.proofs.ramp.chunk_at_start.Given as goal

abbrev pub invariant-loop-chunk : goal.invariant-loop-chunk
invariant-loop-chunk l = record {
  some : 1 ≤ l.chunk;
  doublings : (k : ℕ) × (l.chunk * 2 ^ k ≡ 8192) × (doubled_to (l.blocks / 2048) k l.chunk ≡ ramp.chunk_at_start l.blocks);
}

abbrev pub decreases-loop-chunk : goal.decreases-loop-chunk
decreases-loop-chunk l = 8192 - l.chunk
