use Rattle.std.proofs.Common.{length}
use Rattle.gin_pack.proofs.Packing.{AreComing}
use Rattle.gin_pack.proofs.packer.pack.Given as goal

abbrev pub invariant-records : goal.invariant-records
invariant-records l = AreComing l.fn.kind l.fn.merged.left l.merged l.packer

abbrev pub decreases-records : goal.decreases-records
decreases-records l = length l.merged.left
