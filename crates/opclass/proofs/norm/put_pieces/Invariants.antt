use Rattle.std.proofs.Common.{◌≡◌, ◌++◌, length}
use Rattle.opclass.specs.Norm.{norm_of}
use Rattle.opclass.specs.Pass.{IsInFront}
use Rattle.opclass.proofs.norm.put_pieces.Given as goal

abbrev pub invariant-loop-parts : goal.invariant-loop-parts
invariant-loop-parts l =
    (l.out.items ++ norm_of l.parts l.values ≡ l.fn.out.items ++ norm_of l.fn.parts l.fn.values) × IsInFront l.fn.out.items l.out.items

abbrev pub decreases-loop-parts : goal.decreases-loop-parts
decreases-loop-parts l = length l.parts
