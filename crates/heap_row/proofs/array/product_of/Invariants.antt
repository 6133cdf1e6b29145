use Rattle.std.proofs.Common.{◌≡◌, ℕ, ◌-◌, ◌^◌, min, Some}
use Rattle.heap_row.specs.Array.{product_of}
use Rattle.heap_row.proofs.array.product_of.Given as goal

abbrev pub invariant-loop-n : goal.invariant-loop-n
invariant-loop-n l = (product : ℕ) × (product_of l.content l.n ≡ Some product) × (l.product ≡ min product (2 ^ 64 - 1))
