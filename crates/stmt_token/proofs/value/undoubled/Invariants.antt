use Rattle.std.proofs.Common.{◌≡◌, ◌++◌, length}
use Rattle.stmt_token.specs.Tokens.{undoubled}
use Rattle.stmt_token.proofs.value.undoubled.Given as goal

abbrev pub invariant-loop-left : goal.invariant-loop-left
invariant-loop-left l = l.bytes.items ++ undoubled l.left ≡ undoubled l.fn.spelt

abbrev pub decreases-loop-left : goal.decreases-loop-left
decreases-loop-left l = length l.left
