use Rattle.std.proofs.Common.{◌≡◌, ◌↔◌, length}
use Rattle.stmt_token.specs.Bytes.{lowered}
use Rattle.stmt_token.specs.Tokens.{undoubled}
use Rattle.stmt_token.proofs.value.is_lowered_text.Given as goal

abbrev pub invariant-loop-spelt : goal.invariant-loop-spelt
invariant-loop-spelt l = (lowered (undoubled l.spelt) ≡ l.wanted) ↔ (lowered (undoubled l.fn.spelt) ≡ l.fn.wanted)

abbrev pub decreases-loop-spelt : goal.decreases-loop-spelt
decreases-loop-spelt l = length l.spelt
