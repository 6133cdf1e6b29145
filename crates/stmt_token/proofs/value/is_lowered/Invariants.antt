use Rattle.std.proofs.Common.{◌≡◌, ◌↔◌, length}
use Rattle.stmt_token.specs.Bytes.{lowered}
use Rattle.stmt_token.proofs.value.is_lowered.Given as goal

abbrev pub invariant-loop-word : goal.invariant-loop-word
invariant-loop-word l = (lowered l.word ≡ l.wanted) ↔ (lowered l.fn.word ≡ l.fn.wanted)

abbrev pub decreases-loop-word : goal.decreases-loop-word
decreases-loop-word l = length l.word
