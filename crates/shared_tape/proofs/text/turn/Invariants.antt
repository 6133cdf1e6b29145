use Rattle.std.proofs.Common.{◌≡◌, ◌++◌, take, drop}
use Rattle.opclass.specs.Norm.{turned}
use Rattle.shared_tape.proofs.text.turn.Given as goal

abbrev pub invariant-loop-byte : goal.invariant-loop-byte
invariant-loop-byte l = l.bytes ≡ turned (take l.byte-index l.fn.bytes) ++ drop l.byte-index l.fn.bytes
