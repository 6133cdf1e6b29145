use Rattle.std.proofs.Common.{drop}
use Rattle.opclass.proofs.NormReading.{IsReadTo}
use Rattle.opclass.proofs.reader.read_norm.Given as goal

abbrev pub invariant-loop-part : goal.invariant-loop-part
invariant-loop-part l = IsReadTo l.fn.spec l.fn.bytes l.values.items (drop l.part-index l.fn.spec) l.left
