use Rattle.std.proofs.Common.{take}
use Rattle.spool.specs.Pass.{Takes}
use Rattle.spool.proofs.Gathering.{records_of_elements}
use Rattle.spool.proofs.entry_spool.EntrySpool.put_elements.Given as goal

abbrev pub invariant-loop-element : goal.invariant-loop-element
invariant-loop-element l =
    Takes l.initial.self (records_of_elements l.initial.self.row.ptr (take l.element-index l.element-items)) l.self
