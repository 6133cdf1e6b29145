use Rattle.std.proofs.Common.{◌≤◌, take, All}
use Rattle.gin_entry.specs.Entries.{entry_of}
use Rattle.gin_entry.specs.EntrySize.{entry_size}
use Rattle.gin_file.specs.EntryTuple.{most_size}
use Rattle.build_leader.proofs.gin.wide_entry.has_wide.Given as goal

abbrev pub invariant-loop-element : goal.invariant-loop-element
invariant-loop-element l =
    All (λ element. entry_size l.kind (entry_of element) ≤ most_size) (take l.element-index l.elements)
