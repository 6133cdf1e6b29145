use Rattle.std.proofs.Common.{◌≡◌, map, take}
use Rattle.gin_entry.specs.Entries.{elements_of, entry_of}
use Rattle.gin_entry.proofs.extract.of_elements.Given as goal

abbrev pub invariant-loop-element : goal.invariant-loop-element
invariant-loop-element l = l.entries.items ≡ map entry_of (elements_of (take l.element-index l.element-items))
