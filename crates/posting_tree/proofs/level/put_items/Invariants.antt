use Rattle.std.proofs.Common.{◌≡◌, ◌++◌, take}
use Rattle.std.specs.List.{flat_map}
use Rattle.posting_tree.specs.Building.{links_from}
use Rattle.posting_tree.specs.PostingTree.{posting_item}
use Rattle.posting_tree.proofs.level.put_items.Given as goal

abbrev pub invariant-loop-at : goal.invariant-loop-at
invariant-loop-at l = l.out.items ≡ l.fn.out.items ++ flat_map posting_item (links_from l.child (take l.at l.keys))
