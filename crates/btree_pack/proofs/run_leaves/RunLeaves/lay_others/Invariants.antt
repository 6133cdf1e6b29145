use Rattle.std.proofs.Common.{◌≡◌, ◌+◌, ◌-◌, drop, length}
use Rattle.btree_pack.specs.Pass.Added.{last_key, leaves_came}
use Rattle.btree_pack.specs.Pass.Buffer.{IsPlaceIn}
use Rattle.btree_pack.specs.Pass.Packing.{IsHighKey}
use Rattle.btree_pack.specs.Pass.Sight.{fillfactor_of, packing_of}
use Rattle.btree_pack.specs.Pass.Taken.{LeafIsFirst}
use Rattle.btree_pack.proofs.run_leaves.RunLeaves.lay_others.Given as goal

abbrev pub invariant-loop-last : goal.invariant-loop-last
invariant-loop-last l = record {
  place : IsPlaceIn l.leaves l.last;
  laid : leaves_came (fillfactor_of l.fn.self.tower) l.high_key (packing_of l.self.tower) (drop (l.last.number + 1) l.leaves)
      ≡ leaves_came (fillfactor_of l.fn.self.tower) l.separator (packing_of l.fn.self.tower) (drop 1 l.leaves);
  key : last_key l.high_key (drop (l.last.number + 1) l.leaves) ≡ last_key l.separator (drop 1 l.leaves);
  leaf : LeafIsFirst (packing_of l.self.tower).pages;
  room : IsHighKey l.high_key (packing_of l.self.tower);
  fillfactor : fillfactor_of l.self.tower ≡ fillfactor_of l.fn.self.tower;
  others : l.self ≡ record l.fn.self { tower = l.self.tower; tuple = l.self.tuple };
}

abbrev pub decreases-loop-last : goal.decreases-loop-last
decreases-loop-last l = length l.leaves - l.last.number
