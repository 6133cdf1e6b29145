use Rattle.btree_pack.proofs.Adding.{first-laid}
use Rattle.btree_pack.specs.Pass.Sight.{fillfactor_of, packing_of}
use Rattle.btree_pack.proofs.run_leaves.RunLeaves.add.Goals as goal

pub lay_others-requires-clause-leaf : goal.lay_others-requires-clause-leaf
lay_others-requires-clause-leaf c = (first-laid (fillfactor_of c.args.self.now.tower) c.args.self.now.high_key.items (packing_of c.args.self.now.tower) c.args.leaves.now c.args.first
    c.in_ok-separator.separator.items (packing_of c.lay_first.new.self.tower) c.requires.begin c.requires.ready.leaf c.in_ok-separator.ensures.tuple c.in_ok-separator.ensures.size c.in_ok-lay_first.ensures.laid).0

pub lay_others-requires-clause-separator : goal.lay_others-requires-clause-separator
lay_others-requires-clause-separator c = rw c.deref.ensures.value (first-laid (fillfactor_of c.args.self.now.tower) c.args.self.now.high_key.items (packing_of c.args.self.now.tower) c.args.leaves.now c.args.first
    c.in_ok-separator.separator.items (packing_of c.lay_first.new.self.tower) c.requires.begin c.requires.ready.leaf c.in_ok-separator.ensures.tuple c.in_ok-separator.ensures.size c.in_ok-lay_first.ensures.laid).1
