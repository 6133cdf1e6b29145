use Rattle.std.proofs.Common.{arith}
use Rattle.btree_pack.proofs.TupleImages.{keys-small, separator-tuple}
use Rattle.btree_pack.proofs.row_group.RowGroup.put_separator.Goals as goal

pub put_pivot-requires-clause-size : goal.put_pivot-requires-clause-size
put_pivot-requires-clause-size c =
    let small = keys-small c.args.kinds.now c.args.keys c.args.self.now c.requires in
    let size = c.requires.small in
    rw c.as_slice.ensures (omega arith)

pub returns-clause-tuple : goal.returns-clause-tuple
returns-clause-tuple c = (separator-tuple c.args.kinds.now c.args.keys c.args.self.now c.requires).0

pub returns-clause-size : goal.returns-clause-size
returns-clause-size c = (separator-tuple c.args.kinds.now c.args.keys c.args.self.now c.requires).1
