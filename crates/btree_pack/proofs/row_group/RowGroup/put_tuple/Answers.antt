use Rattle.std.proofs.Common.{take, arith}
use Rattle.btree_pack.proofs.TupleImages.{plain-is_tuple, plain-size, plain-small, posting-is_tuple, posting-tuple, size-all}
use Rattle.btree_pack.proofs.row_group.RowGroup.put_tuple.Goals as goal

pub returns-then-ptrs-eq1-clause-tuple : goal.returns-then-ptrs-eq1-clause-tuple
returns-then-ptrs-eq1-clause-tuple c =
    let size = c.requires.group.size in
    let small = c.requires.group.small in
    rw (c.in_ok-put_plain.ensures.ok, c.requires.empty, c.as_slice-values.ensures) (plain-is_tuple c.args.kinds.now c.args.self.now.values _ (omega arith))

pub returns-then-ptrs-eq1-clause-size : goal.returns-then-ptrs-eq1-clause-size
returns-then-ptrs-eq1-clause-size c =
    rw (c.in_ok-put_plain.ensures.ok, c.requires.empty, c.as_slice-values.ensures)
    (plain-size c.args.self.now.size c.args.kinds.now c.args.self.now.values _ c.requires.group.size)

pub returns-then-ptrs-eq1-clause-small : goal.returns-then-ptrs-eq1-clause-small
returns-then-ptrs-eq1-clause-small c =
    let size = c.requires.group.size in
    let small = c.requires.group.small in
    rw (c.in_ok-put_plain.ensures.ok, c.requires.empty, c.as_slice-values.ensures)
    (plain-small c.args.kinds.now c.args.self.now.values _ (omega arith))

pub returns-clause-tuple : goal.returns-clause-tuple
returns-clause-tuple c =
    rw (c.in_ok-put_posting.ensures.ok, c.requires.empty, c.as_slice-values.ensures)
    (posting-is_tuple (take c.args.keys c.args.kinds.now) (take c.args.keys c.args.self.now.values) c.args.ptrs.now (let some = c.requires.some in let more = c.if-ptrs-eq1.false in let room = c.requires.room (omega arith) in room.1))

pub returns-clause-size : goal.returns-clause-size
returns-clause-size c =
    let group = c.requires.group in
    let size = group.size in
    let some = c.requires.some in
    let more = c.if-ptrs-eq1.false in
    let room = c.requires.room (omega arith) in
    let all = size-all c.args.kinds.now c.args.self.now.values c.args.keys room.0 group.columns in
    let long = (posting-tuple (take c.args.keys c.args.kinds.now) (take c.args.keys c.args.self.now.values) c.args.ptrs.now room.1).1 in
    rw (c.in_ok-put_posting.ensures.ok, c.requires.empty, c.as_slice-values.ensures) (omega arith)

pub returns-clause-small : goal.returns-clause-small
returns-clause-small c =
    let some = c.requires.some in
    let more = c.if-ptrs-eq1.false in
    let room = c.requires.room (omega arith) in
    let long = (posting-tuple (take c.args.keys c.args.kinds.now) (take c.args.keys c.args.self.now.values) c.args.ptrs.now room.1).1 in
    rw (c.in_ok-put_posting.ensures.ok, c.requires.empty, c.as_slice-values.ensures) (omega arith)
