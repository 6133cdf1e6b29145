use Rattle.std.proofs.Common.{[], length, ap, arith}
use Rattle.tuple_data.specs.Data.{data_of}
use Rattle.brin_summary.proofs.Tuples.{data-within, put-data-few, put-data-is, put-few, put-tuple-is}
use Rattle.brin_summary.proofs.tuple.BoundKinds.put_tuple.Goals as goal

pub align-requires : goal.align-requires
align-requires c =
    put-few c.args.self.now c.args.first c.args.range.now c.clear.new.self.items c.put_header.new.out.items []
    c.clear.ensures.items c.in_ok-put_header.ensures c.requires.size

pub put_data-requires : goal.put_data-requires
put_data-requires c =
    let within = data-within c.args.self.now c.args.range.now in
    let small = c.requires.size in
    let is = ap length (put-data-is c.self.inside.twice.items c.args.self.now c.args.range.now c.deref.result.now c.bounds.result.now c.self.invariant c.self.view_is c.deref.ensures.value c.bounds.ensures) in
    omega arith

pub align-requires-2 : goal.align-requires-2
align-requires-2 c =
    put-data-few c.args.self.now c.args.first c.args.range.now c.clear.new.self.items c.put_header.new.out.items c.align.new.out.items
    c.clear.ensures.items c.in_ok-put_header.ensures c.requires.size
    c.put_data.new.out.items (data_of c.deref.result.now c.bounds.result.now)
    c.in_ok-align.ensures c.in_ok-put_data.ensures.ok
    (put-data-is c.self.inside.twice.items c.args.self.now c.args.range.now c.deref.result.now c.bounds.result.now c.self.invariant c.self.view_is c.deref.ensures.value c.bounds.ensures)

pub returns : goal.returns
returns c =
    put-tuple-is c.args.self.now c.args.first c.args.range.now c.clear.new.self.items c.put_header.new.out.items c.align.new.out.items
    c.clear.ensures.items c.in_ok-put_header.ensures
    c.put_data.new.out.items (data_of c.deref.result.now c.bounds.result.now) c.align-2.new.out.items
    c.in_ok-align.ensures c.in_ok-put_data.ensures.ok
    (put-data-is c.self.inside.twice.items c.args.self.now c.args.range.now c.deref.result.now c.bounds.result.now c.self.invariant c.self.view_is c.deref.ensures.value c.bounds.ensures)
    c.in_ok-align-2.ensures
