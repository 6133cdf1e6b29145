use Rattle.std.proofs.Common.{length, ap, sym, arith}
use Rattle.brin_summary.proofs.Tuples.{data-within, put-data-is, tuple_size-is}
use Rattle.brin_summary.proofs.tuple.BoundKinds.tuple_size.Goals as goal

pub data_size-requires : goal.data_size-requires
data_size-requires c =
    let size = c.requires.size in
    let within = data-within c.args.self.now c.args.range.now in
    let is = ap length (put-data-is c.self.inside.twice.items c.args.self.now c.args.range.now c.deref.result.now c.bounds.result.now c.self.invariant c.self.view_is c.deref.ensures.value c.bounds.ensures) in
    omega arith

pub al8-requires : goal.al8-requires
al8-requires c =
    let size = c.requires.size in
    let within = data-within c.args.self.now c.args.range.now in
    let is = ap length (put-data-is c.self.inside.twice.items c.args.self.now c.args.range.now c.deref.result.now c.bounds.result.now c.self.invariant c.self.view_is c.deref.ensures.value c.bounds.ensures) in
    let data_ = c.data_size.ensures in
    omega arith

pub overflow_add-result : goal.overflow_add-result
overflow_add-result c =
    let size = c.requires.size in
    let within = data-within c.args.self.now c.args.range.now in
    let is = ap length (put-data-is c.self.inside.twice.items c.args.self.now c.args.range.now c.deref.result.now c.bounds.result.now c.self.invariant c.self.view_is c.deref.ensures.value c.bounds.ensures) in
    let data_ = c.data_size.ensures in
    let place = c.data_place.ensures.few in
    let rounded = c.al8.ensures in
    omega arith

pub returns : goal.returns
returns c =
    let is = put-data-is c.self.inside.twice.items c.args.self.now c.args.range.now c.deref.result.now c.bounds.result.now c.self.invariant c.self.view_is c.deref.ensures.value c.bounds.ensures in
    rw (c.al8.ensures, c.data_size.ensures, is, c.data_place.ensures.value) (sym (tuple_size-is c.args.self.now c.args.range.now))
