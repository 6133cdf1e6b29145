use Rattle.std.proofs.Common.{arith, refl}
use Rattle.shared_tape.proofs.Standing.{first_ends, both_end, both_are}
use Rattle.shared_tape.proofs.reader.stored_at.Goals as goal

pub overflow_add-behind : goal.overflow_add-behind
overflow_add-behind c = omega (arith, first_ends c.args.bytes.now _ c.args.place c.requires refl)

pub overflow_add-behind-2 : goal.overflow_add-behind-2
overflow_add-behind-2 c = omega (arith, first_ends _ _ _ c.requires c.counted_at.ensures)

pub overflow_add-end : goal.overflow_add-end
overflow_add-end c = omega (arith, first_ends _ _ _ c.requires c.counted_at.ensures)

pub overflow_add-end-2 : goal.overflow_add-end-2
overflow_add-end-2 c = omega (arith, both_end _ _ _ _ c.requires c.counted_at.ensures c.counted_at-2.ensures)

pub slice_bounds-result-end : goal.slice_bounds-result-end
slice_bounds-result-end c = omega (arith, both_end _ _ _ _ c.requires c.counted_at.ensures c.counted_at-2.ensures)

pub returns : goal.returns
returns c = both_are _ _ _ _ c.requires c.counted_at.ensures c.counted_at-2.ensures
