use Rattle.std.proofs.Common.{arith}
use Rattle.shared_tape.proofs.Standing.{has_two}
use Rattle.shared_tape.proofs.PlaceOrder.{place_has}
use Rattle.shared_tape.proofs.Held.{lay_fits, lay_more}
use Rattle.shared_tape.proofs.run_buf.lay_all.Goals as goal

pub stored_at-requires : goal.stored_at-requires
stored_at-requires c = has_two _ _ _ _ (place_has _ _ _ _ c.requires.each c.loop-place-test.true)

pub lay-requires-clause-room : goal.lay-requires-clause-room
lay-requires-clause-room c =
    omega (
      arith,
      c.loop-place.invariant.laid.size,
      c.requires.room,
      c.loop-place.invariant.room,
      lay_fits _ _ _ _ _ c.requires.each c.loop-place-test.true c.stored_at.ensures,
    )

pub loop-place-preserved : goal.loop-place-preserved
loop-place-preserved c = record {
  laid =
      lay_more _ _ _ _ _ _ _ _ _ c.requires.each c.loop-place-test.true c.stored_at.ensures c.lay.ensures.bytes c.lay.ensures.starts
      c.loop-place.invariant.laid;
  room = omega (arith, c.lay.ensures.more_room);
  slots = omega (arith, c.lay.ensures.more_slots);
}
