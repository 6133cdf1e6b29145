use Rattle.std.proofs.Common.{arith}
use Rattle.std.proofs.lemmas.List.Sorted.{length_permutation}
use Rattle.shared_tape.proofs.PlaceOrder.{sorted-each, sorted-records, sorted-space}
use Rattle.shared_tape.proofs.RunSteps.{laid_sound}
use Rattle.shared_tape.proofs.run_buf.lay_sorted.Goals as goal

pub lay_all-requires-clause-each : goal.lay_all-requires-clause-each
lay_all-requires-clause-each c = rw c.deref.ensures.value (sorted-each _ _ _ _ c.requires.places c.sort.ensures.moved)

pub lay_all-requires-clause-room : goal.lay_all-requires-clause-room
lay_all-requires-clause-room c =
    rw c.deref.ensures.value (omega (arith, c.requires.room, sorted-space _ _ _ _ c.requires.places c.sort.ensures.moved))

pub lay_all-requires-clause-slots : goal.lay_all-requires-clause-slots
lay_all-requires-clause-slots c =
    rw c.deref.ensures.value (omega (arith, c.requires.slots, length_permutation _ _ c.sort.ensures.moved))

pub returns-clause-records : goal.returns-clause-records
returns-clause-records c =
    rw (c.lay_all.ensures.are, c.deref.ensures.value) (sorted-records _ _ _ _ c.sort.ensures.moved)

pub returns-clause-run : goal.returns-clause-run
returns-clause-run c = laid_sound _ _ _ _ c.lay_all.ensures (rw c.deref.ensures.value c.sort.ensures.ascending)
