use Rattle.std.proofs.Common.{◌≤◌, take, vec_capacity}
use Rattle.shared_tape.specs.Places.{records_at, starts_of}
use Rattle.shared_tape.specs.Pass.{AreLaid}
use Rattle.shared_tape.proofs.run_buf.lay_all.Given as goal

abbrev pub invariant-loop-place : goal.invariant-loop-place
invariant-loop-place l = record {
  laid : AreLaid l.order l.ready.bytes.items l.ready.starts.items (take l.place-index (records_at l.order l.bytes (starts_of l.places)));
  room : vec_capacity l.fn.ready.bytes ≤ vec_capacity l.ready.bytes;
  slots : vec_capacity l.fn.ready.starts ≤ vec_capacity l.ready.starts;
}
