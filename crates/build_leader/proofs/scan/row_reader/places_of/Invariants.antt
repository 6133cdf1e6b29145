use Rattle.std.proofs.Common.{◌≡◌, ◌≤◌, length, take, vec_capacity, vec_len}
use Rattle.build_leader.specs.Reader.{AreAt}
use Rattle.build_leader.proofs.scan.row_reader.places_of.Given as goal

abbrev pub invariant-loop-column : goal.invariant-loop-column
invariant-loop-column l = record {
  room : length l.columns ≤ vec_capacity l.places;
  count : vec_len l.places ≡ l.column-index;
  are : AreAt l.needed l.places.items (take l.column-index l.columns);
}
