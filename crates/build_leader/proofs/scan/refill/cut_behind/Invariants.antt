use Rattle.std.proofs.Common.{◌≡◌, ◌+◌, ◌<◌, length, take}
use Rattle.build_leader.proofs.scan.refill.cut_behind.Given as goal

abbrev pub invariant-behind : goal.invariant-behind
invariant-behind l = record {
  enough : l.place < length l.values;
  front : take (l.place + 1) l.values ≡ take (l.place + 1) l.initial.values;
}

abbrev pub decreases-behind : goal.decreases-behind
decreases-behind l = length l.values
