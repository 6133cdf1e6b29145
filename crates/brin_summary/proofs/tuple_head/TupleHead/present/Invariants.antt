use Rattle.std.proofs.Common.{◌≡◌, ◌-◌, ◌/◌, ◌^◌}
use Rattle.brin_summary.specs.Pass.{flags_of, present_of}
use Rattle.brin_summary.proofs.tuple_head.TupleHead.present.Given as goal

abbrev pub invariant-loop-at : goal.invariant-loop-at
invariant-loop-at l = l.present ≡ present_of (flags_of (l.columns - l.at) (l.self.bits / 2 ^ l.at))
