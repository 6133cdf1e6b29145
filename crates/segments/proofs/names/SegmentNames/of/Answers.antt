use Rattle.std.proofs.Common.{rules, ◌≡◌, [], ◌∷◌, ◌++◌}
use Rattle.std.specs.Prelude.{string_bytes}
use Rattle.segments.proofs.NameLists.{named_more}
use Rattle.segments.proofs.names.SegmentNames.of.Goals as goal

pub loop-number-preserved : goal.loop-number-preserved
loop-number-preserved c =
    let grown : c.push.new.self.items ≡ c.loop-number.further.items ++ c.in_ok-segment_name.field-0 ∷ [] = search rules in
    rw grown
    (named_more (string_bytes) c.args.name.now c.loop-number.further.items c.in_ok-segment_name.field-0 c.loop-number.number
    c.loop-number.invariant.0 c.loop-number.invariant.1 c.in_ok-segment_name.ensures)
