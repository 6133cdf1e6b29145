use Rattle.std.proofs.Common.{rules, ◌≡◌, ◌∙◌, ◌-◌, ◌+◌, ◌<◌, length, ap}
use Rattle.std.specs.Prelude.{string_bytes}
use Rattle.segments.specs.Names.{segment_name}
use Rattle.segments.proofs.NameLists.{named_at}
use Rattle.segments.proofs.names.SegmentNames.get.Goals as goal

pub returns-else-number-eq0 : goal.returns-else-number-eq0
returns-else-number-eq0 c =
    let within : c.args.number - 1 < length c.self.inside.further.items = search rules in
    let named : c.args.self.now.name ≡ c.self.inside.name.now = search rules in
    let number : c.args.number - 1 + 1 ≡ c.args.number = search rules in
    c.as_str.ensures.value
    ∙ ap string_bytes c.index.ensures
    ∙ named_at string_bytes c.self.inside.name.now c.self.inside.further.items (c.args.number - 1) c.index.result.now c.self.invariant.named within
    ∙ ap (segment_name c.self.inside.name.now) number
    ∙ rw named (let same : segment_name c.self.inside.name.now c.args.number ≡ segment_name c.self.inside.name.now c.args.number = search rules in same)
