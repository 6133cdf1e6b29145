use Rattle.std.proofs.Common.{rules, ◌∙◌}
use Rattle.gin_file.proofs.SegmentFronts.{cut-off, decoded-only, some-decoded, too-few}
use Rattle.gin_file.proofs.entry_reading.read_segment.Goals as goal

pub returns-then-bytes-lt-SEGMENT_HEAD-clause-only :
    goal.returns-then-bytes-lt-SEGMENT_HEAD-clause-only
returns-then-bytes-lt-SEGMENT_HEAD-clause-only c = λ ptrs. too-few _ ptrs _ c.if-bytes-lt-SEGMENT_HEAD.true

pub returns-in-Some-clause-some : goal.returns-in-Some-clause-some
returns-in-Some-clause-some c = some-decoded c.args.bytes.now c.in-Some.segment.now c.from-count.result c.decode.result c.decode.ensures (search rules)

pub returns-in-Some-clause-only : goal.returns-in-Some-clause-only
returns-in-Some-clause-only c = decoded-only c.args.bytes.now c.in-Some.segment.now c.from-count.result c.decode.result c.decode.ensures (c.from-count.ensures ∙ c.u16_at.ensures) (search rules)

pub returns-in-None-clause-only : goal.returns-in-None-clause-only
returns-in-None-clause-only c = λ ptrs. cut-off _ ptrs _ c.from-count.result (c.from-count.ensures ∙ c.u16_at.ensures) (search rules)
