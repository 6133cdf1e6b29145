use Rattle.std.proofs.Common.{ℕ, List}
use Rattle.posting_tree.proofs.ReadVarbytes.{delta-groups, groups-delta, option-weaker}
use Rattle.posting_tree.specs.Pass.{StartsWithDelta}
use Rattle.posting_tree.proofs.varbyte.read_varbyte.Goals as goal

pub returns : goal.returns
returns c =
    option-weaker {N' = (x : ℕ) (left : List ℕ) → StartsWithDelta c.args.bytes.now x left → ⊥}
    {S' = λ read. StartsWithDelta c.args.bytes.now read.0 read.1.now}
    _ c.read_groups.ensures.read
    (λ none x left s. none x left (delta-groups _ _ _ s))
    (λ read s. groups-delta _ _ _ s)
