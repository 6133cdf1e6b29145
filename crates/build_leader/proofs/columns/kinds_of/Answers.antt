use Rattle.std.proofs.Common.{◌≡◌, ◌∙◌, rules}
use Rattle.build_leader.specs.IndexRow.{index_kinds}
use Rattle.build_leader.proofs.columns.kinds_of.Goals as goal

pub returns : goal.returns
returns c =
    let kinds : c.in_ok-kinds.kinds.items ≡ index_kinds c.args.table.now c.args.spec.now = search rules in
    c.from_vec.ensures ∙ kinds
