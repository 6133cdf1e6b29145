use Rattle.std.proofs.Common.{◌≡◌, ap, sym, ◌∙◌, arith}
use Rattle.std.proofs.lemmas.List.{take_all}
use Rattle.brin_summary.specs.Pass.{half_of}
use Rattle.brin_summary.specs.Tuple.{bound_kinds}
use Rattle.brin_summary.proofs.Tuples.{half_of-twice}
use Rattle.brin_summary.proofs.tuple.BoundKinds.of.Goals as goal

pub invariant_of-result : goal.invariant_of-result
invariant_of-result c =
    let all : c.loop-kind.twice.items ≡ bound_kinds c.args.kinds.now =
    c.loop-kind.invariant ∙ ap bound_kinds (take_all c.loop-kind.kind-index c.args.kinds.now (let e = c.loop-kind-test.false in omega arith)) in
    all ∙ ap bound_kinds (sym (ap half_of all ∙ half_of-twice c.args.kinds.now))

pub returns : goal.returns
returns c =
    let all : c.loop-kind.twice.items ≡ bound_kinds c.args.kinds.now =
    c.loop-kind.invariant ∙ ap bound_kinds (take_all c.loop-kind.kind-index c.args.kinds.now (let e = c.loop-kind-test.false in omega arith)) in
    ap half_of all ∙ half_of-twice c.args.kinds.now
