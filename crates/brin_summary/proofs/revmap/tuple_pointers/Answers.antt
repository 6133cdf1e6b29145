use Rattle.std.proofs.Common.{◌<◌, ◌++◌, ℕ, length, sym, ap, ◌∙◌, arith}
use Rattle.std.proofs.lemmas.Bool.Decides.{nat_tests}
use Rattle.brin_summary.specs.File.{pointers_to}
use Rattle.brin_summary.proofs.Pointers.{all-points, more-points}
use Rattle.brin_summary.proofs.revmap.tuple_pointers.Goals as goal

pub loop-left-preserved : goal.loop-left-preserved
loop-left-preserved c =
    let some : 0 < length c.loop-left.left.now = grind (arith, nat_tests, c.is_empty.ensures, c.loop-left-test.true) in
    let count = c.from.ensures in
    more-points c.args.first c.args.sizes.now c.loop-left.block c.loop-left.left.now c.loop-left.pointers.items c.push_pointers.new.pointers.items
    c.from.result c.loop-left.invariant some
    (c.from.ensures ∙ c.tuples_on_page-count.ensures.count)
    (c.in_ok-push_pointers.ensures ∙ ap (λ (n : ℕ). c.loop-left.pointers.items ++ pointers_to c.loop-left.block n) (sym c.from.ensures))

pub returns : goal.returns
returns c =
    all-points c.args.first c.args.sizes.now c.loop-left.block c.loop-left.left.now c.loop-left.pointers.items c.loop-left.invariant
    (grind (arith, nat_tests, c.is_empty.ensures, c.loop-left-test.false))
