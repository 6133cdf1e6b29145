use Rattle.std.proofs.Common.{arith}
use Rattle.std.proofs.lemmas.Result.{err_from_is_err_and}
use Rattle.heap_row.proofs.Walks.{never_arrives, walks_on}
use Rattle.heap_row.proofs.walk.end_of.Goals as goal

pub returns-in_err-attribute-clause-end : goal.returns-in_err-attribute-clause-end
returns-in_err-attribute-clause-end c =
    let p = err_from_is_err_and c.from_residual.result c.from_residual.ensures.1 in
    rw (p.1, p.2)
    (never_arrives c.args.tuple.now c.args.columns.now c.loop-before.before c.args.target c.loop-before.place c.index-columns-before.result c.in_err-attribute.field-0.0
    c.loop-before.invariant.stands c.loop-before-test.true c.requires.inside c.index-columns-before.is c.in_err-attribute.ensures.attribute)

pub loop-before-preserved : goal.loop-before-preserved
loop-before-preserved c = record {
  stands = rw c.end_behind-place.ensures
      (walks_on c.args.tuple.now c.args.columns.now c.loop-before.before c.loop-before.place c.index-columns-before.result c.in_ok-attribute.attribute
      c.loop-before.invariant.stands (omega arith) c.index-columns-before.is c.in_ok-attribute.ensures.attribute);
  inside = rw c.end_behind-place.ensures c.in_ok-attribute.ensures.inside;
  behind = omega arith;
}
