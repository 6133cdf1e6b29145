use Rattle.std.proofs.Common.{◌≡◌, ◌++◌, ◌∷◌, [], List, subst, sym, arith, length}
use Rattle.std.proofs.lemmas.Grind.{common_steps}
use Rattle.std.proofs.lemmas.Bool.Decides.{nat_tests}
use Rattle.opclass.specs.declared.value.KeyVal.{KeyVal}
use Rattle.opclass.specs.Norm.{IsNormOf}
use Rattle.opclass.proofs.NormReading.{step_fails, step_reads, read_through, read_whole, none_left}
use Rattle.opclass.proofs.reader.read_norm.Goals as goal

pub returns-in_default : goal.returns-in_default
returns-in_default c =
    step_fails c.args.spec.now _ c.loop-part.part-index _ c.args.bytes.now c.loop-part.left.now c.loop-part.values.items c.as_slice-part-items.ensures
    c.loop-part-test.true c.loop-part.invariant (rw c.in_default.is at c.in_ok-value.ensures)

pub loop-part-preserved : goal.loop-part-preserved
loop-part-preserved c =
    let put : c.push.new.self.items ≡ c.loop-part.values.items ++ c.in-Some.value ∷ [] = grind (arith, common_steps, c.in_ok-push.ensures.items) in
    step_reads c.args.spec.now _ c.loop-part.part-index _ c.args.bytes.now c.loop-part.left.now c.in-Some.behind.now c.loop-part.values.items
    c.push.new.self.items c.in-Some.value c.as_slice-part-items.ensures c.loop-part-test.true c.loop-part.invariant
    (rw c.in-Some.is at c.in_ok-value.ensures) put

pub returns-then-is_empty : goal.returns-then-is_empty
returns-then-is_empty c =
    let size : length c.loop-part.left.now ≡ 0 = grind (arith, nat_tests) in
    subst (λ (vs : List KeyVal). IsNormOf c.args.spec.now vs c.args.bytes.now) (sym c.from_vec.ensures)
    (read_whole c.args.spec.now c.args.bytes.now c.loop-part.left.now c.loop-part.values.items
    (read_through c.args.spec.now _ c.loop-part.part-index c.args.bytes.now c.loop-part.left.now c.loop-part.values.items c.as_slice-part-items.ensures
    c.loop-part-test.false c.loop-part.invariant)
    (none_left c.loop-part.left.now size))
