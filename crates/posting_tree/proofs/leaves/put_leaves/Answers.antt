use Rattle.std.proofs.Common.{◌≡◌, ◌++◌, ◌∙◌, ◌*◌, ◌≤◌, ap, refl, List, ℕ, length, take, arith}
use Rattle.std.proofs.lemmas.Result.{IfOk-weaker}
use Rattle.posting_tree.proofs.DataWrites.{extends-itself, extends-more}
use Rattle.posting_tree.proofs.Fronts.{is-empty}
use Rattle.posting_tree.proofs.LeafSteps.{some-segment, taken-all, taken-more, taken-none}
use Rattle.posting_tree.specs.Building.{LeafLevelPut}
use Rattle.posting_tree.specs.Segments.{segment}
use Rattle.posting_tree.proofs.leaves.put_leaves.Goals as goal

pub loop-left-init : goal.loop-left-init
loop-left-init c = record {
  taken = taken-none _ _ _ _ _ _ c.new.ensures.items c.new-2.ensures.items c.requires.ascending;
  size = let none = ap length c.new.ensures.items in let e = c.blocks-2.ensures in omega arith;
  first = c.blocks-2.ensures;
  content = let none = ap length c.new-2.ensures.items in omega arith;
  some = λ less. absurd (omega arith);
  extends = extends-itself c.args.image.now;
}

pub loop-left-preserved : goal.loop-left-preserved
loop-left-preserved c =
    let inv = c.loop-left.invariant in
    let part : List ℕ = segment (take c.in_ok-count.count c.loop-left.left.now) in
    let put : c.put_some.new.out.items ≡ part = c.in_ok-count.ensures.put ∙ ap (λ (b : List ℕ). b ++ part) c.clear.ensures.items in
    let bytes_are : c.deref.result.now ≡ part = c.deref.ensures.value ∙ put in
    let clear : length c.clear.new.self.items ≡ 0 = ap length c.clear.ensures.items in
    let same : length c.deref.result.now ≡ length c.put_some.new.out.items = ap length c.deref.ensures.value in
    let within = c.in_ok-count.ensures.within in
    let small : length c.deref.result.now ≤ 384 = omega arith in
    let bytes = some-segment c.loop-left.left.now c.in_ok-count.count _ c.in_ok-count.ensures.some c.in_ok-count.ensures.count bytes_are in
    let more = c.in_ok-take.ensures.some in
    record {
      taken = taken-more _ _ _ _ _ _ _ _ _ _ _ _ _ _ _ _ _ refl inv.taken c.in_ok-count.ensures.some c.in_ok-count.ensures.count bytes_are small c.in_ok-count.ensures.have_blocks c.in_ok-take.ensures.takes;
      size = c.in_ok-take.ensures.size;
      first = ap (λ (n : ℕ). n * 8192) c.in_ok-take.ensures.first ∙ inv.first;
      content = c.in_ok-take.ensures.content;
      some = λ less. omega arith;
      extends = extends-more _ _ _ inv.extends c.in_ok-take.ensures.extends;
    }

pub returns-clause-level : goal.returns-clause-level
returns-clause-level c =
    let inv = c.loop-left.invariant in
    let none = is-empty _ c.loop-left-test.ensures in
    let all = taken-all _ _ _ _ _ _ _ _ inv.taken none in
    let some = inv.some (omega (arith, c.requires.some)) in
    IfOk-weaker c.close.result _ (λ level. LeafLevelPut c.args.image.now c.close.new.image level.first level.keys.items c.args.ptrs.now)
    (λ level put. put c.args.image.now c.args.ptrs.now all.1 some) c.close.ensures.level
