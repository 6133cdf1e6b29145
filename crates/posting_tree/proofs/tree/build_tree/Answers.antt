use Rattle.std.proofs.Common.{◌≡◌, ◌*◌, ◌/◌, ◌<◌, ap, length, arith}
use Rattle.posting_tree.proofs.DataWrites.{extends-more}
use Rattle.posting_tree.proofs.TreeSteps.{tree-leaves, tree-level, tree-whole}
use Rattle.posting_tree.proofs.PostingReading.{added-is-read}
use Rattle.posting_tree.proofs.tree.build_tree.Goals as goal

pub loop-alloc-init : goal.loop-alloc-init
loop-alloc-init c =
    let level = c.in_ok-level.ensures.level in
    let first = c.in_ok-level.ensures.first in
    let room = c.requires.room in
    let ptrs = c.requires.few in
    let few = level.few in
    let some = ap length level.whole in
    record {
      put = tree-leaves _ _ _ _ _ level first;
      started = (let e : length c.args.image.now / 8192 * 8192 ≡ length c.args.image.now = omega arith in e);
      size = c.in_ok-level.ensures.size;
      some = c.in_ok-level.ensures.some;
      few = omega arith;
      have_blocks = c.in_ok-level.ensures.have_blocks;
      extends = c.in_ok-level.ensures.extends;
    }

pub loop-alloc-preserved : goal.loop-alloc-preserved
loop-alloc-preserved c =
    let inv = c.loop-alloc.invariant in
    let several : 1 < length c.loop-alloc.level.keys.items = omega (arith, c.len.ensures) in
    let first = c.in_ok-level-2.ensures.first in
    let few = inv.few in
    let halved = c.in_ok-level-2.ensures.halved in
    record {
      put = tree-level _ _ _ _ _ _ _ _ inv.put c.in_ok-level-2.ensures.level several first;
      started = inv.started;
      size = c.in_ok-level-2.ensures.size;
      some = c.in_ok-level-2.ensures.some;
      few = omega arith;
      have_blocks = inv.have_blocks;
      extends = extends-more _ _ _ inv.extends c.in_ok-level-2.ensures.extends;
    }

pub returns-clause-tree : goal.returns-clause-tree
returns-clause-tree c =
    let some = c.loop-alloc.invariant.some in
    tree-whole _ _ _ _ _ c.loop-alloc.invariant.put (omega (arith, c.len.ensures))

pub returns-clause-reads : goal.returns-clause-reads
returns-clause-reads c =
    let inv = c.loop-alloc.invariant in
    let some = inv.some in
    let few = inv.few in
    let size = inv.size in
    let tree = tree-whole _ _ _ _ _ inv.put (omega (arith, c.len.ensures)) in
    added-is-read _ _ _ _ tree inv.started (omega arith) c.requires.some c.requires.ascending inv.have_blocks
