use Rattle.std.proofs.Common.{◌≡◌, ℕ, ◌+◌, ◌-◌, length, drop, false, get_or, ap, sym, ◌∙◌, subst, arith}
use Rattle.std.proofs.lemmas.List.{length-drop, length-map, length-take-le}
use Rattle.std.proofs.lemmas.List.Elements.{All-drop}
use Rattle.btree_pack.specs.Pass.Buffer.{leaves_from, size_of}
use Rattle.btree_pack.specs.Pass.Joining.{AreJoining, fill_breaks}
use Rattle.btree_pack.specs.Pass.Run.{IsLeaf}
use Rattle.btree_pack.proofs.Joinings.{Joined, is-next, joined-all, joined-breaks, joined-more, next-small}
use Rattle.btree_pack.proofs.open_page.OpenPage.joining.Goals as goal

pub breaks-requires-clause-size : goal.breaks-requires-clause-size
breaks-requires-clause-size c =
    let small = next-small (drop c.args.from c.args.leaves.now) c.loop-count.count _ (All-drop IsLeaf c.args.from c.args.leaves.now c.requires.leaves)
    (is-next c.args.leaves.now c.args.from (c.len.result - c.args.from) c.loop-count.count c.sizes-size-items.result.now c.sizes-size-items.ensures
    (ap (λ (n : ℕ). n - c.args.from) c.len.ensures) c.loop-count-test.true) in
    let size = c.from-tuple.ensures in
    omega arith

pub returns-then-breaks : goal.returns-then-breaks
returns-then-breaks c =
    joined-breaks c.args.fillfactor c.args.self.now (drop c.args.from c.args.leaves.now) c.loop-count.count c.loop-count.fill _ c.loop-count.invariant
    (is-next c.args.leaves.now c.args.from (c.len.result - c.args.from) c.loop-count.count c.sizes-size-items.result.now c.sizes-size-items.ensures
    (ap (λ (n : ℕ). n - c.args.from) c.len.ensures) c.loop-count-test.true)
    (ap (fill_breaks c.args.fillfactor c.loop-count.fill) (sym c.from-tuple.ensures) ∙ sym c.breaks.ensures ∙ c.if-breaks.true)

pub with-fill-requires-clause-size : goal.with-fill-requires-clause-size
with-fill-requires-clause-size c =
    let small = next-small (drop c.args.from c.args.leaves.now) c.loop-count.count _ (All-drop IsLeaf c.args.from c.args.leaves.now c.requires.leaves)
    (is-next c.args.leaves.now c.args.from (c.len.result - c.args.from) c.loop-count.count c.sizes-size-items.result.now c.sizes-size-items.ensures
    (ap (λ (n : ℕ). n - c.args.from) c.len.ensures) c.loop-count-test.true) in
    let size = c.from-tuple.ensures in
    omega arith

pub loop-count-preserved : goal.loop-count-preserved
loop-count-preserved c =
    let size = (get_or c.sizes-size-items.result.now c.loop-count.count (record { tuple = 0; extra = 0; separator = 0 })) in
    let fill = c.loop-count.fill in
    let more = joined-more c.args.fillfactor c.args.self.now (drop c.args.from c.args.leaves.now) c.loop-count.count fill _ c.loop-count.invariant
    (All-drop IsLeaf c.args.from c.args.leaves.now c.requires.leaves)
    (is-next c.args.leaves.now c.args.from (c.len.result - c.args.from) c.loop-count.count c.sizes-size-items.result.now c.sizes-size-items.ensures
    (ap (λ (n : ℕ). n - c.args.from) c.len.ensures) c.loop-count-test.true)
    (ap (fill_breaks c.args.fillfactor fill) (sym c.from-tuple.ensures) ∙ sym c.breaks.ensures ∙ c.if-breaks.false) in
    let made = c.with-fill.ensures
    ∙ ap (λ (n : ℕ). record fill { alone = false; taken = fill.taken + (n + 4); extra = c.from.result }) c.from-tuple.ensures
    ∙ ap (λ (n : ℕ). record fill { alone = false; taken = fill.taken + (size.tuple + 4); extra = n }) c.from.ensures in
    subst (Joined c.args.fillfactor c.args.self.now (drop c.args.from c.args.leaves.now) (c.loop-count.count + 1)) (sym made) more

pub returns : goal.returns
returns c =
    let leaves = drop c.args.from c.args.leaves.now in
    let most = c.len.result - c.args.from in
    let here = c.len.ensures in
    let is = length-drop c.args.from c.args.leaves.now in
    let front = length-take-le most leaves (omega arith) in
    let sizes = ap length c.sizes-size-items.ensures ∙ length-map (leaves_from c.args.from most c.args.leaves.now) size_of in
    let done = c.loop-count-test.false in
    let within = c.loop-count.auto.count-end in
    let all : c.loop-count.count ≡ most = omega arith in
    subst (AreJoining c.args.fillfactor c.args.self.now leaves) all
    (joined-all c.args.fillfactor c.args.self.now leaves c.loop-count.count c.loop-count.fill c.loop-count.invariant (omega arith))
