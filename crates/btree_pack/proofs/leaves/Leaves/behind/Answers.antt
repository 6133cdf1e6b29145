use Rattle.std.proofs.Common.{◌≡◌, ℕ, ◌+◌, ◌-◌, ◌∙◌, arith, ap, drop, length, take}
use Rattle.btree_pack.proofs.LeafBuffer.{counted-all, counted-room, length-leaves_cut}
use Rattle.btree_pack.proofs.leaves.Leaves.behind.Goals as goal

pub overflow_add-sizes : goal.overflow_add-sizes
overflow_add-sizes c =
    let count = length-leaves_cut c.self.inside.sizes.items c.self.inside.tuples.items c.self.inside.separators.items in
    let same = ap length c.self.view_is in
    let o = c.self.inside.sizes.ok.0 in
    let inside = c.requires.within in
    omega arith

pub offset_bounds-deref-place : goal.offset_bounds-deref-place
offset_bounds-deref-place c =
    let count = length-leaves_cut c.self.inside.sizes.items c.self.inside.tuples.items c.self.inside.separators.items in
    let same = ap length c.self.view_is in
    let o = c.self.inside.sizes.ok.0 in
    let small = c.self.inside.sizes.small in
    let inside = c.requires.within in
    omega arith

pub slice_bounds-sizes-end : goal.slice_bounds-sizes-end
slice_bounds-sizes-end c =
    let count = length-leaves_cut c.self.inside.sizes.items c.self.inside.tuples.items c.self.inside.separators.items in
    let same = ap length c.self.view_is in
    let o = c.self.inside.sizes.ok.0 in
    let inside = c.requires.within in
    let long = c.deref.ensures.len in
    omega arith

pub overflow_add-behind-in-loop-size : goal.overflow_add-behind-in-loop-size
overflow_add-behind-in-loop-size c =
    let room = counted-room c.args.self.now c.self.inside.sizes.items c.self.inside.tuples.items c.self.inside.separators.items c.args.place c.loop-size.behind c.args.count c.loop-size.size-index _
    c.self.view_is c.self.invariant c.requires.place
    (ap (λ (n : ℕ). take n (drop c.args.place.number c.deref.result.now)) (let e : c.args.place.number + c.args.count - c.args.place.number ≡ c.args.count = omega arith in e)
    ∙ ap (λ l. take c.args.count (drop c.args.place.number l)) c.deref.ensures.value)
    c.loop-size.invariant c.loop-size-test.true (record { tuple = 0; extra = 0; separator = 0 }) in
    let size = c.from.ensures in
    let fits = c.self.inside.tuples.ok.0 in
    omega arith

pub overflow_add-behind-in-loop-size-2 : goal.overflow_add-behind-in-loop-size-2
overflow_add-behind-in-loop-size-2 c =
    let room = counted-room c.args.self.now c.self.inside.sizes.items c.self.inside.tuples.items c.self.inside.separators.items c.args.place c.loop-size.behind c.args.count c.loop-size.size-index _
    c.self.view_is c.self.invariant c.requires.place
    (ap (λ (n : ℕ). take n (drop c.args.place.number c.deref.result.now)) (let e : c.args.place.number + c.args.count - c.args.place.number ≡ c.args.count = omega arith in e)
    ∙ ap (λ l. take c.args.count (drop c.args.place.number l)) c.deref.ensures.value)
    c.loop-size.invariant c.loop-size-test.true (record { tuple = 0; extra = 0; separator = 0 }) in
    let size = c.from-in-loop-size.ensures in
    let fits = c.self.inside.separators.ok.0 in
    omega arith

pub returns : goal.returns
returns c =
    counted-all c.args.self.now c.self.inside.sizes.items c.self.inside.tuples.items c.self.inside.separators.items c.args.place c.loop-size.behind c.args.count c.loop-size.size-index _
    c.self.view_is c.self.invariant c.requires.place
    (ap (λ (n : ℕ). take n (drop c.args.place.number c.deref.result.now)) (let e : c.args.place.number + c.args.count - c.args.place.number ≡ c.args.count = omega arith in e)
    ∙ ap (λ l. take c.args.count (drop c.args.place.number l)) c.deref.ensures.value)
    c.requires.within c.loop-size.invariant c.loop-size-test.false c.loop-size.auto.size-index-end
