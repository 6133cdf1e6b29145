use Rattle.std.proofs.Common.{◌≡◌, ap, ◌∙◌, set}
use Rattle.btree_pack.specs.Pass.Buffer.{leaves_between}
use Rattle.btree_pack.specs.Pass.Joining.{HasRoomFor, with_leaves}
use Rattle.btree_pack.proofs.Joinings.{laid-between}
use Rattle.btree_pack.proofs.Places.{at-got, got, if-got}
use Rattle.btree_pack.proofs.open_tower.OpenTower.join_all.Goals as goal

pub add_all-requires-clause-whole : goal.add_all-requires-clause-whole
add_all-requires-clause-whole c =
    (laid-between c.index_mut-page.result.now c.args.leaves.now c.args.first.number c.args.last.number c.tuples-tuples.result.now c.sizes-sizes.result.now c.args.buffer.now.items
    c.extra-extra.result c.requires.leaves c.requires.order c.requires.last.inside
    (at-got (HasRoomFor (leaves_between c.args.first.number c.args.last.number c.args.leaves.now)) c.args.self.now.pages.items 0 c.index_mut-page.result.now
    (got c.args.self.now.pages.items 0 c.index_mut-page.result.now c.requires.leaf c.index_mut-page.ensures.value) c.requires.room)
    c.tuples-tuples.ensures c.sizes-sizes.ensures c.requires.tuple c.extra-extra.ensures).whole

pub add_all-requires-clause-tuples : goal.add_all-requires-clause-tuples
add_all-requires-clause-tuples c =
    (laid-between c.index_mut-page.result.now c.args.leaves.now c.args.first.number c.args.last.number c.tuples-tuples.result.now c.sizes-sizes.result.now c.args.buffer.now.items
    c.extra-extra.result c.requires.leaves c.requires.order c.requires.last.inside
    (at-got (HasRoomFor (leaves_between c.args.first.number c.args.last.number c.args.leaves.now)) c.args.self.now.pages.items 0 c.index_mut-page.result.now
    (got c.args.self.now.pages.items 0 c.index_mut-page.result.now c.requires.leaf c.index_mut-page.ensures.value) c.requires.room)
    c.tuples-tuples.ensures c.sizes-sizes.ensures c.requires.tuple c.extra-extra.ensures).tuples

pub add_all-requires-clause-tuple : goal.add_all-requires-clause-tuple
add_all-requires-clause-tuple c =
    (laid-between c.index_mut-page.result.now c.args.leaves.now c.args.first.number c.args.last.number c.tuples-tuples.result.now c.sizes-sizes.result.now c.args.buffer.now.items
    c.extra-extra.result c.requires.leaves c.requires.order c.requires.last.inside
    (at-got (HasRoomFor (leaves_between c.args.first.number c.args.last.number c.args.leaves.now)) c.args.self.now.pages.items 0 c.index_mut-page.result.now
    (got c.args.self.now.pages.items 0 c.index_mut-page.result.now c.requires.leaf c.index_mut-page.ensures.value) c.requires.room)
    c.tuples-tuples.ensures c.sizes-sizes.ensures c.requires.tuple c.extra-extra.ensures).last

pub add_all-requires-clause-room : goal.add_all-requires-clause-room
add_all-requires-clause-room c =
    (laid-between c.index_mut-page.result.now c.args.leaves.now c.args.first.number c.args.last.number c.tuples-tuples.result.now c.sizes-sizes.result.now c.args.buffer.now.items
    c.extra-extra.result c.requires.leaves c.requires.order c.requires.last.inside
    (at-got (HasRoomFor (leaves_between c.args.first.number c.args.last.number c.args.leaves.now)) c.args.self.now.pages.items 0 c.index_mut-page.result.now
    (got c.args.self.now.pages.items 0 c.index_mut-page.result.now c.requires.leaf c.index_mut-page.ensures.value) c.requires.room)
    c.tuples-tuples.ensures c.sizes-sizes.ensures c.requires.tuple c.extra-extra.ensures).room

pub add_all-requires-clause-extra : goal.add_all-requires-clause-extra
add_all-requires-clause-extra c =
    (laid-between c.index_mut-page.result.now c.args.leaves.now c.args.first.number c.args.last.number c.tuples-tuples.result.now c.sizes-sizes.result.now c.args.buffer.now.items
    c.extra-extra.result c.requires.leaves c.requires.order c.requires.last.inside
    (at-got (HasRoomFor (leaves_between c.args.first.number c.args.last.number c.args.leaves.now)) c.args.self.now.pages.items 0 c.index_mut-page.result.now
    (got c.args.self.now.pages.items 0 c.index_mut-page.result.now c.requires.leaf c.index_mut-page.ensures.value) c.requires.room)
    c.tuples-tuples.ensures c.sizes-sizes.ensures c.requires.tuple c.extra-extra.ensures).few

pub returns-clause-page : goal.returns-clause-page
returns-clause-page c =
    let pages = c.args.self.now.pages.items in
    let page = c.index_mut-page.result.now in
    let laid = (laid-between c.index_mut-page.result.now c.args.leaves.now c.args.first.number c.args.last.number c.tuples-tuples.result.now c.sizes-sizes.result.now c.args.buffer.now.items
    c.extra-extra.result c.requires.leaves c.requires.order c.requires.last.inside
    (at-got (HasRoomFor (leaves_between c.args.first.number c.args.last.number c.args.leaves.now)) c.args.self.now.pages.items 0 c.index_mut-page.result.now
    (got c.args.self.now.pages.items 0 c.index_mut-page.result.now c.requires.leaf c.index_mut-page.ensures.value) c.requires.room)
    c.tuples-tuples.ensures c.sizes-sizes.ensures c.requires.tuple c.extra-extra.ensures) in
    if-got (λ page. set pages 0 c.add_all.new.self ≡ set pages 0 (with_leaves (leaves_between c.args.first.number c.args.last.number c.args.leaves.now) page)) pages 0 page
    (got pages 0 page c.requires.leaf c.index_mut-page.ensures.value) (ap (set pages 0) (c.in_ok-add_all.ensures ∙ laid.is))
