use Rattle.std.proofs.Common.{◌≡◌, ◌*◌, ◌+◌, ◌<◌, ◌≤◌, List, ℕ, length, take, get_or, ap, ◌∙◌, arith}
use Rattle.std.specs.Prelude.{All}
use Rattle.std.proofs.lemmas.List.{take_all}
use Rattle.std.proofs.lemmas.List.Sums.{sum_by_more}
use Rattle.btree_pack.proofs.Buffer.{inside-tuples, length-cut_by, tuple-at}
use Rattle.btree_page.proofs.MetaWrites.{length-special_bytes}
use Rattle.btree_pack.proofs.TupleRoom.{HasPlace, has_place}
use Rattle.btree_page.specs.SpecialSpace.{special_bytes}
use Rattle.btree_page.specs.declared.special.SpecialSpace.{SpecialSpace}
use Rattle.btree_pack.specs.Pass.Begun.{begun_page}
use Rattle.btree_pack.specs.Pass.Buffer.{cut_by}
use Rattle.btree_pack.specs.Pass.Packing.{IsTuple, room_of}
use Rattle.btree_pack.proofs.tuples.Tuples.page.Goals as goal

-- the tuple that comes next has its place
place : (space : SpecialSpace) (reserved : ℕ) (tuples : List (List ℕ)) (sizes bytes all : List ℕ) (at : ℕ) (page : List ℕ)
    → reserved ≤ 1 → All IsTuple tuples → 4 * reserved + room_of tuples ≤ 8152 → cut_by sizes bytes ≡ tuples → at < length all → all ≡ sizes
    → page ≡ begun_page (special_bytes space) reserved (take at tuples)
    → HasPlace (special_bytes space) reserved tuples at page
place space reserved tuples sizes bytes all at page one are fits cut inside same is =
    has_place (special_bytes space) reserved tuples at page (length-special_bytes space) one are fits
    (inside-tuples tuples sizes bytes all at cut inside same) is

pub overflow_cast-at : goal.overflow_cast-at
overflow_cast-at c = let p = (place _ c.args.reserved c.args.self.now c.self.inside.sizes.items c.self.inside.bytes.items _ c.loop-at.at c.loop-at.page c.requires.reserved c.requires.tuples c.requires.room c.self.view_is c.loop-at-test.true c.deref-size-items.ensures.value c.loop-at.invariant.page) in let few = p.few in let one = c.requires.reserved in omega arith

pub overflow_add-at : goal.overflow_add-at
overflow_add-at c = let p = (place _ c.args.reserved c.args.self.now c.self.inside.sizes.items c.self.inside.bytes.items _ c.loop-at.at c.loop-at.page c.requires.reserved c.requires.tuples c.requires.room c.self.view_is c.loop-at-test.true c.deref-size-items.ensures.value c.loop-at.invariant.page) in let few = p.few in let one = c.requires.reserved in omega arith

pub overflow_add-at-in-loop-at : goal.overflow_add-at-in-loop-at
overflow_add-at-in-loop-at c = let p = (place _ c.args.reserved c.args.self.now c.self.inside.sizes.items c.self.inside.bytes.items _ c.loop-at.at c.loop-at.page c.requires.reserved c.requires.tuples c.requires.room c.self.view_is c.loop-at-test.true c.deref-size-items.ensures.value c.loop-at.invariant.page) in let few = p.few in let one = c.requires.reserved in omega arith

pub put_item-requires-clause-item : goal.put_item-requires-clause-item
put_item-requires-clause-item c =
    let p = (place _ c.args.reserved c.args.self.now c.self.inside.sizes.items c.self.inside.bytes.items _ c.loop-at.at c.loop-at.page c.requires.reserved c.requires.tuples c.requires.room c.self.view_is c.loop-at-test.true c.deref-size-items.ensures.value c.loop-at.invariant.page) in
    let item = (tuple-at c.args.self.now c.self.inside.sizes.items c.self.inside.bytes.items _ c.loop-at.place c.from.result c.loop-at.at c.self.view_is (let same = ap length c.deref-size-items.ensures.value in let inside = c.loop-at-test.true in omega arith) c.loop-at.invariant.place (c.from.ensures ∙ ap (λ (l : List ℕ). get_or l c.loop-at.at 0) c.deref-size-items.ensures.value) c.deref.ensures.value) in
    rw item p.some

pub put_item-requires-clause-upper : goal.put_item-requires-clause-upper
put_item-requires-clause-upper c = let p = (place _ c.args.reserved c.args.self.now c.self.inside.sizes.items c.self.inside.bytes.items _ c.loop-at.at c.loop-at.page c.requires.reserved c.requires.tuples c.requires.room c.self.view_is c.loop-at-test.true c.deref-size-items.ensures.value c.loop-at.invariant.page) in p.upper

pub put_item-requires-clause-room : goal.put_item-requires-clause-room
put_item-requires-clause-room c =
    let p = (place _ c.args.reserved c.args.self.now c.self.inside.sizes.items c.self.inside.bytes.items _ c.loop-at.at c.loop-at.page c.requires.reserved c.requires.tuples c.requires.room c.self.view_is c.loop-at-test.true c.deref-size-items.ensures.value c.loop-at.invariant.page) in
    let item = (tuple-at c.args.self.now c.self.inside.sizes.items c.self.inside.bytes.items _ c.loop-at.place c.from.result c.loop-at.at c.self.view_is (let same = ap length c.deref-size-items.ensures.value in let inside = c.loop-at-test.true in omega arith) c.loop-at.invariant.place (c.from.ensures ∙ ap (λ (l : List ℕ). get_or l c.loop-at.at 0) c.deref-size-items.ensures.value) c.deref.ensures.value) in
    rw item p.room

pub loop-at-preserved : goal.loop-at-preserved
loop-at-preserved c =
    let p = (place _ c.args.reserved c.args.self.now c.self.inside.sizes.items c.self.inside.bytes.items _ c.loop-at.at c.loop-at.page c.requires.reserved c.requires.tuples c.requires.room c.self.view_is c.loop-at-test.true c.deref-size-items.ensures.value c.loop-at.invariant.page) in
    let item = (tuple-at c.args.self.now c.self.inside.sizes.items c.self.inside.bytes.items _ c.loop-at.place c.from.result c.loop-at.at c.self.view_is (let same = ap length c.deref-size-items.ensures.value in let inside = c.loop-at-test.true in omega arith) c.loop-at.invariant.place (c.from.ensures ∙ ap (λ (l : List ℕ). get_or l c.loop-at.at 0) c.deref-size-items.ensures.value) c.deref.ensures.value) in
    let same = ap length c.deref-size-items.ensures.value in
    let inside = c.loop-at-test.true in
    let size : c.from.result ≡ get_or c.self.inside.sizes.items c.loop-at.at 0 =
    c.from.ensures ∙ ap (λ (l : List ℕ). get_or l c.loop-at.at 0) c.deref-size-items.ensures.value in
    let more = sum_by_more (λ (x : ℕ). x) c.self.inside.sizes.items c.loop-at.at 0 (omega arith) in
    let here = c.loop-at.invariant.place in
    record {
      place = omega arith;
      page = c.put_item.ensures ∙ rw item p.more;
    }

pub returns : goal.returns
returns c =
    c.loop-at.invariant.page
    ∙ ap (begun_page (special_bytes c.args.special.now) c.args.reserved)
    (take_all c.loop-at.at c.args.self.now
    (let count = length-cut_by c.self.inside.sizes.items c.self.inside.bytes.items in let long = ap length c.self.view_is in
    let even = ap length c.deref-size-items.ensures.value in let done = c.loop-at-test.false in omega arith))
