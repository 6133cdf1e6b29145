use Rattle.std.proofs.Common.{◌≡◌, ◌+◌, ◌≤◌, List, ℕ, length, OnOk, subst, arith}
use Rattle.btree_item.specs.Tuple.{size_of}
use Rattle.btree_item.proofs.Joins.{HasData, length-HasData, tuple-joined}
use Rattle.btree_item.proofs.Sizes.{data-below, data_end-near, data_end-within}
use Rattle.btree_item.proofs.tuple.put_tuple.Goals as goal

pub put_data-requires : goal.put_data-requires
put_data-requires c = data-below c.args.kinds.now c.args.values.now (subst (λ n. n ≤ 2704) c.requires.size c.requires.small)

pub fill_up-requires-clause-behind : goal.fill_up-requires-clause-behind
fill_up-requires-clause-behind c =
    let put : HasData c.args.out.now.items c.put_head.new.out.items c.put_bitmap.new.out.items c.put_data.new.out.items c.args.front c.args.info c.args.kinds.now c.args.values.now = record {
      head = c.in_ok-put_head.ensures.ok;
      bitmap = c.in_ok-put_bitmap.ensures.ok;
      data_put = c.in_ok-put_data.ensures.ok;
    } in
    let behind = length-HasData _ _ _ _ _ _ _ _ put in
    let within = data_end-within c.args.kinds.now c.args.values.now in
    omega (arith, c.len.ensures, c.requires.size)

pub fill_up-requires-clause-near : goal.fill_up-requires-clause-near
fill_up-requires-clause-near c =
    let put : HasData c.args.out.now.items c.put_head.new.out.items c.put_bitmap.new.out.items c.put_data.new.out.items c.args.front c.args.info c.args.kinds.now c.args.values.now = record {
      head = c.in_ok-put_head.ensures.ok;
      bitmap = c.in_ok-put_bitmap.ensures.ok;
      data_put = c.in_ok-put_data.ensures.ok;
    } in
    let behind = length-HasData _ _ _ _ _ _ _ _ put in
    let near = data_end-near c.args.kinds.now c.args.values.now in
    omega (arith, c.len.ensures, c.requires.size)

pub returns-clause-ok : goal.returns-clause-ok
returns-clause-ok c =
    let put : HasData c.args.out.now.items c.put_head.new.out.items c.put_bitmap.new.out.items c.put_data.new.out.items c.args.front c.args.info c.args.kinds.now c.args.values.now = record {
      head = c.in_ok-put_head.ensures.ok;
      bitmap = c.in_ok-put_bitmap.ensures.ok;
      data_put = c.in_ok-put_data.ensures.ok;
    } in
    let end : c.len.result + c.args.size ≡ length c.args.out.now.items + size_of c.args.kinds.now c.args.values.now =
    omega (arith, c.len.ensures, c.requires.size) in
    let Puts : List ℕ → Type 0 = λ bytes. OnOk c.fill_up.result (c.fill_up.new.out.items ≡ bytes) in
    subst Puts (tuple-joined _ _ _ _ _ _ _ _ _ put end) c.fill_up.ensures.ok
