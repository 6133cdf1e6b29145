use Rattle.std.proofs.Common.{◌≡◌, ◌+◌, ◌*◌, List, ℕ, ◌++◌, length, OnOk, ap, ◌∙◌, subst, arith}
use Rattle.pg_bytes.specs.Numbers.{rounded_up}
use Rattle.btree_item.specs.Tuple.{index_tuple, info_of, no_row_mark}
use Rattle.btree_item.specs.Leaf.{posting_mark, posting_size}
use Rattle.btree_item.proofs.Joins.{HasPointers, length-HasPointers, posting-joined}
use Rattle.btree_item.proofs.posting_tuple.put_parts.Goals as goal

pub fill_up-requires-clause-behind : goal.fill_up-requires-clause-behind
fill_up-requires-clause-behind c =
    let info : ℕ = c.al8-size.result + no_row_mark + c.marks.result in
    let put : HasPointers c.args.out.now.items c.put_tuple.new.out.items c.put_pointers.new.out.items c.args.kinds.now c.args.keys.now c.args.ptrs.now info = record {
      tuple =
          c.in_ok-put_tuple.ensures.ok
          ∙ ap (λ size. c.args.out.now.items ++ index_tuple (record { block = size; offset = length c.args.ptrs.now + posting_mark }) info c.args.kinds.now c.args.keys.now) c.tuple_size-keys_size.ensures;
      pointers = c.in_ok-put_pointers.ensures.ok;
    } in
    let behind = length-HasPointers _ _ _ _ _ _ _ put in
    omega (arith, c.len-start.ensures, c.tuple_size-keys_size.ensures, c.al8-size.ensures)

pub fill_up-requires-clause-near : goal.fill_up-requires-clause-near
fill_up-requires-clause-near c =
    let info : ℕ = c.al8-size.result + no_row_mark + c.marks.result in
    let put : HasPointers c.args.out.now.items c.put_tuple.new.out.items c.put_pointers.new.out.items c.args.kinds.now c.args.keys.now c.args.ptrs.now info = record {
      tuple =
          c.in_ok-put_tuple.ensures.ok
          ∙ ap (λ size. c.args.out.now.items ++ index_tuple (record { block = size; offset = length c.args.ptrs.now + posting_mark }) info c.args.kinds.now c.args.keys.now) c.tuple_size-keys_size.ensures;
      pointers = c.in_ok-put_pointers.ensures.ok;
    } in
    let behind = length-HasPointers _ _ _ _ _ _ _ put in
    omega (arith, c.len-start.ensures, c.tuple_size-keys_size.ensures, c.al8-size.ensures)

pub returns-clause-ok : goal.returns-clause-ok
returns-clause-ok c =
    let info : ℕ = c.al8-size.result + no_row_mark + c.marks.result in
    let put : HasPointers c.args.out.now.items c.put_tuple.new.out.items c.put_pointers.new.out.items c.args.kinds.now c.args.keys.now c.args.ptrs.now info = record {
      tuple =
          c.in_ok-put_tuple.ensures.ok
          ∙ ap (λ size. c.args.out.now.items ++ index_tuple (record { block = size; offset = length c.args.ptrs.now + posting_mark }) info c.args.kinds.now c.args.keys.now) c.tuple_size-keys_size.ensures;
      pointers = c.in_ok-put_pointers.ensures.ok;
    } in
    let size : c.al8-size.result ≡ posting_size c.args.kinds.now c.args.keys.now (length c.args.ptrs.now) =
    c.al8-size.ensures ∙ ap (λ keys. rounded_up 8 (keys + 6 * length c.args.ptrs.now)) c.tuple_size-keys_size.ensures in
    let told : info ≡ info_of (posting_size c.args.kinds.now c.args.keys.now (length c.args.ptrs.now) + no_row_mark) c.args.kinds.now c.args.keys.now =
    ap (λ whole. whole + no_row_mark + c.marks.result) size
    ∙ ap (λ marks. posting_size c.args.kinds.now c.args.keys.now (length c.args.ptrs.now) + no_row_mark + marks) c.marks.ensures in
    let end : c.len-start.result + c.al8-size.result ≡ length c.args.out.now.items + posting_size c.args.kinds.now c.args.keys.now (length c.args.ptrs.now) =
    omega (arith, c.len-start.ensures, size) in
    let Puts : List ℕ → Type 0 = λ bytes. OnOk c.fill_up.result (c.fill_up.new.out.items ≡ bytes) in
    subst Puts (posting-joined _ _ _ _ _ _ _ _ told put end) c.fill_up.ensures.ok
