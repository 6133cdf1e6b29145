use Rattle.std.proofs.Common.{◌≡◌, ◌∙◌, List, sym, subst, arith, ap, length}
use Rattle.std.proofs.lemmas.Slice.Zip.{AllZip-long}
use Rattle.opclass.specs.Values.{IsValueOf}
use Rattle.opclass.specs.declared.value.KeyVal.{KeyVal}
use Rattle.pg_bytes.specs.declared.row_ptr.RowPtr.{RowPtr}
use Rattle.btree_item.specs.Item.{IsTupleOf, MayShare}
use Rattle.btree_item.specs.Leaf.{posting_image}
use Rattle.btree_item.specs.declared.item.Item.TheVariants.{Posting}
use Rattle.btree_item.proofs.ItemFronts.{posting-begins}
use Rattle.btree_item.proofs.ItemReads.{keys-read, same-pointers}
use Rattle.btree_item.proofs.item_reading.read_posting.Goals as goal

pub returns-in_default : goal.returns-in_default
returns-in_default c = λ keys ptrs many t.
    c.in_default.not-Some keys (c.in_ok-keys.ensures.only _ _ keys (posting-begins c.args.kinds.now c.args.bytes.now keys ptrs t))

pub returns-in_default-2 : goal.returns-in_default-2
returns-in_default-2 c = λ keys ptrs many t.
    let same : keys ≡ c.in-Some.keys =
    keys-read c.args.kinds.now c.args.bytes.now _ _ c.in-Some.keys keys (rw c.in-Some.is at c.in_ok-keys.ensures.only)
    (posting-begins c.args.kinds.now c.args.bytes.now keys ptrs t) in
    c.in_default-2.not-Some ptrs
    (c.in_ok-ptrs.ensures.only ptrs many
    (subst (λ (k : List KeyVal). IsTupleOf c.args.kinds.now c.args.bytes.now (Posting k ptrs)) (same ∙ sym c.as_slice.ensures) t))

pub is_posting-requires-clause-columns : goal.is_posting-requires-clause-columns
is_posting-requires-clause-columns c =
    let long = AllZip-long IsValueOf c.args.kinds.now c.in-Some.keys (rw c.in-Some.is at c.in_ok-keys.ensures.typed) in
    let same = ap length c.as_slice-2.ensures in
    let few = c.requires.few in
    omega arith

pub returns-else-branch : goal.returns-else-branch
returns-else-branch c = λ keys ptrs many t.
    let same : keys ≡ c.in-Some.keys =
    keys-read c.args.kinds.now c.args.bytes.now _ _ c.in-Some.keys keys (rw c.in-Some.is at c.in_ok-keys.ensures.only)
    (posting-begins c.args.kinds.now c.args.bytes.now keys ptrs t) in
    let read : ptrs ≡ c.in-Some-2.ptrs =
    same-pointers c.in-Some-2.ptrs ptrs
    ((rw c.in-Some-2.is at c.in_ok-ptrs.ensures.only) ptrs many
    (subst (λ (k : List KeyVal). IsTupleOf c.args.kinds.now c.args.bytes.now (Posting k ptrs)) (same ∙ sym c.as_slice.ensures) t)) in
    let Put : List KeyVal → List RowPtr → Type 0 =
    λ k p. MayShare c.args.kinds.now k p × (c.args.bytes.now ≡ posting_image c.args.kinds.now k p) in
    let yes = c.in_ok-is_posting.ensures.1
    (subst (λ (k : List KeyVal). Put k c.as_slice-3.result.now) (same ∙ sym c.as_slice-2.ensures)
    (subst (Put keys) (read ∙ sym c.as_slice-3.ensures) (t.is_item.shared, t.bytes_are))) in
    let no = c.if-branch.false in
    absurd cc
