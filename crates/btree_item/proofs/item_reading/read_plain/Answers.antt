use Rattle.std.proofs.Common.{◌≡◌, ◌∙◌, ◌≤◌, List, sym, subst, arith, ap, length}
use Rattle.std.proofs.lemmas.Slice.Zip.{AllZip-long}
use Rattle.opclass.specs.Values.{IsValueOf}
use Rattle.opclass.specs.declared.value.KeyVal.{KeyVal}
use Rattle.btree_item.specs.Leaf.{plain_image}
use Rattle.btree_item.specs.Tuple.{size_of}
use Rattle.btree_item.proofs.ItemFronts.{plain-begins}
use Rattle.btree_item.proofs.ItemReads.{keys-read}
use Rattle.btree_item.proofs.item_reading.read_plain.Goals as goal

pub returns-in_default : goal.returns-in_default
returns-in_default c = λ keys t.
    c.in_default.not-Some keys (c.in_ok-keys.ensures.only _ _ keys (plain-begins c.args.kinds.now c.args.bytes.now keys c.args.ptr t))

pub is_plain-requires-clause-few : goal.is_plain-requires-clause-few
is_plain-requires-clause-few c =
    let long = AllZip-long IsValueOf c.args.kinds.now c.in-Some.keys (rw c.in-Some.is at c.in_ok-keys.ensures.typed) in
    let same = ap length c.as_slice.ensures in
    let few = c.requires.few in
    omega arith

pub returns-else-branch : goal.returns-else-branch
returns-else-branch c = λ keys t.
    let same : keys ≡ c.in-Some.keys =
    keys-read c.args.kinds.now c.args.bytes.now _ _ c.in-Some.keys keys (rw c.in-Some.is at c.in_ok-keys.ensures.only)
    (plain-begins c.args.kinds.now c.args.bytes.now keys c.args.ptr t) in
    let Put : List KeyVal → Type 0 =
    λ k. (size_of c.args.kinds.now k ≤ 2704) × (c.args.bytes.now ≡ plain_image c.args.kinds.now k c.args.ptr) in
    let yes = c.in_ok-is_plain.ensures.1 (subst Put (same ∙ sym c.as_slice.ensures) (t.is_item.small, t.bytes_are)) in
    let no = c.if-branch.false in
    absurd cc
