use Rattle.std.proofs.Common.{◌≡◌, ◌∙◌, List, sym, subst, arith, rules, ap, length}
use Rattle.std.specs.List.{AllZip}
use Rattle.opclass.specs.Values.{IsValueOf}
use Rattle.opclass.specs.declared.types.ColType.{ColType}
use Rattle.btree_item.proofs.ItemReads.{cut-begins, is-pivot, kept-as, put-pivot, keys-read}
use Rattle.btree_item.proofs.item_reading.read_kept.Goals as goal

pub returns-in_default : goal.returns-in_default
returns-in_default c = λ keys many t.
    let kept = c.from.ensures in
    c.in_default.not-Some keys
    (c.in_ok-keys.ensures.only _ _ keys
    (cut-begins c.args.kinds.now _ c.args.bytes.now keys c.args.kept c.args.last c.args.child (search rules) many t))

pub is_pivot-requires-clause-few : goal.is_pivot-requires-clause-few
is_pivot-requires-clause-few c =
    let typed = rw c.in-Some.is at c.in_ok-keys.ensures.typed in
    let kept = c.from.ensures in
    let within = c.requires.kept in
    let few = c.requires.few in
    let same = ap length c.as_slice.ensures in
    let long = kept-as c.args.kinds.now c.in-Some.keys c.args.kept c.requires.kept
    (subst (λ (f : List ColType). AllZip IsValueOf f c.in-Some.keys) (search rules) typed) in
    omega arith

pub returns-then-branch : goal.returns-then-branch
returns-then-branch c =
    let typed = rw c.in-Some.is at c.in_ok-keys.ensures.typed in
    let kept = c.from.ensures in
    let long = kept-as c.args.kinds.now c.in-Some.keys c.args.kept c.requires.kept
    (subst (λ (f : List ColType). AllZip IsValueOf f c.in-Some.keys) (search rules) typed) in
    is-pivot c.args.kinds.now _ c.args.bytes.now c.in-Some.keys c.args.kept c.args.last c.args.child (search rules) long typed
    c.requires.whole c.ranges.child.fits
    (rw c.as_slice.ensures at (c.in_ok-is_pivot.ensures.0 c.if-branch.true))

pub returns-else-branch : goal.returns-else-branch
returns-else-branch c = λ keys many t.
    let kept = c.from.ensures in
    let same : keys ≡ c.in-Some.keys =
    keys-read _ c.args.bytes.now _ _ c.in-Some.keys keys (rw c.in-Some.is at c.in_ok-keys.ensures.only)
    (cut-begins c.args.kinds.now _ c.args.bytes.now keys c.args.kept c.args.last c.args.child (search rules) many t) in
    let yes = c.in_ok-is_pivot.ensures.1
    (put-pivot c.args.kinds.now _ c.args.bytes.now c.as_slice.result.now keys c.args.kept c.args.last c.args.child (search rules) many
    (same ∙ sym c.as_slice.ensures) t) in
    let no = c.if-branch.false in
    absurd cc
