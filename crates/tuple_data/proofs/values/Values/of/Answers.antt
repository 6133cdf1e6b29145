use Rattle.std.proofs.Common.{◌-◌, List, length, get_or, take, drop, subst, arith}
use Rattle.opclass.specs.declared.types.ColType.{ColType}
use Rattle.opclass.specs.declared.types.ColType.TheVariants.{Bool}
use Rattle.tuple_data.specs.Reading.{value_of}
use Rattle.tuple_data.proofs.InPlaceLemmas.{begins, in_place}
use Rattle.tuple_data.proofs.ReadList.{ReadsSoFar, all_read, bits_left, first_left, none_next, nothing_left, so_far_more}
use Rattle.tuple_data.proofs.values.Values.of.Goals as goal

pub returns-in_default-next_value : goal.returns-in_default-next_value
returns-in_default-next_value c values begins =
    let left : List ColType = c.loop-left.left.now in
    none_next c.args.kinds.now c.args.present c.args.bytes.now (get_or left 0 Bool) (take (length left - 1) (drop 1 left)) c.loop-left.bits
    c.loop-left.rest.now values
    (subst (λ (ks : List ColType). ReadsSoFar c.args.kinds.now c.args.present c.args.bytes.now ks c.loop-left.bits c.loop-left.rest.now)
    (first_left left Bool c.in-len1-up.len_at_least) c.loop-left.invariant)
    c.in_default-next_value.ensures begins

pub loop-left-preserved : goal.loop-left-preserved
loop-left-preserved c =
    let left : List ColType = c.loop-left.left.now in
    so_far_more c.args.kinds.now c.args.present c.args.bytes.now (get_or left 0 Bool) (take (length left - 1) (drop 1 left)) c.loop-left.bits
    c.loop-left.rest.now (value_of c.in-Some.field-0-0) c.in-Some.behind.now c.requires.size
    (subst (λ (ks : List ColType). ReadsSoFar c.args.kinds.now c.args.present c.args.bytes.now ks c.loop-left.bits c.loop-left.rest.now)
    (first_left left Bool c.in-len1-up.len_at_least) c.loop-left.invariant)
    c.in-Some.ensures

pub returns-then-bits-ne0 : goal.returns-then-bits-ne0
returns-then-bits-ne0 c values begins =
    bits_left c.args.kinds.now c.args.present c.args.bytes.now c.loop-left.bits c.loop-left.rest.now values
    (nothing_left _ _ _ _ _ _ c.in_default.len_below c.loop-left.invariant) c.if-bits-ne0.true begins

pub invariant_of-result : goal.invariant_of-result
invariant_of-result c =
    let read =
    all_read c.args.kinds.now c.args.present c.args.bytes.now c.loop-left.bits c.loop-left.rest.now
    (nothing_left _ _ _ _ _ _ c.in_default.len_below c.loop-left.invariant) c.if-bits-ne0.false in
    in_place 0 c.args.kinds.now c.args.present c.args.bytes.now read.0 c.requires.kinds (let size = c.requires.size in omega (arith, size)) read.1

pub returns : goal.returns
returns c = begins c.args.kinds.now c.args.present c.args.bytes.now (invariant_of-result c)
