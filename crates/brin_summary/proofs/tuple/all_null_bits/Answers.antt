use Rattle.std.proofs.Common.{◌≡◌, ℕ, suc, ◌-◌, ◌/◌, false, drop, get_or, length, ap, sym, ◌∙◌, arith}
use Rattle.std.proofs.lemmas.List.{drop_all}
use Rattle.brin_summary.specs.Pass.{bits_behind, low_nulls}
use Rattle.brin_summary.proofs.Flags.{bits-drop, bits-room, bool_byte-is, bool_byte-most, length-low_nulls, low_null-at}
use Rattle.brin_summary.proofs.tuple.all_null_bits.Goals as goal

pub loop-at-init : goal.loop-at-init
loop-at-init c =
    let long = length-low_nulls c.args.bounds.now in
    sym (ap (λ l. bits_behind l c.args.behind) (drop_all (length c.args.bounds.now / 2) (low_nulls c.args.bounds.now) (omega arith)))

pub overflow_mul-bits : goal.overflow_mul-bits
overflow_mul-bits c =
    let long = length-low_nulls c.args.bounds.now in
    let few = c.requires.bounds in
    let at = c.loop-at.auto.at in
    let room = bits-room (low_nulls c.args.bounds.now) c.args.behind c.loop-at.at 32 64 c.requires.behind c.loop-at-test.true (omega arith) (omega arith) in
    let bits = c.loop-at.invariant in
    omega arith

pub overflow_add-bits : goal.overflow_add-bits
overflow_add-bits c =
    let long = length-low_nulls c.args.bounds.now in
    let few = c.requires.bounds in
    let at = c.loop-at.auto.at in
    let room = bits-room (low_nulls c.args.bounds.now) c.args.behind c.loop-at.at 32 64 c.requires.behind c.loop-at-test.true (omega arith) (omega arith) in
    let bits = c.loop-at.invariant in
    let digit = bool_byte-most c.is_null.result in
    omega (arith, c.from.ensures)

pub loop-at-preserved : goal.loop-at-preserved
loop-at-preserved c =
    let long = length-low_nulls c.args.bounds.now in
    let at = c.loop-at.auto.at in
    let some = c.loop-at-test.true in
    let next : suc (c.loop-at.at - 1) ≡ c.loop-at.at = omega arith in
    let flag : c.is_null.result ≡ get_or (low_nulls c.args.bounds.now) (c.loop-at.at - 1) false =
    c.is_null.ensures ∙ low_null-at c.args.bounds.now (c.loop-at.at - 1) c.index-bounds-at.result (omega arith) c.index-bounds-at.is in
    let step = bits-drop (low_nulls c.args.bounds.now) c.args.behind (c.loop-at.at - 1) c.is_null.result (omega arith) flag in
    let before : c.loop-at.bits ≡ bits_behind (drop (suc (c.loop-at.at - 1)) (low_nulls c.args.bounds.now)) c.args.behind =
    c.loop-at.invariant ∙ ap (λ (n : ℕ). bits_behind (drop n (low_nulls c.args.bounds.now)) c.args.behind) (sym next) in
    let digit = c.from.ensures ∙ bool_byte-is c.is_null.result in
    omega arith
