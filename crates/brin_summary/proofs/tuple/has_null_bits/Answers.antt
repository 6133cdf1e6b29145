use Rattle.std.proofs.Common.{◌≡◌, ℕ, ◌-◌, false, drop, get_or, ap, sym, ◌∙◌, arith}
use Rattle.brin_summary.proofs.Flags.{bits-alone, bits-few, bits-room, bool_byte-most}
use Rattle.brin_summary.specs.Pass.{bits_behind}
use Rattle.brin_summary.specs.Tuple.{bits_of}
use Rattle.brin_summary.proofs.tuple.has_null_bits.Goals as goal

pub overflow_mul-bits : goal.overflow_mul-bits
overflow_mul-bits c =
    let room = bits-room c.args.nulls.now 0 c.loop-at.at 0 32 (omega arith) c.loop-at-test.true c.loop-at.auto.at (omega (arith, c.requires)) in
    let bits = c.loop-at.invariant in
    omega arith

pub overflow_add-bits : goal.overflow_add-bits
overflow_add-bits c =
    let room = bits-room c.args.nulls.now 0 c.loop-at.at 0 32 (omega arith) c.loop-at-test.true c.loop-at.auto.at (omega (arith, c.requires)) in
    let bits = c.loop-at.invariant in
    let digit = bool_byte-most (get_or c.args.nulls.now (c.loop-at.at - 1) false) in
    omega (arith, c.from.ensures)

pub returns-clause-value : goal.returns-clause-value
returns-clause-value c =
    let end : c.loop-at.at ≡ 0 = (let e = c.loop-at-test.false in omega arith) in
    c.loop-at.invariant ∙ ap (λ (n : ℕ). bits_behind (drop n c.args.nulls.now) 0) end ∙ sym (bits-alone c.args.nulls.now)

pub returns-clause-few : goal.returns-clause-few
returns-clause-few c =
    let end : c.loop-at.at ≡ 0 = (let e = c.loop-at-test.false in omega arith) in
    let few = bits-few c.args.nulls.now 32 c.requires in
    let is : c.loop-at.bits ≡ bits_of c.args.nulls.now =
    c.loop-at.invariant ∙ ap (λ (n : ℕ). bits_behind (drop n c.args.nulls.now) 0) end ∙ sym (bits-alone c.args.nulls.now) in
    omega arith
