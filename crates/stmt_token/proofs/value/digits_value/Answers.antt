use Rattle.std.proofs.Common.{◌≡◌, ◌<◌, ◌^◌, ℕ, true, get_or, arith}
use Rattle.std.specs.Char.{is_ascii_digit}
use Rattle.std.proofs.lemmas.Int.Digits.{digits_value_more}
use Rattle.stmt_token.proofs.Digits.{digit_byte, few_digits, more_digits}
use Rattle.stmt_token.proofs.value.digits_value.Goals as goal

pub overflow_mul-number : goal.overflow_mul-number
overflow_mul-number c =
    let small : c.loop-digit.number < 10 ^ 17 = few_digits _ _ c.loop-digit.invariant.small (omega arith) in
    omega arith

pub overflow_add-number : goal.overflow_add-number
overflow_add-number c =
    let small : c.loop-digit.number < 10 ^ 17 = few_digits _ _ c.loop-digit.invariant.small (omega arith) in
    let digit : is_ascii_digit (get_or c.args.digits.now c.loop-digit.digit-index 0) ≡ true = c.requires.digits _ 0 c.loop-digit-test.true in
    omega (arith, digit_byte (get_or c.args.digits.now c.loop-digit.digit-index 0) digit)

pub loop-digit-preserved : goal.loop-digit-preserved
loop-digit-preserved c =
    let digit : is_ascii_digit (get_or c.args.digits.now c.loop-digit.digit-index 0) ≡ true = c.requires.digits _ 0 c.loop-digit-test.true in
    let byte : ℕ = get_or c.args.digits.now c.loop-digit.digit-index 0 in
    record {
      read = omega (arith, digits_value_more 10 c.args.digits.now c.loop-digit.digit-index c.loop-digit-test.true, digit_byte byte digit, c.loop-digit.invariant.read);
      small = more_digits c.loop-digit.number c.loop-digit.digit-index c.from.result c.loop-digit.invariant.small (omega (arith, digit_byte byte digit));
    }
