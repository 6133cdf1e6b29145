use Rattle.std.proofs.Common.{◌∙◌, ◌<◌, ap, arith}
use Rattle.std.proofs.lemmas.List.{get_or-take, length-take-le}
use Rattle.std.proofs.lemmas.List.Sums.{prefix_len_passes}
use Rattle.std.specs.Char.{is_ascii_digit}
use Rattle.std.specs.List.{prefix_len}
use Rattle.stmt_token.proofs.scan.first_number.Goals as goal

pub digits_value-requires-clause-digits : goal.digits_value-requires-clause-digits
digits_value-requires-clause-digits c = λ k d before.
    let here : k < c.run-len.result = omega (arith, length-take-le c.run-len.result c.args.text.now c.run-len.ensures.within) in
    let own : k < prefix_len is_ascii_digit c.args.text.now = omega (arith, c.run-len.ensures.count) in
    ap is_ascii_digit (get_or-take c.run-len.result c.args.text.now k d here) ∙ prefix_len_passes is_ascii_digit c.args.text.now k d own
