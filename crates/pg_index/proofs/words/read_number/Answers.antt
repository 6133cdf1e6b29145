use Rattle.std.proofs.Common.{◌≡◌, sym, ◌∙◌, arith}
use Rattle.std.proofs.lemmas.List.{append_cancel_left}
use Rattle.std.specs.Fmt.{decimal}
use Rattle.pg_index.proofs.NumberText.{one_number}
use Rattle.pg_index.proofs.words.read_number.Goals as goal

pub returns-in_default-clause-none : goal.returns-in_default-clause-none
returns-in_default-clause-none c = λ number least most is.
    let rest : c.in-Some.digits.now ≡ decimal number = append_cancel_left c.args.mark.now c.in-Some.digits.now (decimal number) (sym c.in-Some.ensures.some ∙ is) in
    let same : c.in-Some-read_decimal.number ≡ number = one_number c.in-Some.digits.now c.in-Some-read_decimal.number number (omega arith) (omega arith) c.in-Some-read_decimal.ensures.some rest in
    omega arith

pub returns-in_default-2-clause-none : goal.returns-in_default-2-clause-none
returns-in_default-2-clause-none c = λ number least most is.
    let rest : c.in-Some.digits.now ≡ decimal number = append_cancel_left c.args.mark.now c.in-Some.digits.now (decimal number) (sym c.in-Some.ensures.some ∙ is) in
    let same : c.in-Some-read_decimal.number ≡ number = one_number c.in-Some.digits.now c.in-Some-read_decimal.number number (omega arith) (omega arith) c.in-Some-read_decimal.ensures.some rest in
    omega arith

pub returns-in_default-3-clause-none : goal.returns-in_default-3-clause-none
returns-in_default-3-clause-none c = λ number least most is.
    let rest : c.in-Some.digits.now ≡ decimal number = append_cancel_left c.args.mark.now c.in-Some.digits.now (decimal number) (sym c.in-Some.ensures.some ∙ is) in
    c.in_default.ensures.none number (omega arith) rest
