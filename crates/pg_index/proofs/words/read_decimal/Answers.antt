use Rattle.std.proofs.Common.{ℕ, List, subst, sym, ◌∙◌}
use Rattle.std.proofs.lemmas.Bool.{false≢true}
use Rattle.pg_index.proofs.NumberText.{decimal_begins, decimal_is_read, read_is_decimal}
use Rattle.pg_index.specs.Calls.Options.{BeginsAsDecimal}
use Rattle.pg_index.proofs.words.read_decimal.Goals as goal

pub returns-then-not-begins_as_decimal-clause-none : goal.returns-then-not-begins_as_decimal-clause-none
returns-then-not-begins_as_decimal-clause-none c = λ number small is.
    let begins : BeginsAsDecimal c.as_bytes.result.now = subst (λ (text : List ℕ). BeginsAsDecimal text) (sym is ∙ sym c.as_bytes.ensures.value) (decimal_begins number small) in
    false≢true (sym c.if-not-begins_as_decimal.true ∙ c.begins_as_decimal.ensures.1 begins)

pub returns-in-Ok-clause-some : goal.returns-in-Ok-clause-some
returns-in-Ok-clause-some c =
    let begins : BeginsAsDecimal c.args.text.now = subst (λ (text : List ℕ). BeginsAsDecimal text) c.as_bytes.ensures.value (c.begins_as_decimal.ensures.0 c.if-not-begins_as_decimal.false) in
    read_is_decimal ℕ c.args.text.now c.in-Ok.number begins c.in-Ok.ensures.value.0

pub returns-in-Err-clause-none : goal.returns-in-Err-clause-none
returns-in-Err-clause-none c = λ number small is. decimal_is_read _ c.args.text.now number c.in-Err.field-0 small is c.in-Err.ensures.value.0
