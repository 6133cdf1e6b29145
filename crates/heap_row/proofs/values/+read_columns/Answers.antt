use Rattle.std.proofs.Common.{◌-◌, length, length-take, arith}
use Rattle.std.proofs.lemmas.Result.{err_from_is_err_and}
use Rattle.heap_row.proofs.Needed.{last_ahead, last_is, earlier_fails, last_fails, reads}
use Rattle.heap_row.proofs.values.+read_columns.Goals as goal

pub read_columns-requires : goal.read_columns-requires
read_columns-requires t c =
    let some = c.in-len1-up.len_at_least in
    let whole = c.decreases in
    (omega (arith, some, whole, length-take (length c.args.needed.now - 1) c.args.needed.now), (last_ahead _ _ _ some c.requires).0)

pub overflow_sub-before : goal.overflow_sub-before
overflow_sub-before t c =
    let at = last_ahead _ _ _ c.in-len1-up.len_at_least c.requires in
    omega (arith, c.from-before.ensures, at.1)

pub next_value-requires-clause-behind : goal.next_value-requires-clause-behind
next_value-requires-clause-behind t c =
    let at = last_ahead _ _ _ c.in-len1-up.len_at_least c.requires in
    omega (arith, c.from-before.ensures, c.in_ok-walked.ensures.columns, at.1)

pub next_value-requires-clause-inside : goal.next_value-requires-clause-inside
next_value-requires-clause-inside t c =
    let at = last_ahead _ _ _ c.in-len1-up.len_at_least c.requires in
    omega (arith, c.from-before.ensures, at.1, at.2)

pub returns-in_err-walked-clause-values : goal.returns-in_err-walked-clause-values
returns-in_err-walked-clause-values t c =
    let p = err_from_is_err_and c.from_residual.result c.from_residual.ensures.1 in
    rw (p.1, p.2) (earlier_fails _ _ _ _ c.in-len1-up.len_at_least c.in_err-walked.ensures.values)

pub returns-in_err-value-clause-values : goal.returns-in_err-value-clause-values
returns-in_err-value-clause-values t c =
    let p = err_from_is_err_and c.from_residual-in_err-value.result c.from_residual-in_err-value.ensures.1 in
    rw (p.1, p.2) (last_fails _ _ _ _ _ _ c.in-len1-up.len_at_least c.in_ok-walked.ensures.values c.from-before.ensures
    c.in_err-value.ensures.value)

pub returns-clause-values : goal.returns-clause-values
returns-clause-values t c =
    reads _ _ _ _ _ _ _ c.in-len1-up.len_at_least c.in_ok-walked.ensures.values c.from-before.ensures
    c.in_ok-value.ensures.value c.in_ok-push.ensures

pub returns-clause-columns : goal.returns-clause-columns
returns-clause-columns t c =
    let some = c.in-len1-up.len_at_least in
    let at = last_ahead _ _ _ some c.requires in
    omega (arith, c.in_ok-value.ensures.columns, c.from-before.ensures, at.1, last_is 0 c.args.needed.now some)
