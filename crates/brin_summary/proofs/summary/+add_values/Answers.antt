use Rattle.brin_summary.proofs.Storing.{joined-split, new-first, new-second}
use Rattle.brin_summary.proofs.summary.+add_values.Goals as goal

pub returns-clause-ok : goal.returns-clause-ok
returns-clause-ok t c =
    joined-split c.split_at_mut-pair.result.1.now c.add_values.new.bounds c.split_at_mut-has_null.result.1.now c.add_values.new.nulls
    c.replace.new.bound c.replace-2.new.bound
    c.split_at_mut-pair.result.0.now c.split_at_mut-has_null.result.0.now c.args.values.now c.args.bounds.now c.args.nulls.now
    c.value-item.result c.is_null.result
    c.split_at_mut-pair.ensures.front_len c.split_at_mut-has_null.ensures.front_len
    c.split_at_mut-pair.ensures.value c.split_at_mut-has_null.ensures.value
    c.in-len1-up.len_at_least c.value-item.is
    (new-first c.split_at_mut-pair.result.0.now c.in_ok-lower.lower c.index-pair-0.result c.index-pair-0-2.result c.value-item.result c.replace.new.bound
    c.split_at_mut-pair.ensures.front_len c.replace.ensures c.in_ok-lower.ensures)
    (new-second c.split_at_mut-pair.result.0.now c.in_ok-higher.higher c.replace.new.bound c.index-pair-1.result c.index-pair-1-2.result c.value-item.result
    c.replace-2.new.bound c.split_at_mut-pair.ensures.front_len c.replace-2.ensures c.in_ok-higher.ensures)
    c.is_null.ensures
    c.in_ok-add_values.ensures.ok
