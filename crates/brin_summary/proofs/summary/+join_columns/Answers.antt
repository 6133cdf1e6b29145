use Rattle.brin_summary.proofs.Storing.{joined-both}
use Rattle.brin_summary.proofs.summary.+join_columns.Goals as goal

pub returns : goal.returns
returns t c =
    joined-both c.split_at_mut-pair.result.1.now c.join_columns.new.bounds c.split_at_mut-other_pair.result.1.now
    c.split_at_mut-has_null.result.1.now c.join_columns.new.nulls c.take_lesser.new.low c.take_greater.new.high
    c.split_at_mut-pair.result.0.now c.split_at_mut-other_pair.result.0.now c.split_at_mut-has_null.result.0.now
    c.args.bounds.now c.args.other_bounds.now c.args.nulls.now c.args.other_nulls.now
    c.index-pair-0.result c.index-other_pair-0.result c.take_lesser.new.other c.index-pair-1.result c.index-other_pair-1.result
    c.split_at_mut-pair.ensures.front_len c.split_at_mut-other_pair.ensures.front_len c.split_at_mut-has_null.ensures.front_len
    c.split_at_mut-pair.ensures.value c.split_at_mut-other_pair.ensures.value c.split_at_mut-has_null.ensures.value
    c.in-len1-up.len_at_least
    c.take_lesser.ensures c.take_greater.ensures c.join_columns.ensures
