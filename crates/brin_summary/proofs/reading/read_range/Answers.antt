use Rattle.std.proofs.Common.{◌≡◌, length, refl, subst, ap, arith}
use Rattle.brin_summary.proofs.RangeTuples.{have_header}
use Rattle.brin_summary.specs.Tuple.{header_of}
use Rattle.brin_summary.proofs.reading.read_range.Goals as goal

pub returns-in_default-clause-none : goal.returns-in_default-clause-none
returns-in_default-clause-none c = λ none first range is.
    c.in_default.ensures.none refl (header_of first range) (rw c.len.ensures (have_header c.args.kinds.now first range c.args.bytes.now is))
