use Rattle.std.proofs.Common.{map, length, ap, sym, arith}
use Rattle.brin_summary.specs.Summary.{ColumnSummary}
use Rattle.brin_summary.specs.Tuple.{is_all_null}
use Rattle.brin_summary.proofs.Flags.{bits-behind, length-bounds_of, low_nulls-columns}
use Rattle.brin_summary.proofs.tuple.null_bits.Goals as goal

pub all_null_bits-requires-clause-bounds : goal.all_null_bits-requires-clause-bounds
all_null_bits-requires-clause-bounds c =
    let bounds = ap length c.bounds.ensures in
    let count = length-bounds_of c.args.range.now.columns in
    omega (arith, c.requires)

pub returns : goal.returns
returns c =
    let columns = c.args.range.now.columns in
    rw (c.all_null_bits.ensures, c.has_null_bits.ensures.value, c.bounds.ensures, c.nulls.ensures, low_nulls-columns columns)
    (sym (bits-behind (map is_all_null columns) (map (λ (column : ColumnSummary). column.has_null) columns)))
