use Rattle.std.proofs.Common.{◌≡◌, ℕ, ◌+◌, ◌*◌, ◌/◌, length, sym, ap, ◌∙◌, arith}
use Rattle.std.specs.Int.{div_ceil}
use Rattle.pg_bytes.specs.Numbers.{number_bytes}
use Rattle.pg_bytes.proofs.Writes.{length-number_bytes}
use Rattle.std.proofs.lemmas.List.{length-map}
use Rattle.brin_summary.specs.Summary.{ColumnSummary}
use Rattle.brin_summary.specs.Tuple.{bits_of, null_flags}
use Rattle.brin_summary.proofs.Flags.{no-bitmap, some-bitmap, some-columns}
use Rattle.brin_summary.proofs.tuple.null_bitmap.Goals as goal

pub returns-then-bits-eq0-clause-bytes : goal.returns-then-bits-eq0-clause-bytes
unfolding number_bytes
returns-then-bits-eq0-clause-bytes c =
    sym (no-bitmap c.args.range.now.columns (sym c.null_bits-bits.ensures ∙ c.if-bits-eq0.true)).0

pub returns-then-bits-eq0-clause-size : goal.returns-then-bits-eq0-clause-size
returns-then-bits-eq0-clause-size c =
    ap length (sym (no-bitmap c.args.range.now.columns (sym c.null_bits-bits.ensures ∙ c.if-bits-eq0.true)).0)

pub returns-then-bits-eq0-clause-there : goal.returns-then-bits-eq0-clause-there
returns-then-bits-eq0-clause-there c =
    let no = (no-bitmap c.args.range.now.columns (sym c.null_bits-bits.ensures ∙ c.if-bits-eq0.true)).1 in
    (λ yes. absurd (let same = sym no ∙ yes in cc), λ some. absurd (omega arith))

pub returns-else-bits-eq0-clause-bytes : goal.returns-else-bits-eq0-clause-bytes
returns-else-bits-eq0-clause-bytes c =
    let bits = c.null_bits-bits.ensures in
    let set = c.if-bits-eq0.false in
    let count = ap length c.nulls-columns.ensures ∙ length-map c.args.range.now.columns (λ (column : ColumnSummary). column.has_null) in
    let is = (some-bitmap c.args.range.now.columns (omega arith)).0 in
    let size : c.div_ceil-size.result ≡ (2 * length c.args.range.now.columns + 7) / 8 =
    c.div_ceil-size.ensures ∙ ap (λ (n : ℕ). div_ceil (2 * n) 8) count ∙ omega arith in
    rw (size, bits) (sym is)

pub returns-else-bits-eq0-clause-size : goal.returns-else-bits-eq0-clause-size
returns-else-bits-eq0-clause-size c =
    let bits = c.null_bits-bits.ensures in
    let set = c.if-bits-eq0.false in
    let count = ap length c.nulls-columns.ensures ∙ length-map c.args.range.now.columns (λ (column : ColumnSummary). column.has_null) in
    let is = ap length (some-bitmap c.args.range.now.columns (omega arith)).0 in
    let size : c.div_ceil-size.result ≡ (2 * length c.args.range.now.columns + 7) / 8 =
    c.div_ceil-size.ensures ∙ ap (λ (n : ℕ). div_ceil (2 * n) 8) count ∙ omega arith in
    size ∙ sym (is ∙ length-number_bytes ((2 * length c.args.range.now.columns + 7) / 8) (bits_of (null_flags c.args.range.now.columns)))

pub returns-else-bits-eq0-clause-there : goal.returns-else-bits-eq0-clause-there
returns-else-bits-eq0-clause-there c =
    let bits = c.null_bits-bits.ensures in
    let set = c.if-bits-eq0.false in
    let count = ap length c.nulls-columns.ensures ∙ length-map c.args.range.now.columns (λ (column : ColumnSummary). column.has_null) in
    let some = some-columns c.args.range.now.columns (omega arith) in
    let yes = (some-bitmap c.args.range.now.columns (omega arith)).1 in
    let size : c.div_ceil-size.result ≡ (2 * length c.args.range.now.columns + 7) / 8 =
    c.div_ceil-size.ensures ∙ ap (λ (n : ℕ). div_ceil (2 * n) 8) count ∙ omega arith in
    (λ there. omega arith, λ there. yes)
