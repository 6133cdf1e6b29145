-- The tuples of ranges stay below every limit on sizes, where the rows have values no longer than a page.
use Rattle.std.proofs.Common.{◌≡◌, ◌⊎◌, ℕ, ◌<◌, ◌≤◌, ◌^◌, List, [], ◌∷◌, length, map, get_or, sym, subst, inl, inr, arith, All}
use Rattle.std.specs.Prelude.{Contains, filter}
use Rattle.std.proofs.lemmas.Bool.{cases_lt}
use Rattle.std.proofs.lemmas.List.{get_or_past}
use Rattle.std.proofs.lemmas.List.Elements.{All-cons, All-contains, All-filter, All-get_or, All-head, All-map, All-nil, All-tail, All-weaker}
use Rattle.std.proofs.lemmas.Option.{slice_get-get_or}
use Rattle.pg_bytes.specs.PageLayout.{page_size}
use Rattle.opclass.specs.declared.spec.IndexSpec.{IndexSpec}
use Rattle.opclass.specs.declared.table.Table.{Table}
use Rattle.opclass.specs.declared.types.ColType.{ColType}
use Rattle.opclass.specs.declared.types.Method.{Method}
use Rattle.opclass.specs.declared.types.Method.TheVariants as method
use Rattle.opclass.specs.declared.value.KeyVal.{KeyVal}
use Rattle.opclass.specs.declared.value.KeyVal.TheVariants.{Nil}
use Rattle.opclass.specs.Indexes.{IsIndexOver, most_columns}
use Rattle.tuple_data.specs.Laws.{room_of}
use Rattle.heap_row.specs.Typed.{HasAtMost}
use Rattle.brin_summary.specs.Answer.{tuple_size}
use Rattle.brin_summary.specs.Summary.{ColumnSummary, RangeSummary, summary_of, value_in}
use Rattle.brin_summary.specs.Tuple.{bounds_of}
use Rattle.brin_summary.proofs.Bounds.{summaries_tight}
use Rattle.brin_summary.proofs.Rooms.{few_bounds}
use Rattle.shared_tape.specs.declared.stored.Record.{Record}
use Rattle.brin_summary.specs.declared.ranges.SummedRange.{SummedRange}
use Rattle.build_leader.specs.Ranges.{HoldRanges, range_summary, told_of, values_in}
use Rattle.build_leader.proofs.Holding.{IsOfRange}
use Rattle.build_leader.proofs.Reading.{few_bytes}
use Rattle.build_leader.proofs.RangeSummaries.{summary_has_columns}

-- ---- what holds of null and of each value of rows holds of the bounds

module _ (P : KeyVal → Type 0) (null : P Nil) where
  of_value : (column : ℕ) (row : List KeyVal) → All P row → P (value_in column row)
  of_value column row all = elim (cases_lt column (length row)) [
    | inl inside ↦ All-get_or P row column Nil inside all
    | inr past ↦ subst P (sym (get_or_past row column Nil past)) null
  ]

  of_bound : (values : List KeyVal) (bound : KeyVal) → All P values → (bound ≡ Nil) ⊎ Contains values bound → P bound
  of_bound values bound all (inl none) = subst P (sym none) null
  of_bound values bound all (inr there) = All-contains P values bound all there

  abbrev HasBounds : ColumnSummary → Type 0
  HasBounds column = P column.low × P column.high

  of_columns : (columns : List ColumnSummary) → All HasBounds columns → All P (bounds_of columns)
  of_columns [] all = All-nil P
  of_columns (column ∷ columns) all =
      let here = All-head HasBounds column columns all in
      All-cons P column.low (column.high ∷ bounds_of columns) here.0
      (All-cons P column.high (bounds_of columns) here.1 (of_columns columns (All-tail HasBounds column columns all)))

  bounds_hold : (columns : ℕ) (rows : List (List KeyVal)) → All (All P) rows → All P (bounds_of (summary_of columns rows).columns)
  bounds_hold columns rows all =
      of_columns (summary_of columns rows).columns
      (λ k d inside.
      let tight = summaries_tight columns k rows (get_or (summary_of columns rows).columns k d)
      (slice_get-get_or (summary_of columns rows).columns k d inside) in
      let values = All-map P (value_in k) rows (All-weaker (All P) (λ (row : List KeyVal). P (value_in k row)) (of_value k) rows all) in
      (of_bound (map (value_in k) rows) _ values tight.low, of_bound (map (value_in k) rows) _ values tight.high))

-- ---- the tuples of ranges

-- a row with short keys
abbrev pub IsShort : Record → Type 0
IsShort row = All (HasAtMost page_size) row.keys

pub summaries_fit : (spec : IndexSpec) (kinds : List ColType) (rows : List Record) → length spec.keys ≤ 32 → All IsShort rows
    → (range : ℕ) → tuple_size kinds (range_summary spec rows range) < 2 ^ 63
unfolding range_summary
summaries_fit spec kinds rows few short range =
    let here = values_in spec.pages_per_range range rows in
    let count = summary_has_columns (length spec.keys) here in
    let values : All (All (HasAtMost page_size)) here =
    All-map (All (HasAtMost page_size)) (λ (row : Record). row.keys) (filter (IsOfRange spec.pages_per_range range) rows)
    (All-filter (IsOfRange spec.pages_per_range range) IsShort rows short) in
    few_bounds kinds (summary_of (length spec.keys) here) (omega arith)
    (All-weaker (HasAtMost page_size) (λ value. room_of value ≤ 10011) few_bytes (bounds_of (summary_of (length spec.keys) here).columns)
    (bounds_hold (HasAtMost page_size) tt (length spec.keys) here values))

-- and so what is held of them
pub told_fit : (spec : IndexSpec) (kinds : List ColType) (rows : List Record) (ranges : List SummedRange) → length spec.keys ≤ 32
    → All IsShort rows → HoldRanges spec rows ranges
    → (range : ℕ) → tuple_size kinds (told_of (length spec.keys) range ranges) < 2 ^ 63
told_fit spec kinds rows ranges few short held range =
    subst (λ (told : RangeSummary). tuple_size kinds told < 2 ^ 63) (sym (held.told range)) (summaries_fit spec kinds rows few short range)

most_is_few : (index_method : Method) → most_columns index_method ≤ 32
most_is_few method.BTree = omega arith
most_is_few method.Brin = omega arith
most_is_few method.Gin = omega arith

-- an index has few keys
pub few_keys : (table : Table) (spec : IndexSpec) → IsIndexOver table spec → length spec.keys ≤ 32
few_keys table spec over =
    let most = over.most in
    let few = most_is_few spec.method in
    omega arith
