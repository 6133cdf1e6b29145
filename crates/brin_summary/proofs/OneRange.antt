-- Bytes are the tuple of one range at most.
use Rattle.std.proofs.Common.{◌≡◌, ℕ, ◌+◌, ◌-◌, ◌*◌, ◌/◌, ◌^◌, ◌<◌, ◌≤◌, Bool, true, false, List, [], ◌∷◌, ◌++◌, length, map, take, drop, All, refl, sym, ap, subst, ◌∙◌, arith, length-drop}
use Rattle.std.proofs.lemmas.List.{drop_at, length-map, take_at}
use Rattle.std.proofs.lemmas.List.Elements.{All-cons, All-head, All-nil, All-tail}
use Rattle.pg_bytes.proofs.ItemPage.{length-aligned}
use Rattle.pg_bytes.specs.Numbers.{rounded_up}
use Rattle.pg_bytes.specs.PageLayout.{aligned}
use Rattle.pg_bytes.specs.Places.{zeros}
use Rattle.opclass.specs.Types.{facts_of, takes_key}
use Rattle.opclass.specs.declared.types.ColType.{ColType}
use Rattle.opclass.specs.declared.types.ColType.TheVariants as ty
use Rattle.opclass.specs.declared.types.Method.TheVariants.{Brin}
use Rattle.opclass.specs.declared.value.KeyVal.{KeyVal}
use Rattle.tuple_data.proofs.OneReading.{reading_once}
use Rattle.tuple_data.specs.Data.{data_of}
use Rattle.tuple_data.specs.Reading.{AreStored, BeginsWithData, IsStored}
use Rattle.std.proofs.lemmas.Slice.Zip.{AllZip-long}
use Rattle.opclass.specs.Values.{IsValueOf}
use Rattle.tuple_data.specs.Nulls.{is_null}
use Rattle.brin_summary.proofs.Flags.{bounds_of-kept, low_nulls-columns}
use Rattle.brin_summary.proofs.Headers.{length-flags_of, told_apart}
use Rattle.brin_summary.proofs.RangeReading.{bits-of-pairs, flags-split, paired, whole-tuple}
use Rattle.brin_summary.proofs.RangeTuples.{columns-counted, have_header, length-bound_kinds}
use Rattle.brin_summary.proofs.Tuples.{length-tuple_header}
use Rattle.brin_summary.specs.Laws.{RangesAreToldApart}
use Rattle.brin_summary.specs.Pass.{columns_from, flags_of, low_nulls, present_of, seen_header}
use Rattle.brin_summary.specs.Reading.{HasHeader, IsRangeTuple}
use Rattle.brin_summary.specs.Summary.{ColumnSummary, RangeSummary}
use Rattle.brin_summary.specs.declared.tuple_head.TupleHead.{TupleHead}
use Rattle.brin_summary.specs.Tuple.{Header, bound_kinds, bounds_of, header_bytes, header_of, is_all_null, null_flags, place_behind, range_data, range_tuple}

-- no type that BRIN takes is an array
key-stored : (kind : ColType) → takes_key Brin (facts_of kind).key_use ≡ true → IsStored (facts_of kind).form
key-stored ty.Int2 taken = tt
key-stored ty.Int4 taken = tt
key-stored ty.Int8 taken = tt
key-stored ty.Oid taken = tt
key-stored ty.Date taken = tt
key-stored ty.Timestamp taken = tt
key-stored ty.Timestamptz taken = tt
key-stored ty.Time taken = tt
key-stored ty.Uuid taken = tt
key-stored ty.Text taken = tt
key-stored ty.Varchar taken = tt
key-stored ty.Bytea taken = tt
key-stored ty.Bool taken = tt
key-stored ty.Float4 taken = tt
key-stored ty.Float8 taken = tt
key-stored ty.Numeric taken = tt
key-stored ty.Bpchar taken = tt
key-stored ty.Name taken = tt
key-stored ty.Interval taken = tt
key-stored ty.Json taken = tt
key-stored ty.Jsonb taken = tt
key-stored ty.Int4Array taken = absurd (cc)
key-stored ty.Int8Array taken = absurd (cc)
key-stored ty.TextArray taken = absurd (cc)

pub bounds-stored : (kinds : List ColType) → All (λ kind. takes_key Brin (facts_of kind).key_use ≡ true) kinds → AreStored (bound_kinds kinds)
bounds-stored [] taken = All-nil (λ (kind : ColType). IsStored (facts_of kind).form)
bounds-stored (kind ∷ kinds) taken =
    let Taken : ColType → Type 0 = λ kind. takes_key Brin (facts_of kind).key_use ≡ true in
    let Stored : ColType → Type 0 = λ kind. IsStored (facts_of kind).form in
    let one = key-stored kind (All-head Taken kind kinds taken) in
    All-cons Stored kind (kind ∷ bound_kinds kinds) one (All-cons Stored kind (bound_kinds kinds) one (bounds-stored kinds (All-tail Taken kind kinds taken)))

-- columns are their bounds and whether they have nulls
columns-are : (columns : List ColumnSummary) → columns ≡ columns_from (bounds_of columns) (map (λ (column : ColumnSummary). column.has_null) columns)
columns-are [] = refl
columns-are (column ∷ columns) = ap (λ (l : List ColumnSummary). column ∷ l) (columns-are columns)

-- the data of a tuple stand behind its header
pub data-behind : (kinds : List ColType) (first : ℕ) (range : RangeSummary) (bytes : List ℕ) → IsRangeTuple kinds first range bytes
    → drop (place_behind (null_flags range.columns)) bytes ≡ aligned (data_of (bound_kinds kinds) (bounds_of range.columns))
unfolding range_tuple range_data
data-behind kinds first range bytes is =
    let head : List ℕ = header_bytes (header_of first range) in
    let size = length-tuple_header first range in
    let whole = length-aligned head in
    ap (drop (place_behind (null_flags range.columns))) is.bytes_are
    ∙ drop_at (aligned head) (aligned (data_of (bound_kinds kinds) (bounds_of range.columns))) (place_behind (null_flags range.columns)) (omega arith)

pub begins : (kinds : List ColType) (first : ℕ) (range : RangeSummary) (bytes : List ℕ) → IsRangeTuple kinds first range bytes
    → BeginsWithData (bound_kinds kinds) (present_of (map is_all_null range.columns)) (drop (place_behind (null_flags range.columns)) bytes) (bounds_of range.columns)
unfolding aligned
begins kinds first range bytes is =
    let mine : List ℕ = data_of (bound_kinds kinds) (bounds_of range.columns) in
    record {
      typed = is.typed;
      bits = bits-of-pairs range.columns is.paired;
      behind = zeros (rounded_up 8 (length mine) - length mine);
      «data» = data-behind kinds first range bytes is;
    }

pub same-range : (a b : RangeSummary) → a.has_rows ≡ b.has_rows → a.columns ≡ b.columns → a ≡ b
same-range a b rows columns =
    ap (λ (r : Bool). let s : RangeSummary = record { has_rows = r; columns = a.columns } in s) rows
    ∙ ap (λ (l : List ColumnSummary). let s : RangeSummary = record { has_rows = b.has_rows; columns = l } in s) columns

pub one_range : RangesAreToldApart
one_range kinds first other_first range other bytes taken few is is' =
    let same = told_apart (length kinds) (header_of first range) (header_of other_first other) bytes few
    (have_header kinds first range bytes is) (have_header kinds other_first other bytes is') in
    let flags : null_flags range.columns ≡ null_flags other.columns = ap (λ (h : Header). h.flags) same in
    let count = columns-counted kinds range is.typed in
    let count' = columns-counted kinds other is'.typed in
    let nulls : List ColumnSummary → List Bool = λ columns. map (λ (column : ColumnSummary). column.has_null) columns in
    let long = length-map range.columns is_all_null in
    let long' = length-map other.columns is_all_null in
    let lows : map is_all_null range.columns ≡ map is_all_null other.columns =
    sym (take_at (map is_all_null range.columns) (nulls range.columns) (length kinds) (omega arith)) ∙ ap (take (length kinds)) flags
    ∙ take_at (map is_all_null other.columns) (nulls other.columns) (length kinds) (omega arith) in
    let has : nulls range.columns ≡ nulls other.columns =
    sym (drop_at (map is_all_null range.columns) (nulls range.columns) (length kinds) (omega arith)) ∙ ap (drop (length kinds)) flags
    ∙ drop_at (map is_all_null other.columns) (nulls other.columns) (length kinds) (omega arith) in
    let left : List ℕ = drop (place_behind (null_flags range.columns)) bytes in
    let theirs : BeginsWithData (bound_kinds kinds) (present_of (map is_all_null range.columns)) left (bounds_of other.columns) =
    subst (λ (n : ℕ). BeginsWithData (bound_kinds kinds) n left (bounds_of other.columns)) (ap present_of (sym lows))
    (subst (λ (fs : List Bool). BeginsWithData (bound_kinds kinds) (present_of (map is_all_null other.columns)) (drop (place_behind fs) bytes) (bounds_of other.columns)) (sym flags)
    (begins kinds other_first other bytes is')) in
    let short : length left < 2 ^ 30 = (let d = length-drop (place_behind (null_flags range.columns)) bytes in let s = is.size in omega arith) in
    let bounds : bounds_of range.columns ≡ bounds_of other.columns =
    reading_once (bound_kinds kinds) (present_of (map is_all_null range.columns)) left (bounds_of range.columns) (bounds_of other.columns) (bounds-stored kinds taken) short
    (begins kinds first range bytes is) theirs in
    let columns : range.columns ≡ other.columns =
    columns-are range.columns ∙ ap (λ (vs : List KeyVal). columns_from vs (nulls range.columns)) bounds
    ∙ ap (columns_from (bounds_of other.columns)) has ∙ sym (columns-are other.columns) in
    (ap (λ (h : Header). h.first) same, same-range range other (ap (λ (h : Header). h.has_rows) same) columns)

-- ---- what a range's tuple means to who has read its header

present-none : (columns : List ColumnSummary) → All (λ column. is_all_null column ≡ true) columns → present_of (map is_all_null columns) ≡ 0
present-none [] all = refl
present-none (column ∷ columns) all =
    let Null : ColumnSummary → Type 0 = λ column. is_all_null column ≡ true in
    let one : is_null column.low ≡ true = All-head Null column columns all in
    let rest = present-none columns (All-tail Null column columns all) in
    rw one (omega arith)

none-present : (columns : List ColumnSummary) → present_of (map is_all_null columns) ≡ 0 → All (λ column. is_all_null column ≡ true) columns
none-present [] none = All-nil (λ (column : ColumnSummary). is_all_null column ≡ true)
none-present (column ∷ columns) none = go (is_null column.low) refl (none-present columns)
  where
    go : (t : Bool) → is_null column.low ≡ t → (present_of (map is_all_null columns) ≡ 0 → All (λ column. is_all_null column ≡ true) columns)
        → All (λ column. is_all_null column ≡ true) (column ∷ columns)
    go true is rest =
        let less : present_of (true ∷ map is_all_null columns) ≡ 0 = ap (λ (b : Bool). present_of (b ∷ map is_all_null columns)) (sym is) ∙ none in
        All-cons (λ (column : ColumnSummary). is_all_null column ≡ true) column columns is (rest (omega arith))
    go false is rest =
        let more : present_of (false ∷ map is_all_null columns) ≡ 0 = ap (λ (b : Bool). present_of (b ∷ map is_all_null columns)) (sym is) ∙ none in
        absurd (omega arith)

pub record Means (kinds : List ColType) (head : TupleHead) (bytes : List ℕ) (first : ℕ) (range : RangeSummary) : Type 0 where
  pub begins : BeginsWithData (bound_kinds kinds) (present_of (flags_of (length kinds) head.bits))
      (drop (place_behind (flags_of (2 * length kinds) head.bits)) bytes) (bounds_of range.columns)
  pub data_is : drop (place_behind (flags_of (2 * length kinds) head.bits)) bytes ≡ aligned (data_of (bound_kinds kinds) (bounds_of range.columns))
  pub none : head.has_rows ≡ false → present_of (flags_of (length kinds) head.bits) ≡ 0

pub means : (kinds : List ColType) (head : TupleHead) (bytes : List ℕ) (first : ℕ) (range : RangeSummary) → length kinds ≤ 32
    → HasHeader (length kinds) (seen_header (length kinds) head) bytes → IsRangeTuple kinds first range bytes → Means kinds head bytes first range
means kinds head bytes first range few has is =
    let c : ℕ = length kinds in
    let same = told_apart (length kinds) (header_of first range) (seen_header (length kinds) head) bytes few (have_header kinds first range bytes is) has in
    let flags : null_flags range.columns ≡ flags_of (2 * length kinds) head.bits = ap (λ (h : Header). h.flags) same in
    let rows : range.has_rows ≡ head.has_rows = ap (λ (h : Header). h.has_rows) same in
    let count = columns-counted kinds range is.typed in
    let long = length-map range.columns is_all_null in
    let nulls : List Bool = map (λ (column : ColumnSummary). column.has_null) range.columns in
    let twice : 2 * length kinds ≡ length kinds + length kinds = omega arith in
    let split : flags_of (2 * length kinds) head.bits ≡ flags_of (length kinds) head.bits ++ flags_of (length kinds) (head.bits / 2 ^ length kinds) =
    ap (λ (n : ℕ). flags_of n head.bits) twice ∙ flags-split (length kinds) (length kinds) head.bits in
    let lows : map is_all_null range.columns ≡ flags_of (length kinds) head.bits =
    sym (take_at (map is_all_null range.columns) nulls (length kinds) (omega arith)) ∙ ap (take (length kinds)) (flags ∙ split)
    ∙ take_at (flags_of (length kinds) head.bits) (flags_of (length kinds) (head.bits / 2 ^ length kinds)) (length kinds) (length-flags_of (length kinds) head.bits) in
    record {
      begins =
          subst (λ (fs : List Bool). BeginsWithData (bound_kinds kinds) (present_of (flags_of (length kinds) head.bits)) (drop (place_behind fs) bytes) (bounds_of range.columns)) flags
          (subst (λ (n : ℕ). BeginsWithData (bound_kinds kinds) n (drop (place_behind (null_flags range.columns)) bytes) (bounds_of range.columns)) (ap present_of lows)
          (begins kinds first range bytes is));
      data_is = ap (λ (fs : List Bool). drop (place_behind fs) bytes) (sym flags) ∙ data-behind kinds first range bytes is;
      none = λ none. ap present_of (sym lows) ∙ present-none range.columns (is.empty (rows ∙ none));
    }

-- a tuple of other bounds isn't there, nor one with other bytes behind them
pub padded-is : (kinds : List ColType) (head : TupleHead) (bytes : List ℕ) (first : ℕ) (range : RangeSummary) (values : List KeyVal)
    → AreStored (bound_kinds kinds) → length bytes ≤ 8152 → Means kinds head bytes first range
    → BeginsWithData (bound_kinds kinds) (present_of (flags_of (length kinds) head.bits)) (drop (place_behind (flags_of (2 * length kinds) head.bits)) bytes) values
    → drop (length (data_of (bound_kinds kinds) values)) (drop (place_behind (flags_of (2 * length kinds) head.bits)) bytes)
    ≡ zeros (rounded_up 8 (length (data_of (bound_kinds kinds) values)) - length (data_of (bound_kinds kinds) values))
unfolding aligned
padded-is kinds head bytes first range values stored small m has =
    let left : List ℕ = drop (place_behind (flags_of (2 * length kinds) head.bits)) bytes in
    let short : length left < 2 ^ 30 = (let d = length-drop (place_behind (flags_of (2 * length kinds) head.bits)) bytes in omega arith) in
    let same : values ≡ bounds_of range.columns =
    reading_once (bound_kinds kinds) (present_of (flags_of (length kinds) head.bits)) left values (bounds_of range.columns) stored short has m.begins in
    let mine : List ℕ = data_of (bound_kinds kinds) values in
    let data_is : left ≡ mine ++ zeros (rounded_up 8 (length mine) - length mine) =
    m.data_is ∙ ap (λ (vs : List KeyVal). aligned (data_of (bound_kinds kinds) vs)) (sym same) in
    ap (drop (length mine)) data_is ∙ drop_at mine (zeros (rounded_up 8 (length mine) - length mine)) (length mine) refl

-- what is read is the tuple
pub read-is : (kinds : List ColType) (head : TupleHead) (bytes : List ℕ) (values : List KeyVal)
    → HasHeader (length kinds) (seen_header (length kinds) head) bytes → length bytes ≤ 8152
    → (head.has_rows ≡ false → present_of (flags_of (length kinds) head.bits) ≡ 0)
    → BeginsWithData (bound_kinds kinds) (present_of (flags_of (length kinds) head.bits)) (drop (place_behind (flags_of (2 * length kinds) head.bits)) bytes) values
    → drop (length (data_of (bound_kinds kinds) values)) (drop (place_behind (flags_of (2 * length kinds) head.bits)) bytes)
    ≡ zeros (rounded_up 8 (length (data_of (bound_kinds kinds) values)) - length (data_of (bound_kinds kinds) values))
    → IsRangeTuple kinds head.first
    (record { has_rows = head.has_rows; columns = columns_from values (flags_of (length kinds) (head.bits / 2 ^ length kinds)) }) bytes
read-is kinds head bytes values has small empty is behind =
    let nulls : List Bool = flags_of (length kinds) (head.bits / 2 ^ length kinds) in
    let size = AllZip-long IsValueOf (bound_kinds kinds) values is.typed in
    let twice = length-bound_kinds kinds in
    let even : length values ≡ 2 * length kinds = omega arith in
    let a = length-flags_of (length kinds) head.bits in
    let b = length-flags_of (length kinds) (head.bits / 2 ^ length kinds) in
    let pairs = paired values (flags_of (length kinds) head.bits) nulls (omega arith) (omega arith) is.bits in
    let kept = bounds_of-kept values nulls (omega arith) in
    let lows : map is_all_null (columns_from values nulls) ≡ flags_of (length kinds) head.bits =
    sym (low_nulls-columns (columns_from values nulls)) ∙ ap low_nulls (sym kept) ∙ pairs.lows in
    let left : List ℕ = drop (place_behind (flags_of (2 * length kinds) head.bits)) bytes in
    let mine : List ℕ = data_of (bound_kinds kinds) values in
    whole-tuple kinds (length kinds) head.first head.bits head.has_rows bytes has values even is.typed is.bits
    (λ none. none-present (columns_from values nulls) (ap present_of lows ∙ empty none))
    (ap (take (length mine)) is.«data» ∙ take_at mine is.behind (length mine) refl) behind small
