-- The tuple of a range that is read: its header, its bounds and what stands behind them.
use Rattle.std.proofs.Common.{◌≡◌, ◌≢◌, ℕ, zero, suc, ◌+◌, ◌-◌, ◌*◌, ◌/◌, ◌%◌, ◌^◌, ◌<◌, ◌≤◌, Bool, true, false, nat_eq, if◌then◌else◌, List, [], ◌∷◌, ◌++◌, length, map, take, drop, All, refl, sym, ap, subst, ◌∙◌, arith, lit<}
use Rattle.std.proofs.Math.Nat.{div-div-eq-div-mul, pow-le-pow_right, pow-succ'}
use Rattle.std.specs.List.{AllZip}
use Rattle.std.proofs.lemmas.List.{append_assoc, map-append, take-append-drop}
use Rattle.std.proofs.lemmas.List.Elements.{All-cons, All-head, All-nil, All-tail}
use Rattle.pg_bytes.specs.Numbers.{rounded_up}
use Rattle.pg_bytes.specs.PageLayout.{aligned}
use Rattle.pg_bytes.specs.Places.{zeros}
use Rattle.opclass.specs.Values.{IsValueOf}
use Rattle.opclass.specs.declared.types.ColType.{ColType}
use Rattle.opclass.specs.declared.value.KeyVal.{KeyVal}
use Rattle.tuple_data.specs.Data.{data_of}
use Rattle.tuple_data.specs.Nulls.{is_null, null_bits}
use Rattle.brin_summary.proofs.Flags.{bounds_of-kept, low_nulls-columns, nulls-kept}
use Rattle.brin_summary.proofs.Headers.{length-flags_of}
use Rattle.brin_summary.specs.Pass.{columns_from, flags_of, low_nulls, present_of}
use Rattle.brin_summary.specs.Reading.{HasHeader, HasPair, IsRangeTuple, column_read}
use Rattle.brin_summary.specs.declared.range_tuple.RangeCol.{RangeCol}
use Rattle.brin_summary.specs.Summary.{ColumnSummary, RangeSummary}
use Rattle.brin_summary.specs.Tuple.{bound_kinds, bounds_of, header_bytes, is_all_null, null_flags, place_behind, range_data, range_tuple}

-- ---- flags

-- the lowest bits, and those behind them
pub flags-split : (low high bits : ℕ) → flags_of (low + high) bits ≡ flags_of low bits ++ flags_of high (bits / 2 ^ low)
flags-split zero high bits =
    let none : 0 + high ≡ high = omega arith in
    let whole : bits / 2 ^ 0 ≡ bits = omega arith in
    rw (none, whole) refl
flags-split (suc low) high bits =
    let next : suc low + high ≡ suc (low + high) = omega arith in
    let power = pow-succ' 2 low in
    let shift : bits / 2 / 2 ^ low ≡ bits / 2 ^ suc low =
    div-div-eq-div-mul bits 2 (2 ^ low) ∙ ap (λ (n : ℕ). bits / n) (let e : 2 * 2 ^ low ≡ 2 ^ suc low = omega arith in e) in
    rw next
    (ap (λ (l : List Bool). nat_eq (bits % 2) 1 ∷ l) (flags-split low high (bits / 2) ∙ ap (λ (n : ℕ). flags_of low (bits / 2) ++ flags_of high n) shift))

-- the flag at a place, and those behind it
pub flags-next : (count bits at : ℕ) → flags_of (suc count) (bits / 2 ^ at) ≡ nat_eq (bits / 2 ^ at % 2) 1 ∷ flags_of count (bits / 2 ^ suc at)
flags-next count bits at =
    let power = pow-succ' 2 at in
    let shift : bits / 2 ^ at / 2 ≡ bits / 2 ^ suc at =
    div-div-eq-div-mul bits (2 ^ at) 2 ∙ ap (λ (n : ℕ). bits / n) (let e : 2 ^ at * 2 ≡ 2 ^ suc at = omega arith in e) in
    ap (λ (n : ℕ). nat_eq (bits / 2 ^ at % 2) 1 ∷ flags_of count n) shift

pub present-few : (flags : List Bool) → present_of flags < 4 ^ length flags
present-few [] = omega arith
present-few (true ∷ flags) = let rest = present-few flags in let power = pow-succ' 4 (length flags) in omega arith
present-few (false ∷ flags) = let rest = present-few flags in let power = pow-succ' 4 (length flags) in omega arith

-- a flag more still fits 64 bits
pub present-room : (flags : List Bool) → length flags < 32 → 4 * present_of flags + 3 < 2 ^ 64
present-room flags few =
    let mine = present-few flags in
    let power = pow-succ' 4 (length flags) in
    let few' : suc (length flags) ≤ 32 = omega arith in
    let room : 4 ^ suc (length flags) ≤ 4 ^ 32 = pow-le-pow_right (lit< tt) few' in
    omega arith

-- the bits of a column's pair
pub pair-none : (number pair : ℕ) → number % 2 ≡ 1 → pair ≡ 0 → pair ≡ (if nat_eq (number % 2) 1 then 0 else 3)
pair-none number pair set is = rw set is

pub pair-there : (number pair : ℕ) → number % 2 ≢ 1 → pair ≡ 3 → pair ≡ (if nat_eq (number % 2) 1 then 0 else 3)
pair-there number pair clear is = let none : number % 2 ≡ 0 = omega arith in rw none is

-- a column more, from the last one on
pub present-step : (columns bits at present pair : ℕ) → 0 < at → at ≤ columns → present ≡ present_of (flags_of (columns - at) (bits / 2 ^ at))
    → pair ≡ (if nat_eq (bits / 2 ^ (at - 1) % 2) 1 then 0 else 3)
    → 4 * present + pair ≡ present_of (flags_of (columns - (at - 1)) (bits / 2 ^ (at - 1)))
present-step columns bits at present pair some inside is is_pair =
    let left : columns - (at - 1) ≡ suc (columns - at) = omega arith in
    let next : suc (at - 1) ≡ at = omega arith in
    let split = flags-next (columns - at) bits (at - 1) in
    let same : flags_of (columns - (at - 1)) (bits / 2 ^ (at - 1)) ≡ nat_eq (bits / 2 ^ (at - 1) % 2) 1 ∷ flags_of (columns - at) (bits / 2 ^ at) =
    ap (λ (n : ℕ). flags_of n (bits / 2 ^ (at - 1))) left ∙ split
    ∙ ap (λ (n : ℕ). nat_eq (bits / 2 ^ (at - 1) % 2) 1 ∷ flags_of (columns - at) (bits / 2 ^ n)) next in
    let parts = ap present_of same in
    omega arith

pub present-fits : (columns bits at present : ℕ) → 0 < at → at ≤ columns → columns ≤ 32 → present ≡ present_of (flags_of (columns - at) (bits / 2 ^ at))
    → 4 * present + 3 < 2 ^ 64
present-fits columns bits at present some inside few is =
    let count = length-flags_of (columns - at) (bits / 2 ^ at) in
    let room = present-room (flags_of (columns - at) (bits / 2 ^ at)) (omega arith) in
    omega arith

-- ---- which bounds are null

pub record Paired (values : List KeyVal) (flags nulls : List Bool) : Type 0 where
  pub lows : low_nulls values ≡ flags
  pub pairs : All HasPair (columns_from values nulls)

pair-told : (low high flag : Bool) (rest more : ℕ) → (if low then 0 else 1) + 2 * ((if high then 0 else 1) + 2 * rest) ≡ (if flag then 0 else 3) + 4 * more
    → (low ≡ flag) × (high ≡ low) × (rest ≡ more)
pair-told true true true rest more is = (refl, refl, omega arith)
pair-told true true false rest more is = absurd (omega arith)
pair-told true false true rest more is = absurd (omega arith)
pair-told true false false rest more is = absurd (omega arith)
pair-told false true true rest more is = absurd (omega arith)
pair-told false true false rest more is = absurd (omega arith)
pair-told false false true rest more is = absurd (omega arith)
pair-told false false false rest more is = (refl, refl, omega arith)

pub paired : (values : List KeyVal) (flags nulls : List Bool) → length values ≡ 2 * length flags → length nulls ≡ length flags
    → null_bits values ≡ present_of flags → Paired values flags nulls
paired [] [] nulls even same is = record { lows = refl; pairs = All-nil HasPair }
paired [] (flag ∷ flags) nulls even same is = absurd (omega arith)
paired (low ∷ []) flags nulls even same is = absurd (omega arith)
paired (low ∷ high ∷ values) [] nulls even same is = absurd (omega arith)
paired (low ∷ high ∷ values) (flag ∷ flags) [] even same is = absurd (omega arith)
paired (low ∷ high ∷ values) (flag ∷ flags) (null ∷ nulls) even same is =
    let told = pair-told (is_null low) (is_null high) flag (null_bits values) (present_of flags) is in
    let rest = paired values flags nulls (omega arith) (omega arith) told.2 in
    record {
      lows = ap (λ (b : Bool). b ∷ low_nulls values) told.0 ∙ ap (λ (l : List Bool). flag ∷ l) rest.lows;
      pairs = All-cons HasPair (record { low = low; high = high; has_null = null }) (columns_from values nulls) told.1 rest.pairs;
    }

bits-of-pair : (low high : KeyVal) (values : List KeyVal) (flags : List Bool) → is_null high ≡ is_null low → null_bits values ≡ present_of flags
    → null_bits (low ∷ high ∷ values) ≡ present_of (is_null low ∷ flags)
bits-of-pair low high values flags pair rest = go (is_null low) refl
  where
    go : (t : Bool) → is_null low ≡ t → null_bits (low ∷ high ∷ values) ≡ present_of (is_null low ∷ flags)
    go true is = let other : is_null high ≡ true = pair ∙ is in rw (is, other) (omega arith)
    go false is = let other : is_null high ≡ false = pair ∙ is in rw (is, other) (omega arith)

pub bits-of-pairs : (columns : List ColumnSummary) → All HasPair columns → null_bits (bounds_of columns) ≡ present_of (map is_all_null columns)
bits-of-pairs [] pairs = refl
bits-of-pairs (column ∷ columns) pairs =
    bits-of-pair column.low column.high (bounds_of columns) (map is_all_null columns) (All-head HasPair column columns pairs)
    (bits-of-pairs columns (All-tail HasPair column columns pairs))

-- ---- the columns that are read

-- a column more
pub column-more : (done : List RangeCol) (column : RangeCol) (values rest : List KeyVal) (all : List ColumnSummary) (columns at nulls : ℕ)
    → at < columns → values ≡ column.low ∷ column.high ∷ rest → column.has_null ≡ nat_eq (nulls / 2 ^ at % 2) 1
    → map column_read done ++ columns_from values (flags_of (columns - at) (nulls / 2 ^ at)) ≡ all
    → map column_read (done ++ column ∷ []) ++ columns_from rest (flags_of (columns - (at + 1)) (nulls / 2 ^ (at + 1))) ≡ all
column-more done column values rest all columns at nulls inside is null whole =
    let left : columns - at ≡ suc (columns - (at + 1)) = omega arith in
    let next : suc at ≡ at + 1 = omega arith in
    let flags : flags_of (columns - at) (nulls / 2 ^ at) ≡ column.has_null ∷ flags_of (columns - (at + 1)) (nulls / 2 ^ (at + 1)) =
    ap (λ (n : ℕ). flags_of n (nulls / 2 ^ at)) left ∙ flags-next (columns - (at + 1)) nulls at
    ∙ ap (λ (b : Bool). b ∷ flags_of (columns - (at + 1)) (nulls / 2 ^ suc at)) (sym null)
    ∙ ap (λ (n : ℕ). column.has_null ∷ flags_of (columns - (at + 1)) (nulls / 2 ^ n)) next in
    let behind : List ColumnSummary = columns_from rest (flags_of (columns - (at + 1)) (nulls / 2 ^ (at + 1))) in
    let split : columns_from values (flags_of (columns - at) (nulls / 2 ^ at)) ≡ column_read column ∷ behind =
    ap (λ (vs : List KeyVal). columns_from vs (flags_of (columns - at) (nulls / 2 ^ at))) is
    ∙ ap (λ (fs : List Bool). columns_from (column.low ∷ column.high ∷ rest) fs) flags in
    ap (λ (l : List ColumnSummary). l ++ behind) (map-append column_read done (column ∷ []))
    ∙ append_assoc (map column_read done) (column_read column ∷ []) behind
    ∙ ap (λ (l : List ColumnSummary). map column_read done ++ l) (sym split) ∙ whole

-- ---- the whole tuple

module _ (kinds : List ColType) (columns first bits : ℕ) (has_rows : Bool) (bytes : List ℕ)
    (has : HasHeader columns (record { first = first; has_rows = has_rows; flags = flags_of (2 * columns) bits }) bytes) where
  abbrev place : ℕ
  place = place_behind (flags_of (2 * columns) bits)

  abbrev range_with : List KeyVal → RangeSummary
  range_with values = record { has_rows = has_rows; columns = columns_from values (flags_of columns (bits / 2 ^ columns)) }

  pub flags-are : (values : List KeyVal) → length values ≡ 2 * columns → null_bits values ≡ present_of (flags_of columns bits)
      → null_flags (columns_from values (flags_of columns (bits / 2 ^ columns))) ≡ flags_of (2 * columns) bits
  flags-are values even present =
      let nulls : List Bool = flags_of columns (bits / 2 ^ columns) in
      let count = length-flags_of columns bits in
      let count' = length-flags_of columns (bits / 2 ^ columns) in
      let pairs = paired values (flags_of columns bits) nulls (omega arith) (omega arith) present in
      let kept = bounds_of-kept values nulls (omega arith) in
      let lows : map is_all_null (columns_from values nulls) ≡ flags_of columns bits =
      sym (low_nulls-columns (columns_from values nulls)) ∙ ap low_nulls (sym kept) ∙ pairs.lows in
      let twice : 2 * columns ≡ columns + columns = omega arith in
      ap (λ (l : List Bool). l ++ map (λ (column : ColumnSummary). column.has_null) (columns_from values nulls)) lows
      ∙ ap (λ (l : List Bool). flags_of columns bits ++ l) (sym (nulls-kept values nulls (omega arith)))
      ∙ sym (flags-split columns columns bits) ∙ ap (λ (n : ℕ). flags_of n bits) (sym twice)

  pub whole-tuple : (values : List KeyVal) → length values ≡ 2 * columns → AllZip IsValueOf (bound_kinds kinds) values
      → null_bits values ≡ present_of (flags_of columns bits)
      → (has_rows ≡ false → All (λ column. is_all_null column ≡ true) (range_with values).columns)
      → take (length (data_of (bound_kinds kinds) values)) (drop place bytes) ≡ data_of (bound_kinds kinds) values
      → drop (length (data_of (bound_kinds kinds) values)) (drop place bytes)
      ≡ zeros (rounded_up 8 (length (data_of (bound_kinds kinds) values)) - length (data_of (bound_kinds kinds) values))
      → length bytes ≤ 8152 → IsRangeTuple kinds first (range_with values) bytes
  unfolding range_tuple range_data aligned
  whole-tuple values even typed present empty front behind small =
      let nulls : List Bool = flags_of columns (bits / 2 ^ columns) in
      let count = length-flags_of columns bits in
      let count' = length-flags_of columns (bits / 2 ^ columns) in
      let kept : values ≡ bounds_of (columns_from values nulls) = bounds_of-kept values nulls (omega arith) in
      let pairs = paired values (flags_of columns bits) nulls (omega arith) (omega arith) present in
      let flags = flags-are values even present in
      let mine : List ℕ = data_of (bound_kinds kinds) values in
      let pad : List ℕ = zeros (rounded_up 8 (length mine) - length mine) in
      let data_is : drop place bytes ≡ mine ++ pad =
      sym (take-append-drop (length mine) (drop place bytes)) ∙ ap (λ (l : List ℕ). l ++ drop (length mine) (drop place bytes)) front ∙ ap (λ (l : List ℕ). mine ++ l) behind in
      let head : List Bool → List ℕ = λ fs. aligned (header_bytes (record { first = first; has_rows = has_rows; flags = fs })) in
      let tail : List KeyVal → List ℕ = λ vs. aligned (data_of (bound_kinds kinds) vs) in
      record {
        block = has.block;
        typed = subst (AllZip IsValueOf (bound_kinds kinds)) kept typed;
        paired = pairs.pairs;
        empty = empty;
        size = small;
        bytes_are = sym (take-append-drop place bytes) ∙ ap (λ (l : List ℕ). l ++ drop place bytes) has.front
            ∙ ap (λ (l : List ℕ). head (flags_of (2 * columns) bits) ++ l) data_is
            ∙ ap (λ (fs : List Bool). head fs ++ tail values) (sym flags)
            ∙ ap (λ (vs : List KeyVal). head (null_flags (columns_from values nulls)) ++ tail vs) kept;
      }
