-- The flags of a null bitmap as a number, and as bytes.
use Rattle.std.proofs.Common.{◌≡◌, ℕ, zero, suc, ◌+◌, ◌*◌, ◌/◌, ◌^◌, ◌<◌, ◌≤◌, Bool, true, false, if◌then◌else◌, List, [], ◌∷◌, ◌++◌, length, map, drop, get_or, refl, sym, ap, ◌∙◌, arith, lit<, length-append, length-drop}
use Rattle.std.proofs.Math.Nat.{pow-le-pow_right, pow-succ'}
use Rattle.std.specs.List.{list_any}
use Rattle.std.proofs.lemmas.List.{length-map}
use mir.Val.{bool_byte}
use Rattle.pg_bytes.specs.Numbers.{number_bytes}
use Rattle.opclass.specs.declared.value.KeyVal.{KeyVal}
use Rattle.tuple_data.specs.Nulls.{is_null}
use Rattle.brin_summary.specs.Pass.{bits_behind, columns_from, low_nulls}
use Rattle.brin_summary.specs.Summary.{ColumnSummary}
use Rattle.brin_summary.specs.Tuple.{bitmap_of, bits_of, bounds_of, is_all_null, null_bitmap, null_flags}

pub bits-behind : (flags others : List Bool) → bits_of (flags ++ others) ≡ bits_behind flags (bits_of others)
bits-behind [] others = refl
bits-behind (flag ∷ flags) others = ap (λ (n : ℕ). (if flag then 1 else 0) + 2 * n) (bits-behind flags others)

pub bits-alone : (flags : List Bool) → bits_of flags ≡ bits_behind flags 0
bits-alone [] = refl
bits-alone (flag ∷ flags) = ap (λ (n : ℕ). (if flag then 1 else 0) + 2 * n) (bits-alone flags)

-- a flag before others has the lowest bit
pub bits-drop : (flags : List Bool) (behind at : ℕ) (flag : Bool) → at < length flags → flag ≡ get_or flags at false
    → bits_behind (drop at flags) behind ≡ (if flag then 1 else 0) + 2 * bits_behind (drop (suc at) flags) behind
bits-drop [] behind at flag inside there = absurd (omega arith)
bits-drop (first ∷ flags) behind zero flag inside there = ap (λ (f : Bool). (if f then 1 else 0) + 2 * bits_behind flags behind) (sym there)
bits-drop (first ∷ flags) behind (suc at) flag inside there = bits-drop flags behind at flag (omega arith) there

bit-most : (b : Bool) → (if b then 1 else 0) ≤ 1
bit-most true = omega arith
bit-most false = omega arith

-- each flag doubles what there is room for
bits-below : (flags : List Bool) (behind k : ℕ) → behind < 2 ^ k → bits_behind flags behind < 2 ^ (length flags + k)
bits-below [] behind k below = let same : 0 + k ≡ k = omega arith in rw same below
bits-below (flag ∷ flags) behind k below =
    let more = bits-below flags behind k below in
    let digit = bit-most flag in
    let double = pow-succ' 2 (length flags + k) in
    let same : suc (length flags) + k ≡ suc (length flags + k) = omega arith in
    rw same (omega arith)

-- one flag more still fits, behind at most so many
pub bits-room : (flags : List Bool) (behind at k most : ℕ) → behind < 2 ^ k → 0 < at → at ≤ length flags → length flags + k ≤ most
    → 2 * bits_behind (drop at flags) behind + 1 < 2 ^ most
bits-room flags behind at k most below some inside few =
    let left = length-drop at flags in
    let mine = bits-below (drop at flags) behind k below in
    let double = pow-succ' 2 (length (drop at flags) + k) in
    let few_left : suc (length (drop at flags) + k) ≤ most = omega arith in
    let room : 2 ^ suc (length (drop at flags) + k) ≤ 2 ^ most = pow-le-pow_right (lit< tt) few_left in
    omega arith

pub bits-few : (flags : List Bool) (most : ℕ) → length flags ≤ most → bits_of flags < 2 ^ most
bits-few flags most few =
    let mine = bits-below flags 0 0 (omega arith) in
    let room : 2 ^ (length flags + 0) ≤ 2 ^ most = pow-le-pow_right (lit< tt) (omega arith) in
    let same = bits-alone flags in
    omega arith

-- ---- which columns are all null, by their bounds

pub length-low_nulls : (bounds : List KeyVal) → length (low_nulls bounds) ≡ length bounds / 2
length-low_nulls [] = refl
length-low_nulls (low ∷ []) = refl
length-low_nulls (low ∷ high ∷ bounds) = let rest = length-low_nulls bounds in omega arith

pub low_null-at : (bounds : List KeyVal) (at : ℕ) (value : KeyVal) → at < length bounds / 2 → value ≡ get_or bounds (2 * at) value
    → is_null value ≡ get_or (low_nulls bounds) at false
low_null-at [] at value inside there = absurd (omega arith)
low_null-at (low ∷ []) at value inside there = absurd (omega arith)
low_null-at (low ∷ high ∷ bounds) zero value inside there = ap is_null there
low_null-at (low ∷ high ∷ bounds) (suc at) value inside there =
    let next : 2 * suc at ≡ suc (suc (2 * at)) = omega arith in
    low_null-at bounds at value (omega arith) (there ∙ ap (λ (n : ℕ). get_or (low ∷ high ∷ bounds) n value) next)

pub low_nulls-columns : (columns : List ColumnSummary) → low_nulls (bounds_of columns) ≡ map is_all_null columns
low_nulls-columns [] = refl
low_nulls-columns (column ∷ columns) = ap (λ l. is_null column.low ∷ l) (low_nulls-columns columns)

-- a truth value as a number
pub bool_byte-is : (flag : Bool) → bool_byte flag ≡ (if flag then 1 else 0)
bool_byte-is true = refl
bool_byte-is false = refl

pub bool_byte-most : (flag : Bool) → bool_byte flag ≤ 1
bool_byte-most true = omega arith
bool_byte-most false = omega arith

-- ---- the bounds and nulls of columns as they are kept

pub bounds_of-kept : (bounds : List KeyVal) (nulls : List Bool) → length bounds ≡ 2 * length nulls → bounds ≡ bounds_of (columns_from bounds nulls)
bounds_of-kept [] [] even = refl
bounds_of-kept [] (null ∷ nulls) even = absurd (omega arith)
bounds_of-kept (low ∷ []) [] even = absurd (omega arith)
bounds_of-kept (low ∷ []) (null ∷ nulls) even = absurd (omega arith)
bounds_of-kept (low ∷ high ∷ bounds) [] even = absurd (omega arith)
bounds_of-kept (low ∷ high ∷ bounds) (null ∷ nulls) even = ap (λ l. low ∷ high ∷ l) (bounds_of-kept bounds nulls (omega arith))

pub nulls-kept : (bounds : List KeyVal) (nulls : List Bool) → length bounds ≡ 2 * length nulls
    → nulls ≡ map (λ (column : ColumnSummary). column.has_null) (columns_from bounds nulls)
nulls-kept [] [] even = refl
nulls-kept [] (null ∷ nulls) even = absurd (omega arith)
nulls-kept (low ∷ []) [] even = absurd (omega arith)
nulls-kept (low ∷ []) (null ∷ nulls) even = absurd (omega arith)
nulls-kept (low ∷ high ∷ bounds) [] even = absurd (omega arith)
nulls-kept (low ∷ high ∷ bounds) (null ∷ nulls) even = ap (λ l. null ∷ l) (nulls-kept bounds nulls (omega arith))

pub length-bounds_of : (columns : List ColumnSummary) → length (bounds_of columns) ≡ 2 * length columns
length-bounds_of [] = refl
length-bounds_of (column ∷ columns) = let rest = length-bounds_of columns in omega arith

-- ---- the null bitmap

pub length-null_flags : (columns : List ColumnSummary) → length (null_flags columns) ≡ 2 * length columns
length-null_flags columns =
    let both = length-append (map is_all_null columns) (map (λ (column : ColumnSummary). column.has_null) columns) in
    let first = length-map columns is_all_null in
    let second = length-map columns (λ (column : ColumnSummary). column.has_null) in
    omega arith

pub no-flag : (flags : List Bool) → bits_of flags ≡ 0 → list_any (λ flag. flag) flags ≡ false
no-flag [] none = refl
no-flag (true ∷ flags) none = absurd (omega arith)
no-flag (false ∷ flags) none = no-flag flags (omega arith)

pub some-flag : (flags : List Bool) → 0 < bits_of flags → list_any (λ flag. flag) flags ≡ true
some-flag [] some = absurd (omega arith)
some-flag (true ∷ flags) some = refl
some-flag (false ∷ flags) some = some-flag flags (omega arith)

pub no-bitmap : (columns : List ColumnSummary) → bits_of (null_flags columns) ≡ 0
    → (null_bitmap columns ≡ []) × (list_any (λ flag. flag) (null_flags columns) ≡ false)
unfolding bitmap_of
no-bitmap columns none = let no = no-flag (null_flags columns) none in (rw no refl, no)

pub some-bitmap : (columns : List ColumnSummary) → 0 < bits_of (null_flags columns)
    → (null_bitmap columns ≡ number_bytes ((2 * length columns + 7) / 8) (bits_of (null_flags columns)))
    × (list_any (λ flag. flag) (null_flags columns) ≡ true)
unfolding bitmap_of
some-bitmap columns there =
    let yes = some-flag (null_flags columns) there in
    (rw (yes, length-null_flags columns) refl, yes)

pub some-columns : (columns : List ColumnSummary) → 0 < bits_of (null_flags columns) → 1 ≤ length columns
some-columns [] there = absurd (omega arith)
some-columns (column ∷ columns) there = omega arith
