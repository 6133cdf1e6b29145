-- What stands at the front of an index tuple.
use Rattle.std.proofs.Common.{◌≡◌, ◌+◌, ◌-◌, ◌*◌, ◌/◌, ◌%◌, ◌^◌, ◌<◌, ◌≤◌, ℕ, List, [], ◌∷◌, ◌++◌, length, drop, Bool, true, false, refl, sym, ap, ◌∙◌, arith, length-append, inl, inr, lit<}
use Rattle.std.specs.Prelude.{◌||◌, if◌then◌else◌, cond}
use Rattle.std.specs.List.{AllZip}
use Rattle.std.proofs.Math.Nat.{pow-le-pow_right, pow-succ'}
use Rattle.std.proofs.lemmas.List.{append_assoc, drop_at}
use Rattle.std.proofs.lemmas.Slice.Zip.{AllZip-long}
use Rattle.pg_bytes.specs.Numbers.{number_at, number_bytes}
use Rattle.pg_bytes.specs.Places.{zeros}
use Rattle.pg_bytes.specs.Pointers.{row_pointer_at, row_pointer_bytes}
use Rattle.pg_bytes.specs.declared.row_ptr.RowPtr.{RowPtr}
use Rattle.pg_bytes.proofs.ItemPage.{number_at-first, number_at-past}
use Rattle.pg_bytes.proofs.Writes.{length-number_bytes, length-zeros}
use Rattle.opclass.specs.declared.types.ColType.{ColType}
use Rattle.opclass.specs.declared.value.KeyVal.{KeyVal}
use Rattle.opclass.specs.Values.{IsValueOf}
use Rattle.tuple_data.specs.Data.{data_of}
use Rattle.tuple_data.specs.Nulls.{has_null, has_variable, is_null, null_bits}
use Rattle.tuple_data.specs.Reading.{BeginsWithData}
use Rattle.tuple_data.proofs.NullBits.{null_bits-below}
use Rattle.tuple_data.proofs.OneReading.{either}
use Rattle.btree_item.specs.Tuple.{bitmap_of, data_end, index_tuple, info_of, null_mark, size_of, variable_mark}
use Rattle.btree_item.specs.TupleReading.{BeginsWithTuple}
use Rattle.btree_item.proofs.Sizes.{length-row_pointer}

-- ---- the parts of a tuple

-- what stands behind the row pointer's place and t_info
abbrev pub behind_info : List ColType → List KeyVal → List ℕ → List ℕ
behind_info kinds values rest =
    bitmap_of values ++ (data_of kinds values ++ (zeros (size_of kinds values - data_end kinds values) ++ rest))

pub parts : (kinds : List ColType) (values : List KeyVal) (front : RowPtr) (info : ℕ) (bytes rest : List ℕ)
    → bytes ≡ index_tuple front info kinds values ++ rest
    → bytes ≡ row_pointer_bytes front ++ (number_bytes 2 info ++ behind_info kinds values rest)
unfolding index_tuple
parts kinds values front info bytes rest are = are ∙ simp append_assoc

pub mark-most : (b : Bool) (mark : ℕ) → (if b then mark else 0) ≤ mark
mark-most true mark = omega arith
mark-most false mark = omega arith

-- t_info has two bytes
info-fits : (kinds : List ColType) (values : List KeyVal) (size : ℕ) → size < 2 ^ 14 → info_of size kinds values < 2 ^ 16
info-fits kinds values size small =
    let variable : variable_mark kinds values ≤ 0x4000 = mark-most (has_variable kinds values) 0x4000 in
    let null : null_mark values ≤ 0x8000 = mark-most (has_null values) 0x8000 in
    omega arith

pub info-read : (kinds : List ColType) (values : List KeyVal) (front : RowPtr) (size : ℕ) (bytes rest : List ℕ) → size < 2 ^ 14
    → bytes ≡ index_tuple front (info_of size kinds values) kinds values ++ rest → number_at 2 bytes 6 ≡ info_of size kinds values
info-read kinds values front size bytes rest small are =
    let info : ℕ = info_of size kinds values in
    ap (λ (l : List ℕ). number_at 2 l 6) (parts kinds values front info bytes rest are)
    ∙ number_at-past 2 (row_pointer_bytes front) (number_bytes 2 info ++ behind_info kinds values rest) 6 (length-row_pointer front)
    ∙ number_at-first 2 info (behind_info kinds values rest) (info-fits kinds values size small)

-- where the bitmap begins
pub head-cut : (kinds : List ColType) (values : List KeyVal) (front : RowPtr) (info : ℕ) (bytes rest : List ℕ)
    → bytes ≡ index_tuple front info kinds values ++ rest → drop 8 bytes ≡ behind_info kinds values rest
head-cut kinds values front info bytes rest are =
    let head : List ℕ = row_pointer_bytes front ++ number_bytes 2 info in
    let eight : length head ≡ 8 =
    length-append (row_pointer_bytes front) (number_bytes 2 info)
    ∙ (let p = length-row_pointer front in let n = length-number_bytes 2 info in omega arith) in
    ap (drop 8) (parts kinds values front info bytes rest are ∙ sym (append_assoc (row_pointer_bytes front) (number_bytes 2 info) (behind_info kinds values rest)))
    ∙ drop_at head (behind_info kinds values rest) 8 eight

pub long-front : (kinds : List ColType) (values : List KeyVal) (front : RowPtr) (info : ℕ) (bytes rest : List ℕ)
    → bytes ≡ index_tuple front info kinds values ++ rest → length bytes ≡ 8 + length (behind_info kinds values rest)
long-front kinds values front info bytes rest are =
    let whole = ap length (parts kinds values front info bytes rest are) in
    let a = length-append (row_pointer_bytes front) (number_bytes 2 info ++ behind_info kinds values rest) in
    let c = length-append (number_bytes 2 info) (behind_info kinds values rest) in
    let p = length-row_pointer front in
    let n = length-number_bytes 2 info in
    omega arith

-- ---- the row pointer's place

-- a row pointer is read from its bytes
pub pointer-read : (p : RowPtr) (rest : List ℕ) → p.block < 2 ^ 32 → p.offset < 2 ^ 16 → row_pointer_at (row_pointer_bytes p ++ rest) 0 ≡ p
unfolding row_pointer_bytes
pointer-read p rest block offset =
    let two = length-number_bytes 2 (p.block / 2 ^ 16) in
    let two' = length-number_bytes 2 (p.block % 2 ^ 16) in
    let high : List ℕ = number_bytes 2 (p.block / 2 ^ 16) in
    let low : List ℕ = number_bytes 2 (p.block % 2 ^ 16) in
    let last : List ℕ = number_bytes 2 p.offset in
    let whole : (high ++ (low ++ last)) ++ rest ≡ high ++ (low ++ (last ++ rest)) = simp append_assoc in
    let whole' : (high ++ (low ++ last)) ++ rest ≡ (high ++ low) ++ (last ++ rest) = simp append_assoc in
    let four = length-append high low in
    let a : number_at 2 ((high ++ (low ++ last)) ++ rest) 0 ≡ p.block / 2 ^ 16 =
    ap (λ (l : List ℕ). number_at 2 l 0) whole ∙ number_at-first 2 (p.block / 2 ^ 16) (low ++ (last ++ rest)) (omega arith) in
    let b : number_at 2 ((high ++ (low ++ last)) ++ rest) 2 ≡ p.block % 2 ^ 16 =
    ap (λ (l : List ℕ). number_at 2 l 2) whole ∙ number_at-past 2 high (low ++ (last ++ rest)) 2 two ∙ number_at-first 2 (p.block % 2 ^ 16) (last ++ rest) (omega arith) in
    let c : number_at 2 ((high ++ (low ++ last)) ++ rest) 4 ≡ p.offset =
    ap (λ (l : List ℕ). number_at 2 l 4) whole' ∙ number_at-past 2 (high ++ low) (last ++ rest) 4 (omega arith) ∙ number_at-first 2 p.offset rest (omega arith) in
    let block_is : number_at 2 ((high ++ (low ++ last)) ++ rest) 0 * 2 ^ 16 + number_at 2 ((high ++ (low ++ last)) ++ rest) 2 ≡ p.block = omega arith in
    λ i. record { block = block_is i; offset = c i }

pub front-read : (kinds : List ColType) (values : List KeyVal) (front : RowPtr) (info : ℕ) (bytes rest : List ℕ)
    → bytes ≡ index_tuple front info kinds values ++ rest → front.block < 2 ^ 32 → front.offset < 2 ^ 16 → row_pointer_at bytes 0 ≡ front
front-read kinds values front info bytes rest are block offset =
    ap (λ (l : List ℕ). row_pointer_at l 0) (parts kinds values front info bytes rest are) ∙ pointer-read front _ block offset

-- ---- the nulls

-- t_info tells whether some value is null
no-null : (kinds : List ColType) (values : List KeyVal) (size : ℕ) → info_of size kinds values < 0x8000 → has_null values ≡ false
no-null kinds values size low = elim (either (has_null values)) [
  | inl null ↦ let mark : null_mark values ≡ 0x8000 = ap (λ (b : Bool). cond b 0x8000 0) null in absurd (omega arith)
  | inr none ↦ none
]

some-null : (kinds : List ColType) (values : List KeyVal) (size : ℕ) → size < 2 ^ 14 → 0x8000 ≤ info_of size kinds values → has_null values ≡ true
some-null kinds values size small high = elim (either (has_null values)) [
  | inl null ↦ null
  | inr none ↦
      let mark : null_mark values ≡ 0 = ap (λ (b : Bool). cond b 0x8000 0) none in
      let variable : variable_mark kinds values ≤ 0x4000 = mark-most (has_variable kinds values) 0x4000 in
      absurd (omega arith)
]

or-false : (a b : Bool) → (a || b) ≡ false → (a ≡ false) × (b ≡ false)
or-false true b e = absurd cc
or-false false b e = (refl, e)

abbrev bit_of : Bool → ℕ
bit_of b = if b then 0 else 1

bit-one : (b : Bool) → b ≡ false → bit_of b ≡ 1
bit-one true e = absurd cc
bit-one false e = refl

-- where none is null each bit is set
all-bits : (values : List KeyVal) → has_null values ≡ false → null_bits values + 1 ≡ 2 ^ length values
all-bits [] none = refl
all-bits (value ∷ values) none =
    let both = or-false (is_null value) (has_null values) none in
    let here = bit-one (is_null value) both.0 in
    let more = all-bits values both.1 in
    let double = pow-succ' 2 (length values) in
    omega arith

-- the data of a tuple in which no value is null
pub all-there : (kinds : List ColType) (bytes : List ℕ) (front : RowPtr) (size : ℕ) (values : List KeyVal)
    → BeginsWithTuple kinds bytes front size values → number_at 2 bytes 6 < 0x8000
    → BeginsWithData kinds (2 ^ length kinds - 1) (drop 8 bytes) values
all-there kinds bytes front size values b low =
    let info = info-read kinds values front size bytes b.rest b.small b.bytes_are in
    let none = no-null kinds values size (omega arith) in
    let bits = all-bits values none in
    let power : 2 ^ length values ≡ 2 ^ length kinds = ap (λ (n : ℕ). 2 ^ n) (AllZip-long IsValueOf kinds values b.typed) in
    let more : List ℕ = zeros (size_of kinds values - data_end kinds values) ++ b.rest in
    let no_bitmap : bitmap_of values ≡ [] = ap (λ (t : Bool). cond t (number_bytes 4 (null_bits values) ++ zeros 4) []) none in
    record {
      typed = b.typed;
      bits = omega arith;
      behind = more;
      «data» = head-cut kinds values front (info_of size kinds values) bytes b.rest b.bytes_are
          ∙ ap (λ (m : List ℕ). m ++ (data_of kinds values ++ more)) no_bitmap
          ∙ sym (append_assoc [] (data_of kinds values) more);
    }

-- the null bits have four bytes
bits-fit : (kinds : List ColType) (values : List KeyVal) → length kinds ≤ 32 → AllZip IsValueOf kinds values → null_bits values < 2 ^ 32
bits-fit kinds values few typed =
    let long = AllZip-long IsValueOf kinds values typed in
    let below = null_bits-below values in
    let few' : length values ≤ 32 = omega arith in
    let most : 2 ^ length values ≤ 2 ^ 32 = pow-le-pow_right (lit< tt) few' in
    omega arith

-- the data of a tuple in which some value is null
pub record HasBitmap (kinds : List ColType) (bytes : List ℕ) (values : List KeyVal) : Type 0 where
  pub long : 16 ≤ length bytes
  pub begins : BeginsWithData kinds (number_at 4 bytes 8) (drop 16 bytes) values

pub some-there : (kinds : List ColType) (bytes : List ℕ) (front : RowPtr) (size : ℕ) (values : List KeyVal) → length kinds ≤ 32
    → BeginsWithTuple kinds bytes front size values → 0x8000 ≤ number_at 2 bytes 6 → HasBitmap kinds bytes values
some-there kinds bytes front size values few b high =
    let head : List ℕ = row_pointer_bytes front ++ number_bytes 2 (info_of size kinds values) in
    let four : List ℕ = number_bytes 4 (null_bits values) in
    let more : List ℕ = zeros (size_of kinds values - data_end kinds values) ++ b.rest in
    let info = info-read kinds values front size bytes b.rest b.small b.bytes_are in
    let null = some-null kinds values size b.small (omega arith) in
    let bitmap : bitmap_of values ≡ four ++ zeros 4 = ap (λ (t : Bool). cond t (number_bytes 4 (null_bits values) ++ zeros 4) []) null in
    let whole : bytes ≡ (head ++ (four ++ zeros 4)) ++ (data_of kinds values ++ more) =
    parts kinds values front (info_of size kinds values) bytes b.rest b.bytes_are
    ∙ ap (λ (m : List ℕ). row_pointer_bytes front ++ (number_bytes 2 (info_of size kinds values) ++ (m ++ (data_of kinds values ++ more)))) bitmap
    ∙ regrouped (row_pointer_bytes front) (number_bytes 2 (info_of size kinds values)) (four ++ zeros 4) (data_of kinds values ++ more) in
    let a = length-row_pointer front in
    let c = length-number_bytes 2 (info_of size kinds values) in
    let d = length-append (row_pointer_bytes front) (number_bytes 2 (info_of size kinds values)) in
    let e = length-number_bytes 4 (null_bits values) in
    let f = length-zeros 4 in
    let g = length-append four (zeros 4) in
    let h = length-append head (four ++ zeros 4) in
    let all = ap length whole ∙ length-append (head ++ (four ++ zeros 4)) (data_of kinds values ++ more) in
    let fits : null_bits values < 256 ^ 4 = bits-fit kinds values few b.typed in
    let read : number_at 4 bytes 8 ≡ null_bits values =
    ap (λ (l : List ℕ). number_at 4 l 8) (whole ∙ regrouped' head four (zeros 4) (data_of kinds values ++ more))
    ∙ number_at-past 4 head (four ++ (zeros 4 ++ (data_of kinds values ++ more))) 8 (omega arith)
    ∙ number_at-first 4 (null_bits values) (zeros 4 ++ (data_of kinds values ++ more)) fits in
    record {
      long = omega arith;
      begins = record {
        typed = b.typed;
        bits = sym read;
        behind = more;
        «data» = ap (drop 16) whole ∙ drop_at (head ++ (four ++ zeros 4)) (data_of kinds values ++ more) 16 (omega arith);
      };
    }
  where
    regrouped : (p i m d : List ℕ) → p ++ (i ++ (m ++ d)) ≡ ((p ++ i) ++ m) ++ d
    regrouped p i m d = simp append_assoc

    regrouped' : (h f z d : List ℕ) → (h ++ (f ++ z)) ++ d ≡ h ++ (f ++ (z ++ d))
    regrouped' h f z d = simp append_assoc
