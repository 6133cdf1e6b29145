-- The header of a tuple that is read.
use Rattle.std.proofs.Common.{◌≡◌, ◌⊎◌, ℕ, zero, suc, ◌+◌, ◌-◌, ◌*◌, ◌/◌, ◌%◌, ◌^◌, ◌<◌, ◌≤◌, Bool, true, false, nat_eq, nat_lt, if◌then◌else◌, List, [], ◌∷◌, ◌++◌, length, take, drop, get_or, replicate, refl, sym, ap, subst, ◌∙◌, inl, inr, arith, lit<, pow_pos, length-append}
use Rattle.std.proofs.Math.Nat.{div-div-eq-div-mul, div-eq_of_lt, mod-lt, pow-le-pow_right, pow-succ'}
use Rattle.std.proofs.lemmas.Nat.{div-add-mod', pow-add}
use Rattle.std.proofs.Math.Seq.{get_or-append_seam}
use Rattle.std.specs.Int.{byte_at, bytes_low_first}
use Rattle.std.specs.List.{list_any}
use Rattle.std.proofs.lemmas.Bool.{le-ltb, lt-ltb, ltb-false, ltb-true}
use Rattle.std.proofs.lemmas.List.{append_assoc, length-take, take-append-drop, take_at}
use Rattle.byteorder.proofs.Bytes.{pow256}
use Rattle.pg_bytes.proofs.Writes.{length-number_bytes, length-zeros, zeros-append}
use Rattle.pg_bytes.specs.Numbers.{number_at, number_bytes, rounded_up}
use Rattle.pg_bytes.specs.PageLayout.{aligned}
use Rattle.pg_bytes.specs.Places.{zeros}
use Rattle.brin_summary.proofs.Flags.{bits-few, no-flag, some-flag}
use Rattle.brin_summary.proofs.PageReading.{number-between}
use Rattle.brin_summary.specs.Laws.{HeadersAreToldApart}
use Rattle.brin_summary.specs.Pass.{bits_in, flags_of, header_in}
use Rattle.brin_summary.specs.Reading.{HasHeader}
use Rattle.brin_summary.specs.Tuple.{Header, bitmap_of, bits_of, header_bytes, info_of, place_behind}

-- ---- flags and their number

pub length-flags_of : (count bits : ℕ) → length (flags_of count bits) ≡ count
length-flags_of zero bits = refl
length-flags_of (suc count) bits = let rest = length-flags_of count (bits / 2) in omega arith

-- the lowest bit
low-bit : (bits : ℕ) → (if nat_eq (bits % 2) 1 then 1 else 0) ≡ bits % 2
low-bit bits = go (bits % 2) (omega arith)
  where
    go : (bit : ℕ) → bit < 2 → (if nat_eq bit 1 then 1 else 0) ≡ bit
    go zero small = refl
    go (suc zero) small = refl
    go (suc (suc bit)) small = absurd (omega arith)

pub bits-flags : (count bits : ℕ) → bits < 2 ^ count → bits_of (flags_of count bits) ≡ bits
bits-flags zero bits few = omega arith
bits-flags (suc count) bits few =
    let double = pow-succ' 2 count in
    let rest = bits-flags count (bits / 2) (omega arith) in
    let low = low-bit bits in
    omega arith

pub flags-bits : (flags : List Bool) → flags_of (length flags) (bits_of flags) ≡ flags
flags-bits [] = refl
flags-bits (true ∷ flags) =
    let low : (1 + 2 * bits_of flags) % 2 ≡ 1 = omega arith in
    let rest : (1 + 2 * bits_of flags) / 2 ≡ bits_of flags = omega arith in
    rw (low, rest, flags-bits flags) refl
flags-bits (false ∷ flags) =
    let low : (0 + 2 * bits_of flags) % 2 ≡ 0 = omega arith in
    let rest : (0 + 2 * bits_of flags) / 2 ≡ bits_of flags = omega arith in
    rw (low, rest, flags-bits flags) refl

none-set : (flags : List Bool) → list_any (λ flag. flag) flags ≡ false → bits_of flags ≡ 0
none-set [] none = refl
none-set (true ∷ flags) none = absurd (cc)
none-set (false ∷ flags) none = let rest = none-set flags none in omega arith

some-set : (flags : List Bool) → list_any (λ flag. flag) flags ≡ true → 0 < bits_of flags
some-set [] some = absurd (cc)
some-set (true ∷ flags) some = omega arith
some-set (false ∷ flags) some = let rest = some-set flags some in omega arith

-- ---- what the parts of a header are, by whether a flag is set

pub record Parts (has_rows : Bool) (flags : List Bool) (bitmap : List ℕ) (nulls : ℕ) : Type 0 where
  pub bitmap_is : bitmap_of flags ≡ bitmap
  pub info_is : info_of has_rows flags ≡ rounded_up 8 (5 + length bitmap) + (if has_rows then 0 else 32) + nulls

pub parts-none : (has_rows : Bool) (flags : List Bool) → list_any (λ flag. flag) flags ≡ false → Parts has_rows flags [] 0
unfolding bitmap_of info_of
parts-none has_rows flags none = record { bitmap_is = rw none refl; info_is = rw none refl }

pub parts-some : (has_rows : Bool) (flags : List Bool) → list_any (λ flag. flag) flags ≡ true
    → Parts has_rows flags (number_bytes ((length flags + 7) / 8) (bits_of flags)) 128
unfolding bitmap_of info_of
parts-some has_rows flags some = record { bitmap_is = rw some refl; info_is = rw some refl }

-- ---- the only header that bytes have

pub record Determined (columns : ℕ) (header : Header) (bytes : List ℕ) : Type 0 where
  pub is : header ≡ header_in columns bytes
  pub few : bits_in columns bytes < 2 ^ (2 * columns)
  pub long : 8 ≤ length bytes
  pub within : place_behind header.flags ≤ length bytes
  pub room : 128 ≤ get_or bytes 4 0 → 5 + (2 * columns + 7) / 8 ≤ length bytes

-- the bytes of a header and what stands behind it
record Split (header : Header) (bytes : List ℕ) : Type 0 where
  rest : List ℕ
  are : bytes ≡ number_bytes 4 header.first ++ (info_of header.has_rows header.flags ∷ (bitmap_of header.flags ++ rest))
  long : rounded_up 8 (5 + length (bitmap_of header.flags)) ≤ length bytes

split : (columns : ℕ) (header : Header) (bytes : List ℕ) → HasHeader columns header bytes → Split header bytes
unfolding aligned header_bytes
split columns header bytes has =
    let place : ℕ = place_behind header.flags in
    let mine : List ℕ = number_bytes 4 header.first ++ info_of header.has_rows header.flags ∷ bitmap_of header.flags in
    let pad : List ℕ = zeros (rounded_up 8 (length mine) - length mine) in
    let whole = length-append (number_bytes 4 header.first) (info_of header.has_rows header.flags ∷ bitmap_of header.flags) in
    let four = length-number_bytes 4 header.first in
    let both = length-append mine pad in
    let z = length-zeros (rounded_up 8 (length mine) - length mine) in
    let front = ap length has.front in
    let taken = length-take place bytes in
    record {
      rest = pad ++ drop place bytes;
      are = sym (take-append-drop place bytes) ∙ ap (λ (l : List ℕ). l ++ drop place bytes) has.front ∙ simp append_assoc refl;
      long = omega arith;
    }

-- the info byte stands behind four bytes
info-byte : (header : Header) (bytes : List ℕ) → Split header bytes → get_or bytes 4 0 ≡ info_of header.has_rows header.flags
info-byte header bytes s =
    let four = length-number_bytes 4 header.first in
    ap (λ (l : List ℕ). get_or l 4 0) s.are
    ∙ ap (λ (n : ℕ). get_or (number_bytes 4 header.first ++ (info_of header.has_rows header.flags ∷ (bitmap_of header.flags ++ s.rest))) n 0) (sym four)
    ∙ get_or-append_seam (number_bytes 4 header.first) (info_of header.has_rows header.flags) (bitmap_of header.flags ++ s.rest) 0

rows-told : (has_rows : Bool) (info place nulls : ℕ) → info ≡ place + (if has_rows then 0 else 32) + nulls → place < 32 → (nulls ≡ 0) ⊎ (nulls ≡ 128)
    → nat_lt (info % 64) 32 ≡ has_rows
rows-told true info place nulls is small either = lt-ltb (info % 64) 32 (omega arith)
rows-told false info place nulls is small either = le-ltb (info % 64) 32 (omega arith)

same-header : (a b : Header) → a.first ≡ b.first → a.has_rows ≡ b.has_rows → a.flags ≡ b.flags → a ≡ b
same-header a b first rows flags =
    ap (λ (n : ℕ). let h : Header = record { first = n; has_rows = a.has_rows; flags = a.flags } in h) first
    ∙ ap (λ (r : Bool). let h : Header = record { first = b.first; has_rows = r; flags = a.flags } in h) rows
    ∙ ap (λ (f : List Bool). let h : Header = record { first = b.first; has_rows = b.has_rows; flags = f } in h) flags

rows-most : (has_rows : Bool) → (if has_rows then 0 else 32) ≤ 32
rows-most true = omega arith
rows-most false = omega arith

bits-fit : (flags : List Bool) → bits_of flags < 256 ^ ((length flags + 7) / 8)
bits-fit flags =
    let power = pow256 ((length flags + 7) / 8) in
    let few = bits-few flags (8 * ((length flags + 7) / 8)) (omega arith) in
    omega arith

pub determined : (columns : ℕ) (header : Header) (bytes : List ℕ) → columns ≤ 32 → HasHeader columns header bytes → Determined columns header bytes
determined columns header bytes few has = go (list_any (λ flag. flag) header.flags) refl
  where
    go : (t : Bool) → list_any (λ flag. flag) header.flags ≡ t → Determined columns header bytes
    go true set =
        let s = split columns header bytes has in
        let p = parts-some header.has_rows header.flags set in
        let size : ℕ = (2 * columns + 7) / 8 in
        let bits : ℕ = bits_of header.flags in
        let count = has.flags in
        let bitmap : bitmap_of header.flags ≡ number_bytes size bits = p.bitmap_is ∙ ap (λ (n : ℕ). number_bytes ((n + 7) / 8) bits) has.flags in
        let bitmap_size = ap length bitmap ∙ length-number_bytes size bits in
        let info = info-byte header bytes s in
        let long = s.long in
        let place : rounded_up 8 (5 + length (number_bytes ((length header.flags + 7) / 8) bits)) ≡ rounded_up 8 (5 + size) =
        ap (λ (n : ℕ). rounded_up 8 (5 + n)) (length-number_bytes ((length header.flags + 7) / 8) bits ∙ ap (λ (n : ℕ). (n + 7) / 8) has.flags) in
        let told : get_or bytes 4 0 ≡ rounded_up 8 (5 + size) + (if header.has_rows then 0 else 32) + 128 =
        info ∙ p.info_is ∙ ap (λ (n : ℕ). n + (if header.has_rows then 0 else 32) + 128) place in
        let big : nat_lt (get_or bytes 4 0) 128 ≡ false = le-ltb (get_or bytes 4 0) 128 (omega arith) in
        let four = length-number_bytes 4 header.first in
        let front : List ℕ = number_bytes 4 header.first ++ info_of header.has_rows header.flags ∷ [] in
        let five = length-append (number_bytes 4 header.first) (info_of header.has_rows header.flags ∷ []) in
        let regroup : number_bytes 4 header.first ++ (info_of header.has_rows header.flags ∷ (number_bytes size bits ++ s.rest)) ≡ front ++ (number_bytes size bits ++ s.rest) = simp append_assoc refl in
        let fits : bits < 256 ^ size = subst (λ (n : ℕ). bits < 256 ^ ((n + 7) / 8)) has.flags (bits-fit header.flags) in
        let number : number_at size bytes 5 ≡ bits =
        ap (λ (l : List ℕ). number_at size l 5) (s.are ∙ ap (λ (l : List ℕ). number_bytes 4 header.first ++ (info_of header.has_rows header.flags ∷ (l ++ s.rest))) bitmap ∙ regroup)
        ∙ number-between size bits front s.rest 5 (omega arith) fits in
        let read : bits_in columns bytes ≡ bits = rw big number in
        let small : bits < 2 ^ (2 * columns) = bits-few header.flags (2 * columns) (omega arith) in
        let first : number_at 4 bytes 0 ≡ header.first =
        ap (λ (l : List ℕ). number_at 4 l 0) s.are ∙ number-between 4 header.first [] _ 0 refl has.block in
        record {
          is = same-header header (header_in columns bytes) (sym first)
              (sym (rows-told header.has_rows (get_or bytes 4 0) (rounded_up 8 (5 + size)) 128 told (omega arith) (inr refl)))
              (sym (flags-bits header.flags) ∙ ap (λ (n : ℕ). flags_of n bits) has.flags ∙ ap (flags_of (2 * columns)) (sym read));
          few = omega arith;
          long = omega arith;
          within = s.long;
          room = λ there. omega arith;
        }
    go false none =
        let s = split columns header bytes has in
        let p = parts-none header.has_rows header.flags none in
        let zero_bits = none-set header.flags none in
        let info = info-byte header bytes s in
        let long = s.long in
        let told : get_or bytes 4 0 ≡ 8 + (if header.has_rows then 0 else 32) + 0 = info ∙ p.info_is in
        let most = rows-most header.has_rows in
        let small : nat_lt (get_or bytes 4 0) 128 ≡ true = lt-ltb (get_or bytes 4 0) 128 (omega arith) in
        let read : bits_in columns bytes ≡ 0 = rw small refl in
        let room = pow_pos (2 * columns) in
        let first : number_at 4 bytes 0 ≡ header.first =
        ap (λ (l : List ℕ). number_at 4 l 0) s.are ∙ number-between 4 header.first [] _ 0 refl has.block in
        record {
          is = same-header header (header_in columns bytes) (sym first)
              (sym (rows-told header.has_rows (get_or bytes 4 0) 8 0 told (omega arith) (inl refl)))
              (sym (flags-bits header.flags) ∙ ap (λ (n : ℕ). flags_of n (bits_of header.flags)) has.flags ∙ ap (flags_of (2 * columns)) (zero_bits ∙ sym read));
          few = omega arith;
          long = omega arith;
          within = s.long;
          room = λ there. omega arith;
        }

-- ---- a number shifted twice

pub few-halves : (bits columns : ℕ) → bits < 2 ^ (2 * columns) → bits / 2 ^ columns / 2 ^ columns ≡ 0
few-halves bits columns few =
    let twice : 2 * columns ≡ columns + columns = omega arith in
    let square : 2 ^ (2 * columns) ≡ 2 ^ columns * 2 ^ columns = ap (λ (n : ℕ). 2 ^ n) twice ∙ pow-add 2 columns columns in
    div-div-eq-div-mul bits (2 ^ columns) (2 ^ columns) ∙ div-eq_of_lt (subst (λ (n : ℕ). bits < n) square few)

pub halves-few : (bits columns : ℕ) → bits / 2 ^ columns / 2 ^ columns ≡ 0 → bits < 2 ^ (2 * columns)
halves-few bits columns none =
    let twice : 2 * columns ≡ columns + columns = omega arith in
    let square : 2 ^ (2 * columns) ≡ 2 ^ columns * 2 ^ columns = ap (λ (n : ℕ). 2 ^ n) twice ∙ pow-add 2 columns columns in
    let none' : bits / 2 ^ (2 * columns) ≡ 0 = ap (λ (n : ℕ). bits / n) square ∙ sym (div-div-eq-div-mul bits (2 ^ columns) (2 ^ columns)) ∙ none in
    let split = div-add-mod' bits (2 ^ (2 * columns)) in
    let whole : 0 * 2 ^ (2 * columns) + bits % 2 ^ (2 * columns) ≡ bits = ap (λ (n : ℕ). n * 2 ^ (2 * columns) + bits % 2 ^ (2 * columns)) (sym none') ∙ split in
    let small = mod-lt bits (pow_pos (2 * columns)) in
    omega arith

-- ---- the header of a number of flags

module _ (has_rows : Bool) (columns bits : ℕ) (few : bits < 2 ^ (2 * columns)) where
  kept-bits : bits_of (flags_of (2 * columns) bits) ≡ bits
  kept-bits = bits-flags (2 * columns) bits few

  pub kept-none : bits ≡ 0 → Parts has_rows (flags_of (2 * columns) bits) [] 0
  kept-none none = parts-none has_rows (flags_of (2 * columns) bits) (no-flag (flags_of (2 * columns) bits) (kept-bits ∙ none))

  pub kept-some : 0 < bits → Parts has_rows (flags_of (2 * columns) bits) (number_bytes ((2 * columns + 7) / 8) bits) 128
  kept-some some =
      let number : number_bytes ((length (flags_of (2 * columns) bits) + 7) / 8) (bits_of (flags_of (2 * columns) bits)) ≡ number_bytes ((2 * columns + 7) / 8) bits =
      ap (λ (n : ℕ). number_bytes ((n + 7) / 8) (bits_of (flags_of (2 * columns) bits))) (length-flags_of (2 * columns) bits) ∙ ap (number_bytes ((2 * columns + 7) / 8)) kept-bits in
      subst (λ (bytes : List ℕ). Parts has_rows (flags_of (2 * columns) bits) bytes 128) number
      (parts-some has_rows (flags_of (2 * columns) bits) (some-flag (flags_of (2 * columns) bits) (let e = kept-bits in omega arith)))

  pub place-none : bits ≡ 0 → place_behind (flags_of (2 * columns) bits) ≡ 8
  place-none none = ap (λ (b : List ℕ). rounded_up 8 (5 + length b)) (kept-none none).bitmap_is

  pub place-some : 0 < bits → place_behind (flags_of (2 * columns) bits) ≡ rounded_up 8 (5 + (2 * columns + 7) / 8)
  place-some some =
      ap (λ (b : List ℕ). rounded_up 8 (5 + length b)) (kept-some some).bitmap_is
      ∙ ap (λ (n : ℕ). rounded_up 8 (5 + n)) (length-number_bytes ((2 * columns + 7) / 8) bits)

  pub info-none : (place : ℕ) → place ≡ place_behind (flags_of (2 * columns) bits) → bits ≡ 0
      → place + (if has_rows then 0 else 32) + 0 ≡ info_of has_rows (flags_of (2 * columns) bits)
  info-none place is none = ap (λ (n : ℕ). n + (if has_rows then 0 else 32) + 0) (is ∙ place-none none) ∙ sym (kept-none none).info_is

  pub info-some : (place : ℕ) → place ≡ place_behind (flags_of (2 * columns) bits) → 0 < bits
      → place + (if has_rows then 0 else 32) + 128 ≡ info_of has_rows (flags_of (2 * columns) bits)
  info-some place is some =
      ap (λ (n : ℕ). n + (if has_rows then 0 else 32) + 128)
      (is ∙ place-some some ∙ ap (λ (n : ℕ). rounded_up 8 (5 + n)) (sym (length-number_bytes ((2 * columns + 7) / 8) bits)))
      ∙ sym (kept-some some).info_is

-- ---- the bytes of a header, with zeros behind

byte-zero : (from x : ℕ) → x < 256 ^ from → byte_at from x ≡ 0
byte-zero zero x small = omega arith
byte-zero (suc from) x small = ap (λ (n : ℕ). n % 256) (div-eq_of_lt small)

-- the bytes of a number above those that it needs are zero
high-zero : (from count x : ℕ) → x < 256 ^ from → bytes_low_first from count x ≡ replicate count 0
high-zero from zero x small = refl
high-zero from (suc count) x small =
    let power = pow-succ' 256 from in
    ap (λ (n : ℕ). n ∷ bytes_low_first (suc from) count x) (byte-zero from x small)
    ∙ ap (λ (l : List ℕ). 0 ∷ l) (high-zero (suc from) count x (omega arith))

low-split : (from low high x : ℕ) → bytes_low_first from (low + high) x ≡ bytes_low_first from low x ++ bytes_low_first (from + low) high x
low-split from zero high x = let a : 0 + high ≡ high = omega arith in let b : from + 0 ≡ from = omega arith in rw (a, b) refl
low-split from (suc low) high x =
    let a : suc low + high ≡ suc (low + high) = omega arith in
    let b : from + suc low ≡ suc from + low = omega arith in
    rw (a, b) (ap (λ (l : List ℕ). byte_at from x ∷ l) (low-split (suc from) low high x))

pub number_bytes-low : (width size x : ℕ) → x < 256 ^ size → size ≤ width → number_bytes width x ≡ number_bytes size x ++ zeros (width - size)
unfolding number_bytes zeros
number_bytes-low width size x small within =
    let sum : width ≡ size + (width - size) = omega arith in
    let none : 0 + size ≡ size = omega arith in
    ap (λ (n : ℕ). bytes_low_first 0 n x) sum ∙ low-split 0 size (width - size) x
    ∙ ap (λ (l : List ℕ). bytes_low_first 0 size x ++ l)
    (ap (λ (n : ℕ). bytes_low_first n (width - size) x) none ∙ high-zero size (width - size) x small)

-- the front of bytes with enough zeros behind
front-aligned : (bytes : List ℕ) (more : ℕ) → rounded_up 8 (length bytes) - length bytes ≤ more → take (rounded_up 8 (length bytes)) (bytes ++ zeros more) ≡ aligned bytes
unfolding aligned
front-aligned bytes more room =
    let pad : ℕ = rounded_up 8 (length bytes) - length bytes in
    let at : rounded_up 8 (length bytes) ≡ length (bytes ++ zeros pad) =
    (let a = length-append bytes (zeros pad) in let z = length-zeros pad in omega arith) in
    let parts : zeros more ≡ zeros pad ++ zeros (more - pad) =
    ap zeros (let e : more ≡ pad + (more - pad) = omega arith in e) ∙ sym (zeros-append pad (more - pad)) in
    ap (λ (z : List ℕ). take (rounded_up 8 (length bytes)) (bytes ++ z)) parts
    ∙ ap (take (rounded_up 8 (length bytes))) (sym (append_assoc bytes (zeros pad) (zeros (more - pad))))
    ∙ take_at (bytes ++ zeros pad) (zeros (more - pad)) (rounded_up 8 (length bytes)) (sym at)

pub image-is : (header : Header) (size bits : ℕ) → bitmap_of header.flags ≡ number_bytes size bits → bits < 256 ^ size → size ≤ 8
    → take (place_behind header.flags) (number_bytes 4 header.first ++ (info_of header.has_rows header.flags ∷ (number_bytes 8 bits ++ zeros 3)))
    ≡ aligned (header_bytes header)
unfolding header_bytes
image-is header size bits bitmap small within =
    let mine : List ℕ = number_bytes 4 header.first ++ info_of header.has_rows header.flags ∷ bitmap_of header.flags in
    let four = length-number_bytes 4 header.first in
    let whole = length-append (number_bytes 4 header.first) (info_of header.has_rows header.flags ∷ bitmap_of header.flags) in
    let long = ap length bitmap ∙ length-number_bytes size bits in
    let place : place_behind header.flags ≡ rounded_up 8 (length mine) = ap (rounded_up 8) (let e : 5 + length (bitmap_of header.flags) ≡ length mine = omega arith in e) in
    let split : number_bytes 4 header.first ++ (info_of header.has_rows header.flags ∷ (number_bytes 8 bits ++ zeros 3)) ≡ mine ++ zeros (8 - size + 3) =
    ap (λ (l : List ℕ). number_bytes 4 header.first ++ (info_of header.has_rows header.flags ∷ (l ++ zeros 3))) (number_bytes-low 8 size bits small within)
    ∙ ap (λ (l : List ℕ). number_bytes 4 header.first ++ (info_of header.has_rows header.flags ∷ ((l ++ zeros (8 - size)) ++ zeros 3))) (sym bitmap)
    ∙ simp append_assoc refl
    ∙ ap (λ (z : List ℕ). mine ++ z) (zeros-append (8 - size) 3) in
    ap (take (place_behind header.flags)) split
    ∙ ap (λ (n : ℕ). take n (mine ++ zeros (8 - size + 3))) place
    ∙ front-aligned mine (8 - size + 3) (omega arith)

length-none : (bytes : List ℕ) → length bytes ≡ 0 → bytes ≡ []
length-none [] none = refl
length-none (byte ∷ bytes) none = absurd (omega arith)

-- the bytes of a header that is kept
pub kept-image : (first columns bits : ℕ) (has_rows : Bool) (info : ℕ) → columns ≤ 32 → bits < 2 ^ (2 * columns)
    → info ≡ info_of has_rows (flags_of (2 * columns) bits)
    → take (place_behind (flags_of (2 * columns) bits)) (number_bytes 4 first ++ (info ∷ (number_bytes 8 bits ++ zeros 3)))
    ≡ aligned (header_bytes (record { first = first; has_rows = has_rows; flags = flags_of (2 * columns) bits }))
kept-image first columns bits has_rows info few small is =
    ap (λ (n : ℕ). take (place_behind (flags_of (2 * columns) bits)) (number_bytes 4 first ++ (n ∷ (number_bytes 8 bits ++ zeros 3)))) is
    ∙ go (nat_lt 0 bits) refl
  where
    no-bytes : number_bytes 0 bits ≡ []
    no-bytes = length-none (number_bytes 0 bits) (length-number_bytes 0 bits)

    go : (t : Bool) → nat_lt 0 bits ≡ t
        → take (place_behind (flags_of (2 * columns) bits)) (number_bytes 4 first ++ (info_of has_rows (flags_of (2 * columns) bits) ∷ (number_bytes 8 bits ++ zeros 3)))
        ≡ aligned (header_bytes (record { first = first; has_rows = has_rows; flags = flags_of (2 * columns) bits }))
    go true is =
        let some : 0 < bits = ltb-true 0 bits is in
        let size : ℕ = (2 * columns + 7) / 8 in
        let fits : bits < 256 ^ size =
        (let power = pow256 size in let more : 2 ^ (2 * columns) ≤ 2 ^ (8 * size) = pow-le-pow_right (lit< tt) (omega arith) in omega arith) in
        image-is (record { first = first; has_rows = has_rows; flags = flags_of (2 * columns) bits }) size bits (kept-some has_rows columns bits small some).bitmap_is fits (omega arith)
    go false is =
        let none : bits ≡ 0 = (let e = ltb-false 0 bits is in omega arith) in
        image-is (record { first = first; has_rows = has_rows; flags = flags_of (2 * columns) bits }) 0 bits ((kept-none has_rows columns bits small none).bitmap_is ∙ sym no-bytes) (omega arith) (omega arith)

pub told_apart : HeadersAreToldApart
told_apart columns one other bytes few has has' = (determined columns one bytes few has).is ∙ sym (determined columns other bytes few has').is
