-- Segments at the front of bytes.
use Rattle.std.proofs.Common.{◌≡◌, ℕ, ◌+◌, ◌-◌, ◌*◌, ◌/◌, ◌%◌, ◌^◌, ◌<◌, ◌≤◌, List, [], ◌∷◌, ◌++◌, length, take, drop, get_or, refl, sym, ap, subst, ◌∙◌, arith, length-append, length-drop}
use Rattle.std.proofs.lemmas.List.{append_assoc, append_cancel_left, drop_at, take_at, take_all, take-append-drop, length-take-le, drop-drop, get_or-drop}
use Rattle.pg_bytes.proofs.ItemPage.{number_at-first, number_at-past}
use Rattle.pg_bytes.proofs.Writes.{length-number_bytes, length-zeros}
use Rattle.pg_bytes.specs.Numbers.{number_at, number_bytes}
use Rattle.pg_bytes.specs.Places.{zeros}
use Rattle.pg_bytes.specs.Pointers.{row_pointer_at, row_pointer_bytes}
use Rattle.pg_bytes.specs.declared.row_ptr.RowPtr.{RowPtr}
use Rattle.posting_tree.proofs.Segments.{length-row_pointer}
use Rattle.posting_tree.specs.Pass.{HasZeros, StartsWithSegment}
use Rattle.posting_tree.specs.Segments.{IsStorable}

-- the bytes of the number that two bytes are
two-bytes : (a b : ℕ) → a < 256 → b < 256 → number_bytes 2 (a + 256 * (b + 256 * 0)) ≡ a ∷ b ∷ []
unfolding number_bytes
two-bytes a b fa fb =
    let low : (a + 256 * (b + 256 * 0)) % 256 ≡ a = omega arith in
    let high : (a + 256 * (b + 256 * 0)) / 256 % 256 ≡ b = omega arith in
    rw (low, high) refl

-- the bytes of the pointer that six bytes are
pointer-bytes : (x y z : ℕ) → y < 2 ^ 16
    → row_pointer_bytes (record { block = x * 2 ^ 16 + y; offset = z }) ≡ number_bytes 2 x ++ (number_bytes 2 y ++ number_bytes 2 z)
unfolding row_pointer_bytes
pointer-bytes x y z fy =
    let high : (x * 2 ^ 16 + y) / 2 ^ 16 ≡ x = omega arith in
    let low : (x * 2 ^ 16 + y) % 2 ^ 16 ≡ y = omega arith in
    rw (high, low) refl

-- eight bytes are a pointer and a count
pub read-head : (bytes : List ℕ) → 8 ≤ length bytes → ((i : ℕ) → get_or bytes i 0 < 256)
    → bytes ≡ row_pointer_bytes (row_pointer_at bytes 0) ++ (number_bytes 2 (number_at 2 bytes 6) ++ drop 8 bytes)
unfolding number_at
read-head (a ∷ b ∷ c ∷ d ∷ e ∷ f ∷ g ∷ h ∷ rest) long fits =
    let fa : a < 256 = fits 0 in
    let fb : b < 256 = fits 1 in
    let fc : c < 256 = fits 2 in
    let fd : d < 256 = fits 3 in
    let ff : f < 256 = fits 5 in
    let fe : e < 256 = fits 4 in
    let fg : g < 256 = fits 6 in
    let fh : h < 256 = fits 7 in
    sym
    (ap (λ (p : List ℕ). p ++ (number_bytes 2 (g + 256 * (h + 256 * 0)) ++ rest))
    (pointer-bytes (a + 256 * (b + 256 * 0)) (c + 256 * (d + 256 * 0)) (e + 256 * (f + 256 * 0)) (omega arith))
    ∙ rw (two-bytes a b fa fb, two-bytes c d fc fd, two-bytes e f fe ff, two-bytes g h fg fh) refl)
read-head bytes long fits = absurd (omega arith)

-- ---- what bytes with a segment in front are read as

pub record ToldSegment (bytes : List ℕ) (first : RowPtr) (ds left : List ℕ) : Type 0 where
  pub long : 8 + length ds + length ds % 2 ≤ length bytes
  pub first_is : row_pointer_at bytes 0 ≡ first
  pub count_is : number_at 2 bytes 6 ≡ length ds
  pub padded : HasZeros bytes (8 + length ds) (length ds % 2)

number-behind : (front rest : List ℕ) (place x : ℕ) → length front ≡ place → x < 256 ^ 2 → number_at 2 (front ++ (number_bytes 2 x ++ rest)) place ≡ x
number-behind front rest place x here fits = number_at-past 2 front (number_bytes 2 x ++ rest) place here ∙ number_at-first 2 x rest fits

pub pointer-told : (p : RowPtr) (rest : List ℕ) → IsStorable p → p.block < 2 ^ 32 → row_pointer_at (row_pointer_bytes p ++ rest) 0 ≡ p
unfolding row_pointer_bytes
pointer-told p rest s block =
    let below = s.below in
    let two = length-number_bytes 2 (p.block / 2 ^ 16) in
    let two' = length-number_bytes 2 (p.block % 2 ^ 16) in
    let high : List ℕ = number_bytes 2 (p.block / 2 ^ 16) in
    let low : List ℕ = number_bytes 2 (p.block % 2 ^ 16) in
    let whole : (high ++ (low ++ number_bytes 2 p.offset)) ++ rest ≡ high ++ (low ++ (number_bytes 2 p.offset ++ rest)) = simp append_assoc refl in
    let whole' : (high ++ (low ++ number_bytes 2 p.offset)) ++ rest ≡ (high ++ low) ++ (number_bytes 2 p.offset ++ rest) = simp append_assoc refl in
    let a : number_at 2 ((high ++ (low ++ number_bytes 2 p.offset)) ++ rest) 0 ≡ p.block / 2 ^ 16 =
    ap (λ (l : List ℕ). number_at 2 l 0) whole ∙ number_at-first 2 (p.block / 2 ^ 16) (low ++ (number_bytes 2 p.offset ++ rest)) (omega arith) in
    let b : number_at 2 ((high ++ (low ++ number_bytes 2 p.offset)) ++ rest) 2 ≡ p.block % 2 ^ 16 =
    ap (λ (l : List ℕ). number_at 2 l 2) whole ∙ number-behind high (number_bytes 2 p.offset ++ rest) 2 (p.block % 2 ^ 16) two (omega arith) in
    let c : number_at 2 ((high ++ (low ++ number_bytes 2 p.offset)) ++ rest) 4 ≡ p.offset =
    ap (λ (l : List ℕ). number_at 2 l 4) whole' ∙ number-behind (high ++ low) rest 4 p.offset (length-append high low ∙ omega arith) (omega arith) in
    let block_is : number_at 2 ((high ++ (low ++ number_bytes 2 p.offset)) ++ rest) 0 * 2 ^ 16 + number_at 2 ((high ++ (low ++ number_bytes 2 p.offset)) ++ rest) 2 ≡ p.block = omega arith in
    λ i. record { block = block_is i; offset = c i }

pub told-segment : (bytes : List ℕ) (first : RowPtr) (ds left : List ℕ) → StartsWithSegment bytes first ds left → ToldSegment bytes first ds left
told-segment bytes first ds left s =
    let six = length-row_pointer first in
    let count : List ℕ = number_bytes 2 (length ds) in
    let two = length-number_bytes 2 (length ds) in
    let zs = length-zeros (length ds % 2) in
    let counted = s.counted in
    let head : List ℕ = row_pointer_bytes first ++ (count ++ ds) in
    let regroup : row_pointer_bytes first ++ (count ++ (ds ++ (zeros (length ds % 2) ++ left))) ≡ head ++ (zeros (length ds % 2) ++ left) = simp append_assoc refl in
    let head_len : length head ≡ 8 + length ds =
    length-append (row_pointer_bytes first) (count ++ ds) ∙ ap (λ (n : ℕ). length (row_pointer_bytes first) + n) (length-append count ds) ∙ omega arith in
    let all : bytes ≡ head ++ (zeros (length ds % 2) ++ left) = s.bytes_are ∙ regroup in
    let size = ap length all ∙ length-append head (zeros (length ds % 2) ++ left) ∙ ap (λ (n : ℕ). length head + n) (length-append (zeros (length ds % 2)) left) in
    let behind : drop (8 + length ds) bytes ≡ zeros (length ds % 2) ++ left = ap (drop (8 + length ds)) all ∙ drop_at head (zeros (length ds % 2) ++ left) (8 + length ds) head_len in
    record {
      long = omega arith;
      first_is = ap (λ (l : List ℕ). row_pointer_at l 0) s.bytes_are ∙ pointer-told first (count ++ (ds ++ (zeros (length ds % 2) ++ left))) s.storable s.block;
      count_is = ap (λ (l : List ℕ). number_at 2 l 6) s.bytes_are
          ∙ number-behind (row_pointer_bytes first) (ds ++ (zeros (length ds % 2) ++ left)) 6 (length ds) six (omega arith);
      padded = (omega arith, ap (take (length ds % 2)) behind ∙ take_at (zeros (length ds % 2)) left (length ds % 2) zs);
    }

-- bytes have one segment in front
pub segment-one : (bytes : List ℕ) (f g : RowPtr) (ds es left right : List ℕ) → StartsWithSegment bytes f ds left → StartsWithSegment bytes g es right
    → (f ≡ g) × (ds ≡ es) × (left ≡ right)
segment-one bytes f g ds es left right s t =
    let u = told-segment bytes f ds left s in
    let v = told-segment bytes g es right t in
    let first : f ≡ g = sym u.first_is ∙ v.first_is in
    let count : length ds ≡ length es = sym u.count_is ∙ v.count_is in
    let same : row_pointer_bytes f ++ (number_bytes 2 (length ds) ++ (ds ++ (zeros (length ds % 2) ++ left)))
    ≡ row_pointer_bytes f ++ (number_bytes 2 (length ds) ++ (es ++ (zeros (length ds % 2) ++ right))) =
    sym s.bytes_are ∙ t.bytes_are
    ∙ ap (λ (p : RowPtr). row_pointer_bytes p ++ (number_bytes 2 (length es) ++ (es ++ (zeros (length es % 2) ++ right)))) (sym first)
    ∙ ap (λ (n : ℕ). row_pointer_bytes f ++ (number_bytes 2 n ++ (es ++ (zeros (n % 2) ++ right)))) (sym count) in
    let tails = append_cancel_left (number_bytes 2 (length ds)) _ _ (append_cancel_left (row_pointer_bytes f) _ _ same) in
    let deltas : ds ≡ es =
    sym (take_at ds (zeros (length ds % 2) ++ left) (length ds) refl) ∙ ap (take (length ds)) tails
    ∙ take_at es (zeros (length ds % 2) ++ right) (length ds) (sym count) in
    let rest = append_cancel_left es _ _ (ap (λ (d : List ℕ). d ++ (zeros (length ds % 2) ++ left)) (sym deltas) ∙ tails) in
    (first, deltas, append_cancel_left (zeros (length ds % 2)) _ _ rest)

-- ---- what is read of bytes whose segment is there

pub found-segment : (bytes : List ℕ) (first : RowPtr) (count : ℕ) → 8 ≤ length bytes → ((i : ℕ) → get_or bytes i 0 < 256)
    → first ≡ row_pointer_at bytes 0 → count ≡ number_at 2 bytes 6 → count < 2 ^ 16 → first.block < 2 ^ 32 → IsStorable first
    → HasZeros bytes (8 + count) (count % 2)
    → StartsWithSegment bytes first (take (8 + count - 8) (drop 8 bytes))
    (take (length bytes - (8 + count + count % 2)) (drop (8 + count + count % 2) bytes))
found-segment bytes first count long fits first_is count_is small block storable padded =
    let short = padded.0 in
    let dropped = length-drop 8 bytes in
    let all : 8 + count - 8 ≡ count = omega arith in
    let ds : List ℕ = take count (drop 8 bytes) in
    let size : length ds ≡ count = length-take-le count (drop 8 bytes) (omega arith) in
    let behind : List ℕ = drop (8 + count + count % 2) bytes in
    let rest : take (length bytes - (8 + count + count % 2)) behind ≡ behind =
    take_all (length bytes - (8 + count + count % 2)) behind (let e = length-drop (8 + count + count % 2) bytes in omega arith) in
    let split : drop 8 bytes ≡ ds ++ (zeros (count % 2) ++ behind) =
    sym (take-append-drop count (drop 8 bytes))
    ∙ ap (λ (l : List ℕ). ds ++ l)
    (drop-drop count 8 bytes ∙ sym (take-append-drop (count % 2) (drop (8 + count) bytes))
    ∙ ap (λ (z : List ℕ). z ++ drop (count % 2) (drop (8 + count) bytes)) padded.1
    ∙ ap (λ (l : List ℕ). zeros (count % 2) ++ l) (drop-drop (count % 2) (8 + count) bytes)) in
    let told : bytes ≡ row_pointer_bytes first ++ (number_bytes 2 count ++ (ds ++ (zeros (count % 2) ++ behind))) =
    read-head bytes long fits
    ∙ ap (λ (p : RowPtr). row_pointer_bytes p ++ (number_bytes 2 (number_at 2 bytes 6) ++ drop 8 bytes)) (sym first_is)
    ∙ ap (λ (n : ℕ). row_pointer_bytes first ++ (number_bytes 2 n ++ drop 8 bytes)) (sym count_is)
    ∙ ap (λ (l : List ℕ). row_pointer_bytes first ++ (number_bytes 2 count ++ l)) split in
    subst (λ (n : ℕ). StartsWithSegment bytes first (take n (drop 8 bytes)) (take (length bytes - (8 + count + count % 2)) behind)) (sym all)
    (subst (StartsWithSegment bytes first ds) (sym rest)
    (record {
      storable = storable;
      block = block;
      counted = omega arith;
      bytes_are = told ∙ ap (λ (n : ℕ). row_pointer_bytes first ++ (number_bytes 2 n ++ (ds ++ (zeros (n % 2) ++ behind)))) (sym size);
    }))

-- two bytes are a number below 2^16
number-fits : (bytes : List ℕ) (place : ℕ) → ((i : ℕ) → get_or bytes i 0 < 256) → number_at 2 bytes place < 2 ^ 16
unfolding number_at
number-fits bytes place fits =
    let low : get_or (drop place bytes) 0 0 < 256 = subst (λ (n : ℕ). n < 256) (sym (get_or-drop place bytes 0 0)) (fits (place + 0)) in
    let high : get_or (drop place bytes) 1 0 < 256 = subst (λ (n : ℕ). n < 256) (sym (get_or-drop place bytes 1 0)) (fits (place + 1)) in
    omega arith

-- the block of a pointer that is read takes four bytes
pub block-fits : (bytes : List ℕ) (place : ℕ) (p : RowPtr) → ((i : ℕ) → get_or bytes i 0 < 256) → p ≡ row_pointer_at bytes place → p.block < 2 ^ 32
block-fits bytes place p fits is =
    let block : p.block ≡ number_at 2 bytes place * 2 ^ 16 + number_at 2 bytes (place + 2) = ap (λ (q : RowPtr). q.block) is in
    let high = number-fits bytes place fits in
    let low = number-fits bytes (place + 2) fits in
    omega arith
