-- How bytes are turned and escaped, piece by piece.
use Rattle.std.proofs.Common.{◌≡◌, ◌≢◌, ℕ, zero, suc, ◌+◌, ◌-◌, ◌<◌, ◌≤◌, List, [], ◌∷◌, ◌++◌, length, take, drop, refl, sym, ap, ◌∙◌, arith, slice_index_or, slice_set, slice_index, add-one, append_assoc, length-append}
use Rattle.std.specs.Prelude.{All}
use Rattle.opclass.specs.Norm.{escaped, turned}
use Rattle.opclass.specs.Pass.{PutsClear}

turned-suc : (xs : List ℕ) (i : ℕ) → i < length xs
    → slice_set (turned (take i xs) ++ drop i xs) i (255 - slice_index_or (turned (take i xs) ++ drop i xs) i 0) ≡ turned (take (suc i) xs) ++ drop (suc i) xs
turned-suc [] i h = absurd (omega arith)
turned-suc (x ∷ xs) zero h = refl
turned-suc (x ∷ xs) (suc i) h = ap (λ (rest : List ℕ). (255 - x) ∷ rest) (turned-suc xs i (omega arith))

-- one more byte is turned
pub turned-more : (xs : List ℕ) (i : ℕ) → i < length xs
    → slice_set (turned (take i xs) ++ drop i xs) i (255 - slice_index_or (turned (take i xs) ++ drop i xs) i 0) ≡ turned (take (i + 1) xs) ++ drop (i + 1) xs
turned-more xs i h = rw add-one (turned-suc xs i h)

-- bytes without a zero stand as they are
escaped-clear : (front left : List ℕ) → All (λ byte. byte ≢ 0) front → escaped (front ++ left) ≡ front ++ escaped left
escaped-clear [] left clear = refl
escaped-clear (zero ∷ front) left clear = absurd (clear 0 0 (omega arith) refl)
escaped-clear (suc byte ∷ front) left clear =
    ap (λ (rest : List ℕ). suc byte ∷ rest) (escaped-clear front left (λ k d inside. clear (suc k) d (omega arith)))

pub puts_escaped : (old new bytes left : List ℕ) → PutsClear 0 old new bytes left → new ++ escaped left ≡ old ++ escaped bytes
puts_escaped old new bytes left puts =
    ap (λ (front : List ℕ). front ++ escaped left) puts.put
    ∙ append_assoc old puts.front (escaped left)
    ∙ ap (λ (rest : List ℕ). old ++ rest) (sym (escaped-clear puts.front left puts.clear))
    ∙ ap (λ (all : List ℕ). old ++ escaped all) (sym puts.split)

-- a zero in front is followed by its mark
pub escaped-zero : (byte : ℕ) (bytes : List ℕ) → byte ≡ 0 → escaped (byte ∷ bytes) ≡ 0 ∷ 255 ∷ escaped bytes
escaped-zero byte bytes e = ap (λ (b : ℕ). escaped (b ∷ bytes)) e

pub puts_shorter : (value : ℕ) (old new bytes left : List ℕ) → PutsClear value old new bytes left → length left ≤ length bytes
puts_shorter value old new bytes left puts = omega (arith, length-append puts.front left, ap length puts.split)

slice_index-drop : (n value : ℕ) (bytes : List ℕ) → (n < length bytes → slice_index bytes n ≡ value) → 0 < length (drop n bytes)
    → slice_index (drop n bytes) 0 ≡ value
slice_index-drop zero value [] stop some = absurd (omega arith)
slice_index-drop (suc n) value [] stop some = absurd (omega arith)
slice_index-drop zero value (byte ∷ bytes) stop some = stop (omega arith)
slice_index-drop (suc n) value (byte ∷ bytes) stop some = slice_index-drop n value bytes (λ inside. stop (omega arith)) some

pub take-drop : (n : ℕ) (bytes : List ℕ) → bytes ≡ take n bytes ++ drop n bytes
take-drop zero bytes = refl
take-drop (suc n) [] = refl
take-drop (suc n) (byte ∷ bytes) = ap (λ (rest : List ℕ). byte ∷ rest) (take-drop n bytes)

-- the bytes before the first one of a value go behind those of a buffer
pub puts_clear : (value : ℕ) (old new bytes : List ℕ) (n : ℕ) → All (λ byte. byte ≢ value) (take n bytes)
    → (n < length bytes → slice_index bytes n ≡ value) → new ≡ old ++ take n bytes → PutsClear value old new bytes (drop n bytes)
puts_clear value old new bytes n clear stop put = record {
  front = take n bytes;
  put = put;
  split = take-drop n bytes;
  clear = clear;
  stop = slice_index-drop n value bytes stop;
}

pub take-length : (k : ℕ) (xs : List ℕ) → k ≡ length xs → take k xs ≡ xs
take-length zero [] e = refl
take-length zero (x ∷ xs) e = absurd (omega arith)
take-length (suc k) [] e = refl
take-length (suc k) (x ∷ xs) e = ap (λ (rest : List ℕ). x ∷ rest) (take-length k xs (omega arith))

-- a zero and its mark, and then the bytes before the next one, go behind those of a buffer
pub puts_next : (out mid new left next : List ℕ) (k : ℕ) → PutsClear 0 mid new (take k (drop 1 left)) next → k ≡ length left - 1 → 1 ≤ length left
    → (0 < length left → slice_index left 0 ≡ 0) → mid ≡ out ++ 0 ∷ 255 ∷ [] → new ++ escaped next ≡ out ++ escaped left
puts_next out mid new [] next k puts size some stop put = absurd (omega arith)
puts_next out mid new (byte ∷ left) next k puts size some stop put =
    puts_escaped mid new (take k left) next puts
    ∙ ap (λ (rest : List ℕ). mid ++ escaped rest) (take-length k left (omega arith))
    ∙ ap (λ (front : List ℕ). front ++ escaped left) put
    ∙ append_assoc out (0 ∷ 255 ∷ []) (escaped left)
    ∙ ap (λ (rest : List ℕ). out ++ rest) (sym (escaped-zero byte left (stop (omega arith))))
