-- How a text is read back from its bytes, up to their end.
use Rattle.std.proofs.Common.{◌≡◌, ◌≢◌, ℕ, zero, suc, ◌+◌, ◌-◌, ◌<◌, ◌≤◌, ◌==◌, if◌then◌else◌, Bool, true, false, List, [], ◌∷◌, ◌++◌, length, take, drop, slice_index, refl, sym, ap, ◌∙◌, arith, append_assoc, append-nil, length-append, length-drop}
use Rattle.std.specs.Prelude.{All}
use Rattle.opclass.specs.Pass.{PutsClear}
use Rattle.opclass.proofs.Fronts.{take-front}
use Rattle.shared_tape.specs.Reading.{up_to_end, with_first}
use Rattle.shared_tape.proofs.ReadBack.{at_byte, at_end, at_mark, test-other, test-same}

-- what was read, with bytes in front
abbrev with_front : List ℕ → List ℕ × List ℕ → List ℕ × List ℕ
with_front front read = (front ++ read.0, read.1)

-- bytes went behind those of a buffer, and these are left, which a mark begins
pub record IsPutTo (mark : ℕ) (bytes old text left : List ℕ) : Type 0 where
  pub front : List ℕ
  pub put : text ≡ old ++ front
  pub rest : up_to_end mark false bytes ≡ (front ++ (up_to_end mark false left).0, (up_to_end mark false left).1)
  pub stop : 0 < length left → slice_index left 0 ≡ mark

clear_front : (mark : ℕ) (front left : List ℕ) → All (λ byte. byte ≢ mark) front
    → up_to_end mark false (front ++ left) ≡ with_front front (up_to_end mark false left)
clear_front mark [] left clear = refl
clear_front mark (byte ∷ front) left clear =
    at_byte mark byte (front ++ left) (test-other byte mark (clear 0 0 (omega arith)))
    ∙ ap (with_first byte) (clear_front mark front left (λ k d inside. clear (suc k) d (omega arith)))

-- the bytes before the first mark
pub put_start : (mark : ℕ) (bytes old text left : List ℕ) → PutsClear mark old text bytes left → IsPutTo mark bytes old text left
put_start mark bytes old text left puts = record {
  front = puts.front;
  put = puts.put;
  rest = ap (up_to_end mark false) puts.split ∙ clear_front mark puts.front left puts.clear;
  stop = puts.stop;
}

two : (left : List ℕ) → 2 ≤ length left → left ≡ slice_index left 0 ∷ slice_index left 1 ∷ drop 2 left
two [] h = absurd (omega arith)
two (a ∷ []) h = absurd (omega arith)
two (a ∷ b ∷ left) h = refl

mark_first : (mark : ℕ) (left : List ℕ) → 2 ≤ length left → (0 < length left → slice_index left 0 ≡ mark)
    → up_to_end mark false left ≡ up_to_end mark true (slice_index left 1 ∷ drop 2 left)
mark_first mark left h stop =
    ap (up_to_end mark false) (two left h)
    ∙ ap (λ (b : ℕ). up_to_end mark false (b ∷ slice_index left 1 ∷ drop 2 left)) (stop (omega arith))
    ∙ at_mark mark mark (slice_index left 1 ∷ drop 2 left) (test-same mark)

at_other : (mark byte : ℕ) (bytes : List ℕ) → (byte == mark) ≡ false → up_to_end mark true (byte ∷ bytes) ≡ with_first mark (up_to_end mark false bytes)
at_other mark byte bytes e = ap (λ (t : Bool). if t then ([], bytes) else with_first mark (up_to_end mark false bytes)) e

whole : (k : ℕ) (xs : List ℕ) → k ≡ length xs → take k xs ≡ xs
whole k xs size = ap (take k) (sym (append-nil xs)) ∙ take-front k xs [] size

-- a second mark is the end
pub put_end : (mark : ℕ) (bytes old text left : List ℕ) (k : ℕ) → IsPutTo mark bytes old text left → k ≡ length left - 2 → 2 ≤ length left
    → slice_index left 1 ≡ mark
    → (text ≡ old ++ (up_to_end mark false bytes).0) × (take k (drop 2 left) ≡ (up_to_end mark false bytes).1)
put_end mark bytes old text left k is size h second =
    let there : up_to_end mark false left ≡ ([], drop 2 left) =
    mark_first mark left h is.stop ∙ ap (λ (b : ℕ). up_to_end mark true (b ∷ drop 2 left)) second ∙ at_end mark (drop 2 left) in
    let all : up_to_end mark false bytes ≡ (is.front ++ [], drop 2 left) = is.rest ∙ ap (with_front is.front) there in (
      is.put ∙ ap (λ (xs : List ℕ). old ++ xs) (sym (append-nil is.front)) ∙ ap (λ (read : List ℕ × List ℕ). old ++ read.0) (sym all),
      whole k (drop 2 left) (size ∙ sym (length-drop 2 left)) ∙ ap (λ (read : List ℕ × List ℕ). read.1) (sym all),
    )

-- fewer than two bytes have no end behind them
pub put_short : (mark : ℕ) (bytes old text left : List ℕ) → IsPutTo mark bytes old text left → length left < 2
    → (text ≡ old ++ (up_to_end mark false bytes).0) × ([] ≡ (up_to_end mark false bytes).1)
put_short mark bytes old text left is short =
    let there = none left short is.stop in
    let all : up_to_end mark false bytes ≡ (is.front ++ [], []) = is.rest ∙ ap (with_front is.front) there in (
      is.put ∙ ap (λ (xs : List ℕ). old ++ xs) (sym (append-nil is.front)) ∙ ap (λ (read : List ℕ × List ℕ). old ++ read.0) (sym all),
      ap (λ (read : List ℕ × List ℕ). read.1) (sym all),
    )
  where
    none : (xs : List ℕ) → length xs < 2 → (0 < length xs → slice_index xs 0 ≡ mark) → up_to_end mark false xs ≡ ([], [])
    none [] few stop = refl
    none (byte ∷ []) few stop = ap (λ (b : ℕ). up_to_end mark false (b ∷ [])) (stop (omega arith)) ∙ at_mark mark mark [] (test-same mark)
    none (a ∷ b ∷ xs) few stop = absurd (omega arith)

-- a mark that another byte follows is a byte itself
pub put_next : (mark : ℕ) (bytes old text mid new left next : List ℕ) (k : ℕ) → IsPutTo mark bytes old text left
    → PutsClear mark mid new (take k (drop 2 left)) next → k ≡ length left - 2 → 2 ≤ length left → slice_index left 1 ≢ mark
    → mid ≡ text ++ mark ∷ [] → IsPutTo mark bytes old new next
put_next mark bytes old text mid new left next k is puts size h other pushed =
    let behind : drop 2 left ≡ puts.front ++ next = sym (whole k (drop 2 left) (size ∙ sym (length-drop 2 left))) ∙ puts.split in
    let there : up_to_end mark false left ≡ with_front (mark ∷ puts.front) (up_to_end mark false next) =
    mark_first mark left h is.stop
    ∙ at_other mark (slice_index left 1) (drop 2 left) (test-other (slice_index left 1) mark other)
    ∙ ap (λ (xs : List ℕ). with_first mark (up_to_end mark false xs)) behind
    ∙ ap (with_first mark) (clear_front mark puts.front next puts.clear) in record {
      front = is.front ++ mark ∷ puts.front;
      put = puts.put
          ∙ ap (λ (xs : List ℕ). xs ++ puts.front) (pushed ∙ ap (λ (xs : List ℕ). xs ++ mark ∷ []) is.put)
          ∙ append_assoc (old ++ is.front) (mark ∷ []) puts.front
          ∙ append_assoc old is.front (mark ∷ puts.front);
      rest = is.rest ∙ ap (with_front is.front) there
          ∙ ap (λ (xs : List ℕ). (xs, (up_to_end mark false next).1))
          (sym (append_assoc is.front (mark ∷ puts.front) (up_to_end mark false next).0));
      stop = puts.stop;
    }
