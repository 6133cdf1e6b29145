-- How writes into a list of bytes meet each other and the parts of the list.
use Rattle.std.proofs.Common.{◌≡◌, ℕ, ◌+◌, ◌-◌, ◌≤◌, List, ◌++◌, length, take, drop, refl, sym, ap, ◌∙◌, arith, length-append}
use Rattle.std.proofs.lemmas.List.{append_assoc, take_at, drop_at, length-take-le, length-drop, drop-drop, length-replicate, replicate-append-replicate}
use Rattle.std.proofs.Math.Seq.{take-append-add, drop-append-add}
use Rattle.pg_bytes.specs.Numbers.{number_bytes}
use Rattle.pg_bytes.specs.Places.{written, zeros}
use Rattle.byteorder.specs.Numbers.{length-bytes_low_first}

pub length-zeros : (n : ℕ) → length (zeros n) ≡ n
unfolding zeros
length-zeros n = length-replicate n 0

pub zeros-append : (m n : ℕ) → zeros m ++ zeros n ≡ zeros (m + n)
unfolding zeros
zeros-append m n = replicate-append-replicate m n 0

pub length-number_bytes : (width x : ℕ) → length (number_bytes width x) ≡ width
unfolding number_bytes
length-number_bytes width x = length-bytes_low_first 0 width x

-- a write keeps the length
pub length-written : (piece : List ℕ) (place : ℕ) (bytes : List ℕ) → place + length piece ≤ length bytes → length (written piece place bytes) ≡ length bytes
unfolding written
length-written piece place bytes fits =
    let front : length (take place bytes) ≡ place = length-take-le place bytes (omega arith) in
    let back : length (drop (place + length piece) bytes) ≡ length bytes - (place + length piece) = length-drop (place + length piece) bytes in
    let whole = length-append (take place bytes) (piece ++ drop (place + length piece) bytes) in
    let rest = length-append piece (drop (place + length piece) bytes) in
    omega arith

-- a write behind a front leaves it
pub written-past : (piece front rest : List ℕ) (place : ℕ) → length front ≤ place → written piece place (front ++ rest) ≡ front ++ written piece (place - length front) rest
unfolding written
written-past piece front rest place behind =
    let at : place ≡ length front + (place - length front) = omega arith in
    let end : place + length piece ≡ length front + (place - length front + length piece) = omega arith in
    let before : take place (front ++ rest) ≡ front ++ take (place - length front) rest =
    ap (λ (n : ℕ). take n (front ++ rest)) at ∙ take-append-add front rest (place - length front) in
    let after : drop (place + length piece) (front ++ rest) ≡ drop (place - length front + length piece) rest =
    ap (λ (n : ℕ). drop n (front ++ rest)) end ∙ drop-append-add front rest (place - length front + length piece) in
    rw (before, after) (append_assoc front (take (place - length front) rest) (piece ++ drop (place - length front + length piece) rest))

-- a write over the first part replaces it
pub written-first : (piece old rest : List ℕ) → length piece ≡ length old → written piece 0 (old ++ rest) ≡ piece ++ rest
unfolding written
written-first piece old rest same =
    let end : 0 + length piece ≡ length old = omega arith in
    let after : drop (0 + length piece) (old ++ rest) ≡ rest =
    ap (λ (n : ℕ). drop n (old ++ rest)) end ∙ drop_at old rest (length old) refl in
    rw after refl

-- a write over a part in the middle replaces it
pub written-middle : (piece front old rest : List ℕ) (place : ℕ) → length front ≡ place → length piece ≡ length old
    → written piece place (front ++ (old ++ rest)) ≡ front ++ (piece ++ rest)
written-middle piece front old rest place here same =
    let at : place - length front ≡ 0 = omega arith in
    written-past piece front (old ++ rest) place (omega arith)
    ∙ ap (λ (n : ℕ). front ++ written piece n (old ++ rest)) at
    ∙ ap (λ (r : List ℕ). front ++ r) (written-first piece old rest same)

-- a write and one right behind it are one write
pub written-written : (a b : List ℕ) (place second : ℕ) (bytes : List ℕ) → second ≡ place + length a → place + (length a + length b) ≤ length bytes
    → written b second (written a place bytes) ≡ written (a ++ b) place bytes
unfolding written
written-written a b place second bytes behind fits =
    let front : List ℕ = take place bytes in
    let len : length front ≡ place = length-take-le place bytes (omega arith) in
    let old : List ℕ = drop (place + length a) bytes in
    let both : length (front ++ a) ≡ second = length-append front a ∙ omega arith in
    let regroup : front ++ (a ++ old) ≡ (front ++ a) ++ old = sym (append_assoc front a old) in
    let before : take second (front ++ (a ++ old)) ≡ front ++ a = ap (take second) regroup ∙ take_at (front ++ a) old second both in
    let end : second + length b ≡ length (front ++ a) + length b = omega arith in
    let after : drop (second + length b) (front ++ (a ++ old)) ≡ drop (place + length (a ++ b)) bytes =
    ap (drop (second + length b)) regroup
    ∙ ap (λ (n : ℕ). drop n ((front ++ a) ++ old)) end
    ∙ drop-append-add (front ++ a) old (length b)
    ∙ drop-drop (length b) (place + length a) bytes
    ∙ ap (λ (n : ℕ). drop n bytes) (let e = length-append a b in omega arith) in
    rw (before, after)
    (append_assoc front a (b ++ drop (place + length (a ++ b)) bytes)
    ∙ ap (λ (r : List ℕ). front ++ r) (sym (append_assoc a b (drop (place + length (a ++ b)) bytes))))
