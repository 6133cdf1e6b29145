-- Tuples in one buffer: one more of them, and those in front of one.
use Rattle.std.proofs.Common.{◌≡◌, ℕ, zero, suc, ◌+◌, ◌-◌, ◌<◌, ◌≤◌, List, [], ◌∷◌, ◌++◌, length, take, drop, get_or, refl, sym, ap, ◌∙◌, arith, append_assoc, length-append}
use Rattle.std.specs.Prelude.{sum, IsTrue, ◌↔◌, ◌==◌}
use Rattle.std.proofs.lemmas.Bool.Decides.{nat_tests}
use Rattle.std.proofs.lemmas.List.{drop-drop, length-drop, take-append-le, drop-append-le, take_all}
use Rattle.std.proofs.lemmas.List.Sums.{sum_by-cons, sum_by_push}
use Rattle.btree_pack.specs.Pass.Buffer.{cut_by}

pub length-cut_by : (sizes bytes : List ℕ) → length (cut_by sizes bytes) ≡ length sizes
length-cut_by [] bytes = refl
length-cut_by (size ∷ sizes) bytes = ap suc (length-cut_by sizes (drop size bytes))

-- a tuple more
pub cut_by-push : (sizes bytes tuple : List ℕ) → sum sizes ≡ length bytes
    → cut_by (sizes ++ length tuple ∷ []) (bytes ++ tuple) ≡ cut_by sizes bytes ++ tuple ∷ []
cut_by-push [] [] tuple whole = ap (λ t. t ∷ []) (take_all (length tuple) tuple (omega arith))
cut_by-push [] (b ∷ bytes) tuple whole = absurd (omega arith)
cut_by-push (size ∷ sizes) bytes tuple whole =
    let parts = sum_by-cons (λ (x : ℕ). x) size sizes in
    let fits : size ≤ length bytes = omega arith in
    let rest : sum sizes ≡ length (drop size bytes) = omega (arith, length-drop size bytes) in
    ap (λ t. t ∷ cut_by (sizes ++ length tuple ∷ []) (drop size (bytes ++ tuple))) (take-append-le size bytes tuple fits)
    ∙ ap (λ b. take size bytes ∷ cut_by (sizes ++ length tuple ∷ []) b) (drop-append-le size bytes tuple fits)
    ∙ ap (λ l. take size bytes ∷ l) (cut_by-push sizes (drop size bytes) tuple rest)

-- tuples of two buffers
cut_by-append : (sizes bytes more rest : List ℕ) → sum sizes ≡ length bytes → cut_by (sizes ++ more) (bytes ++ rest) ≡ cut_by sizes bytes ++ cut_by more rest
cut_by-append [] [] more rest whole = refl
cut_by-append [] (b ∷ bytes) more rest whole = absurd (omega arith)
cut_by-append (size ∷ sizes) bytes more rest whole =
    let parts = sum_by-cons (λ (x : ℕ). x) size sizes in
    let fits : size ≤ length bytes = omega arith in
    let behind : sum sizes ≡ length (drop size bytes) = omega (arith, length-drop size bytes) in
    ap (λ t. t ∷ cut_by (sizes ++ more) (drop size (bytes ++ rest))) (take-append-le size bytes rest fits)
    ∙ ap (λ b. take size bytes ∷ cut_by (sizes ++ more) b) (drop-append-le size bytes rest fits)
    ∙ ap (λ l. take size bytes ∷ l) (cut_by-append sizes (drop size bytes) more rest behind)

-- a tuple more, and others behind it
pub cut_by-all : (sizes bytes tuple more rest : List ℕ) → sum sizes ≡ length bytes
    → cut_by ((sizes ++ length tuple ∷ []) ++ more) ((bytes ++ tuple) ++ rest) ≡ cut_by sizes bytes ++ tuple ∷ cut_by more rest
cut_by-all sizes bytes tuple more rest whole =
    let s = sum_by_push (λ (x : ℕ). x) sizes (length tuple) in
    let l = length-append bytes tuple in
    cut_by-append (sizes ++ length tuple ∷ []) (bytes ++ tuple) more rest (omega arith)
    ∙ ap (λ l. l ++ cut_by more rest) (cut_by-push sizes bytes tuple whole)
    ∙ append_assoc (cut_by sizes bytes) (tuple ∷ []) (cut_by more rest)

pub cut_by-take : (at : ℕ) (sizes bytes : List ℕ) → cut_by (take at sizes) bytes ≡ take at (cut_by sizes bytes)
cut_by-take zero sizes bytes = refl
cut_by-take (suc at) [] bytes = refl
cut_by-take (suc at) (size ∷ sizes) bytes = ap (λ l. take size bytes ∷ l) (cut_by-take at sizes (drop size bytes))

pub cut_by-get : (sizes bytes : List ℕ) (at d : ℕ) (t : List ℕ) → at < length sizes
    → get_or (cut_by sizes bytes) at t ≡ take (get_or sizes at d) (drop (sum (take at sizes)) bytes)
cut_by-get [] bytes at d t inside = absurd (omega arith)
cut_by-get (size ∷ sizes) bytes zero d t inside = refl
cut_by-get (size ∷ sizes) bytes (suc at) d t inside =
    let parts = sum_by-cons (λ (x : ℕ). x) size (take at sizes) in
    cut_by-get sizes (drop size bytes) at d t (omega arith)
    ∙ ap (take (get_or sizes at d)) (drop-drop (sum (take at sizes)) size bytes
    ∙ ap (λ (n : ℕ). drop n bytes) (let e : size + sum (take at sizes) ≡ sum (size ∷ take at sizes) = omega arith in e))

-- no tuples are no bytes
pub cut_by-none : (sizes bytes : List ℕ) → IsTrue (length sizes == 0) ↔ (cut_by sizes bytes ≡ [])
cut_by-none [] bytes = (λ t. refl, λ e. refl)
cut_by-none (size ∷ sizes) bytes = (λ t. absurd (grind (arith, nat_tests)), λ e. cc)

-- the bytes of a tuple at its place
pub tuple-at : (tuples : List (List ℕ)) (sizes bytes all : List ℕ) (place size at : ℕ) → cut_by sizes bytes ≡ tuples → at < length sizes
    → place ≡ sum (take at sizes) → size ≡ get_or sizes at 0 → all ≡ bytes
    → take (place + size - place) (drop place all) ≡ get_or tuples at []
tuple-at tuples sizes bytes all place size at are inside here is same =
    ap (λ (n : ℕ). take n (drop place all)) (let e : place + size - place ≡ get_or sizes at 0 = omega arith in e)
    ∙ ap (λ l. take (get_or sizes at 0) (drop place l)) same
    ∙ ap (λ (n : ℕ). take (get_or sizes at 0) (drop n bytes)) here
    ∙ sym (cut_by-get sizes bytes at 0 [] inside)
    ∙ ap (λ l. get_or l at []) are

pub inside-tuples : (tuples : List (List ℕ)) (sizes bytes all : List ℕ) (at : ℕ) → cut_by sizes bytes ≡ tuples → at < length all → all ≡ sizes
    → at < length tuples
inside-tuples tuples sizes bytes all at are inside same =
    let count = length-cut_by sizes bytes in let long = ap length are in let even = ap length same in omega arith
