-- How an image grows by one block.
use Rattle.std.proofs.Common.{◌≡◌, ℕ, ◌+◌, ◌-◌, ◌*◌, List, ◌++◌, length, drop, ap, sym, ◌∙◌, arith, length-append, Result, Ok, Err}
use Rattle.std.specs.Prelude.{OnOk}
use Rattle.std.proofs.lemmas.List.{append-nil, take_all, drop_all}
use Rattle.pg_bytes.specs.Image.{placed, filled_up}
use Rattle.pg_bytes.specs.Places.{written, zeros}

-- the block behind the last is added at the end
pub placed-end : (number : ℕ) (page image : List ℕ) → length image ≡ number * 8192 → placed number page image ≡ image ++ page
unfolding placed written zeros
placed-end number page image ends =
    let none : number * 8192 - length image ≡ 0 = omega arith in
    let whole : filled_up (number * 8192) image ≡ image = ap (λ (n : ℕ). image ++ zeros n) none ∙ append-nil image in
    ap (written page (number * 8192)) whole
    ∙ ap (λ (front : List ℕ). front ++ (page ++ drop (number * 8192 + length page) image)) (take_all (number * 8192) image (omega arith))
    ∙ ap (λ (back : List ℕ). image ++ (page ++ back)) (drop_all (number * 8192 + length page) image (omega arith))
    ∙ ap (λ (r : List ℕ). image ++ r) (append-nil page)

-- a block that was placed behind the last one, and the length then
pub appended-result : {T E : Type 0} (result : Result T E) (number : ℕ) (old new page : List ℕ) → number * 8192 ≡ length old
    → OnOk result (new ≡ placed number page old) → OnOk result (new ≡ old ++ page)
appended-result (Ok x) number old new page blocks ok = ok ∙ placed-end number page old (sym blocks)
appended-result (Err e) number old new page blocks ok = tt

pub size-result : {T E : Type 0} (result : Result T E) (old new page : List ℕ) → OnOk result (new ≡ old ++ page) → length page ≡ 8192
    → OnOk result (length new ≡ length old + 8192)
size-result (Ok x) old new page ok size = ap length ok ∙ length-append old page ∙ ap (λ (n : ℕ). length old + n) size
size-result (Err e) old new page ok size = tt
