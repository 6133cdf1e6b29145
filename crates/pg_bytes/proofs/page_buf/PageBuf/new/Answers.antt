use Rattle.std.proofs.Common.{◌≡◌, ℕ, ◌-◌, ◌+◌, List, ◌++◌, length, arith, refl, ◌∙◌, sym, ap, length-append}
use Rattle.std.proofs.lemmas.List.{append_assoc}
use Rattle.pg_bytes.proofs.Writes.{length-zeros, length-number_bytes, zeros-append, written-middle}
use Rattle.pg_bytes.specs.Numbers.{number_bytes}
use Rattle.pg_bytes.specs.PageLayout.{empty_page, page_header}
use Rattle.pg_bytes.specs.Places.{written, zeros}
use Rattle.pg_bytes.proofs.page_buf.PageBuf.new.Goals as goal

-- a number is written over the first two of the zeros behind a front
over : (front : List ℕ) (value place n m : ℕ) → length front ≡ place → n ≡ 2 + m
    → written (number_bytes 2 value) place (front ++ zeros n) ≡ (front ++ number_bytes 2 value) ++ zeros m
over front value place n m here split =
    let piece = length-number_bytes 2 value in
    ap (λ (k : ℕ). written (number_bytes 2 value) place (front ++ zeros k)) split
    ∙ ap (λ (r : List ℕ). written (number_bytes 2 value) place (front ++ r)) (sym (zeros-append 2 m))
    ∙ written-middle (number_bytes 2 value) front (zeros 2) (zeros m) place here (piece ∙ sym (length-zeros 2))
    ∙ sym (append_assoc front (number_bytes 2 value) (zeros m))

longer : (front : List ℕ) (value n : ℕ) → length front ≡ n → length (front ++ number_bytes 2 value) ≡ n + 2
longer front value n here =
    let whole = length-append front (number_bytes 2 value) in
    let piece = length-number_bytes 2 value in
    omega arith

-- the four fields, written over zeros, are the header
headed : (lower upper special version : ℕ) (page : List ℕ) → page ≡ zeros 8192
    → written (number_bytes 2 version) 18 (written (number_bytes 2 special) 16 (written (number_bytes 2 upper) 14 (written (number_bytes 2 lower) 12 page)))
    ≡ (zeros 12 ++ (number_bytes 2 lower ++ (number_bytes 2 upper ++ (number_bytes 2 special ++ (number_bytes 2 version ++ zeros 4))))) ++ zeros 8168
headed lower upper special version page blank =
    let a : List ℕ = zeros 12 in
    let b : List ℕ = a ++ number_bytes 2 lower in
    let d : List ℕ = b ++ number_bytes 2 upper in
    let e : List ℕ = d ++ number_bytes 2 special in
    let la : length a ≡ 12 = length-zeros 12 in
    let lb : length b ≡ 14 = longer a lower 12 la in
    let ld : length d ≡ 16 = longer b upper 14 lb in
    let le : length e ≡ 18 = longer d special 16 ld in
    let start : page ≡ a ++ zeros 8180 = blank ∙ sym (zeros-append 12 8180) in
    let one = ap (written (number_bytes 2 lower) 12) start ∙ over a lower 12 8180 8178 la refl in
    let two = ap (written (number_bytes 2 upper) 14) one ∙ over b upper 14 8178 8176 lb refl in
    let three = ap (written (number_bytes 2 special) 16) two ∙ over d special 16 8176 8174 ld refl in
    let four = ap (written (number_bytes 2 version) 18) three ∙ over e version 18 8174 8172 le refl in
    let tail : zeros 8172 ≡ zeros 4 ++ zeros 8168 = sym (zeros-append 4 8168) in
    four ∙ ap (λ (r : List ℕ). (e ++ number_bytes 2 version) ++ r) tail ∙ simp append_assoc

pub invariant_of-page : goal.invariant_of-page
invariant_of-page c = c.in_ok-zero_bytes.ensures.size

pub returns : goal.returns
unfolding empty_page page_header
returns c =
    rw (c.put_u16-4.ensures, c.put_u16-3.ensures, c.put_u16-2.ensures, c.put_u16.ensures)
    (headed 24 (8192 - c.args.special) (8192 - c.args.special) 8196 c.in_ok-zero_bytes.field-0.items c.in_ok-zero_bytes.ensures.value)
