-- How strings end, and their bytes.
use Rattle.std.proofs.Common.{◌≡◌, ◌≢◌, ℕ, ◌+◌, ◌<◌, ◌≤◌, Bool, true, false, ◌&&◌, Option, Some, None, List, [], ◌∷◌, length, drop, get_or, refl, ap, sym, ◌∙◌, arith, drop-cons, add-one}
use Rattle.std.proofs.Math.ListN.{drop_of_length-le}
use Rattle.std.proofs.lemmas.Bool.Decides.{nat_tests}
use Rattle.std.specs.Option.{option_map}
use Rattle.std.specs.List.{list_all}
use Rattle.std.specs.Char.{is_ascii_digit}
use Rattle.std.proofs.lemmas.Bool.{false≢true}
use Rattle.stmt_token.specs.Bytes.{number_in}
use Rattle.stmt_token.specs.Tokens.{string_end, undoubled}
use Rattle.stmt_token.proofs.Digits.{digit_byte}

-- a byte that is no quote doesn't end a string
pub end-other : (byte : ℕ) (behind : List ℕ) → byte ≢ 39 → string_end (byte ∷ behind) ≡ option_map (λ end. 1 + end) (string_end behind)
end-other byte [] other = grind (arith, nat_tests)
end-other byte (next ∷ behind) other = grind (arith, nat_tests)

-- nor do two quotes
end-doubled : (behind : List ℕ) → string_end (39 ∷ 39 ∷ behind) ≡ option_map (λ end. 2 + end) (string_end behind)
end-doubled behind = refl

-- one quote does
end-lone : (next : ℕ) (behind : List ℕ) → next ≢ 39 → string_end (39 ∷ next ∷ behind) ≡ Some 0
end-lone next behind other = grind (arith, nat_tests)

further : (i n : ℕ) (end : Option ℕ) → option_map (λ e. (i + n) + e) end ≡ option_map (λ e. i + e) (option_map (λ e. n + e) end)
further i n None = refl
further i n (Some e) = ap Some (omega arith)

one_at : (xs : List ℕ) (i : ℕ) → i < length xs → drop i xs ≡ get_or xs i 0 ∷ drop (i + 1) xs
one_at xs i within = rw (add-one, drop-cons xs i 0 within) refl

two_at : (xs : List ℕ) (i : ℕ) → i + 1 < length xs → drop i xs ≡ get_or xs i 0 ∷ get_or xs (i + 1) 0 ∷ drop (i + 2) xs
two_at xs i within =
    let first : i < length xs = omega arith in
    let same : (i + 1) + 1 ≡ i + 2 = omega arith in
    one_at xs i first ∙ ap (λ (l : List ℕ). get_or xs i 0 ∷ l) (one_at xs (i + 1) within ∙ ap (λ (k : ℕ). get_or xs (i + 1) 0 ∷ drop k xs) same)

-- the loop that looks for a string's end, by what stands at its place
abbrev pub Found : List ℕ → ℕ → Type 0
Found inside i = option_map (λ e. i + e) (string_end (drop i inside)) ≡ string_end inside

pub found_at_start : (inside : List ℕ) → Found inside 0
found_at_start inside = further_none (string_end inside)
  where
    further_none : (end : Option ℕ) → option_map (λ e. 0 + e) end ≡ end
    further_none None = refl
    further_none (Some e) = ap Some (omega arith)

pub passes_other : (inside : List ℕ) (i : ℕ) → i < length inside → get_or inside i 0 ≢ 39 → Found inside i → Found inside (i + 1)
passes_other inside i within other known =
    further i 1 (string_end (drop (i + 1) inside))
    ∙ ap (option_map (λ e. i + e)) (sym (ap string_end (one_at inside i within) ∙ end-other _ _ other))
    ∙ known

pub passes_doubled : (inside : List ℕ) (i : ℕ) → i + 1 < length inside → get_or inside i 0 ≡ 39 → get_or inside (i + 1) 0 ≡ 39
    → Found inside i → Found inside (i + 2)
passes_doubled inside i within first second known =
    let here : drop i inside ≡ 39 ∷ 39 ∷ drop (i + 2) inside =
    two_at inside i within ∙ ap (λ (l : List ℕ). l) (cc) in
    further i 2 (string_end (drop (i + 2) inside)) ∙ ap (option_map (λ e. i + e)) (sym (ap string_end here)) ∙ known

pub ends_lone : (inside : List ℕ) (i : ℕ) → i + 1 < length inside → get_or inside i 0 ≡ 39 → get_or inside (i + 1) 0 ≢ 39
    → Found inside i → string_end inside ≡ Some i
ends_lone inside i within first other known =
    let here : string_end (drop i inside) ≡ Some 0 =
    ap string_end (two_at inside i within ∙ ap (λ (b : ℕ). b ∷ get_or inside (i + 1) 0 ∷ drop (i + 2) inside) first)
    ∙ end-lone (get_or inside (i + 1) 0) (drop (i + 2) inside) other in
    sym known ∙ ap (option_map (λ e. i + e)) here ∙ ap Some (omega arith)

pub ends_last : (inside : List ℕ) (i : ℕ) → i < length inside → length inside ≤ i + 1 → get_or inside i 0 ≡ 39
    → Found inside i → string_end inside ≡ Some i
ends_last inside i within last first known =
    let nothing : drop (i + 1) inside ≡ [] = drop_of_length-le inside last in
    let here : string_end (drop i inside) ≡ Some 0 =
    ap string_end (one_at inside i within ∙ ap (λ (b : ℕ). b ∷ drop (i + 1) inside) first ∙ ap (λ (l : List ℕ). 39 ∷ l) nothing) in
    sym known ∙ ap (option_map (λ e. i + e)) here ∙ ap Some (omega arith)

pub ends_nowhere : (inside : List ℕ) (i : ℕ) → length inside ≤ i → Found inside i → string_end inside ≡ None
ends_nowhere inside i past known =
    let nothing : drop i inside ≡ [] = drop_of_length-le inside past in
    sym known ∙ ap (λ (l : List ℕ). option_map (λ e. i + e) (string_end l)) nothing

-- the bytes of a string, one after the other
pub undoubled-other : (byte : ℕ) (behind : List ℕ) → byte ≢ 39 → undoubled (byte ∷ behind) ≡ byte ∷ undoubled behind
undoubled-other byte [] other = refl
undoubled-other byte (next ∷ behind) other = grind (arith, nat_tests)

-- digits have no quotes, so they are spelt as they are
pub undoubled-digits : (bytes : List ℕ) → list_all is_ascii_digit bytes ≡ true → undoubled bytes ≡ bytes
undoubled-digits [] all = refl
undoubled-digits (byte ∷ []) all = refl
undoubled-digits (byte ∷ next ∷ behind) all =
    let digit : is_ascii_digit byte ≡ true = grind (arith, nat_tests) in
    let rest : list_all is_ascii_digit (next ∷ behind) ≡ true = grind (arith, nat_tests) in
    undoubled-other byte (next ∷ behind) (λ e. absurd (omega (arith, digit_byte byte digit)))
    ∙ ap (λ (l : List ℕ). byte ∷ l) (undoubled-digits (next ∷ behind) rest)

-- and where the bytes of a string are digits, it is spelt by digits
pub digits-undoubled : (bytes : List ℕ) → list_all is_ascii_digit (undoubled bytes) ≡ true → list_all is_ascii_digit bytes ≡ true
digits-undoubled [] all = refl
digits-undoubled (byte ∷ []) all = all
digits-undoubled (byte ∷ next ∷ behind) all =
    let digit : is_ascii_digit byte ≡ true = grind (arith, nat_tests) in
    let split : undoubled (byte ∷ next ∷ behind) ≡ byte ∷ undoubled (next ∷ behind) =
    undoubled-other byte (next ∷ behind) (λ e. absurd (omega (arith, digit_byte byte digit))) in
    let rest : list_all is_ascii_digit (undoubled (next ∷ behind)) ≡ true =
    both_pass (is_ascii_digit byte) (list_all is_ascii_digit (undoubled (next ∷ behind))) (sym (ap (list_all is_ascii_digit) split) ∙ all) in
    rw (digit, digits-undoubled (next ∷ behind) rest) refl
  where
    both_pass : (p q : Bool) → (p && q) ≡ true → q ≡ true
    both_pass true q e = e
    both_pass false q e = cc

-- a string spells a number where its spelling does, and the same
pub same_number : (bytes : List ℕ) → number_in (undoubled bytes) ≡ number_in bytes
same_number bytes = by_test (list_all is_ascii_digit bytes) (list_all is_ascii_digit (undoubled bytes)) refl refl
  where
    by_test : (own other : Bool) → list_all is_ascii_digit bytes ≡ own → list_all is_ascii_digit (undoubled bytes) ≡ other
        → number_in (undoubled bytes) ≡ number_in bytes
    by_test true other is was = ap number_in (undoubled-digits bytes is)
    by_test false true is was = absurd (false≢true (sym is ∙ digits-undoubled bytes was))
    by_test false false is was = grind (arith, nat_tests)
