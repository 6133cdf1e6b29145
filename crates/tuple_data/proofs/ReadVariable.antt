-- Bytes of a variable width, by their first byte.
use Rattle.std.proofs.Common.{◌≡◌, ◌≢◌, ℕ, ◌-◌, ◌%◌, ◌^◌, ◌<◌, ◌≤◌, Some, List, [], ◌∷◌, ◌++◌, length, take, drop, slice_index, sym, ap, subst, ◌∙◌, inl, inr, arith, length-drop}
use Rattle.std.proofs.lemmas.Bool.{cases_lt}
use Rattle.std.proofs.lemmas.List.{take_all}
use Rattle.tuple_data.specs.Datum.{long_header, padding, short_header, stored_at, variable_datum}
use Rattle.tuple_data.proofs.OneValue.{fits_header, long_is_even, short_is_odd}
use Rattle.tuple_data.proofs.Pieces.{stored_at-long, stored_at-short}

-- bytes that begin with an odd byte stand under a short header
pub short_is_there : (place : ℕ) (bytes own behind : List ℕ) → slice_index bytes 0 % 2 ≡ 1
    → bytes ≡ stored_at place (Some (variable_datum own)) ++ behind
    → (slice_index bytes 0 ≡ short_header (length own)) × (drop 1 bytes ≡ own ++ behind)
short_is_there place bytes own behind odd whole =
    let first = ap (λ (b : List ℕ). slice_index b 0) whole in
    elim (cases_lt 126 (length own)) [
      | inl long ↦ let even = long_is_even place own behind long in absurd (omega arith)
      | inr short ↦ (
        first ∙ short_is_odd place own behind short,
        ap (drop 1) whole ∙ ap (λ (s : List ℕ). drop 1 (s ++ behind)) (stored_at-short place own short),
      )
    ]

pub short_stands : (place : ℕ) (bytes own behind : List ℕ) → 0 < length bytes → slice_index bytes 0 < 256
    → slice_index bytes 0 ≡ short_header (length own) → drop 1 bytes ≡ own ++ behind → bytes ≡ stored_at place (Some (variable_datum own)) ++ behind
short_stands place [] own behind some byte header rest = absurd (omega arith)
short_stands place (first ∷ bytes) own behind some byte header rest =
    let short : length own ≤ 126 = omega arith in
    ap (λ (b : ℕ). b ∷ bytes) header
    ∙ ap (λ (b : List ℕ). short_header (length own) ∷ b) rest
    ∙ ap (λ (s : List ℕ). s ++ behind) (sym (stored_at-short place own short))

-- bytes that begin with an even byte stand under a long header
pub record StandsLong (place : ℕ) (bytes own behind : List ℕ) : Type 0 where
  pub long : 126 < length own
  pub fits : length own < 1073741820
  pub whole : bytes ≡ (padding 4 place ++ (long_header (length own) ++ own)) ++ behind

pub long_is_there : (place : ℕ) (bytes own behind : List ℕ) → slice_index bytes 0 % 2 ≢ 1 → length bytes < 2 ^ 30
    → bytes ≡ stored_at place (Some (variable_datum own)) ++ behind → StandsLong place bytes own behind
long_is_there place bytes own behind even size whole =
    let first = ap (λ (b : List ℕ). slice_index b 0) whole in
    elim (cases_lt 126 (length own)) [
      | inl long ↦ record {
        long = long;
        fits = fits_header place own behind (subst (λ (b : List ℕ). length b < 2 ^ 30) whole size);
        whole = whole ∙ ap (λ (s : List ℕ). s ++ behind) (stored_at-long place own long);
      }
      | inr short ↦ let odd = short_is_odd place own behind short in absurd (even (omega arith))
    ]

pub long_stands : (place : ℕ) (bytes own behind : List ℕ) → 126 < length own
    → bytes ≡ (padding 4 place ++ (long_header (length own) ++ own)) ++ behind → bytes ≡ stored_at place (Some (variable_datum own)) ++ behind
long_stands place bytes own behind long whole = whole ∙ ap (λ (s : List ℕ). s ++ behind) (sym (stored_at-long place own long))

-- all bytes behind the first
pub tail_is : (bytes : List ℕ) → take (length bytes - 1) (drop 1 bytes) ≡ drop 1 bytes
tail_is bytes = take_all (length bytes - 1) (drop 1 bytes) (let left = length-drop 1 bytes in omega arith)
