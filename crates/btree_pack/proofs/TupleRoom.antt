-- What tuples take on a page.
use Rattle.std.proofs.Common.{◌≡◌, ℕ, suc, ◌+◌, ◌*◌, ◌<◌, ◌≤◌, ◌^◌, List, [], ◌∷◌, length, take, get_or, refl, sym, ap, ◌∙◌, arith}
use Rattle.std.specs.Prelude.{All}
use Rattle.std.proofs.lemmas.List.Sums.{sum_by-cons, sum_by_more_le}
use Rattle.std.proofs.lemmas.List.{length-take-le, take_more}
use Rattle.std.proofs.lemmas.List.Elements.{All-get_or, All-take}
use Rattle.pg_bytes.specs.ItemPage.{space_of, space_taken, upper_at}
use Rattle.pg_bytes.specs.Numbers.{rounded_up}
use Rattle.pg_bytes.specs.PageLayout.{lower_of, lower_with, upper_of, with_item}
use Rattle.btree_pack.proofs.BegunPages.{lower_of-begun_page, upper_of-begun_page, with_item-begun_page}
use Rattle.btree_pack.specs.Pass.Begun.{begun_page, lower_behind}
use Rattle.btree_pack.specs.Pass.Packing.{IsTuple, room_of}

pub space_of-tuple : (tuple : List ℕ) → IsTuple tuple → space_of tuple ≡ length tuple
space_of-tuple tuple is = let whole = is.whole in omega arith

pub space_taken-tuples : (tuples : List (List ℕ)) → All IsTuple tuples → space_taken tuples + 4 * length tuples ≡ room_of tuples
space_taken-tuples [] are = refl
space_taken-tuples (tuple ∷ tuples) are =
    let first = space_of-tuple tuple (are 0 [] (omega arith)) in
    let rest = space_taken-tuples tuples (λ k d inside. are (suc k) d (omega arith)) in
    let parts = sum_by-cons (λ (t : List ℕ). length t + 4) tuple tuples in
    omega arith

-- the tuples in front of one, and that one
pub room_of-more : (tuples : List (List ℕ)) (at : ℕ) (d : List ℕ) → at < length tuples
    → room_of (take at tuples) + (length (get_or tuples at d) + 4) ≤ room_of tuples
room_of-more tuples at d inside = sum_by_more_le (λ (t : List ℕ). length t + 4) tuples at d inside

pub tuples-few : (tuples : List (List ℕ)) → 4 * length tuples ≤ room_of tuples
tuples-few [] = omega arith
tuples-few (tuple ∷ tuples) =
    let rest = tuples-few tuples in
    let parts = sum_by-cons (λ (t : List ℕ). length t + 4) tuple tuples in
    omega arith

-- a tuple has room behind those in front of it, and with it the page is one of a tuple more
pub record HasPlace (special : List ℕ) (reserved : ℕ) (tuples : List (List ℕ)) (at : ℕ) (page : List ℕ) : Type 0 where
  pub few : at + 3 < 2 ^ 16
  pub some : 0 < length (get_or tuples at [])
  pub upper : upper_of page ≤ 8192
  pub room : lower_with (at + reserved + 1) page + rounded_up 8 (length (get_or tuples at [])) ≤ upper_of page
  pub more : with_item (at + reserved + 1) (get_or tuples at []) page ≡ begun_page special reserved (take (at + 1) tuples)

pub has_place : (special : List ℕ) (reserved : ℕ) (tuples : List (List ℕ)) (at : ℕ) (page : List ℕ)
    → length special ≡ 16 → reserved ≤ 1 → All IsTuple tuples → 4 * reserved + room_of tuples ≤ 8152 → at < length tuples
    → page ≡ begun_page special reserved (take at tuples) → HasPlace special reserved tuples at page
has_place special reserved tuples at page size one are fits inside is =
    let front : List (List ℕ) = take at tuples in
    let item : List ℕ = get_or tuples at [] in
    let is_tuple : IsTuple item = All-get_or IsTuple tuples at [] inside are in
    let least = is_tuple.least in
    let space = space_of-tuple item is_tuple in
    let taken = space_taken-tuples front (All-take IsTuple at tuples are) in
    let count : length front ≡ at = length-take-le at tuples (omega arith) in
    let more = room_of-more tuples at [] inside in
    let few = tuples-few tuples in
    let lower : lower_of page ≡ lower_behind reserved front = ap lower_of is ∙ lower_of-begun_page special reserved front (omega arith) in
    let upper : upper_of page ≡ upper_at special front = ap upper_of is ∙ upper_of-begun_page special reserved front in
    let line : at + reserved + 1 ≡ reserved + length front + 1 = omega arith in
    record {
      few = omega arith;
      some = omega arith;
      upper = omega arith;
      room = omega arith;
      more =
          ap (λ (n : ℕ). with_item n item page) line
          ∙ ap (with_item (reserved + length front + 1) item) is
          ∙ with_item-begun_page special reserved front item (omega arith)
          ∙ ap (begun_page special reserved) (sym (take_more tuples at [] inside));
    }
