-- What holds of open pages.
use Rattle.std.proofs.Common.{◌≡◌, ℕ, zero, suc, ◌+◌, ◌%◌, ◌<◌, ◌≤◌, ◌^◌, List, [], ◌∷◌, ◌++◌, length, take, ap, ◌∙◌, arith, length-append}
use Rattle.std.specs.Prelude.{All}
use Rattle.std.proofs.lemmas.List.{length-take-le}
use Rattle.std.proofs.lemmas.List.Elements.{All-append, All-cons, All-push}
use Rattle.std.proofs.lemmas.List.Sums.{sum_by-append, sum_by-cons}
use Rattle.pg_bytes.proofs.Writes.{length-number_bytes}
use Rattle.pg_bytes.specs.ItemPage.{first_lowest_page, item_page, upper_at}
use Rattle.pg_bytes.specs.Numbers.{number_bytes, rounded_up}
use Rattle.pg_bytes.specs.PageLayout.{lower_of, lower_with, upper_of, with_item}
use Rattle.btree_pack.proofs.BegunPages.{begun_page-items, lower_of-begun_page, upper_of-begun_page, with_item-begun_page, with_item-high_key}
use Rattle.btree_pack.proofs.TupleRoom.{space_of-tuple, space_taken-tuples, tuples-few}
use Rattle.btree_pack.specs.Break.{spare, page_room}
use Rattle.btree_pack.specs.Pass.Begun.{begun_page, lower_behind}
use Rattle.btree_pack.specs.Pass.Packing.{IsOpen, IsTuple, PageState, first_form, room_of, used, with_tuple}

pub length-first_form : (below : ℕ) (tuple : List ℕ) → 8 ≤ length tuple → length (first_form (suc below) tuple) ≡ 8
length-first_form below tuple least =
    let front = length-take-le 4 tuple (omega arith) in
    let whole = length-append (take 4 tuple) (number_bytes 2 0 ++ number_bytes 2 (0x2000 + 8)) in
    let behind = length-append (number_bytes 2 0) (number_bytes 2 (0x2000 + 8)) in
    let a = length-number_bytes 2 0 in
    let b = length-number_bytes 2 (0x2000 + 8) in
    omega arith

pub first_form-tuple : (level : ℕ) (tuple : List ℕ) → IsTuple tuple → IsTuple (first_form level tuple)
first_form-tuple zero tuple is = is
first_form-tuple (suc below) tuple is =
    let size = length-first_form below tuple is.least in
    record { whole = ap (λ (n : ℕ). n % 8) size; least = omega arith; most = omega arith }

pub spare-few : (level : ℕ) → spare level ≤ 8
spare-few zero = omega arith
spare-few (suc level) = omega arith

-- a page of one tuple
pub one-tuple : (level block prev : ℕ) (low_key last : List ℕ) (extra taken : ℕ) → IsTuple low_key → IsTuple last
    → block < 2 ^ 31 → level < 2 ^ 31 → extra ≤ 8192 → taken ≡ length last + 4
    → IsOpen (record { level = level; block = block; prev = prev; low_key = low_key; before = []; last = last; extra = extra }) taken
one-tuple level block prev low_key last extra taken key is small low few count =
    let most = is.most in
    let spares = spare-few level in
    record {
      count = omega arith;
      room = omega arith;
      tuples = λ k d inside. absurd (omega arith);
      last = is;
      low_key = key;
      block = small;
      level = low;
      extra = few;
    }

-- a page with one tuple more
pub one-more : (page : PageState) (taken : ℕ) (tuple : List ℕ) (extra more : ℕ) → IsOpen page taken → IsTuple tuple
    → used page + (length tuple + spare page.level) ≤ page_room → extra ≤ 8192 → more ≡ taken + (length tuple + 4)
    → IsOpen (with_tuple tuple extra page) more
one-more page taken tuple extra more opened is fits few count =
    let parts = sum_by-append (λ (t : List ℕ). length t + 4) page.before (page.last ∷ []) in
    let last = sum_by-cons (λ (t : List ℕ). length t + 4) page.last [] in
    let was = opened.count in
    record {
      count = omega arith;
      room = omega arith;
      tuples = All-push IsTuple page.before page.last opened.tuples opened.last;
      last = is;
      low_key = opened.low_key;
      block = opened.block;
      level = opened.level;
      extra = few;
    }

-- a page with these tuples more and one behind them
pub all-more : (page : PageState) (taken : ℕ) (tuples : List (List ℕ)) (tuple : List ℕ) (extra more : ℕ) → IsOpen page taken → All IsTuple tuples → IsTuple tuple
    → used page + room_of tuples + (length tuple + spare page.level) ≤ page_room → extra ≤ 8192 → more ≡ taken + room_of tuples + (length tuple + 4)
    → IsOpen (record page { before = page.before ++ page.last ∷ tuples; last = tuple; extra = extra }) more
all-more page taken tuples tuple extra more opened are is fits few count =
    let parts = sum_by-append (λ (t : List ℕ). length t + 4) page.before (page.last ∷ tuples) in
    let last = sum_by-cons (λ (t : List ℕ). length t + 4) page.last tuples in
    let was = opened.count in
    record {
      count = omega arith;
      room = omega arith;
      tuples = All-append IsTuple page.before (page.last ∷ tuples) opened.tuples (All-cons IsTuple page.last tuples opened.last are);
      last = is;
      low_key = opened.low_key;
      block = opened.block;
      level = opened.level;
      extra = few;
    }

-- the high key of a page finds its room, and with it the page is finished
pub record HasHighKey (special high_key : List ℕ) (tuples : List (List ℕ)) (page : List ℕ) : Type 0 where
  pub upper : upper_of page ≤ 8192
  pub room : lower_with 1 page + rounded_up 8 (length high_key) ≤ upper_of page
  pub is : with_item 1 high_key page ≡ first_lowest_page special high_key tuples

pub has_high_key : (special high_key : List ℕ) (tuples : List (List ℕ)) (page : List ℕ) → length special ≡ 16 → All IsTuple tuples → IsTuple high_key
    → room_of tuples + (length high_key + 4) ≤ 8152 → page ≡ begun_page special 1 tuples → HasHighKey special high_key tuples page
has_high_key special high_key tuples page size are key fits is =
    let space = space_of-tuple high_key key in
    let taken = space_taken-tuples tuples are in
    let few = tuples-few tuples in
    let lower : lower_of page ≡ lower_behind 1 tuples = ap lower_of is ∙ lower_of-begun_page special 1 tuples (omega arith) in
    let upper : upper_of page ≡ upper_at special tuples = ap upper_of is ∙ upper_of-begun_page special 1 tuples in
    record {
      upper = omega arith;
      room = omega arith;
      is = ap (with_item 1 high_key) is ∙ with_item-high_key special tuples high_key (omega arith);
    }

-- the last tuple of a level's last page
pub record HasLast (special last : List ℕ) (tuples : List (List ℕ)) (page : List ℕ) (count : ℕ) : Type 0 where
  pub few : count + 2 < 2 ^ 16
  pub upper : upper_of page ≤ 8192
  pub room : lower_with (count + 1) page + rounded_up 8 (length last) ≤ upper_of page
  pub is : with_item (count + 1) last page ≡ item_page special (tuples ++ last ∷ [])

pub has_last : (special last : List ℕ) (tuples : List (List ℕ)) (page : List ℕ) (count : ℕ) → length special ≡ 16 → All IsTuple tuples → IsTuple last
    → room_of tuples + (length last + 4) ≤ 8152 → page ≡ begun_page special 0 tuples → count ≡ length tuples → HasLast special last tuples page count
has_last special last tuples page count size are key fits is same =
    let space = space_of-tuple last key in
    let taken = space_taken-tuples tuples are in
    let few = tuples-few tuples in
    let lower : lower_of page ≡ lower_behind 0 tuples = ap lower_of is ∙ lower_of-begun_page special 0 tuples (omega arith) in
    let upper : upper_of page ≡ upper_at special tuples = ap upper_of is ∙ upper_of-begun_page special 0 tuples in
    let line : count + 1 ≡ 0 + length tuples + 1 = omega arith in
    record {
      few = omega arith;
      upper = omega arith;
      room = omega arith;
      is =
          ap (λ (n : ℕ). with_item n last page) line
          ∙ ap (with_item (0 + length tuples + 1) last) is
          ∙ with_item-begun_page special 0 tuples last (omega arith)
          ∙ begun_page-items special (tuples ++ last ∷ []);
    }
