-- Pages with a high key or without are read as what they were made of.
use Rattle.std.proofs.Common.{◌≡◌, ◌≢◌, ℕ, zero, suc, ◌+◌, ◌<◌, ◌≤◌, Bool, true, false, Some, None, List, [], ◌∷◌, length, drop, refl, sym, ap, ◌∙◌, arith, rules}
use Rattle.std.specs.Prelude.{Option, filter_map, nat_eq, nat_le, ◌&&◌, not, slice_get, if◌then◌else◌}
use Rattle.std.specs.List.{range_with_len}
use Rattle.pg_bytes.proofs.ItemReading.{items-read, lowest-read}
use Rattle.pg_bytes.specs.Laws.{IsReadAs}
use Rattle.pg_bytes.specs.Lines.{HasItem, bytes_of, has_item, item_at, line_at, line_count}
use Rattle.pg_bytes.specs.PageLayout.{special_of}
use Rattle.btree_page.proofs.MetaWrites.{length-special_bytes}
use Rattle.btree_page.proofs.SpaceReading.{space-read}
use Rattle.btree_page.specs.declared.special.SpecialSpace.{SpecialSpace}
use Rattle.btree_page.specs.Laws.{IsNodeOf, IsSpace, PagesAreReadBack}
use Rattle.btree_page.specs.Node.{data_count, data_item, has_high_key, lines_before}
use Rattle.btree_page.specs.SpecialSpace.{space_of_page, special_bytes}

-- ---- where no item is

and-left : (a b : Bool) → (a && b) ≡ true → a ≡ true
and-left true b e = refl
and-left false b e = e

and-right : (a b : Bool) → (a && b) ≡ true → b ≡ true
and-right true b e = e
and-right false b e = absurd (search (rules, e))

at-most : (a b : ℕ) → nat_le a b ≡ true → a ≤ b
at-most a b e = search (rules, e)

same : (a b : ℕ) → nat_eq a b ≡ true → a ≡ b
same a b e = search (rules, e)

none-of : (there : Bool) (item : List ℕ) → (there ≡ true → ⊥) → (if there then Some item else None) ≡ None
none-of true item never = absurd (never refl)
none-of false item never = refl

has-item : (page : List ℕ) (line : ℕ) → has_item page line ≡ true → HasItem page line
has-item page line e =
    let counted = and-left _ _ e in
    let there = and-right _ _ e in
    record {
      counted = (at-most 1 line (and-left _ _ counted), at-most line (line_count page) (and-right _ _ counted));
      normal = same (line_at page line).state 1 (and-left _ _ there);
      inside = at-most ((line_at page line).offset + (line_at page line).length) 8192 (and-right _ _ there);
    }

pub item_at-none : (page : List ℕ) (line : ℕ) → (HasItem page line → ⊥) → item_at page line ≡ None
unfolding item_at
item_at-none page line none =
    none-of (has_item page line) (bytes_of page (line_at page line)) (λ e. none (has-item page line e))

-- behind the last line pointer no item is
pub none-behind-count : (page : List ℕ) (line : ℕ) → line_count page < line → item_at page line ≡ None
none-behind-count page line behind = item_at-none page line (λ has. absurd (omega (arith, behind, has.counted.1)))

-- ---- items by their numbers

past : (items : List (List ℕ)) (number : ℕ) → slice_get items number ≡ None → length items ≤ number
past [] number e = omega arith
past (item ∷ items) zero e = absurd (search (rules, e))
past (item ∷ items) (suc number) e = let rest = past items number e in omega arith

-- all of them
collected : (f : ℕ → Option (List ℕ)) (items : List (List ℕ)) (from : ℕ) → ((k : ℕ) → f (from + k) ≡ slice_get items k)
    → filter_map f (range_with_len from (length items)) ≡ items
collected f [] from each = refl
collected f (item ∷ items) from each =
    let first : f from ≡ Some item = ap f (let e : from ≡ from + 0 = omega arith in e) ∙ each 0 in
    rw first (ap (λ (l : List (List ℕ)). item ∷ l)
    (collected f items (from + 1) (λ k. ap f (let e : from + 1 + k ≡ from + suc k = omega arith in e) ∙ each (suc k))))

-- each item of a page behind so many line pointers
each-behind : (page : List ℕ) (lines : ℕ) (items : List (List ℕ)) → line_count page ≡ lines + length items
    → ((k : ℕ) (item : List ℕ) → slice_get items k ≡ Some item → item_at page (lines + 1 + k) ≡ Some item)
    → (number : ℕ) → item_at page (lines + 1 + number) ≡ slice_get items number
each-behind page lines items count each number = look (slice_get items number) refl
  where
    look : (found : Option (List ℕ)) → slice_get items number ≡ found → item_at page (lines + 1 + number) ≡ slice_get items number
    look (Some item) e = each number item e ∙ sym e
    look None e =
        let behind = past items number e in
        none-behind-count page (lines + 1 + number) (omega (arith, behind, count)) ∙ sym e

-- ---- what is read of a page's special space

starts : (page special : List ℕ) (items : List (List ℕ)) → IsReadAs page special items → length special ≡ 16 → special_of page ≡ 8176
starts page special items r size = r.special_starts ∙ omega (arith, size)

ends-with : (page special : List ℕ) (items : List (List ℕ)) → IsReadAs page special items → length special ≡ 16 → drop 8176 page ≡ special
ends-with page special items r size = ap (λ (n : ℕ). drop n page) (sym (starts page special items r size)) ∙ r.special_is

space-is : (space : SpecialSpace) (page : List ℕ) (items : List (List ℕ)) → IsSpace space → IsReadAs page (special_bytes space) items
    → space_of_page page ≡ space
space-is space page items h r = space-read space page h (ends-with page (special_bytes space) items r (length-special_bytes space))

no-key : (next lines : ℕ) → next ≡ 0 → (not (nat_eq next 0) && not (nat_eq lines 0)) ≡ false
no-key next lines none = rw none refl

a-key : (next lines : ℕ) → next ≢ 0 → lines ≢ 0 → (not (nat_eq next 0) && not (nat_eq lines 0)) ≡ true
a-key zero lines some counted = absurd (some refl)
a-key (suc next) zero some counted = absurd (counted refl)
a-key (suc next) (suc lines) some counted = search rules

-- ---- the two pages

alone : (space : SpecialSpace) (page : List ℕ) (items : List (List ℕ)) → IsSpace space → space.next ≡ 0
    → IsReadAs page (special_bytes space) items → IsNodeOf page space None items
alone space page items h none r =
    let is = space-is space page items h r in
    let has : has_high_key page ≡ false = no-key _ (line_count page) (ap (λ s. s.next) is ∙ none) in
    let before : lines_before page ≡ 0 = rw has refl in
    let count : line_count page ≡ 0 + length items = omega (arith, r.count) in
    let each : (number : ℕ) → data_item page number ≡ slice_get items number =
    λ number. ap (λ (n : ℕ). item_at page (n + 1 + number)) before ∙ each-behind page 0 items count (λ k item found. r.each k item found) number in
    let counted : data_count page ≡ length items = omega (arith, before, r.count) in
    record {
      size = r.size;
      special_starts = starts page (special_bytes space) items r (length-special_bytes space);
      space_is = is;
      high_key_is = rw has refl;
      count = counted;
      each = each;
      all = ap (λ (n : ℕ). filter_map (data_item page) (range_with_len 0 n)) counted ∙ collected (data_item page) items 0 (λ k. ap (data_item page) (let e : 0 + k ≡ k = omega arith in e) ∙ each k);
    }

bounded : (space : SpecialSpace) (page key : List ℕ) (items : List (List ℕ)) → IsSpace space → space.next ≢ 0
    → IsReadAs page (special_bytes space) (key ∷ items) → IsNodeOf page space (Some key) items
bounded space page key items h some r =
    let is = space-is space page (key ∷ items) h r in
    let count : line_count page ≡ 1 + length items = omega (arith, r.count) in
    let has : has_high_key page ≡ true =
    a-key _ (line_count page) (λ e. some (sym (ap (λ s. s.next) is) ∙ e)) (λ e. absurd (omega (arith, e, count))) in
    let before : lines_before page ≡ 1 = rw has refl in
    let each : (number : ℕ) → data_item page number ≡ slice_get items number =
    λ number. ap (λ (n : ℕ). item_at page (n + 1 + number)) before
    ∙ each-behind page 1 items count (λ k item found. ap (item_at page) (let e : 1 + 1 + k ≡ 1 + suc k = omega arith in e) ∙ r.each (suc k) item found) number in
    let counted : data_count page ≡ length items = omega (arith, before, count) in
    record {
      size = r.size;
      special_starts = starts page (special_bytes space) (key ∷ items) r (length-special_bytes space);
      space_is = is;
      high_key_is = rw has (r.each 0 key refl);
      count = counted;
      each = each;
      all = ap (λ (n : ℕ). filter_map (data_item page) (range_with_len 0 n)) counted ∙ collected (data_item page) items 0 (λ k. ap (data_item page) (let e : 0 + k ≡ k = omega arith in e) ∙ each k);
    }

pub nodes-read : PagesAreReadBack
nodes-read space None items h together = alone space _ items h together.0 (items-read (special_bytes space) items together.1)
nodes-read space (Some key) items h together =
    bounded space _ key items h together.0 (lowest-read (special_bytes space) key items together.1)
