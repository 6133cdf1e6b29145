-- What is read of a page under a line pointer.
use Rattle.std.proofs.Common.{◌≡◌, ℕ, ◌+◌, ◌/◌, ◌%◌, ◌^◌, ◌<◌, ◌≤◌, true, Some, List, [], ◌++◌, length, take, drop, refl, sym, ap, ◌∙◌, arith, rules}
use Rattle.std.specs.Prelude.{nat_eq, nat_le}
use Rattle.std.proofs.lemmas.List.{drop_all, drop_at, take_at}
use Rattle.pg_bytes.proofs.ItemPage.{number_at-first, number_at-past}
use Rattle.pg_bytes.specs.Lines.{HasItem, bytes_of, item_at, line_at, line_count}
use Rattle.pg_bytes.specs.Numbers.{number_at, number_bytes}
use Rattle.pg_bytes.specs.PageLayout.{line_place, normal_word}
use Rattle.byteorder.specs.Endian.{little_number}

same : (a b : ℕ) → a ≡ b → nat_eq a b ≡ true
same a b e = search (rules, e)

at_most : (a b : ℕ) → a ≤ b → nat_le a b ≡ true
at_most a b e = search (rules, e)

-- an item that stands under a line pointer is read
pub item_at-is : (page : List ℕ) (line : ℕ) → HasItem page line → item_at page line ≡ Some (bytes_of page (line_at page line))
unfolding item_at
item_at-is page line has =
    rw (
      at_most 1 line has.counted.0,
      at_most line (line_count page) has.counted.1,
      same (line_at page line).state 1 has.normal,
      at_most ((line_at page line).offset + (line_at page line).length) 8192 has.inside,
    ) refl

-- a line pointer behind the end has no item
pub none-behind : (page : List ℕ) (line : ℕ) → length page ≡ 8192 → 2042 < line → HasItem page line → ⊥
unfolding number_at
none-behind page line size behind has =
    let none : drop (line_place line) page ≡ [] = drop_all (line_place line) page (omega arith) in
    let word : number_at 4 page (line_place line) ≡ 0 = ap (little_number 4) none in
    let state = ap (λ (w : ℕ). w / 2 ^ 15 % 4) word in
    absurd (omega (arith, sym state ∙ has.normal))

-- an item and its line pointer, each behind what stands before it
pub item-read : (page : List ℕ) (line : ℕ) (item front rest below above : List ℕ) → 1 ≤ line → line ≤ line_count page
    → page ≡ front ++ (number_bytes 4 (normal_word (length below) (length item)) ++ rest) → length front ≡ line_place line
    → page ≡ below ++ (item ++ above) → length below + length item ≤ 8192
    → item_at page line ≡ Some item
item-read page line item front rest below above first last split here parts inside =
    let word : ℕ = normal_word (length below) (length item) in
    let at : number_at 4 page (line_place line) ≡ word =
    ap (λ (b : List ℕ). number_at 4 b (line_place line)) split
    ∙ number_at-past 4 front (number_bytes 4 word ++ rest) (line_place line) here
    ∙ number_at-first 4 word rest (omega arith) in
    let place : word % 2 ^ 15 ≡ length below = omega arith in
    let state : word / 2 ^ 15 % 4 ≡ 1 = omega arith in
    let long : word / 2 ^ 17 ≡ length item = omega arith in
    let place' = ap (λ (w : ℕ). w % 2 ^ 15) at ∙ place in
    let long' = ap (λ (w : ℕ). w / 2 ^ 17) at ∙ long in
    let has : HasItem page line = record {
      counted = (first, last);
      normal = ap (λ (w : ℕ). w / 2 ^ 15 % 4) at ∙ state;
      inside = omega (arith, place', long');
    } in
    item_at-is page line has
    ∙ ap (λ (n : ℕ). Some (take n (drop (line_at page line).offset page))) long'
    ∙ ap (λ (n : ℕ). Some (take (length item) (drop n page))) place'
    ∙ ap (λ (b : List ℕ). Some (take (length item) (drop (length below) b))) parts
    ∙ ap (λ (b : List ℕ). Some (take (length item) b)) (drop_at below (item ++ above) (length below) refl)
    ∙ ap Some (take_at item above (length item) refl)
