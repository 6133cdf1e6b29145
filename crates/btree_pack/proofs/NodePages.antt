-- Each node is a page: what an item tells of its size is what its bytes take.
use Rattle.std.proofs.Common.{◌≡◌, ℕ, zero, suc, ◌+◌, ◌*◌, ◌/◌, ◌%◌, ◌^◌, ◌≤◌, Bool, true, false, List, [], ◌∷◌, ◌++◌, length, map, drop, refl, sym, ap, ◌∙◌, subst, inr, arith, length-append, length-drop}
use Rattle.std.proofs.lemmas.List.{length-map}
use Rattle.std.proofs.lemmas.List.Sums.{sum_by-cons}
use Rattle.std.specs.List.{flat_map, sum_by}
use Rattle.std.specs.Prelude.{All, Option, Some, None}
use Rattle.pg_bytes.proofs.ItemPage.{length-item_page}
use Rattle.pg_bytes.proofs.ItemReading.{lowest-read}
use Rattle.pg_bytes.proofs.Writes.{length-number_bytes}
use Rattle.pg_bytes.specs.ItemPage.{first_lowest_page, space_of, space_taken}
use Rattle.pg_bytes.specs.Numbers.{number_bytes, rounded_up}
use Rattle.pg_bytes.specs.Pointers.{row_pointer_bytes}
use Rattle.btree_pack.specs.Births.{Birth, births_of}
use Rattle.btree_pack.specs.Break.{Item, first_size, taken}
use Rattle.btree_pack.specs.Laws.{BeginsWith, EachNamesTheBelow, FitOnPages, EachLevelFits, IsSmall, IsWritten, WritesWhole}
use Rattle.btree_pack.specs.Groups.{Row, Group, leaf_groups}
use Rattle.btree_pack.specs.Leaves.{Content, Images, plain_of, tuple_of_group, pivot_between, leaf_items_behind, leaf_items}
use Rattle.btree_pack.specs.Separators.{separator}
use Rattle.btree_pack.specs.Nodes.{Node, child_block, tuple_on, first_tuple_on, tuples_on, high_key_on, flags_on, block_on, nodes_behind, nodes_from, nodes_of}
use Rattle.btree_page.specs.SpecialSpace.{special_space}
use Rattle.btree_pack.specs.Pages.{Page, items_of}
use Rattle.btree_pack.specs.Tower.{item_above, levels}
use Rattle.btree_item.specs.Pivot.{minus_infinity}
use Rattle.btree_pack.specs.Tuple.{with_child}
use Rattle.btree_pack.proofs.Contents.{levels_begin, levels_name}
use Rattle.btree_pack.proofs.Lengths.{length-row_pointer_bytes}
use Rattle.btree_page.proofs.MetaWrites.{length-special_space}
use Rattle.btree_pack.proofs.Room.{pages_fit}

length-minus_infinity : (child : ℕ) → length (minus_infinity child) ≡ 8
length-minus_infinity child =
    let whole = length-append (row_pointer_bytes (record { block = child; offset = 0 })) (number_bytes 2 0x2008) in
    let pointer = length-row_pointer_bytes (record { block = child; offset = 0 }) in
    let info = length-number_bytes 2 0x2008 in
    omega arith

length-with_child : (child : ℕ) (pivot : List ℕ) → 4 ≤ length pivot → length (with_child child pivot) ≡ length pivot
unfolding with_child
length-with_child child pivot room =
    let high = length-number_bytes 2 (child / 2 ^ 16) in
    let low = length-number_bytes 2 (child % 2 ^ 16) in
    let rest = length-drop 4 pivot in
    let whole = length-append (number_bytes 2 (child / 2 ^ 16)) (number_bytes 2 (child % 2 ^ 16) ++ drop 4 pivot) in
    let part = length-append (number_bytes 2 (child % 2 ^ 16)) (drop 4 pivot) in
    omega arith

-- a page with a high key has its size, if all fits
length-first_lowest_page : (special high : List ℕ) (tuples : List (List ℕ)) → length special ≡ 16
    → space_taken tuples + space_of high + (4 * length tuples + 4) ≤ 8152 → length (first_lowest_page special high tuples) ≡ 8192
length-first_lowest_page special high tuples size fits =
    let read = lowest-read special high tuples (record { special_size = inr size; room = omega arith }) in
    read.size

-- ---- items as they are written on a level

-- the bytes from which an item's tuple is made on its level
bytes_on : ℕ → Item Content → List ℕ
bytes_on zero item = item.content.tuple
bytes_on (suc below) item = item.content.separator

record IsWrittenOn (level : ℕ) (item : Item Content) : Type 0 where
  size : length (bytes_on level item) ≡ item.size
  bound : length item.content.separator ≡ item.bound
  whole_size : rounded_up 8 item.size ≡ item.size
  whole_bound : rounded_up 8 item.bound ≡ item.bound
  some : 8 ≤ item.bound

AreWritten : ℕ → List (Item Content) → Type 0
AreWritten level [] = Unit {0}
AreWritten level (item ∷ items) = IsWrittenOn level item × AreWritten level items

AreWritten-split : (level : ℕ) (xs ys : List (Item Content)) → AreWritten level (xs ++ ys) → AreWritten level xs × AreWritten level ys
unfolding AreWritten
AreWritten-split level [] ys all = (tt, all)
AreWritten-split level (x ∷ xs) ys all = let rest = AreWritten-split level xs ys all.1 in ((all.0, rest.0), rest.1)

-- pages whose items are written
ArePagesOf : ℕ → List (Page Content) → Type 0
ArePagesOf level [] = Unit {0}
ArePagesOf level (page ∷ pages) = AreWritten level (items_of page) × ArePagesOf level pages

pages-written : (level : ℕ) (pages : List (Page Content)) → AreWritten level (flat_map items_of pages) → ArePagesOf level pages
unfolding ArePagesOf
pages-written level [] all = tt
pages-written level (page ∷ pages) all =
    let parts = AreWritten-split level (items_of page) (flat_map items_of pages) all in
    (parts.0, pages-written level pages parts.1)

above-written : (level : ℕ) (pages : List (Page Content)) → ArePagesOf level pages → AreWritten (suc level) (map item_above pages)
unfolding ArePagesOf AreWritten bytes_on
above-written level [] all = tt
above-written level (page ∷ pages) all =
    let first : IsWrittenOn level page.first = all.0.0 in (
      record { size = first.bound; bound = first.bound; whole_size = first.whole_bound; whole_bound = first.whole_bound; some = first.some },
      above-written level pages all.1,
    )

-- ---- tuples

length-tuple_on : (births : List Birth) (level : ℕ) (item : Item Content) → IsWrittenOn level item → length (tuple_on births level item) ≡ item.size
unfolding bytes_on
length-tuple_on births zero item written = written.size
length-tuple_on births (suc below) item written =
    let size = written.size in
    let bound = written.bound in
    let some = written.some in
    length-with_child (child_block births below item) item.content.separator (omega arith) ∙ size

length-first_tuple_on : (births : List Birth) (level : ℕ) (item : Item Content) → IsWrittenOn level item
    → length (first_tuple_on births level item) ≡ first_size level item
unfolding bytes_on
length-first_tuple_on births zero item written = written.size
length-first_tuple_on births (suc below) item written = length-minus_infinity (child_block births below item)

length-high_key_on : (births : List Birth) (level : ℕ) (item : Item Content) → IsWrittenOn level item
    → length (high_key_on births level item) ≡ item.bound
unfolding bytes_on
length-high_key_on births zero item written = written.bound
length-high_key_on births (suc below) item written =
    let bound = written.bound in
    let some = written.some in
    length-with_child (child_block births below item) item.content.separator (omega arith) ∙ bound

whole-first : (level : ℕ) (item : Item Content) → IsWrittenOn level item → rounded_up 8 (first_size level item) ≡ first_size level item
whole-first zero item written = written.whole_size
whole-first (suc below) item written = refl

space-others : (births : List Birth) (level : ℕ) (items : List (Item Content)) → AreWritten level items
    → space_taken (map (tuple_on births level) items) + 4 * length items ≡ sum_by (λ item. item.size + 4) items
unfolding AreWritten
space-others births level [] all = refl
space-others births level (item ∷ items) all =
    let written : IsWrittenOn level item = all.0 in
    let space : space_of (tuple_on births level item) ≡ item.size =
    ap (rounded_up 8) (length-tuple_on births level item written) ∙ written.whole_size in
    let rest = space-others births level items all.1 in
    let sums = sum_by-cons (λ (item : Item Content). item.size + 4) item items in
    omega arith

space-page : (births : List Birth) (level : ℕ) (page : Page Content) → AreWritten level (items_of page)
    → space_taken (tuples_on births level page) + 4 * length (tuples_on births level page) ≡ taken level (items_of page)
unfolding AreWritten
space-page births level page all =
    let written : IsWrittenOn level page.first = all.0 in
    let space : space_of (first_tuple_on births level page.first) ≡ first_size level page.first =
    ap (rounded_up 8) (length-first_tuple_on births level page.first written) ∙ whole-first level page.first written in
    let rest = space-others births level page.others all.1 in
    let count = length-map page.others (tuple_on births level) in
    omega arith

-- ---- nodes

AreWhole : List Node → Type 0
AreWhole [] = Unit {0}
AreWhole (node ∷ nodes) = (length node.bytes ≡ 8192) × AreWhole nodes

AreWhole-append : (xs ys : List Node) → AreWhole xs → AreWhole ys → AreWhole (xs ++ ys)
unfolding AreWhole
AreWhole-append [] ys first second = second
AreWhole-append (node ∷ xs) ys first second = (first.0, AreWhole-append xs ys first.1 second)

whole-behind : (births : List Birth) (level : ℕ) (root : Bool) (prev : ℕ) (pages : List (Page Content))
    → ArePagesOf level pages → FitOnPages level pages → AreWhole (nodes_behind births level root prev pages)
unfolding AreWhole ArePagesOf AreWritten
whole-behind births level root prev [] all fit = tt
whole-behind births level root prev (page ∷ []) all fit =
    let special : List ℕ = special_space prev 0 level (flags_on level root) in
    let size = length-special_space prev 0 level (flags_on level root) in
    let space = space-page births level page all.0 in
    (length-item_page special (tuples_on births level page) (omega arith) (omega arith), tt)
whole-behind births level root prev (page ∷ next ∷ others) all fit =
    let here = block_on births level page in
    let there = block_on births level next in
    let special : List ℕ = special_space prev there level (flags_on level root) in
    let size = length-special_space prev there level (flags_on level root) in
    let space = space-page births level page all.0 in
    let written : IsWrittenOn level next.first = all.1.0.0 in
    let key : space_of (high_key_on births level next.first) ≡ next.first.bound =
    ap (rounded_up 8) (length-high_key_on births level next.first written) ∙ written.whole_bound in
    let room = fit.0 in (
      length-first_lowest_page special (high_key_on births level next.first) (tuples_on births level page) size (omega arith),
      whole-behind births level root here (next ∷ others) all.1 fit.1,
    )

whole-from : (births : List Birth) (level : ℕ) (items : List (Item Content)) (levels : List (List (Page Content)))
    → AreWritten level items → BeginsWith items levels → EachNamesTheBelow levels → EachLevelFits level levels
    → AreWhole (nodes_from births level levels)
unfolding AreWhole
whole-from births level items [] all begin names fit = tt
whole-from births level items (pages ∷ []) all begin names fit =
    whole-behind births level true 0 pages (pages-written level pages (subst (AreWritten level) (sym begin) all)) fit.0
whole-from births level items (pages ∷ above ∷ others) all begin names fit =
    let written = pages-written level pages (subst (AreWritten level) (sym begin) all) in
    AreWhole-append (nodes_behind births level false 0 pages) (nodes_from births (suc level) (above ∷ others))
    (whole-behind births level false 0 pages written fit.0)
    (whole-from births (suc level) (map item_above pages) (above ∷ others) (above-written level pages written) names.0 names.1 fit.1)

all-written : (items : List (Item Content)) → All IsWritten items → AreWritten 0 items
unfolding AreWritten bytes_on
all-written [] all = tt
all-written (item ∷ items) all =
    let here : IsWritten item = all 0 item (omega arith) in (
      record { size = here.tuple; bound = here.separator; whole_size = here.whole_tuple; whole_bound = here.whole_separator; some = here.some },
      all-written items (λ k d inside. all (suc k) d (omega arith)),
    )

all-whole : (nodes : List Node) → AreWhole nodes → All (λ node. length node.bytes ≡ 8192) nodes
unfolding AreWhole
all-whole [] whole k d inside = absurd (omega arith)
all-whole (node ∷ nodes) whole zero d inside = whole.0
all-whole (node ∷ nodes) whole (suc k) d inside = all-whole nodes whole.1 k d (omega arith)

pub nodes_are_pages : (fillfactor : ℕ) (items : List (Item Content)) → All IsSmall items → All IsWritten items
    → All (λ node. length node.bytes ≡ 8192) (nodes_of (levels fillfactor items))
unfolding nodes_of
nodes_are_pages fillfactor items small written =
    let all = levels fillfactor items in
    all-whole (nodes_of all)
    (whole-from (births_of all) 0 items all (all-written items written) (levels_begin fillfactor items) (levels_name fillfactor items) (pages_fit fillfactor items small))

-- ---- leaf items

whole-tuple : (images : Images) → WritesWhole images → (first : Row) (others : List Row)
    → rounded_up 8 (length (tuple_of_group images (record { first = first; others = others })))
    ≡ length (tuple_of_group images (record { first = first; others = others }))
whole-tuple images whole first [] = whole.plain (first.keys ++ first.extra) first.pointer
whole-tuple images whole first (next ∷ others) = whole.posting first.keys (map (λ row. row.pointer) (first ∷ next ∷ others))

whole-pivot : (images : Images) → WritesWhole images → (left : Option Group) (group : Group)
    → (rounded_up 8 (length (pivot_between images left group)) ≡ length (pivot_between images left group))
    × (8 ≤ length (pivot_between images left group))
whole-pivot images whole None group =
    let size = length-minus_infinity 0 in
    (ap (rounded_up 8) size ∙ sym size, omega arith)
whole-pivot images whole (Some left) group = (whole.pivot (separator left group), whole.some (separator left group))

written-behind : (images : Images) (moment : ℕ) (left : Option Group) (groups : List Group) → WritesWhole images
    → All IsWritten (leaf_items_behind images moment left groups)
written-behind images moment left [] whole k d inside = absurd (omega arith)
written-behind images moment left (group ∷ groups) whole zero d inside =
    let pivot = whole-pivot images whole left group in
    record {
      tuple = refl;
      separator = refl;
      whole_tuple = whole-tuple images whole group.first group.others;
      whole_separator = pivot.0;
      some = pivot.1;
    }
written-behind images moment left (group ∷ groups) whole (suc k) d inside =
    written-behind images (moment + 1) (Some group) groups whole k d (omega arith)

pub leaf_items_written : (images : Images) (shares : Bool) (rows : List Row) → WritesWhole images
    → All IsWritten (leaf_items images shares rows)
unfolding leaf_items
leaf_items_written images shares rows whole =
    written-behind images 1 None (leaf_groups (λ row. length (plain_of images row)) shares rows) whole
