-- Pages of a posting tree, as they are seen, and the reading of a tree that was put.
use Rattle.std.proofs.Common.{◌≡◌, ℕ, ◌+◌, ◌-◌, ◌*◌, ◌/◌, ◌%◌, ◌^◌, ◌<◌, ◌≤◌, inl, inr, ◌⊎◌, false, List, [], ◌∷◌, ◌++◌, length, map, take, drop, refl, sym, ap, subst, ◌∙◌, arith, length-append}
use Rattle.std.specs.Prelude.{Option, nat_eq, slice_range}
use Rattle.std.specs.List.{AllByRecursion, AllZip, flat_map, range_with_len}
use Rattle.std.proofs.lemmas.Bool.Decides.{nat_tests}
use Rattle.std.proofs.lemmas.List.{append_assoc, append-nil, drop_at, take_at}
use Rattle.pg_bytes.proofs.ItemPage.{length-page_header, lower_of-page_header, number_at-first, number_at-past}
use Rattle.pg_bytes.proofs.Writes.{length-number_bytes, length-zeros}
use Rattle.pg_bytes.specs.Blocks.{block_at, block_count}
use Rattle.pg_bytes.specs.Numbers.{number_at, number_bytes}
use Rattle.pg_bytes.specs.PageLayout.{lower_of, page_header, page_size}
use Rattle.pg_bytes.specs.Places.{zeros}
use Rattle.pg_bytes.specs.Pointers.{row_pointer_bytes}
use Rattle.pg_bytes.specs.declared.row_ptr.RowPtr.{RowPtr}
use Rattle.posting_tree.proofs.DataWrites.{length-data_page}
use Rattle.posting_tree.proofs.InnerSteps.{fill-inner, length-items}
use Rattle.posting_tree.proofs.LeafSteps.{ascending-back, fill-content}
use Rattle.posting_tree.proofs.Lists.{all-append, all-back, all-front, flat-append}
use Rattle.posting_tree.proofs.Segments.{length-row_pointer}
use Rattle.posting_tree.proofs.TreeReading.{trees-are-read}
use Rattle.posting_tree.proofs.TreeSteps.{length-nodes}
use Rattle.posting_tree.specs.Building.{bytes_of}
use Rattle.posting_tree.specs.Laws.{IsSeenAbove}
use Rattle.posting_tree.specs.Levels.{AreAbove, AreLevel, Downlink, IsEmptyRoot, IsPage, IsRootOf, Kind, Node, Page, Tree, first_block, items_of, no_link, nodes_linked, nodes_of, nodes_of_level, to_say}
use Rattle.posting_tree.specs.PostingTree.{AddsTree, IsPostingTree, IsReadAs, data_page, data_sight, inner_flags, inner_image, inner_kind, leaf_flags, leaf_kind, posting_item}
use Rattle.posting_tree.specs.Reading.{StandIn}
use Rattle.posting_tree.specs.Reading.Sight.{SeenInner, SeenLeaf}
use Rattle.posting_tree.specs.Segments.{AreAscending, AreSegmentsOf, HaveBlocks, IsPart, segment}
use Rattle.posting_tree.specs.Special.{flags_of, maxoff_of, right_of, special_space}

-- ---- what a page says

-- a number between two parts
number-between : (width x : ℕ) (front rest : List ℕ) (place : ℕ) → length front ≡ place → x < 256 ^ width
    → number_at width (front ++ (number_bytes width x ++ rest)) place ≡ x
number-between width x front rest place here fits = number_at-past width front (number_bytes width x ++ rest) place here ∙ number_at-first width x rest fits

-- the parts of a page: what stands up to the content, the content, and what stands behind it
pub record Parts (flags maxoff right : ℕ) (content page : List ℕ) : Type 0 where
  pub front : List ℕ
  pub gap : List ℕ
  pub front_size : length front ≡ 32
  pub gap_size : length gap ≡ 8152 - length content
  pub page_is : page ≡ front ++ (content ++ (gap ++ special_space right maxoff flags))

pub page-parts : (flags maxoff right : ℕ) (bound : RowPtr) (content : List ℕ) → Parts flags maxoff right content (data_page flags maxoff right bound content)
unfolding data_page
page-parts flags maxoff right bound content =
    let header : List ℕ = page_header (32 + length content) 8184 8184 in
    let six = length-row_pointer bound in
    let two = length-zeros 2 in
    let head = length-page_header (32 + length content) 8184 8184 in
    record {
      front = header ++ (row_pointer_bytes bound ++ zeros 2);
      gap = zeros (8152 - length content);
      front_size = length-append header (row_pointer_bytes bound ++ zeros 2)
          ∙ ap (λ (n : ℕ). length header + n) (length-append (row_pointer_bytes bound) (zeros 2)) ∙ omega arith;
      gap_size = length-zeros (8152 - length content);
      page_is = simp append_assoc refl;
    }

whole-size : (flags maxoff right : ℕ) (content page : List ℕ) (p : Parts flags maxoff right content page) → length content ≤ 8152
    → length (p.front ++ (content ++ p.gap)) ≡ 8184
whole-size flags maxoff right content page p fits =
    let front = p.front_size in
    let gap = p.gap_size in
    length-append p.front (content ++ p.gap) ∙ ap (λ (n : ℕ). length p.front + n) (length-append content p.gap) ∙ omega arith

pub right-told : (flags maxoff right : ℕ) (content page : List ℕ) → Parts flags maxoff right content page → length content ≤ 8152 → right < 2 ^ 32
    → right_of page ≡ right
unfolding special_space
right-told flags maxoff right content page p fits small =
    let whole : List ℕ = p.front ++ (content ++ p.gap) in
    let rest : List ℕ = number_bytes 2 maxoff ++ number_bytes 2 flags in
    let is : page ≡ whole ++ (number_bytes 4 right ++ rest) = p.page_is ∙ simp append_assoc refl in
    ap (λ (b : List ℕ). number_at 4 b 8184) is ∙ number-between 4 right whole rest 8184 (whole-size flags maxoff right content page p fits) (omega arith)

pub maxoff-told : (flags maxoff right : ℕ) (content page : List ℕ) → Parts flags maxoff right content page → length content ≤ 8152 → maxoff < 2 ^ 16
    → maxoff_of page ≡ maxoff
unfolding special_space
maxoff-told flags maxoff right content page p fits small =
    let whole : List ℕ = p.front ++ (content ++ p.gap) in
    let four = length-number_bytes 4 right in
    let size = whole-size flags maxoff right content page p fits in
    let is : page ≡ (whole ++ number_bytes 4 right) ++ (number_bytes 2 maxoff ++ number_bytes 2 flags) = p.page_is ∙ simp append_assoc refl in
    ap (λ (b : List ℕ). number_at 2 b 8188) is
    ∙ number-between 2 maxoff (whole ++ number_bytes 4 right) (number_bytes 2 flags) 8188 (length-append whole (number_bytes 4 right) ∙ omega arith) (omega arith)

pub flags-told : (flags maxoff right : ℕ) (content page : List ℕ) → Parts flags maxoff right content page → length content ≤ 8152 → flags < 2 ^ 16
    → flags_of page ≡ flags
unfolding special_space
flags-told flags maxoff right content page p fits small =
    let whole : List ℕ = p.front ++ (content ++ p.gap) in
    let four = length-number_bytes 4 right in
    let two = length-number_bytes 2 maxoff in
    let size = whole-size flags maxoff right content page p fits in
    let front : List ℕ = (whole ++ number_bytes 4 right) ++ number_bytes 2 maxoff in
    let is : page ≡ front ++ (number_bytes 2 flags ++ []) = p.page_is ∙ simp (append_assoc, append-nil) refl in
    ap (λ (b : List ℕ). number_at 2 b 8190) is
    ∙ number-between 2 flags front [] 8190
    (length-append (whole ++ number_bytes 4 right) (number_bytes 2 maxoff) ∙ ap (λ (n : ℕ). n + length (number_bytes 2 maxoff)) (length-append whole (number_bytes 4 right)) ∙ omega arith)
    (omega arith)

lower-told : (flags maxoff right : ℕ) (bound : RowPtr) (content : List ℕ) → length content ≤ 8152 → lower_of (data_page flags maxoff right bound content) ≡ 32 + length content
unfolding data_page
lower-told flags maxoff right bound content fits = lower_of-page_header (32 + length content) 8184 8184 _ (omega arith)

content-told : (flags maxoff right : ℕ) (content page : List ℕ) → Parts flags maxoff right content page → slice_range page 32 (32 + length content) ≡ content
content-told flags maxoff right content page p =
    let rest : List ℕ = p.gap ++ special_space right maxoff flags in
    let count : 32 + length content - 32 ≡ length content = omega arith in
    ap (λ (n : ℕ). take n (drop 32 page)) count
    ∙ ap (λ (b : List ℕ). take (length content) (drop 32 b)) p.page_is
    ∙ ap (take (length content)) (drop_at p.front (content ++ rest) 32 p.front_size)
    ∙ take_at content rest (length content) refl

-- ---- what is seen of a page

pub leaf-seen : (right : ℕ) (bound : RowPtr) (content : List ℕ) → length content ≤ 8152 → right ≤ no_link
    → data_sight (data_page leaf_flags 0 right bound content) ≡ SeenLeaf right content
leaf-seen right bound content fits small =
    let page : List ℕ = data_page leaf_flags 0 right bound content in
    let p = page-parts leaf_flags 0 right bound content in
    let flags = flags-told leaf_flags 0 right content page p fits (omega arith) in
    let link = right-told leaf_flags 0 right content page p fits (omega arith) in
    let lower = lower-told leaf_flags 0 right bound content fits in
    let told = content-told leaf_flags 0 right content page p in
    rw (flags, link, lower, told) refl

-- the child of the first item
child-told : (flags maxoff right : ℕ) (link : Downlink RowPtr) (links : List (Downlink RowPtr)) (page : List ℕ)
    → Parts flags maxoff right (flat_map posting_item (link ∷ links)) page → link.child < 2 ^ 32
    → number_at 2 page 32 * 2 ^ 16 + number_at 2 page 34 ≡ link.child
unfolding posting_item
child-told flags maxoff right link links page p small =
    let high : List ℕ = number_bytes 2 (link.child / 2 ^ 16) in
    let low : List ℕ = number_bytes 2 (link.child % 2 ^ 16) in
    let key : List ℕ = row_pointer_bytes link.key in
    let others : List ℕ = flat_map posting_item links in
    let tail : List ℕ = p.gap ++ special_space right maxoff flags in
    let two = length-number_bytes 2 (link.child / 2 ^ 16) in
    let front = p.front_size in
    let is : page ≡ p.front ++ (high ++ (low ++ (key ++ (others ++ tail)))) = p.page_is ∙ simp append_assoc refl in
    let is' : page ≡ (p.front ++ high) ++ (low ++ (key ++ (others ++ tail))) = p.page_is ∙ simp append_assoc refl in
    let a : number_at 2 page 32 ≡ link.child / 2 ^ 16 =
    ap (λ (b : List ℕ). number_at 2 b 32) is ∙ number-between 2 (link.child / 2 ^ 16) p.front (low ++ (key ++ (others ++ tail))) 32 front (omega arith) in
    let b : number_at 2 page 34 ≡ link.child % 2 ^ 16 =
    ap (λ (b : List ℕ). number_at 2 b 34) is'
    ∙ number-between 2 (link.child % 2 ^ 16) (p.front ++ high) (key ++ (others ++ tail)) 34 (length-append p.front high ∙ omega arith) (omega arith) in
    omega arith

some-false : (n : ℕ) → 0 < n → nat_eq n 0 ≡ false
some-false n h = grind (arith, nat_tests)

pub inner-seen : (right : ℕ) (bound : RowPtr) (link : Downlink RowPtr) (links : List (Downlink RowPtr)) → length (link ∷ links) ≤ 815 → right ≤ no_link
    → link.child < 2 ^ 32
    → data_sight (data_page inner_flags (length (link ∷ links)) right bound (flat_map posting_item (link ∷ links))) ≡ SeenInner link.child
inner-seen right bound link links few small child_small =
    let content : List ℕ = flat_map posting_item (link ∷ links) in
    let size = length-items (link ∷ links) in
    let fits : length content ≤ 8152 = omega arith in
    let page : List ℕ = data_page inner_flags (length (link ∷ links)) right bound content in
    let p = page-parts inner_flags (length (link ∷ links)) right bound content in
    let flags = flags-told inner_flags (length (link ∷ links)) right content page p fits (omega arith) in
    let count = maxoff-told inner_flags (length (link ∷ links)) right content page p fits (omega arith) in
    let child = child-told inner_flags (length (link ∷ links)) right link links page p child_small in
    let some = some-false (length (link ∷ links)) (omega arith) in
    rw (flags, count, some, child) refl

-- ---- the pages of a tree

pub all-pages : {Item Key : Type 0} (kind : Kind Item Key) (pages : List (Page Item)) → AreLevel kind pages → AllByRecursion (IsPage kind) pages
all-pages kind [] level = tt
all-pages kind (page ∷ []) level = (level, tt)
all-pages kind (page ∷ next ∷ pages) level = (level.0, all-pages kind (next ∷ pages) level.2)

pub all-levels : {Key : Type 0} (inner : Kind (Downlink Key) Key) (below : List (ℕ × Option Key)) (above : List (List (Page (Downlink Key))))
    → AreAbove inner below above → AllByRecursion (AllByRecursion (IsPage inner)) above
all-levels inner below [] a = tt
all-levels inner below (pages ∷ above) a = (all-pages inner pages a.2.0, all-levels inner (map (to_say inner) pages) above a.2.1)

-- a leaf's content has room
leaf-room : (page : Page (List RowPtr)) → IsPage leaf_kind page → length (flat_map segment page.items) ≤ 8152
leaf-room page is = let room = is.room in let e = fill-content page.items in omega arith

inner-room : (page : Page (Downlink RowPtr)) → IsPage inner_kind page → length page.items ≤ 815
inner-room page is = let room = is.room in let e = fill-inner page.items in omega arith

inner-content : (page : Page (Downlink RowPtr)) → IsPage inner_kind page → length (flat_map posting_item page.items) ≤ 8152
inner-content page is = let few = inner-room page is in let e = length-items page.items in omega arith

-- each page has 8,192 bytes
sized-leaves : (link : ℕ) (pages : List (Page (List RowPtr))) → AllByRecursion (IsPage leaf_kind) pages
    → AllByRecursion (λ node. length node.bytes ≡ 8192) (nodes_linked leaf_kind link pages)
sized-leaves link [] all = tt
sized-leaves link (page ∷ pages) all =
    (length-data_page leaf_flags 0 (first_block link pages) _ (flat_map segment page.items) (leaf-room page all.0), sized-leaves link pages all.1)

sized-inner : (link : ℕ) (pages : List (Page (Downlink RowPtr))) → AllByRecursion (IsPage inner_kind) pages
    → AllByRecursion (λ node. length node.bytes ≡ 8192) (nodes_linked inner_kind link pages)
sized-inner link [] all = tt
sized-inner link (page ∷ pages) all =
    (length-data_page inner_flags (length page.items) (first_block link pages) _ (flat_map posting_item page.items) (inner-content page all.0), sized-inner link pages all.1)

sized-above : (above : List (List (Page (Downlink RowPtr)))) → AllByRecursion (AllByRecursion (IsPage inner_kind)) above
    → AllByRecursion (λ node. length node.bytes ≡ 8192) (flat_map (nodes_of_level inner_kind) above)
sized-above [] all = tt
sized-above (pages ∷ above) all =
    all-append (λ node. length node.bytes ≡ 8192) (nodes_of_level inner_kind pages) (flat_map (nodes_of_level inner_kind) above)
    (sized-inner no_link pages all.0) (sized-above above all.1)

-- ---- pages behind each other stand in the file

stand-behind : (file front : List ℕ) (nodes : List Node) (first : ℕ) → file ≡ front ++ bytes_of nodes → length front ≡ first * 8192
    → map (λ node. node.block) nodes ≡ range_with_len first (length nodes) → AllByRecursion (λ node. length node.bytes ≡ 8192) nodes → StandIn file nodes
unfolding block_at
stand-behind file front [] first is size blocks sized = tt
stand-behind file front (node ∷ nodes) first is size blocks sized =
    let at : node.block ≡ first = cc in
    let rest : map (λ (n : Node). n.block) nodes ≡ range_with_len (first + 1) (length nodes) = cc in
    let here : take page_size (drop (page_size * node.block) file) ≡ node.bytes =
    ap (λ (f : List ℕ). take page_size (drop (page_size * node.block) f)) is
    ∙ ap (take page_size) (drop_at front (node.bytes ++ bytes_of nodes) (page_size * node.block) (omega (arith, size, at)))
    ∙ take_at node.bytes (bytes_of nodes) page_size sized.0 in (
      here,
      stand-behind file (front ++ node.bytes) nodes (first + 1) (is ∙ sym (append_assoc front node.bytes (bytes_of nodes)))
          (let e = sized.0 in length-append front node.bytes ∙ omega arith) rest sized.1,
    )

-- their blocks are those of the file
inside-range : (nodes : List Node) (first limit : ℕ) → map (λ node. node.block) nodes ≡ range_with_len first (length nodes) → first + length nodes ≤ limit
    → AllByRecursion (λ node. node.block < limit) nodes
inside-range [] first limit blocks fits = tt
inside-range (node ∷ nodes) first limit blocks fits =
    let at : node.block ≡ first = cc in
    let rest : map (λ (n : Node). n.block) nodes ≡ range_with_len (first + 1) (length nodes) = cc in
    (omega arith, inside-range nodes (first + 1) limit rest (omega arith))

length-bytes : (nodes : List Node) → AllByRecursion (λ node. length node.bytes ≡ 8192) nodes → length (bytes_of nodes) ≡ length nodes * 8192
length-bytes [] sized = refl
length-bytes (node ∷ nodes) sized =
    let here = sized.0 in
    let rest = length-bytes nodes sized.1 in
    length-append node.bytes (bytes_of nodes) ∙ omega arith

-- ---- what is seen of a tree's pages

seen-leaves : (pages : List (Page (List RowPtr))) → AllByRecursion (IsPage leaf_kind) pages
    → AllByRecursion (λ page. (right : ℕ) → right ≤ no_link → data_sight (leaf_kind.image right page.items) ≡ SeenLeaf right (flat_map segment page.items)) pages
seen-leaves [] all = tt
seen-leaves (page ∷ pages) all =
    (λ right small. leaf-seen right _ (flat_map segment page.items) (leaf-room page all.0) small, seen-leaves pages all.1)

seen-page : (page : Page (Downlink RowPtr)) → IsPage inner_kind page → IsSeenAbove data_sight inner_kind page
seen-page page is right link links small child are =
    let few : length (link ∷ links) ≤ 815 = subst (λ (l : List (Downlink RowPtr)). length l ≤ 815) are (inner-room page is) in
    ap (λ (l : List (Downlink RowPtr)). data_sight (inner_image right l)) are ∙ inner-seen right _ link links few small (omega arith)

seen-pages : (pages : List (Page (Downlink RowPtr))) → AllByRecursion (IsPage inner_kind) pages → AllByRecursion (IsSeenAbove data_sight inner_kind) pages
seen-pages [] all = tt
seen-pages (page ∷ pages) all = (seen-page page all.0, seen-pages pages all.1)

seen-levels : (above : List (List (Page (Downlink RowPtr)))) → AllByRecursion (AllByRecursion (IsPage inner_kind)) above
    → AllByRecursion (AllByRecursion (IsSeenAbove data_sight inner_kind)) above
seen-levels [] all = tt
seen-levels (pages ∷ above) all = (seen-pages pages all.0, seen-levels above all.1)

-- ---- the pointers of each leaf

abbrev flat : List (List RowPtr) → List RowPtr
flat parts = flat_map (λ part. part) parts

ascending-front : (front back : List RowPtr) → AreAscending (front ++ back) → AreAscending front
ascending-front [] back a = tt
ascending-front (ptr ∷ []) back a = (a.0, tt, tt)
ascending-front (ptr ∷ next ∷ front) back a = (a.0, a.1, ascending-front (next ∷ front) back a.2)

zip-leaves : (pages : List (Page (List RowPtr))) → AreAscending (flat (items_of pages)) → HaveBlocks (flat (items_of pages))
    → AllByRecursion IsPart (items_of pages)
    → AllZip AreSegmentsOf (map (λ page. flat page.items) pages) (map (λ page. flat_map segment page.items) pages)
zip-leaves [] a b parts = tt
zip-leaves (page ∷ pages) a b parts =
    let cut : flat (page.items ++ items_of pages) ≡ flat page.items ++ flat (items_of pages) = flat-append (λ (part : List RowPtr). part) page.items (items_of pages) in
    let ascending : AreAscending (flat page.items ++ flat (items_of pages)) = subst AreAscending cut a in
    let blocks : HaveBlocks (flat page.items ++ flat (items_of pages)) = subst HaveBlocks cut b in (
      record {
        ascending = ascending-front (flat page.items) (flat (items_of pages)) ascending;
        blocks = all-front (λ ptr. ptr.block < 2 ^ 32) (flat page.items) (flat (items_of pages)) blocks;
        parts = page.items;
        each = all-front IsPart page.items (items_of pages) parts;
        whole = refl;
        bytes_are = refl;
      },
      zip-leaves pages (ascending-back (flat page.items) (flat (items_of pages)) ascending)
          (all-back (λ ptr. ptr.block < 2 ^ 32) (flat page.items) (flat (items_of pages)) blocks) (all-back IsPart page.items (items_of pages) parts),
    )

flat-leaves : (pages : List (Page (List RowPtr))) → flat (items_of pages) ≡ flat (map (λ page. flat page.items) pages)
flat-leaves [] = refl
flat-leaves (page ∷ pages) =
    flat-append (λ (part : List RowPtr). part) page.items (items_of pages)
    ∙ ap (λ (l : List RowPtr). flat page.items ++ l) (flat-leaves pages)

-- ---- how many pages there are

some-pages : {Item Key : Type 0} (kind : Kind Item Key) (pages : List (Page Item)) → AreLevel kind pages → 0 < length pages
some-pages kind [] level = absurd level
some-pages kind (page ∷ pages) level = omega arith

levels-nodes : (below : List (ℕ × Option RowPtr)) (above : List (List (Page (Downlink RowPtr)))) → AreAbove inner_kind below above
    → length above ≤ length (flat_map (nodes_of_level inner_kind) above)
levels-nodes below [] a = omega arith
levels-nodes below (pages ∷ above) a =
    let some = some-pages inner_kind pages a.2.0 in
    let here = length-nodes inner_kind no_link pages in
    let rest = levels-nodes (map (to_say inner_kind) pages) above a.2.1 in
    let e = length-append (nodes_of_level inner_kind pages) (flat_map (nodes_of_level inner_kind) above) in
    omega arith

-- a tree of some pointers has leaves with items
not-empty : (tree : Tree (List RowPtr) RowPtr) (ptrs : List RowPtr) → AreLevel leaf_kind tree.leaves ⊎ IsEmptyRoot tree.leaves
    → ptrs ≡ flat (items_of tree.leaves) → 0 < length ptrs → AreLevel leaf_kind tree.leaves
not-empty tree ptrs (inl level) whole some = level
not-empty tree ptrs (inr empty) whole some =
    let none : flat (items_of tree.leaves) ≡ [] =
    ap (λ (l : List (Page (List RowPtr))). flat (items_of l)) empty.alone ∙ ap (λ (i : List (List RowPtr)). flat (i ++ [])) empty.empty in
    let e = ap length (whole ∙ none) in
    absurd (omega arith)

-- ---- a posting tree that stands in a file is read as its pointers

leaf-level : (tree : Tree (List RowPtr) RowPtr) (ptrs : List RowPtr) → IsPostingTree tree ptrs → 0 < length ptrs → AreLevel leaf_kind tree.leaves
leaf-level tree ptrs is some = not-empty tree ptrs is.levels.leaves is.whole some

inner-levels : (tree : Tree (List RowPtr) RowPtr) (ptrs : List RowPtr) → IsPostingTree tree ptrs → AllByRecursion (AllByRecursion (IsPage inner_kind)) tree.above
inner-levels tree ptrs is = all-levels inner_kind (map (to_say leaf_kind) tree.leaves) tree.above is.levels.above

-- each of its pages has 8,192 bytes
pub nodes-sized : (tree : Tree (List RowPtr) RowPtr) (ptrs : List RowPtr) → IsPostingTree tree ptrs → 0 < length ptrs
    → AllByRecursion (λ node. length node.bytes ≡ 8192) (nodes_of leaf_kind inner_kind tree)
nodes-sized tree ptrs is some =
    all-append (λ node. length node.bytes ≡ 8192) (nodes_of_level leaf_kind tree.leaves) (flat_map (nodes_of_level inner_kind) tree.above)
    (sized-leaves no_link tree.leaves (all-pages leaf_kind tree.leaves (leaf-level tree ptrs is some)))
    (sized-above tree.above (inner-levels tree ptrs is))

pub standing-is-read : (file : List ℕ) (tree : Tree (List RowPtr) RowPtr) (root : ℕ) (ptrs : List RowPtr) → IsPostingTree tree ptrs → IsRootOf tree root
    → StandIn file (nodes_of leaf_kind inner_kind tree)
    → AllByRecursion (λ node. node.block < block_count file) (nodes_of leaf_kind inner_kind tree)
    → length (nodes_of leaf_kind inner_kind tree) ≤ block_count file → block_count file ≤ no_link → 0 < length ptrs → AreAscending ptrs → HaveBlocks ptrs
    → IsReadAs file root ptrs
standing-is-read file tree root ptrs is root_is stand inside few linked some ascending have =
    let level : AreLevel leaf_kind tree.leaves = leaf-level tree ptrs is some in
    let above : AreAbove inner_kind (map (to_say leaf_kind) tree.leaves) tree.above = is.levels.above in
    let parts = length-append (nodes_of_level leaf_kind tree.leaves) (flat_map (nodes_of_level inner_kind) tree.above) in
    let leaf_count = length-nodes leaf_kind no_link tree.leaves in
    let some_leaves = some-pages leaf_kind tree.leaves level in
    let some_levels = levels-nodes (map (to_say leaf_kind) tree.leaves) tree.above above in
    let read = trees-are-read data_sight (λ (items : List (List RowPtr)). flat_map segment items) leaf_kind inner_kind file tree root is.levels root_is
    (record {
      stand = stand;
      inside = inside;
      linked = linked;
      leaves = omega arith;
      levels = omega arith;
      seen_leaves = seen-leaves tree.leaves (all-pages leaf_kind tree.leaves level);
      seen_above = seen-levels tree.above (inner-levels tree ptrs is);
    }) in
    record {
      contents = map (λ page. flat_map segment page.items) tree.leaves;
      found = read;
      lists = map (λ page. flat page.items) tree.leaves;
      each = zip-leaves tree.leaves (subst AreAscending is.whole ascending) (subst HaveBlocks is.whole have) is.parts;
      whole = is.whole ∙ flat-leaves tree.leaves;
      ascending = ascending;
    }

-- ---- a tree that was put

-- how many blocks there are more
pub added-count : (old new : List ℕ) (root : ℕ) (ptrs : List RowPtr) (t : AddsTree old new root ptrs) → block_count old * 8192 ≡ length old → 0 < length ptrs
    → block_count new ≡ block_count old + length (nodes_of leaf_kind inner_kind t.tree)
added-count old new root ptrs t pages some =
    let nodes : List Node = nodes_of leaf_kind inner_kind t.tree in
    let bytes = length-bytes nodes (nodes-sized t.tree ptrs t.is_tree some) in
    let total = ap length t.bytes ∙ length-append old (bytes_of nodes) in
    omega arith

-- its pages stand in the new file, on the blocks behind the old ones
pub added-stands : (old new : List ℕ) (root : ℕ) (ptrs : List RowPtr) (t : AddsTree old new root ptrs) → block_count old * 8192 ≡ length old → 0 < length ptrs
    → StandIn new (nodes_of leaf_kind inner_kind t.tree)
added-stands old new root ptrs t pages some =
    stand-behind new old (nodes_of leaf_kind inner_kind t.tree) (block_count old) t.bytes (sym pages) t.blocks (nodes-sized t.tree ptrs t.is_tree some)

pub added-inside : (old new : List ℕ) (root : ℕ) (ptrs : List RowPtr) (t : AddsTree old new root ptrs) → block_count old * 8192 ≡ length old → 0 < length ptrs
    → AllByRecursion (λ node. node.block < block_count new) (nodes_of leaf_kind inner_kind t.tree)
added-inside old new root ptrs t pages some =
    let count = added-count old new root ptrs t pages some in
    inside-range (nodes_of leaf_kind inner_kind t.tree) (block_count old) (block_count new) t.blocks (omega arith)

pub added-is-read : (old new : List ℕ) (root : ℕ) (ptrs : List RowPtr) → AddsTree old new root ptrs → block_count old * 8192 ≡ length old
    → length new < 2 ^ 44 → 0 < length ptrs → AreAscending ptrs → HaveBlocks ptrs → IsReadAs new root ptrs
added-is-read old new root ptrs t pages small some ascending have =
    let count = added-count old new root ptrs t pages some in
    standing-is-read new t.tree root ptrs t.is_tree t.root_is (added-stands old new root ptrs t pages some) (added-inside old new root ptrs t pages some)
    (omega arith) (omega arith) some ascending have

-- the pointers that are read have blocks in four bytes
pub read-blocks : (file : List ℕ) (root : ℕ) (ptrs : List RowPtr) → IsReadAs file root ptrs → HaveBlocks ptrs
read-blocks file root ptrs r = subst HaveBlocks (sym r.whole) (by_lists r.lists r.contents r.each)
  where
    by_lists : (lists : List (List RowPtr)) (contents : List (List ℕ)) → AllZip AreSegmentsOf lists contents → HaveBlocks (flat lists)
    by_lists [] contents each = tt
    by_lists (list ∷ lists) [] each = absurd each
    by_lists (list ∷ lists) (content ∷ contents) each =
        all-append (λ ptr. ptr.block < 2 ^ 32) list (flat lists) each.0.blocks (by_lists lists contents each.1)
