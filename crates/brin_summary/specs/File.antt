-- The BRIN file of the ranges of a heap (brinbuild of brin.c): the meta page, the revmap, and the tuples of the ranges
-- in their order.
use Rattle.std.specs.Prelude.{ℕ, zero, suc, ◌+◌, ◌-◌, ◌*◌, ◌/◌, max, Bool, nat_lt, List, [], ◌∷◌, ◌++◌, length, map, take, drop}
use Rattle.std.specs.List.{flat_map, position_or_len, range_with_len, sum_by}
use Rattle.pg_bytes.specs.PageLayout.{header_size, line_pointer_size}
use Rattle.pg_bytes.specs.declared.row_ptr.RowPtr.{RowPtr}
use Rattle.opclass.specs.declared.types.ColType.{ColType}
use Rattle.brin_summary.specs.Page.{meta_page, regular_page, revmap_items, revmap_page, special_start}
use Rattle.brin_summary.specs.Summary.{RangeSummary}
use Rattle.brin_summary.specs.Tuple.{range_tuple}

-- the tuples of ranges of so many blocks, of which the first begins with a block
abbrev pub tuples_from : List ColType → ℕ → ℕ → List RangeSummary → List (List ℕ)
tuples_from kinds pages_per_range first [] = []
tuples_from kinds pages_per_range first (range ∷ ranges) =
    range_tuple kinds first range ∷ tuples_from kinds pages_per_range (first + pages_per_range) ranges

-- ---- which tuples stand on which page (brin_getinsertbuffer of brin_pageops.c), by their sizes

-- the bytes that tuples of these sizes take with their line pointers
abbrev pub taken : List ℕ → ℕ
taken sizes = sum_by (λ size. size + line_pointer_size) sizes

-- what a page has for tuples and line pointers
abbrev pub page_room : ℕ
page_room = special_start - header_size

-- the tuple behind so many others hasn't room on the page that they begin
abbrev pub breaks : List ℕ → ℕ → Bool
breaks sizes count = nat_lt page_room (taken (take (suc count) sizes))

-- how many of the tuples the first page takes: those before the least that breaks it, where one at least is on a page
abbrev pub page_count : List ℕ → ℕ
page_count sizes = suc (position_or_len (breaks sizes) (range_with_len 1 (length sizes - 1)))

-- how many tuples each page takes, of at most so many pages
abbrev pub counts_within : ℕ → List ℕ → List ℕ
counts_within zero sizes = []
counts_within (suc bound) [] = []
counts_within (suc bound) (size ∷ sizes) =
    page_count (size ∷ sizes) ∷ counts_within bound (drop (page_count (size ∷ sizes)) (size ∷ sizes))

-- each page has a tuple, so there are no more pages than tuples
unfoldable pub page_counts : List ℕ → List ℕ
page_counts sizes = counts_within (length sizes) sizes

-- a list cut into parts of these lengths
abbrev pub parts : {X : Type 0} → List ℕ → List X → List (List X)
parts [] items = []
parts (count ∷ counts) items = take count items ∷ parts counts (drop count items)

-- the tuples of each page
unfoldable pub pages_of : List (List ℕ) → List (List (List ℕ))
pages_of tuples = parts (page_counts (map length tuples)) tuples

-- ---- where the tuples are

-- the pointers to so many tuples of a page
abbrev pub pointers_to : ℕ → ℕ → List RowPtr
pointers_to block count = map (λ offset. record { block = block; offset = offset }) (range_with_len 1 count)

-- the pointers to the tuples of pages with so many each, from a block on
abbrev pub pointers_from : ℕ → List ℕ → List RowPtr
pointers_from block [] = []
pointers_from block (count ∷ counts) = pointers_to block count ++ pointers_from (block + 1) counts

-- how many pages the revmap of so many ranges has; without ranges it has one
abbrev pub revmap_pages : ℕ → ℕ
revmap_pages ranges = max 1 ((ranges + (revmap_items - 1)) / revmap_items)

-- the pointers on a page of the revmap, counted from 0
abbrev pub pointers_on : List RowPtr → ℕ → List RowPtr
pointers_on pointers page = take revmap_items (drop (revmap_items * page) pointers)

-- the revmap of so many pages
unfoldable pub revmap_of : ℕ → List RowPtr → List ℕ
revmap_of pages pointers = flat_map (λ page. revmap_page (pointers_on pointers page)) (range_with_len 0 pages)

-- the file: the meta page is block 0, the revmap begins with block 1, and regular pages follow
unfoldable pub brin_file : List ColType → ℕ → List RangeSummary → List ℕ
brin_file kinds pages_per_range ranges =
    let tuples = tuples_from kinds pages_per_range 0 ranges in
    let revmap = revmap_pages (length ranges) in
    meta_page pages_per_range revmap
    ++ (revmap_of revmap (pointers_from (1 + revmap) (page_counts (map length tuples)))
    ++ flat_map regular_page (pages_of tuples))
