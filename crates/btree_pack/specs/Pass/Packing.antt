-- What the packer keeps of the open tower: of each level its open page (BTPageState of nbtsort.c), as bytes. Pages that
-- are full stand in the image and are forgotten.
use Rattle.std.specs.Prelude.{◌≡◌, ℕ, zero, suc, ◌+◌, ◌%◌, ◌<◌, ◌≤◌, ◌^◌, Bool, true, false, nat_lt, ◌||◌, if◌then◌else◌, List, [], ◌∷◌, ◌++◌, length, take, All, Option, Some, None}
use Rattle.std.specs.List.{sum_by}
use Rattle.pg_bytes.specs.Image.{placed}
use Rattle.pg_bytes.specs.Numbers.{number_bytes}
use Rattle.pg_bytes.specs.PageLayout.{line_pointer_size, page_size}
use Rattle.btree_pack.specs.Break.{page_room, soft_limit, spare, minus_infinity_size}
use Rattle.btree_pack.specs.Nodes.{Root, flags_on}
use Rattle.btree_page.specs.Node.{bounded_page, rightmost_page}
use Rattle.btree_item.specs.Pivot.{minus_infinity}
use Rattle.btree_pack.specs.Tuple.{with_child}

-- The open page of a level: its block and its left neighbour's, 0 for none; its low key, which is its left neighbour's
-- high key (btps_lowkey); its tuples, the last apart, which may yet begin the next page; and how much of the last is its
-- list of row pointers (btps_lastextra).
pub record PageState : Type 0 where
  pub level : ℕ
  pub block : ℕ
  pub prev : ℕ
  pub low_key : List ℕ
  pub before : List (List ℕ)
  pub last : List ℕ
  pub extra : ℕ

-- the open pages, leaves first, how many leaf tuples came, how many blocks are given, and the pages that are finished,
-- at their blocks
pub record Packing : Type 0 where
  pub pages : List PageState
  pub tuples : ℕ
  pub blocks : ℕ
  pub image : List ℕ

-- what tuples take on a page with their line pointers
abbrev pub room_of : List (List ℕ) → ℕ
room_of tuples = sum_by (λ tuple. length tuple + line_pointer_size) tuples

-- what the tuples of an open page take
abbrev pub used : PageState → ℕ
used page = room_of page.before + (length page.last + line_pointer_size)

-- whether a tuple of this size breaks a page of a level that has two tuples, which take so many bytes, and the list of
-- the last one so many of them
abbrev pub breaks_at : ℕ → ℕ → ℕ → ℕ → ℕ → Bool
breaks_at fillfactor level taken extra size =
    nat_lt page_room (taken + (size + spare level)) || nat_lt (page_room + extra) (taken + soft_limit fillfactor level)

-- whether a tuple of this size breaks the open page, which has two tuples then
abbrev pub is_full : ℕ → PageState → ℕ → Bool
is_full fillfactor page size = elim page.before [
  | [] ↦ false
  | first ∷ others ↦ breaks_at fillfactor page.level (used page) page.extra size
]

-- a tuple as the first of a page: above the leaves minus infinity with its child
abbrev pub first_form : ℕ → List ℕ → List ℕ
first_form zero tuple = tuple
first_form (suc below) tuple = take 4 tuple ++ (number_bytes 2 0 ++ number_bytes 2 (0x2000 + minus_infinity_size))

-- the first page of a level
abbrev pub first_page : ℕ → ℕ → List ℕ → List ℕ → ℕ → PageState
first_page level block low_key tuple extra = record {
  level = level;
  block = block;
  prev = 0;
  low_key = low_key;
  before = [];
  last = first_form level tuple;
  extra = extra;
}

-- a page with one tuple more
abbrev pub with_tuple : List ℕ → ℕ → PageState → PageState
with_tuple tuple extra page = record page { before = page.before ++ page.last ∷ []; last = tuple; extra = extra }

-- the page behind one that is finished with a high key: the last tuple goes over to it
abbrev pub next_page : ℕ → List ℕ → PageState → PageState
next_page block high_key page = record {
  level = page.level;
  block = block;
  prev = page.block;
  low_key = high_key;
  before = [];
  last = first_form page.level page.last;
  extra = page.extra;
}

-- the bytes of a page that is finished with a high key
abbrev pub finished_bytes : ℕ → List ℕ → PageState → List ℕ
finished_bytes next high_key page =
    bounded_page page.prev next page.level (flags_on page.level false) high_key page.before

-- those of the last page of a level
abbrev pub last_bytes : Bool → PageState → List ℕ
last_bytes root page = rightmost_page page.prev page.level (flags_on page.level root) (page.before ++ page.last ∷ [])

-- the tuple that a page has on the level above
abbrev pub pivot_of : PageState → List ℕ
pivot_of page = with_child page.block page.low_key

-- the open pages from a level on, the blocks and the image once a tuple came there
pub record Carried : Type 0 where
  pub pages : List PageState
  pub blocks : ℕ
  pub image : List ℕ

-- a page below those
abbrev pub below : PageState → Carried → Carried
below page carried = record carried { pages = page ∷ carried.pages }

-- all that is kept, where these pages are below those that a tuple came to
abbrev pub with_carried : List PageState → Carried → Packing → Packing
with_carried pages carried packing =
    record packing { pages = pages ++ carried.pages; blocks = carried.blocks; image = carried.image }

-- A tuple comes to a level above the leaves, which is the lowest of these: it joins the open page, or the page is
-- finished, and a tuple comes to the level above that.
unfoldable pub carried : ℕ → ℕ → List PageState → ℕ → List ℕ → List ℕ → Carried
carried fillfactor level [] blocks image pivot =
    record { pages = first_page level (suc blocks) pivot pivot 0 ∷ []; blocks = suc blocks; image = image }
carried fillfactor level (page ∷ above) blocks image pivot =
    if is_full fillfactor page (length pivot)
    then below (with_tuple pivot 0 (next_page (suc blocks) page.last page))
    (carried fillfactor (suc level) above (suc blocks)
    (placed page.block (finished_bytes (suc blocks) page.last page) image) (pivot_of page))
    else record { pages = with_tuple pivot 0 page ∷ above; blocks = blocks; image = image }

-- a leaf's page is finished with a high key
unfoldable pub turned : ℕ → List ℕ → Packing → Packing
turned fillfactor high_key packing = elim packing.pages [
  | [] ↦ packing
  | page ∷ above ↦
      with_carried (next_page (suc packing.blocks) high_key page ∷ [])
      (carried fillfactor 1 above (suc packing.blocks)
      (placed page.block (finished_bytes (suc packing.blocks) high_key page) packing.image) (pivot_of page)) packing
]

-- a tuple comes to the open leaf, or to the first one
unfoldable pub added : List ℕ → ℕ → Packing → Packing
added tuple extra packing = elim packing.pages [
  | [] ↦ record {
    pages = first_page 0 (suc packing.blocks) (minus_infinity 0) tuple extra ∷ [];
    tuples = suc packing.tuples;
    blocks = suc packing.blocks;
    image = packing.image;
  }
  | page ∷ above ↦
      record packing { pages = with_tuple tuple extra page ∷ above; tuples = suc packing.tuples }
]

-- whether a leaf tuple of this size breaks the open leaf
abbrev pub breaks_leaf : ℕ → Packing → ℕ → Bool
breaks_leaf fillfactor packing size = elim packing.pages [
  | [] ↦ false
  | page ∷ above ↦ is_full fillfactor page size
]

-- the image and its root once the open pages are finished from below, at most so many levels of them
pub record Closed : Type 0 where
  pub image : List ℕ
  pub root : Root

unfoldable pub closed : ℕ → ℕ → ℕ → List PageState → ℕ → List ℕ → Option Closed
closed zero fillfactor level pages blocks image = None
closed (suc bound) fillfactor level [] blocks image = None
closed (suc bound) fillfactor level (page ∷ []) blocks image = Some (record {
  image = placed page.block (last_bytes true page) image;
  root = record { block = page.block; level = page.level };
})
closed (suc bound) fillfactor level (page ∷ next ∷ above) blocks image =
    let rest = carried fillfactor (suc level) (next ∷ above) blocks (placed page.block (last_bytes false page) image)
    (pivot_of page) in
    closed bound fillfactor (suc level) rest.pages rest.blocks rest.image

-- the bytes that the open leaf's tuples and the spare ones take, 0 without a leaf
abbrev pub leaf_taken : Packing → ℕ
leaf_taken packing = elim packing.pages [
  | [] ↦ 0
  | page ∷ above ↦ used page + spare page.level
]

-- the bytes that the high key may take that finishes the open leaf
abbrev pub high_key_room : Packing → ℕ
high_key_room packing = elim packing.pages [
  | [] ↦ 0
  | page ∷ above ↦ length page.last + spare page.level
]

-- a tuple of a page: it fills whole units of its alignment, and no page is without room for three of them
pub record IsTuple (tuple : List ℕ) : Type 0 where
  pub whole : length tuple % 8 ≡ 0
  pub least : minus_infinity_size ≤ length tuple
  pub most : length tuple ≤ 2712

-- a key that can finish the open leaf: its last tuple leaves it room
pub record IsHighKey (key : List ℕ) (packing : Packing) : Type 0 where
  pub tuple : IsTuple key
  pub room : length key ≤ high_key_room packing

-- what holds of an open page, and of the count of what its tuples take
pub record IsOpen (page : PageState) (taken : ℕ) : Type 0 where
  pub count : taken ≡ used page
  pub room : used page + spare page.level ≤ page_room + line_pointer_size
  pub tuples : All IsTuple page.before
  pub last : IsTuple page.last
  pub low_key : IsTuple page.low_key
  pub block : page.block < 2 ^ 31
  pub level : page.level < 2 ^ 31
  pub extra : page.extra ≤ page_size
