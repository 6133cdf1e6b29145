-- Posting trees (gindatapage.c, ginblock.h): trees of pages whose leaves have the segments of one list of pointers.
use Rattle.std.specs.Prelude.{◌≡◌, ℕ, ◌+◌, ◌-◌, ◌*◌, ◌/◌, ◌%◌, ◌^◌, if◌then◌else◌, nat_eq, Some, None, List, ◌++◌, length, map, slice_range}
use Rattle.std.specs.List.{AllByRecursion, AllZip, flat_map, last_or, range_with_len}
use Rattle.std.specs.Option.{unwrap_or}
use Rattle.pg_bytes.specs.Blocks.{block_count}
use Rattle.pg_bytes.specs.Numbers.{number_at, number_bytes}
use Rattle.pg_bytes.specs.PageLayout.{lower_of, page_header, page_size}
use Rattle.pg_bytes.specs.Places.{zeros}
use Rattle.pg_bytes.specs.Pointers.{row_pointer_bytes}
use Rattle.pg_bytes.specs.declared.row_ptr.RowPtr.{RowPtr}
use Rattle.posting_tree.specs.Levels.{Downlink, IsRootOf, IsTree, Kind, Tree, items_of, no_link, nodes_of}
use Rattle.posting_tree.specs.Reading.{Sight, contents_below}
use Rattle.posting_tree.specs.Reading.Sight.{SeenInner, SeenLeaf, SeenOther}
use Rattle.posting_tree.specs.Segments.{AreAscending, AreSegmentsOf, IsPart, segment}
use Rattle.posting_tree.specs.Special.{compressed_flag, data_flag, flags_of, leaf_flag, maxoff_of, right_of, special_space, special_start}

-- ---- a page

-- where a page's content begins, behind header and right bound, and how many bytes it may have (GinDataPageMaxDataSize)
abbrev pub content_start : ℕ
content_start = 32

abbrev pub content_room : ℕ
content_room = special_start - content_start

-- the flags of a leaf and of a page above
abbrev pub leaf_flags : ℕ
leaf_flags = data_flag + leaf_flag + compressed_flag

abbrev pub inner_flags : ℕ
inner_flags = data_flag

-- the page of this content: its right bound, two zeros, the content, which ends at pd_lower, and zeros
unfoldable pub data_page : ℕ → ℕ → ℕ → RowPtr → List ℕ → List ℕ
data_page flags maxoff right bound content =
    page_header (content_start + length content) special_start special_start
    ++ (row_pointer_bytes bound ++ (zeros 2
    ++ (content ++ (zeros (content_room - length content) ++ special_space right maxoff flags))))

-- ---- what a page has

-- the pointer whose six bytes are zero
abbrev pub zero_pointer : RowPtr
zero_pointer = record { block = 0; offset = 0 }

-- the greatest of pointers that ascend
abbrev pub greatest_pointer : List RowPtr → RowPtr
greatest_pointer ptrs = unwrap_or (last_or None ptrs) zero_pointer

-- a page's right bound: its greatest pointer, and zeros on the rightmost of a level
abbrev pub right_bound : ℕ → List RowPtr → RowPtr
right_bound right greatest_ones =
    if nat_eq right no_link then zero_pointer else greatest_pointer greatest_ones

-- PostingItem: the child's block, its high half first, and the greatest pointer below it
unfoldable pub posting_item : Downlink RowPtr → List ℕ
posting_item link =
    number_bytes 2 (link.child / 2 ^ 16)
    ++ (number_bytes 2 (link.child % 2 ^ 16) ++ row_pointer_bytes link.key)

-- a leaf's items are segments, each told as its pointers
abbrev pub leaf_image : ℕ → List (List RowPtr) → List ℕ
leaf_image right parts =
    data_page leaf_flags 0 right (right_bound right (map greatest_pointer parts)) (flat_map segment parts)

abbrev pub leaf_kind : Kind (List RowPtr) RowPtr
leaf_kind = record {
  size = λ part. length (segment part);
  key_of = greatest_pointer;
  room = content_room;
  image = leaf_image;
}

-- the items above are ten bytes each
abbrev pub inner_image : ℕ → List (Downlink RowPtr) → List ℕ
inner_image right links =
    data_page inner_flags (length links) right (right_bound right (map (λ link. link.key) links))
    (flat_map posting_item links)

abbrev pub inner_kind : Kind (Downlink RowPtr) RowPtr
inner_kind = record {
  size = λ link. 10;
  key_of = λ link. link.key;
  room = content_room;
  image = inner_image;
}

-- ---- a tree

-- a posting tree of these pointers
pub record IsPostingTree (tree : Tree (List RowPtr) RowPtr) (ptrs : List RowPtr) : Type 0 where
  pub levels : IsTree leaf_kind inner_kind tree
  pub parts : AllByRecursion IsPart (items_of tree.leaves)
  pub whole : ptrs ≡ flat_map (λ part. part) (items_of tree.leaves)

-- A file has behind its old blocks, which stay as they were, exactly the pages of one posting tree of these pointers
-- with this root.
pub record AddsTree (old new : List ℕ) (root : ℕ) (ptrs : List RowPtr) : Type 0 where
  pub tree : Tree (List RowPtr) RowPtr
  pub is_tree : IsPostingTree tree ptrs
  pub root_is : IsRootOf tree root
  pub blocks : map (λ node. node.block) (nodes_of leaf_kind inner_kind tree)
      ≡ range_with_len (block_count old) (length (nodes_of leaf_kind inner_kind tree))
  pub bytes : new ≡ old ++ flat_map (λ node. node.bytes) (nodes_of leaf_kind inner_kind tree)

-- a file that has whole blocks behind its old ones, which stay as they were
pub record Extends (old new : List ℕ) : Type 0 where
  pub more : List ℕ
  pub kept : new ≡ old ++ more
  pub whole : length more % page_size ≡ 0

-- ---- the reading of a tree

-- what is seen of a page of a posting tree: a leaf's content, or the first child of a page above that has one
abbrev pub data_sight : List ℕ → Sight (List ℕ)
data_sight page =
    if nat_eq (flags_of page) leaf_flags
    then SeenLeaf (right_of page) (slice_range page content_start (lower_of page))
    else (if nat_eq (flags_of page) inner_flags then inner_sight page else SeenOther)
  where
    inner_sight : List ℕ → Sight (List ℕ)
    inner_sight page =
        if nat_eq (maxoff_of page) 0 then SeenOther
        else SeenInner (number_at 2 page content_start * 2 ^ 16 + number_at 2 page (content_start + 2))

-- the posting tree with this root is read as these pointers
pub record IsReadAs (file : List ℕ) (root : ℕ) (ptrs : List RowPtr) : Type 0 where
  pub contents : List (List ℕ)
  pub found : contents_below data_sight file root ≡ Some contents
  pub lists : List (List RowPtr)
  pub each : AllZip AreSegmentsOf lists contents
  pub whole : ptrs ≡ flat_map (λ list. list) lists
  pub ascending : AreAscending ptrs
