-- Tuples of the entry tree (GinFormTuple of ginentrypage.c, GinFormInteriorTuple of the same, the head of ginblock.h).
use Rattle.std.specs.Prelude.{ℕ, ◌+◌, ◌-◌, ◌%◌, ◌^◌, ◌≡◌, ◌≤◌, ◌==◌, if◌then◌else◌, List, [], ◌∷◌, ◌++◌, length}
use Rattle.pg_bytes.specs.Numbers.{rounded_up}
use Rattle.pg_bytes.specs.Places.{zeros}
use Rattle.pg_bytes.specs.declared.row_ptr.RowPtr.{RowPtr}
use Rattle.opclass.specs.declared.types.ColType.{ColType}
use Rattle.opclass.specs.Types.{facts_of}
use Rattle.btree_item.specs.Tuple.{index_tuple, info_of}
use Rattle.gin_entry.specs.declared.entry.Category.TheVariants.{Key}
use Rattle.gin_entry.specs.declared.entry.Entry.{Entry}
use Rattle.gin_entry.specs.Entries.{number_of_category}
use Rattle.gin_entry.specs.EntrySize.{entry_size, key_end, key_kinds, list_place}
use Rattle.posting_tree.specs.Levels.{Downlink}
use Rattle.posting_tree.specs.Segments.{segment}

-- the most bytes of an entry's tuple: three have room on a page (GinMaxItemSize)
abbrev pub most_size : ℕ
most_size = 2712

-- a tuple of an entry: it fills whole units of its alignment, and three have room on a page
pub record IsTuple (tuple : List ℕ) : Type 0 where
  pub whole : length tuple % 8 ≡ 0
  pub least : 8 ≤ length tuple
  pub most : length tuple ≤ 2712

-- the byte behind a placeholder's null that tells its category; a key has none
abbrev pub category_byte : Entry → List ℕ
category_byte entry = if entry.category == number_of_category Key then [] else entry.category ∷ []

-- What an entry is in a tuple of a size: the index tuple of its key as the one column, with this in the place of the
-- row pointer, the category, and a zero up to the place of a posting list.
unfoldable pub key_part : ColType → Entry → RowPtr → ℕ → List ℕ
key_part kind entry front size =
    let kinds = key_kinds (facts_of kind).form in
    let values = entry.key ∷ [] in
    index_tuple front (info_of size kinds values) kinds values
    ++ (category_byte entry ++ zeros (list_place kind entry - key_end kind entry))

-- ---- with the posting list in it

-- GIN_ITUP_COMPRESSED: the list is a segment, and beside the mark stands where it begins
abbrev pub list_mark : ℕ
list_mark = 2 ^ 31

-- where the list ends, and the size of the tuple
abbrev pub list_end : ColType → Entry → List RowPtr → ℕ
list_end kind entry pointers = list_place kind entry + length (segment pointers)

abbrev pub list_size : ColType → Entry → List RowPtr → ℕ
list_size kind entry pointers = rounded_up 8 (list_end kind entry pointers)

-- in front of it: where the list begins, and how many pointers it has
abbrev pub list_front : ColType → Entry → List RowPtr → RowPtr
list_front kind entry pointers = record { block = list_place kind entry + list_mark; offset = length pointers }

-- the tuple of an entry with its posting list as one segment
unfoldable pub list_tuple : ColType → Entry → List RowPtr → List ℕ
list_tuple kind entry pointers =
    key_part kind entry (list_front kind entry pointers) (list_size kind entry pointers)
    ++ (segment pointers ++ zeros (list_size kind entry pointers - list_end kind entry pointers))

-- ---- without it

-- the tuple of an entry that leads to a block
unfoldable pub leading_tuple : ColType → Entry → RowPtr → List ℕ
leading_tuple kind entry front =
    key_part kind entry front (entry_size kind entry) ++ zeros (entry_size kind entry - list_place kind entry)

-- GIN_TREE_POSTING, in the place of a count: the pointers stand in a posting tree with this root
abbrev pub tree_mark : ℕ
tree_mark = 0xFFFF

abbrev pub tree_tuple : ColType → Entry → ℕ → List ℕ
tree_tuple kind entry root = leading_tuple kind entry (record { block = root; offset = tree_mark })

-- above the leaves: a page below, and the greatest entry there
abbrev pub inner_tuple : ColType → Downlink Entry → List ℕ
inner_tuple kind link = leading_tuple kind link.key (record { block = link.child; offset = 0 })
