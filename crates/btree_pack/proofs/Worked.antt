-- The definitions on rows whose pages were worked out by hand.
use Rattle.std.proofs.Common.{◌≡◌, ℕ, zero, suc, List, [], ◌∷◌, ◌++◌, length, map, refl, append-nil}
use Rattle.std.specs.Prelude.{ℤ, pos, true, false, Some, None}
use Rattle.std.specs.Int.{w32, cast_unsigned}
use Rattle.pg_bytes.specs.declared.row_ptr.RowPtr.{RowPtr}
use Rattle.pg_bytes.specs.ItemPage.{item_page}
use Rattle.pg_bytes.specs.Numbers.{number_bytes}
use Rattle.pg_bytes.specs.PageLayout.{aligned, page_header}
use Rattle.pg_bytes.specs.Places.{zeros}
use Rattle.pg_bytes.specs.Pointers.{row_pointer_bytes}
use Rattle.opclass.specs.declared.value.KeyVal.{KeyVal}
use Rattle.opclass.specs.declared.value.KeyVal.TheVariants.{Num}
use Rattle.btree_pack.specs.Leaves.{Images, leaf_items}
use Rattle.btree_pack.specs.Nodes.{file_of, meta_page_of, nodes_of}
use Rattle.btree_page.specs.Meta.{meta_page}
use Rattle.btree_page.specs.Node.{rightmost_page}
use Rattle.btree_page.specs.SpecialSpace.{special_bytes}
use Rattle.btree_pack.specs.Separators.{separator}
use Rattle.btree_item.specs.Pivot.{minus_infinity}
use Rattle.btree_pack.specs.Tuple.{with_child}
use Rattle.btree_pack.specs.Births.{Birth, births_of, block_of}
use Rattle.btree_pack.specs.Break.{Item}
use Rattle.btree_pack.specs.Groups.{Row, Group, rows_of, most_sharing, pieces, leaf_groups}
use Rattle.btree_pack.specs.Pages.{Page, cut}
use Rattle.btree_pack.specs.Tower.{levels}

-- so many items of one kind, which arrive from a moment on
items_of : ℕ → ℕ → ℕ → ℕ → ℕ → List (Item ℕ)
items_of zero arrival size extra bound = []
items_of (suc count) arrival size extra bound =
    record { content = arrival; size = size; extra = extra; bound = bound; arrival = arrival; child = 0 }
    ∷ items_of count (suc arrival) size extra bound

-- how many items each page of each level has
counts_of : ℕ → List (Item ℕ) → List (List ℕ)
counts_of fillfactor items = map (map (λ page. suc (length page.others))) (levels fillfactor items)

-- their blocks
blocks_of : ℕ → List (Item ℕ) → List (List ℕ)
blocks_of fillfactor items =
    let pages = levels fillfactor items in
    let births = births_of pages in
    blocks_from births 0 pages
  where
    blocks_from : List Birth → ℕ → List (List (Page ℕ)) → List (List ℕ)
    blocks_from births level [] = []
    blocks_from births level (pages ∷ above) =
        map (λ page. block_of births (record { moment = page.born; level = level })) pages
        ∷ blocks_from births (suc level) above

-- as many rows share a tuple as a tenth of a page holds
most_with_int4 : most_sharing 16 ≡ 132
unfolding most_sharing
most_with_int4 = refl

most_with_int8_pair : most_sharing 24 ≡ 130
unfolding most_sharing
most_with_int8_pair = refl

-- posting lists of 132 pointers: the eleventh tuple breaks the page, and the tenth goes over
ten_postings : counts_of 90 (items_of 11 1 808 792 24) ≡ (9 ∷ 2 ∷ []) ∷ (2 ∷ []) ∷ []
unfolding counts_of items_of levels cut
ten_postings = refl

two_leaves : blocks_of 90 (items_of 11 1 808 792 24) ≡ (1 ∷ 2 ∷ []) ∷ (3 ∷ []) ∷ []
unfolding blocks_of items_of levels cut block_of
two_leaves = refl

one_leaf : counts_of 90 (items_of 367 1 16 0 16) ≡ (367 ∷ []) ∷ []
unfolding counts_of items_of levels cut
one_leaf = refl

full_leaf : counts_of 90 (items_of 368 1 16 0 16) ≡ (366 ∷ 2 ∷ []) ∷ (2 ∷ []) ∷ []
unfolding counts_of items_of levels cut
full_leaf = refl

-- Items so large that two fill a leaf, and three a page above: 14 of them make three levels. Item 12 breaks the fifth
-- leaf, whose item breaks the page above it, whose item begins a level.
three_levels : counts_of 90 (items_of 14 1 2704 0 2704) ≡ (2 ∷ 2 ∷ 2 ∷ 2 ∷ 2 ∷ 2 ∷ 2 ∷ []) ∷ (3 ∷ 4 ∷ []) ∷ (2 ∷ []) ∷ []
unfolding counts_of items_of levels cut
three_levels = refl

three_levels_blocks : blocks_of 90 (items_of 14 1 2704 0 2704) ≡ (1 ∷ 2 ∷ 4 ∷ 5 ∷ 6 ∷ 7 ∷ 10 ∷ []) ∷ (3 ∷ 8 ∷ []) ∷ (9 ∷ []) ∷ []
unfolding blocks_of items_of levels cut block_of
three_levels_blocks = refl

-- fill factor 70, which leaves 2,457 bytes: with 285 items of 20 bytes 2,444 are free when one more arrives
seventy : counts_of 70 (items_of 286 1 16 0 16) ≡ (284 ∷ 2 ∷ []) ∷ (2 ∷ []) ∷ []
unfolding counts_of items_of levels cut
seventy = refl

-- rows of one int4 key, so many of them from a row pointer on
rows_of_key : ℕ → ℤ → ℕ → List Row
rows_of_key zero key offset = []
rows_of_key (suc count) key offset =
    record { keys = Num key ∷ []; extra = []; pointer = record { block = 0; offset = offset } } ∷ rows_of_key count key (suc offset)

-- a group of 133 rows has a tuple with 132 pointers and a tuple of its own for the last, unless rows share no tuples
group_133 : map (λ group. length (rows_of group)) (leaf_groups (λ row. 16) true (rows_of_key 133 (pos 7) 1)) ≡ 132 ∷ 1 ∷ []
unfolding rows_of_key most_sharing pieces
group_133 = refl

group_3_apart : map (λ group. length (rows_of group)) (leaf_groups (λ row. 16) false (rows_of_key 3 (pos 7) 1)) ≡ 1 ∷ 1 ∷ 1 ∷ []
unfolding rows_of_key most_sharing pieces
group_3_apart = refl

-- one row
pair : ℤ → ℤ → ℕ → Group
pair a b offset = record {
  first = record { keys = Num a ∷ Num b ∷ []; extra = []; pointer = record { block = 1; offset = offset } };
  others = [];
}

-- keys up to the first that differs, or all of them with the left one's pointer
second_differs : separator (pair (pos 1) (pos 366) 140) (pair (pos 1) (pos 367) 141) ≡ record { keys = Num (pos 1) ∷ Num (pos 367) ∷ []; pointer = None }
unfolding pair separator
second_differs = refl

first_differs : separator (pair (pos 366) (pos 5) 140) (pair (pos 367) (pos 5) 141) ≡ record { keys = Num (pos 367) ∷ []; pointer = None }
unfolding pair separator
first_differs = refl

none_differs : separator (pair (pos 7) (pos 5) 140) (pair (pos 7) (pos 5) 141)
    ≡ record { keys = Num (pos 7) ∷ Num (pos 5) ∷ []; pointer = Some (record { block = 1; offset = 140 }) }
unfolding pair separator
none_differs = refl

-- the root's two tuples, over leaves at the blocks 1 and 2 of which the right one begins with the key 367
leftmost_child : minus_infinity 1 ≡ 0 ∷ 0 ∷ 1 ∷ 0 ∷ 0 ∷ 0 ∷ 0x08 ∷ 0x20 ∷ []
unfolding row_pointer_bytes number_bytes
leftmost_child = refl

right_child : with_child 2 (0 ∷ 0 ∷ 0 ∷ 0 ∷ 1 ∷ 0 ∷ 0x10 ∷ 0x20 ∷ 0x6f ∷ 1 ∷ 0 ∷ 0 ∷ 0 ∷ 0 ∷ 0 ∷ 0 ∷ [])
    ≡ 0 ∷ 0 ∷ 2 ∷ 0 ∷ 1 ∷ 0 ∷ 0x10 ∷ 0x20 ∷ 0x6f ∷ 1 ∷ 0 ∷ 0 ∷ 0 ∷ 0 ∷ 0 ∷ 0 ∷ []
unfolding with_child number_bytes
right_child = refl

-- the tuple of a row with an int4 key: its row pointer, its size, the key, and padding
int4_tuple : RowPtr → ℤ → List ℕ
int4_tuple pointer key =
    row_pointer_bytes pointer ++ (number_bytes 2 16 ++ (number_bytes 4 (cast_unsigned w32 key) ++ zeros 4))

-- int4 tuples as they are written, and no others
int4_images : Images
int4_images = record {
  plain = λ values pointer. tuple_of pointer values;
  posting = λ values pointers. [];
  pivot = λ separator. [];
}
  where
    tuple_of : RowPtr → List KeyVal → List ℕ
    tuple_of pointer (Num number ∷ []) = int4_tuple pointer number
    tuple_of pointer values = []

-- the file of three rows with distinct keys is the meta page and one leaf, which is the root
three_rows : file_of true (levels 90 (leaf_items int4_images true
    (record { keys = Num (pos 10) ∷ []; extra = []; pointer = record { block = 0; offset = 2 } }
    ∷ record { keys = Num (pos 20) ∷ []; extra = []; pointer = record { block = 0; offset = 3 } }
    ∷ record { keys = Num (pos 30) ∷ []; extra = []; pointer = record { block = 0; offset = 1 } } ∷ [])))
    ≡ meta_page 1 0 true ++ rightmost_page 0 0 3 (int4_tuple (record { block = 0; offset = 2 }) (pos 10)
    ∷ int4_tuple (record { block = 0; offset = 3 }) (pos 20)
    ∷ int4_tuple (record { block = 0; offset = 1 }) (pos 30) ∷ [])
unfolding int4_tuple int4_images file_of meta_page_of levels cut leaf_items most_sharing pieces nodes_of block_of row_pointer_bytes number_bytes zeros aligned item_page page_header special_bytes
three_rows = refl

-- and without rows it is the meta page
no_rows : file_of true (levels 90 (leaf_items int4_images true [])) ≡ meta_page 0 0 true
unfolding file_of meta_page_of levels leaf_items nodes_of
no_rows = append-nil (meta_page 0 0 true)
