-- The pages of a tower as bytes, and the B-tree file over sorted rows (_bt_blwritepage and _bt_uppershutdown of
-- nbtsort.c).
use Rattle.std.specs.Prelude.{ℕ, zero, suc, ◌+◌, Bool, true, false, if◌then◌else◌, not, ◌&&◌, nat_eq, List, [], ◌∷◌, ◌++◌, length, map, filter}
use Rattle.std.specs.List.{flat_map, range_with_len}
use Rattle.opclass.specs.declared.spec.IndexSpec.{IndexSpec}
use Rattle.btree_pack.specs.Births.{Birth, births_of, block_of}
use Rattle.btree_pack.specs.Break.{Item}
use Rattle.btree_pack.specs.Groups.{Row}
use Rattle.btree_pack.specs.Leaves.{Content, Images, leaf_items}
use Rattle.btree_page.specs.Meta.{meta_page}
use Rattle.btree_page.specs.Node.{bounded_page, rightmost_page}
use Rattle.btree_page.specs.SpecialSpace.{flag_bit}
use Rattle.btree_page.specs.declared.special.PageFlag.TheVariants.{Leaf, Root as RootFlag}
use Rattle.btree_pack.specs.Pages.{Page}
use Rattle.btree_pack.specs.Tower.{levels}
use Rattle.btree_item.specs.Pivot.{minus_infinity}
use Rattle.btree_pack.specs.Tuple.{with_child}

-- the block of a page of a level, among all births
abbrev pub block_on : List Birth → ℕ → Page Content → ℕ
block_on births level page = block_of births (record { moment = page.born; level = level })

-- the block of an item's child, which is on the level below
abbrev pub child_block : List Birth → ℕ → Item Content → ℕ
child_block births below item = block_of births (record { moment = item.child; level = below })

-- the tuple of an item on a level: above the leaves it is its separator, led to its child
abbrev pub tuple_on : List Birth → ℕ → Item Content → List ℕ
tuple_on births zero item = item.content.tuple
tuple_on births (suc below) item = with_child (child_block births below item) item.content.separator

-- the tuple of the first item of a page, above the leaves minus infinity with its child
abbrev pub first_tuple_on : List Birth → ℕ → Item Content → List ℕ
first_tuple_on births zero item = item.content.tuple
first_tuple_on births (suc below) item = minus_infinity (child_block births below item)

-- the tuples of a page
abbrev pub tuples_on : List Birth → ℕ → Page Content → List (List ℕ)
tuples_on births level page = first_tuple_on births level page.first ∷ map (tuple_on births level) page.others

-- the high key of a page whose right neighbour begins with an item: its separator, above the leaves with its child
abbrev pub high_key_on : List Birth → ℕ → Item Content → List ℕ
high_key_on births zero item = item.content.separator
high_key_on births (suc below) item = tuple_on births (suc below) item

-- the flags of the pages of a level
abbrev pub flags_on : ℕ → Bool → ℕ
flags_on zero root = flag_bit Leaf + (if root then flag_bit RootFlag else 0)
flags_on (suc below) root = if root then flag_bit RootFlag else 0

-- a page of the file, at its block
pub record Node : Type 0 where
  pub block : ℕ
  pub bytes : List ℕ

-- the nodes of a level from a left neighbour's block on, 0 for none
abbrev pub nodes_behind : List Birth → ℕ → Bool → ℕ → List (Page Content) → List Node
nodes_behind births level root prev [] = []
nodes_behind births level root prev (page ∷ []) =
    record {
      block = block_on births level page;
      bytes = rightmost_page prev level (flags_on level root) (tuples_on births level page);
    } ∷ []
nodes_behind births level root prev (page ∷ next ∷ others) =
    record {
      block = block_on births level page;
      bytes = bounded_page prev (block_on births level next) level (flags_on level root)
          (high_key_on births level next.first) (tuples_on births level page);
    } ∷ nodes_behind births level root (block_on births level page) (next ∷ others)

-- the nodes of the levels from one on: the last level is the root
abbrev pub nodes_from : List Birth → ℕ → List (List (Page Content)) → List Node
nodes_from births level [] = []
nodes_from births level (pages ∷ []) = nodes_behind births level true 0 pages
nodes_from births level (pages ∷ above ∷ others) =
    nodes_behind births level false 0 pages ++ nodes_from births (suc level) (above ∷ others)

-- all nodes of a tower
unfoldable pub nodes_of : List (List (Page Content)) → List Node
nodes_of levels = nodes_from (births_of levels) 0 levels

-- the root's block and its level, both 0 where there are no rows
pub record Root : Type 0 where
  pub block : ℕ
  pub level : ℕ

abbrev pub root_from : List Birth → ℕ → List (List (Page Content)) → Root
root_from births level [] = record { block = 0; level = 0 }
root_from births level ([] ∷ others) = record { block = 0; level = 0 }
root_from births level ((page ∷ pages) ∷ []) = record { block = block_on births level page; level = level }
root_from births level ((page ∷ pages) ∷ above ∷ others) = root_from births (suc level) (above ∷ others)

-- the bytes of the nodes that have a block: each block of a tower's pages has one node
abbrev pub bytes_at : List Node → ℕ → List ℕ
bytes_at nodes block = flat_map (λ node. node.bytes) (filter (λ node. nat_eq node.block block) nodes)

-- the meta page of a tower
unfoldable pub meta_page_of : Bool → List (List (Page Content)) → List ℕ
meta_page_of equal_images levels =
    let root = root_from (births_of levels) 0 levels in
    meta_page root.block root.level equal_images

-- the file of a tower: the meta page, and then its nodes in the order of their blocks
unfoldable pub file_of : Bool → List (List (Page Content)) → List ℕ
file_of equal_images levels =
    let nodes = nodes_of levels in
    meta_page_of equal_images levels ++ flat_map (bytes_at nodes) (range_with_len 1 (length nodes))

-- whether an index has no INCLUDE columns
abbrev pub has_keys_alone : IndexSpec → Bool
has_keys_alone spec = elim spec.includes [ [] ↦ true | column ∷ others ↦ false ]

-- whether rows with equal keys share tuples: they may, and they have the same bytes
abbrev pub shares_tuples : IndexSpec → Bool
shares_tuples spec = spec.deduplicate && (not spec.unique && has_keys_alone spec)

-- the levels of an index over sorted rows, packed to its fill factor
unfoldable pub index_levels : Images → IndexSpec → List Row → List (List (Page Content))
index_levels images spec rows = levels spec.fillfactor (leaf_items images (shares_tuples spec) rows)

-- the B-tree file of an index over sorted rows
unfoldable pub btree_file : Images → IndexSpec → List Row → List ℕ
btree_file images spec rows = file_of (has_keys_alone spec) (index_levels images spec rows)
