-- What holds of segments and of trees of pages.
use Rattle.std.specs.Prelude.{◌≡◌, ◌↔◌, ℕ, ◌<◌, ◌≤◌, suc, List, ◌∷◌, length}
use Rattle.std.specs.List.{AllByRecursion}
use Rattle.pg_bytes.specs.Blocks.{block_count}
use Rattle.pg_bytes.specs.Pointers.{IsBefore}
use Rattle.pg_bytes.specs.declared.row_ptr.RowPtr.{RowPtr}
use Rattle.posting_tree.specs.Levels.{Downlink, Kind, Page, Tree, no_link, nodes_of}
use Rattle.posting_tree.specs.PostingTree.{IsReadAs}
use Rattle.posting_tree.specs.Reading.{Sight, StandIn}
use Rattle.posting_tree.specs.Reading.Sight.{SeenInner, SeenLeaf}
use Rattle.posting_tree.specs.Segments.{AreAscending, AreSegmentsOf, HaveBlocks, IsStorable, number_of, segment}

-- the numbers of pointers that a list may have are ordered as the pointers
abbrev pub NumbersAreOrderedAsPointers : Type 0
NumbersAreOrderedAsPointers =
    (p q : RowPtr) → IsStorable p → IsStorable q → (IsBefore p q ↔ (number_of p < number_of q))

-- bytes are the segments of one list of pointers at most
abbrev pub SegmentsAreOfOneList : Type 0
SegmentsAreOfOneList =
    (bytes : List ℕ) (ptrs others : List RowPtr) → AreSegmentsOf ptrs bytes → AreSegmentsOf others bytes → ptrs ≡ others

-- what is decoded of the segment of pointers is these pointers
abbrev pub DecodingUndoesEncoding : Type 0
DecodingUndoesEncoding =
    (ptrs decoded : List RowPtr) → 0 < length ptrs → length ptrs ≤ 9000 → AreAscending ptrs → HaveBlocks ptrs
    → (AreSegmentsOf decoded (segment ptrs) ↔ (decoded ≡ ptrs))

-- a posting tree is read as one list of pointers at most
abbrev pub TreesAreReadAsOneList : Type 0
TreesAreReadAsOneList =
    (file : List ℕ) (root : ℕ) (ptrs others : List RowPtr) → IsReadAs file root ptrs → IsReadAs file root others → ptrs ≡ others

-- ---- what the reading of any tree in levels rests on

-- a page above the leaves is seen as its first child, a block
abbrev pub IsSeenAbove : {Key Content : Type 0} → (List ℕ → Sight Content) → Kind (Downlink Key) Key → Page (Downlink Key)
    → Type 0
IsSeenAbove {Key = Key} sight inner page =
    (right : ℕ) (link : Downlink Key) (links : List (Downlink Key)) → right ≤ no_link → link.child < no_link
    → page.items ≡ link ∷ links → sight (inner.image right page.items) ≡ SeenInner link.child

-- A tree stands in a file that has room for it, and its pages are seen as what they are.
pub record IsSeenIn {Leaf Key Content : Type 0} (sight : List ℕ → Sight Content) (content : List Leaf → Content)
    (leaf : Kind Leaf Key) (inner : Kind (Downlink Key) Key) (file : List ℕ) (tree : Tree Leaf Key) : Type 0 where
  pub stand : StandIn file (nodes_of leaf inner tree)
  pub inside : AllByRecursion (λ node. node.block < block_count file) (nodes_of leaf inner tree)
  pub linked : block_count file ≤ no_link
  pub leaves : length tree.leaves ≤ block_count file
  pub levels : suc (length tree.above) ≤ block_count file
  pub seen_leaves : AllByRecursion
      (λ page. (right : ℕ) → right ≤ no_link → sight (leaf.image right page.items) ≡ SeenLeaf right (content page.items))
      tree.leaves
  pub seen_above : AllByRecursion (AllByRecursion (IsSeenAbove sight inner)) tree.above
