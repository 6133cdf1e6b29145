-- The reading of a tree of pages from the bytes of a file, which knows nothing of how it was built: down first children
-- to a leaf (ginFindLeafPage with a full search, ginbtree.c), then along right links (ginStepRight).
use Rattle.std.specs.Prelude.{◌≡◌, ℕ, zero, suc, if◌then◌else◌, nat_eq, nat_lt, Option, Some, None, List, [], ◌∷◌}
use Rattle.std.specs.List.{AllByRecursion}
use Rattle.std.specs.Option.{option_and_then, option_map}
use Rattle.pg_bytes.specs.Blocks.{block_at, block_count}
use Rattle.posting_tree.specs.Levels.{Node, no_link}

-- what is seen of a page: a leaf with its right link and what it holds, a page above with its first child, or neither
pub data Sight (Content : Type 0) : Type 0 where
  SeenLeaf : ℕ → Content → Sight Content
  SeenInner : ℕ → Sight Content
  SeenOther : Sight Content

-- what is seen of a block of a file; a block that the file lacks is no page
abbrev pub sight_at : {Content : Type 0} → (List ℕ → Sight Content) → List ℕ → ℕ → Sight Content
sight_at sight file block = if nat_lt block (block_count file) then sight (block_at block file) else SeenOther

-- the leaf that first children lead to, over at most so many pages
abbrev pub leftmost : {Content : Type 0} → (ℕ → Sight Content) → ℕ → ℕ → Option ℕ
leftmost seen zero block = None
leftmost seen (suc most) block = elim (seen block) [
  | SeenLeaf right content ↦ Some block
  | SeenInner child ↦ leftmost seen most child
  | SeenOther ↦ None
]

-- what the leaves hold from one on along right links, over at most so many pages
abbrev pub along : {Content : Type 0} → (ℕ → Sight Content) → ℕ → ℕ → Option (List Content)
along seen zero block = None
along seen (suc most) block = elim (seen block) [
  | SeenLeaf right content ↦
      if nat_eq right no_link then Some (content ∷ [])
      else option_map (λ contents. content ∷ contents) (along seen most right)
  | SeenInner child ↦ None
  | SeenOther ↦ None
]

-- what the leaves of the tree with this root hold, from left to right; no walk is longer than the file has blocks
abbrev pub contents_below : {Content : Type 0} → (List ℕ → Sight Content) → List ℕ → ℕ → Option (List Content)
contents_below sight file root =
    option_and_then (along (sight_at sight file) (block_count file)) (leftmost (sight_at sight file) (block_count file) root)

-- these pages stand in a file, each at its block
abbrev pub StandIn : List ℕ → List Node → Type 0
StandIn file nodes = AllByRecursion (λ node. block_at node.block file ≡ node.bytes) nodes
