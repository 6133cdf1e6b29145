-- Trees of pages in levels, as GIN has them for entries and for posting lists (the head of ginbtree.c, ginblock.h): over
-- what an item of a leaf is. An item above the leaves leads to a page below and has the greatest key there; right links
-- lead along each level.
use Rattle.std.specs.Prelude.{◌≡◌, ◌⊎◌, ℕ, ◌<◌, ◌≤◌, Option, Some, None, List, [], ◌∷◌, ◌++◌, length, map}
use Rattle.std.specs.List.{flat_map, last_or, sum_by}

-- the right link of the rightmost page of a level (InvalidBlockNumber of block.h)
abbrev pub no_link : ℕ
no_link = 0xFFFFFFFF

-- what the items of a page have together at least, in bytes, unless it is the rightmost of its level
abbrev pub least_fill : ℕ
least_fill = 4000

-- A kind of items: the bytes that one takes, with its line pointer where it has one; its key, which is the greatest one
-- in it or below it; the bytes that items may take on a page; and the bytes of the page that has a right link and items.
pub record Kind (Item Key : Type 0) : Type 0 where
  pub size : Item → ℕ
  pub key_of : Item → Key
  pub room : ℕ
  pub image : ℕ → List Item → List ℕ

-- a page: its block, and its items
pub record Page (Item : Type 0) : Type 0 where
  pub block : ℕ
  pub items : List Item

-- an item above the leaves: a page of the level below, and the greatest key there
pub record Downlink (Key : Type 0) : Type 0 where
  pub child : ℕ
  pub key : Key

-- the pages of the leaves, and of the levels above them, the lowest first
pub record Tree (Leaf Key : Type 0) : Type 0 where
  pub leaves : List (Page Leaf)
  pub above : List (List (Page (Downlink Key)))

-- ---- what a level holds

-- the bytes of these items together
abbrev pub fill : {Item Key : Type 0} → Kind Item Key → List Item → ℕ
fill kind items = sum_by kind.size items

-- the greatest key of items that ascend: the last one's
abbrev pub greatest : {Item Key : Type 0} → Kind Item Key → List Item → Option Key
greatest kind items = last_or None (map kind.key_of items)

-- a page has an item, and its items have room
pub record IsPage {Item Key : Type 0} (kind : Kind Item Key) (page : Page Item) : Type 0 where
  pub some : 0 < length page.items
  pub room : fill kind page.items ≤ kind.room

-- the pages of a level, from the left: each but the rightmost is filled
abbrev pub AreLevel : {Item Key : Type 0} → Kind Item Key → List (Page Item) → Type 0
AreLevel kind [] = ⊥
AreLevel kind (page ∷ []) = IsPage kind page
AreLevel kind (page ∷ next ∷ pages) =
    IsPage kind page × (least_fill ≤ fill kind page.items) × AreLevel kind (next ∷ pages)

-- the items of a level's pages, from left to right
abbrev pub items_of : {Item : Type 0} → List (Page Item) → List Item
items_of pages = flat_map (λ page. page.items) pages

-- ---- how a level stands to the one below

-- what an item says of the page that it leads to, and what there is to say of a page: block and greatest key
abbrev pub said : {Key : Type 0} → Downlink Key → ℕ × Option Key
said link = (link.child, Some link.key)

abbrev pub to_say : {Item Key : Type 0} → Kind Item Key → Page Item → ℕ × Option Key
to_say kind page = (page.block, greatest kind page.items)

-- The levels above one of whose pages this is to say: there are some exactly where it has more than one page, and the
-- items of the first of them name its pages, each once and in order.
abbrev pub AreAbove : {Key : Type 0} → Kind (Downlink Key) Key → List (ℕ × Option Key) → List (List (Page (Downlink Key)))
    → Type 0
AreAbove inner below [] = length below ≡ 1
AreAbove inner below (pages ∷ above) =
    (1 < length below) × (map said (items_of pages) ≡ below)
    × (AreLevel inner pages × AreAbove inner (map (to_say inner) pages) above)

-- the one leaf of a tree without items, which is its root
pub record IsEmptyRoot {Leaf : Type 0} (leaves : List (Page Leaf)) : Type 0 where
  pub root : Page Leaf
  pub alone : leaves ≡ root ∷ []
  pub empty : root.items ≡ []

-- a tree whose leaves have items of one kind, and whose pages above have downlinks of another
pub record IsTree {Leaf Key : Type 0} (leaf : Kind Leaf Key) (inner : Kind (Downlink Key) Key) (tree : Tree Leaf Key)
    : Type 0 where
  pub leaves : AreLevel leaf tree.leaves ⊎ IsEmptyRoot tree.leaves
  pub above : AreAbove inner (map (to_say leaf) tree.leaves) tree.above

-- ---- a tree in a file

-- the blocks of the top level, where the levels above one with these blocks are these
abbrev pub top_of : {Key : Type 0} → List ℕ → List (List (Page (Downlink Key))) → List ℕ
top_of blocks [] = blocks
top_of blocks (pages ∷ above) = top_of (map (λ page. page.block) pages) above

-- the root is the one page of the top level
abbrev pub IsRootOf : {Leaf Key : Type 0} → Tree Leaf Key → ℕ → Type 0
IsRootOf tree root = top_of (map (λ page. page.block) tree.leaves) tree.above ≡ root ∷ []

-- a page of a file: its block, and its bytes
pub record Node : Type 0 where
  pub block : ℕ
  pub bytes : List ℕ

-- the first block of pages, or what stands for it where there are none
abbrev pub first_block : {Item : Type 0} → ℕ → List (Page Item) → ℕ
first_block otherwise [] = otherwise
first_block otherwise (page ∷ pages) = page.block

-- pages of a level as they stand in a file, each linked to the next, and the last one as is said
abbrev pub nodes_linked : {Item Key : Type 0} → Kind Item Key → ℕ → List (Page Item) → List Node
nodes_linked kind link [] = []
nodes_linked kind link (page ∷ pages) =
    record { block = page.block; bytes = kind.image (first_block link pages) page.items }
    ∷ nodes_linked kind link pages

-- the pages of a level: the rightmost leads to none
abbrev pub nodes_of_level : {Item Key : Type 0} → Kind Item Key → List (Page Item) → List Node
nodes_of_level kind pages = nodes_linked kind no_link pages

-- all pages of a tree, the leaves first
abbrev pub nodes_of : {Leaf Key : Type 0} → Kind Leaf Key → Kind (Downlink Key) Key → Tree Leaf Key → List Node
nodes_of leaf inner tree = nodes_of_level leaf tree.leaves ++ flat_map (nodes_of_level inner) tree.above
