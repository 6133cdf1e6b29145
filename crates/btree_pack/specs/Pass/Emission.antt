-- The nodes of a tower in the order in which the pass finishes its pages.
use Rattle.std.specs.Prelude.{ℕ, zero, suc, Bool, true, false, List, [], ◌∷◌, ◌++◌, map, Some, None}
use Rattle.pg_bytes.specs.Image.{placed}
use Rattle.btree_pack.specs.Births.{Birth, block_of}
use Rattle.btree_pack.specs.Break.{Item}
use Rattle.btree_pack.specs.Leaves.{Content}
use Rattle.btree_pack.specs.Nodes.{Node, block_on, first_tuple_on, flags_on, high_key_on, tuple_on, tuples_on}
use Rattle.btree_page.specs.Node.{bounded_page, rightmost_page}
use Rattle.btree_pack.specs.Pages.{Page}
use Rattle.btree_pack.specs.Tower.{item_above}
use Rattle.btree_pack.specs.Pass.Open.{Open, finished_by, last_page, step}
use Rattle.btree_pack.specs.Pass.Packing.{PageState}

-- an image with these nodes, placed one after the other
abbrev pub with_nodes : List Node → List ℕ → List ℕ
with_nodes [] image = image
with_nodes (node ∷ nodes) image = with_nodes nodes (placed node.block node.bytes image)

-- the block of a page's left neighbour, which is the last of these, behind one at a block
abbrev pub prev_behind : List Birth → ℕ → ℕ → List (Page Content) → ℕ
prev_behind births level prev [] = prev
prev_behind births level prev (page ∷ pages) = prev_behind births level (block_on births level page) pages

-- the block of the page of a level that was born at a moment
abbrev pub number : List Birth → ℕ → ℕ → ℕ
number births level moment = block_of births (record { moment = moment; level = level })

-- an open page as the packer keeps it
abbrev pub state_of : List Birth → ℕ → Open Content → PageState
state_of births level o = elim o.before [
  | [] ↦ record {
    level = level;
    block = number births level o.born;
    prev = prev_behind births level 0 o.full;
    low_key = high_key_on births level o.last;
    before = [];
    last = first_tuple_on births level o.last;
    extra = o.last.extra;
  }
  | first ∷ others ↦ record {
    level = level;
    block = number births level o.born;
    prev = prev_behind births level 0 o.full;
    low_key = high_key_on births level first;
    before = first_tuple_on births level first ∷ map (tuple_on births level) others;
    last = tuple_on births level o.last;
    extra = o.last.extra;
  }
]

abbrev pub states : List Birth → ℕ → List (Open Content) → List PageState
states births level [] = []
states births level (o ∷ above) = state_of births level o ∷ states births (suc level) above

-- the node of a page that is full: its left neighbour's block, the block to its right, and the item that begins that one
abbrev pub full_node : List Birth → ℕ → ℕ → Page Content → ℕ → Item Content → Node
full_node births level prev page next item = record {
  block = block_on births level page;
  bytes = bounded_page prev next level (flags_on level false) (high_key_on births level item)
      (tuples_on births level page);
}

-- the node of a page that is the last of its level
abbrev pub last_node : List Birth → ℕ → Bool → ℕ → Page Content → Node
last_node births level root prev page = record {
  block = block_on births level page;
  bytes = rightmost_page prev level (flags_on level root) (tuples_on births level page);
}

-- the nodes that a step finishes
abbrev pub made_by : List Birth → ℕ → ℕ → List (Open Content) → Item Content → List Node
made_by births fillfactor level [] item = []
made_by births fillfactor level (o ∷ above) item = elim (finished_by fillfactor level o item) [
  | None ↦ []
  | Some page ↦
      full_node births level (prev_behind births level 0 o.full) page (number births level item.arrival) o.last
      ∷ made_by births fillfactor (suc level) above (item_above page)
]

-- those that closing finishes
abbrev pub made_closing : List Birth → ℕ → ℕ → ℕ → ℕ → List (Open Content) → List Node
made_closing births zero fillfactor level moment opens = []
made_closing births (suc bound) fillfactor level moment [] = []
made_closing births (suc bound) fillfactor level moment (o ∷ []) =
    last_node births level true (prev_behind births level 0 o.full) (last_page moment o) ∷ []
made_closing births (suc bound) fillfactor level moment (o ∷ next ∷ above) =
    let item = item_above (last_page moment o) in
    last_node births level false (prev_behind births level 0 o.full) (last_page moment o)
    ∷ (made_by births fillfactor (suc level) (next ∷ above) item
    ++ made_closing births bound fillfactor (suc level) (suc moment) (step fillfactor (suc level) (next ∷ above) item))

-- those of the items behind a tower, and then of closing
abbrev pub made_from : List Birth → ℕ → ℕ → ℕ → List (Open Content) → List (Item Content) → List Node
made_from births bound fillfactor moment opens [] = made_closing births bound fillfactor 0 moment opens
made_from births bound fillfactor moment opens (item ∷ items) =
    made_by births fillfactor 0 opens item
    ++ made_from births bound fillfactor moment (step fillfactor 0 opens item) items
