-- What is read of a GIN file (scanEntry and its kin of ginget.c): the entry tree with its root at block 1, and the
-- posting trees that its leaves name.
use Rattle.std.specs.Prelude.{◌≡◌, ◌⊎◌, ℕ, true, Some, List, map, All}
use Rattle.std.specs.List.{AllZip, flat_map}
use Rattle.std.specs.List.Sorted.{IsStrictlySortedBy}
use Rattle.opclass.specs.declared.types.ColType.{ColType}
use Rattle.gin_entry.specs.EntryMap.{IsPostingList, Posting}
use Rattle.gin_entry.specs.EntryOrder.{entry_cmp}
use Rattle.posting_tree.specs.PostingTree.{IsReadAs}
use Rattle.posting_tree.specs.Reading.{contents_below}
use Rattle.gin_file.specs.EntryTree.{entry_sight}
use Rattle.gin_file.specs.Item.{IsTupleOf}
use Rattle.gin_file.specs.declared.entry_reading.EntryItem.TheVariants as item

-- A leaf's tuple tells an entry and its pointers: it has the list in it, or names the root of the tree in which it
-- stands.
abbrev pub Tells : ColType → List ℕ → List ℕ → Posting → Type 0
Tells kind file tuple posting =
    IsTupleOf kind true tuple (item.List posting.entry posting.pointers)
    ⊎ ((root : ℕ) × IsTupleOf kind true tuple (item.Tree posting.entry root) × IsReadAs file root posting.pointers)

-- A file is read as these postings: its leaves tell them, from the leftmost along the right links, entries ascend, and
-- so does each list.
pub record IsReadAsPostings (kind : ColType) (file : List ℕ) (postings : List Posting) : Type 0 where
  pub leaves : List (List (List ℕ))
  pub found : contents_below entry_sight file 1 ≡ Some leaves
  pub told : AllZip (Tells kind file) (flat_map (λ tuples. tuples) leaves) postings
  pub ascending : IsStrictlySortedBy entry_cmp (map (λ posting. posting.entry) postings)
  pub lists : All (λ posting. IsPostingList posting.pointers) postings
