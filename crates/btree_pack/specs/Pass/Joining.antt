-- Leaf tuples that join the open leaf one behind the other.
use Rattle.std.specs.Prelude.{◌≡◌, ℕ, ◌+◌, ◌≤◌, Bool, true, false, if◌then◌else◌, List, [], ◌∷◌, length, take, drop}
use Rattle.pg_bytes.specs.PageLayout.{line_pointer_size}
use Rattle.btree_pack.specs.Break.{page_room, spare}
use Rattle.btree_pack.specs.Pass.Packing.{PageState, Packing, added, breaks_at, is_full, used, with_tuple}
use Rattle.btree_pack.specs.Pass.Run.{Leaf}
use Rattle.btree_pack.specs.declared.page_fill.PageFill.{PageFill}

-- how full a page is
abbrev pub fill_of : PageState → PageFill
fill_of page = record {
  level = page.level;
  alone = elim page.before [
    | [] ↦ true
    | first ∷ others ↦ false
  ];
  taken = used page;
  extra = page.extra;
}

-- whether a tuple of this size breaks a page that is so full
abbrev pub fill_breaks : ℕ → PageFill → ℕ → Bool
fill_breaks fillfactor fill size =
    if fill.alone then false else breaks_at fillfactor fill.level fill.taken fill.extra size

-- a page with these leaf tuples more
abbrev pub with_leaves : List Leaf → PageState → PageState
with_leaves [] page = page
with_leaves (leaf ∷ leaves) page = with_leaves leaves (with_tuple leaf.tuple leaf.extra page)

-- none of these leaf tuples breaks the page at its turn
abbrev pub AllJoin : ℕ → PageState → List Leaf → Type 0
AllJoin fillfactor page [] = Unit {0}
AllJoin fillfactor page (leaf ∷ leaves) =
    (is_full fillfactor page (length leaf.tuple) ≡ false)
    × AllJoin fillfactor (with_tuple leaf.tuple leaf.extra page) leaves

-- the first of these, if there is one, breaks the page
abbrev pub FirstBreaks : ℕ → PageState → List Leaf → Type 0
FirstBreaks fillfactor page [] = Unit {0}
FirstBreaks fillfactor page (leaf ∷ leaves) = is_full fillfactor page (length leaf.tuple) ≡ true

-- the page has room for these
abbrev pub HasRoomFor : List Leaf → PageState → Type 0
HasRoomFor leaves page = used (with_leaves leaves page) + spare page.level ≤ page_room + line_pointer_size

-- so many of these leaf tuples join the page before one breaks it
pub record AreJoining (fillfactor : ℕ) (page : PageState) (leaves : List Leaf) (count : ℕ) : Type 0 where
  pub within : count ≤ length leaves
  pub join : AllJoin fillfactor page (take count leaves)
  pub end : FirstBreaks fillfactor (with_leaves (take count leaves) page) (drop count leaves)
  pub room : HasRoomFor (take count leaves) page

-- what is kept once these leaf tuples are added to the open leaf, one behind the other
abbrev pub all_added : List Leaf → Packing → Packing
all_added [] packing = packing
all_added (leaf ∷ leaves) packing = all_added leaves (added leaf.tuple leaf.extra packing)
