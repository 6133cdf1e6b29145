-- The entry tree (ginentrypage.c): a tree of pages in levels whose leaves have a tuple for each entry, and its reading.
use Rattle.std.specs.Prelude.{ℕ, ◌+◌, ◌-◌, nat_eq, if◌then◌else◌, List, [], ◌∷◌, length, map}
use Rattle.pg_bytes.specs.ItemPage.{item_page}
use Rattle.pg_bytes.specs.Lines.{items_on}
use Rattle.pg_bytes.specs.PageLayout.{header_size, line_pointer_size}
use Rattle.pg_bytes.specs.Pointers.{row_pointer_at}
use Rattle.opclass.specs.declared.types.ColType.{ColType}
use Rattle.gin_entry.specs.declared.entry.Entry.{Entry}
use Rattle.posting_tree.specs.Levels.{Downlink, Kind}
use Rattle.posting_tree.specs.Reading.{Sight}
use Rattle.posting_tree.specs.Reading.Sight.{SeenInner, SeenLeaf, SeenOther}
use Rattle.posting_tree.specs.Special.{flags_of, leaf_flag, right_of, special_space, special_start}
use Rattle.gin_file.specs.EntryTuple.{inner_tuple}

-- ---- pages

-- the flags of a page above the leaves
abbrev pub inner_flags : ℕ
inner_flags = 0

-- a page of the entry tree with these tuples
abbrev pub entry_page : ℕ → ℕ → List (List ℕ) → List ℕ
entry_page flags right tuples = item_page (special_space right 0 flags) tuples

-- a tuple of the entry tree, and its entry
pub record Item : Type 0 where
  pub entry : Entry
  pub tuple : List ℕ

-- what a page has for tuples and their line pointers
abbrev pub page_room : ℕ
page_room = special_start - header_size

-- the bytes that a tuple takes with its line pointer
abbrev pub item_size : Item → ℕ
item_size item = length item.tuple + line_pointer_size

-- tuples on pages with these flags
abbrev pub item_kind : ℕ → Kind Item Entry
item_kind flags = record {
  size = item_size;
  key_of = λ item. item.entry;
  room = page_room;
  image = λ right items. entry_page flags right (map (λ item. item.tuple) items);
}

-- those of the leaves
abbrev pub leaf_kind : Kind Item Entry
leaf_kind = item_kind leaf_flag

-- the tuple above the leaves that leads to a page
abbrev pub link_item : ColType → Downlink Entry → Item
link_item kind link = record { entry = link.key; tuple = inner_tuple kind link }

-- and those of the levels above
abbrev pub inner_kind : ColType → Kind (Downlink Entry) Entry
inner_kind kind = record {
  size = λ link. item_size (link_item kind link);
  key_of = λ link. link.key;
  room = page_room;
  image = λ right links. entry_page inner_flags right (map (λ link. inner_tuple kind link) links);
}

-- ---- what is read of a page

-- what is seen of tuples above the leaves: the page to which the first one leads
abbrev pub first_child : List (List ℕ) → Sight (List (List ℕ))
first_child [] = SeenOther
first_child (first ∷ others) = SeenInner (row_pointer_at first 0).block

-- what is seen of a page of the entry tree: a leaf's tuples, or the first child of a page above
unfoldable pub entry_sight : List ℕ → Sight (List (List ℕ))
entry_sight page =
    if nat_eq (flags_of page) leaf_flag
    then SeenLeaf (right_of page) (items_on page)
    else (if nat_eq (flags_of page) inner_flags then first_child (items_on page) else SeenOther)
