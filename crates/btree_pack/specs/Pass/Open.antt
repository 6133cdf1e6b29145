-- What stands after some items have come: on each level the pages that are full, and one open page, to which the next
-- item is added or which it breaks.
use Rattle.std.specs.Prelude.{ℕ, zero, suc, List, [], ◌∷◌, ◌++◌, length, map, if◌then◌else◌, Option, Some, None}
use Rattle.btree_pack.specs.Break.{Item, breaks}
use Rattle.btree_pack.specs.Ends.{all_but_last, last_of}
use Rattle.btree_pack.specs.Pages.{Page, Level, cut}
use Rattle.btree_pack.specs.Tower.{item_above}

-- a level with its open page: the last item may yet begin the next page, those before it are the page's
pub record Open (C : Type 0) : Type 0 where
  pub full : List (Page C)
  pub before : List (Item C)
  pub last : Item C
  pub born : ℕ

-- a level whose last page is open
abbrev pub opened : {C : Type 0} → Level C → Open C
opened level = record {
  full = level.full;
  before = all_but_last level.rightmost.first level.rightmost.others;
  last = last_of level.rightmost.first level.rightmost.others;
  born = level.rightmost.born;
}

-- The levels from one on that has these items so far, at most so many: the level above has an item for each full page.
abbrev pub tower_within : {C : Type 0} → ℕ → ℕ → ℕ → List (Item C) → List (Open C)
tower_within zero fillfactor level items = []
tower_within (suc bound) fillfactor level [] = []
tower_within (suc bound) fillfactor level (first ∷ rest) =
    let open_level = opened (cut fillfactor level first rest) in
    open_level ∷ tower_within bound fillfactor (suc level) (map item_above open_level.full)

-- the tower over these leaf items
unfoldable pub tower : {C : Type 0} → ℕ → List (Item C) → List (Open C)
tower fillfactor items = tower_within (length items) fillfactor 0 items

-- the page that an item finishes, if it breaks the open page
abbrev pub finished_by : {C : Type 0} → ℕ → ℕ → Open C → Item C → Option (Page C)
finished_by fillfactor level open_level item = elim open_level.before [
  | [] ↦ None
  | first ∷ others ↦
      if breaks fillfactor level (first ∷ others) open_level.last item
      then Some (record { first = first; others = others; born = open_level.born; finished = item.arrival })
      else None
]

-- the level once an item has joined the open page
abbrev pub joined_by : {C : Type 0} → Open C → Item C → Open C
joined_by open_level item =
    record open_level { before = open_level.before ++ open_level.last ∷ []; last = item }

-- the level once an item has broken the open page: the last item of that one and the new one are on the next
abbrev pub broken_by : {C : Type 0} → Open C → Page C → Item C → Open C
broken_by open_level page item = record {
  full = open_level.full ++ page ∷ [];
  before = open_level.last ∷ [];
  last = item;
  born = item.arrival;
}

-- an item comes to a level: it joins the open page, or breaks it, and then an item comes to the level above
abbrev pub step : {C : Type 0} → ℕ → ℕ → List (Open C) → Item C → List (Open C)
step fillfactor level [] item = record { full = []; before = []; last = item; born = item.arrival } ∷ []
step fillfactor level (open_level ∷ above) item = elim (finished_by fillfactor level open_level item) [
  | None ↦ joined_by open_level item ∷ above
  | Some page ↦ broken_by open_level page item ∷ step fillfactor (suc level) above (item_above page)
]

-- the open page, finished at a moment
abbrev pub last_page : {C : Type 0} → ℕ → Open C → Page C
last_page moment open_level = elim open_level.before [
  | [] ↦ record { first = open_level.last; others = []; born = open_level.born; finished = moment }
  | first ∷ others ↦ record {
    first = first;
    others = others ++ open_level.last ∷ [];
    born = open_level.born;
    finished = moment;
  }
]

-- the pages of a level, the open one finished at a moment
abbrev pub all_pages : {C : Type 0} → ℕ → Open C → List (Page C)
all_pages moment open_level = open_level.full ++ last_page moment open_level ∷ []

-- The levels once the open pages are finished from below, a level a moment: a level that has another above it gives
-- that one an item for its last page. At most so many levels.
abbrev pub close : {C : Type 0} → ℕ → ℕ → ℕ → ℕ → List (Open C) → List (List (Page C))
close zero fillfactor level moment opens = []
close (suc bound) fillfactor level moment [] = []
close (suc bound) fillfactor level moment (open_level ∷ []) = all_pages moment open_level ∷ []
close (suc bound) fillfactor level moment (open_level ∷ next ∷ above) =
    all_pages moment open_level
    ∷ close bound fillfactor (suc level) (suc moment)
    (step fillfactor (suc level) (next ∷ above) (item_above (last_page moment open_level)))
