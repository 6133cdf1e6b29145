-- The levels of a B-tree over sorted items (_bt_buildadd and _bt_uppershutdown of nbtsort.c).
use Rattle.std.specs.Prelude.{◌≡◌, ℕ, zero, suc, ◌+◌, List, [], ◌∷◌, ◌++◌, length, map}
use Rattle.std.specs.List.{range_with_len}
use Rattle.btree_pack.specs.Break.{Item}
use Rattle.btree_pack.specs.Pages.{Page, Rightmost, Level, cut}

-- The item that the level above has for a page, which arrives when the page is finished: the separator of the page's
-- first item. That of a level's first page stands first on its own page, where no separator is kept.
abbrev pub item_above : {C : Type 0} → Page C → Item C
item_above page = record {
  content = page.first.content;
  size = page.first.bound;
  extra = 0;
  bound = page.first.bound;
  arrival = page.finished;
  child = page.born;
}

-- the last page of a level, finished at a moment
abbrev pub finished_at : {C : Type 0} → ℕ → Rightmost C → Page C
finished_at moment page = record { first = page.first; others = page.others; born = page.born; finished = moment }

-- a level's pages, the last finished at a moment
abbrev pub pages_of : {C : Type 0} → ℕ → Level C → List (Page C)
pages_of moment level = level.full ++ finished_at moment level.rightmost ∷ []

-- The levels from one on that has these items, at most so many, which is as many as there are items: a level of several
-- pages has another above it, with an item for each page. The last pages are finished once all leaf items have arrived,
-- from the leaves up, a level a moment.
abbrev pub levels_within : {C : Type 0} → ℕ → ℕ → ℕ → ℕ → List (Item C) → List (List (Page C))
levels_within zero fillfactor level moment items = []
levels_within (suc bound) fillfactor level moment [] = []
levels_within (suc bound) fillfactor level moment (first ∷ rest) =
    let the_level = cut fillfactor level first rest in
    let pages = pages_of moment the_level in
    pages ∷ elim the_level.full [
      | [] ↦ []
      | page ∷ others ↦ levels_within bound fillfactor (suc level) (suc moment) (map item_above pages)
    ]

-- the levels over leaf items, leaves first, the root last
unfoldable pub levels : {C : Type 0} → ℕ → List (Item C) → List (List (Page C))
levels fillfactor items = levels_within (length items) fillfactor 0 (length items + 1) items

-- leaf items arrive one a moment, the first at moment 1
abbrev pub ArriveInTurn : {C : Type 0} → List (Item C) → Type 0
ArriveInTurn items = map (λ item. item.arrival) items ≡ range_with_len 1 (length items)
