-- The births of pages in the order in which the pass makes them: a counter that goes on by one with each gives the
-- blocks of the pages.
use Rattle.std.specs.Prelude.{ℕ, zero, suc, ◌+◌, List, [], ◌∷◌, ◌++◌, length, map, Some, None}
use Rattle.btree_pack.specs.Births.{Birth, births_from}
use Rattle.btree_pack.specs.Break.{Item}
use Rattle.btree_pack.specs.Tower.{item_above}
use Rattle.btree_pack.specs.Pass.Open.{Open, finished_by, step, last_page}

-- the moments at which a level's pages were born
abbrev pub moments_of : {C : Type 0} → Open C → List ℕ
moments_of open_level = map (λ page. page.born) open_level.full ++ open_level.born ∷ []

-- the births of a tower's pages, from a level on
abbrev pub births_in : {C : Type 0} → ℕ → List (Open C) → List Birth
births_in level opens = births_from level (map moments_of opens)

-- the births that a step makes: the right neighbour of each page that is broken, and the first page of a new level
abbrev pub born_by : {C : Type 0} → ℕ → ℕ → List (Open C) → Item C → List Birth
born_by fillfactor level [] item = record { moment = item.arrival; level = level } ∷ []
born_by fillfactor level (open_level ∷ above) item = elim (finished_by fillfactor level open_level item) [
  | None ↦ []
  | Some page ↦
      record { moment = item.arrival; level = level } ∷ born_by fillfactor (suc level) above (item_above page)
]

-- those that closing makes
abbrev pub born_closing : {C : Type 0} → ℕ → ℕ → ℕ → ℕ → List (Open C) → List Birth
born_closing zero fillfactor level moment opens = []
born_closing (suc bound) fillfactor level moment [] = []
born_closing (suc bound) fillfactor level moment (open_level ∷ []) = []
born_closing (suc bound) fillfactor level moment (open_level ∷ next ∷ above) =
    let item = item_above (last_page moment open_level) in
    born_by fillfactor (suc level) (next ∷ above) item
    ++ born_closing bound fillfactor (suc level) (suc moment) (step fillfactor (suc level) (next ∷ above) item)

-- those that come behind a tower when so many more items come, and then the open pages are finished
abbrev pub history_from : {C : Type 0} → ℕ → ℕ → ℕ → List (Open C) → List (Item C) → List Birth
history_from bound fillfactor moment opens [] = born_closing bound fillfactor 0 moment opens
history_from bound fillfactor moment opens (item ∷ items) =
    born_by fillfactor 0 opens item ++ history_from bound fillfactor moment (step fillfactor 0 opens item) items

-- all of them
unfoldable pub history : {C : Type 0} → ℕ → List (Item C) → List Birth
history fillfactor items = history_from (length items) fillfactor (length items + 1) [] items
