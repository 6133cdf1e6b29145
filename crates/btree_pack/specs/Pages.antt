-- The items of a level, cut into pages (_bt_buildadd of nbtsort.c). The last item before the one that breaks a page
-- goes over to the next page and begins it; so a page isn't broken before it has two items.
use Rattle.std.specs.Prelude.{ℕ, zero, suc, ◌-◌, List, [], ◌∷◌, length, take, drop, if◌then◌else◌, Option, Some, None}
use Rattle.std.specs.Option.{option_or}
use Rattle.btree_pack.specs.Break.{Item, breaks}

-- a page: its items, which are one at least, and the moments at which it is born and finished
pub record Page (C : Type 0) : Type 0 where
  pub first : Item C
  pub others : List (Item C)
  pub born : ℕ
  pub finished : ℕ

-- the items of a page
abbrev pub items_of : {C : Type 0} → Page C → List (Item C)
items_of page = page.first ∷ page.others

-- the last page of a level, which isn't finished by an item
pub record Rightmost (C : Type 0) : Type 0 where
  pub first : Item C
  pub others : List (Item C)
  pub born : ℕ

-- the pages of a level
pub record Level (C : Type 0) : Type 0 where
  pub full : List (Page C)
  pub rightmost : Rightmost C

-- where a page ends: how many items it has behind its first, the item that goes over to the next page, and the one that
-- broke it
pub record Break (C : Type 0) : Type 0 where
  pub count : ℕ
  pub last : Item C
  pub item : Item C

-- the break of a page with these items where these stand behind them, if the second of those breaks it: the first one
-- goes over
abbrev pub break_between : {C : Type 0} → ℕ → ℕ → ℕ → List (Item C) → List (Item C) → Option (Break C)
break_between fillfactor level count before [] = None
break_between fillfactor level count before (last ∷ []) = None
break_between fillfactor level count before (last ∷ item ∷ behind) =
    if breaks fillfactor level before last item
    then Some (record { count = count; last = last; item = item })
    else None

-- the break of a page that begins with an item, has so many of these behind it, and ends there
abbrev pub break_at : {C : Type 0} → ℕ → ℕ → Item C → List (Item C) → ℕ → Option (Break C)
break_at fillfactor level first rest count =
    break_between fillfactor level count (first ∷ take count rest) (drop count rest)

-- the answer at the least of so many numbers, from one on, at which there is one
abbrev pub least_answer : {X : Type 0} → (ℕ → Option X) → ℕ → ℕ → Option X
least_answer answer at zero = None
least_answer answer at (suc more) = option_or (answer at) (least_answer answer (suc at) more)

-- where a page ends that begins with an item and has these behind it: at the first item that breaks it, unless there
-- is none
abbrev pub first_break : {C : Type 0} → ℕ → ℕ → Item C → List (Item C) → Option (Break C)
first_break fillfactor level first rest = least_answer (break_at fillfactor level first rest) 0 (length rest - 1)

-- a level with one page more on its left
abbrev pub with_page : {C : Type 0} → Page C → Level C → Level C
with_page page level = record level { full = page ∷ level.full }

-- the pages from one on that is born at a moment and begins with an item; at most so many of them are full, which is as
-- many as there are other items
abbrev pub cut_within : {C : Type 0} → ℕ → ℕ → ℕ → ℕ → Item C → List (Item C) → Level C
cut_within zero fillfactor level born first rest =
    record { full = []; rightmost = record { first = first; others = rest; born = born } }
cut_within (suc bound) fillfactor level born first rest = elim (first_break fillfactor level first rest) [
  | None ↦ record { full = []; rightmost = record { first = first; others = rest; born = born } }
  | Some b ↦ with_page
      (record { first = first; others = take b.count rest; born = born; finished = b.item.arrival })
      (cut_within bound fillfactor level b.item.arrival b.last (drop (suc b.count) rest))
]

-- The pages of a level that has these items: the first is born when its first item arrives, any other when its left
-- neighbour is finished, and a page that isn't the last is finished when the item arrives that breaks it.
unfoldable pub cut : {C : Type 0} → ℕ → ℕ → Item C → List (Item C) → Level C
cut fillfactor level first rest = cut_within (length rest) fillfactor level first.arrival first rest
