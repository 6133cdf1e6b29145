-- Pages are cut by what items take, whatever these say.
use Rattle.std.proofs.Common.{◌≡◌, ℕ, zero, suc, ◌+◌, ◌-◌, Bool, true, false, if◌then◌else◌, nat_lt, ◌||◌, Option, Some, None, List, [], ◌∷◌, ◌++◌, length, map, take, drop, fold, option_map, refl, sym, ap, ◌∙◌}
use Rattle.std.proofs.lemmas.List.{drop-map, length-map, map-append, take-map}
use Rattle.std.specs.List.{sum_by}
use Rattle.std.specs.Option.{option_or}
use Rattle.pg_bytes.specs.PageLayout.{line_pointer_size}
use Rattle.btree_pack.specs.Break.{Item, breaks, first_size, page_room, soft_limit, spare, taken}
use Rattle.btree_pack.specs.Groups.{Group, leaf_groups}
use Rattle.btree_pack.specs.KeyBounds.{LevelsAreToldByGroups, Neighbours, group_items, group_items_behind, retold, retold_page, saying, written}
use Rattle.btree_pack.specs.Leaves.{Images, leaf_item, leaf_items, leaf_items_behind, plain_of}
use Rattle.btree_pack.specs.Pages.{Break, Level, Page, break_at, break_between, cut, cut_within, first_break, least_answer, with_page}
use Rattle.btree_pack.specs.Tower.{finished_at, item_above, levels, levels_within, pages_of}
use Rattle.btree_pack.proofs.Cutting.{cut-broken, cut-unbroken}
use Rattle.btree_pack.proofs.Towers.{levels-more, levels-root}

option_or-map : {X Y : Type 0} (f : X → Y) (a b : Option X) → option_or (option_map f a) (option_map f b) ≡ option_map f (option_or a b)
option_or-map f None b = refl
option_or-map f (Some x) b = refl

least_answer-map : {X Y : Type 0} (f : X → Y) (answer : ℕ → Option X) (answer' : ℕ → Option Y) → ((k : ℕ) → answer' k ≡ option_map f (answer k))
    → (at more : ℕ) → least_answer answer' at more ≡ option_map f (least_answer answer at more)
least_answer-map f answer answer' same at zero = refl
least_answer-map f answer answer' same at (suc more) =
    ap (λ a. option_or a (least_answer answer' (suc at) more)) (same at)
    ∙ ap (option_or (option_map f (answer at))) (least_answer-map f answer answer' same (suc at) more)
    ∙ option_or-map f (answer at) (least_answer answer (suc at) more)

some_if-map : {X Y : Type 0} (f : X → Y) (b : Bool) (x : X) → (if b then Some (f x) else None) ≡ option_map f (if b then Some x else None)
some_if-map f true x = refl
some_if-map f false x = refl

module _ {C D : Type 0} (tell : C → D) where
  abbrev again : Item C → Item D
  again = retold tell

  abbrev break_again : Break C → Break D
  break_again b = record { count = b.count; last = again b.last; item = again b.item }

  abbrev level_again : Level C → Level D
  level_again level = record {
    full = map (retold_page tell) level.full;
    rightmost = record { first = again level.rightmost.first; others = map again level.rightmost.others; born = level.rightmost.born };
  }

  sum-again : (start : ℕ) (items : List (Item C))
      → fold (λ (sum : ℕ) (item : Item D). sum + (item.size + line_pointer_size)) start (map again items)
      ≡ fold (λ (sum : ℕ) (item : Item C). sum + (item.size + line_pointer_size)) start items
  sum-again start [] = refl
  sum-again start (item ∷ items) = sum-again (start + (item.size + line_pointer_size)) items

  first_size-again : (level : ℕ) (item : Item C) → first_size level (again item) ≡ first_size level item
  first_size-again zero item = refl
  first_size-again (suc level) item = refl

  taken-again : (level : ℕ) (items : List (Item C)) → taken level (map again items) ≡ taken level items
  taken-again level [] = refl
  taken-again level (first ∷ others) =
      ap (λ (n : ℕ). (n + line_pointer_size) + sum_by (λ item. item.size + line_pointer_size) (map again others)) (first_size-again level first)
      ∙ ap (λ (n : ℕ). (first_size level first + line_pointer_size) + n) (sum-again 0 others)

  module _ (fillfactor level : ℕ) where
    breaks-again : (before : List (Item C)) (last item : Item C)
        → breaks fillfactor level (map again before) (again last) (again item) ≡ breaks fillfactor level before last item
    breaks-again before last item =
        ap (λ (n : ℕ). nat_lt page_room (n + (item.size + spare level)) || nat_lt (page_room + last.extra) (n + soft_limit fillfactor level))
        (ap (taken level) (sym (map-append again before (last ∷ []))) ∙ taken-again level (before ++ last ∷ []))

    break_between-again : (count : ℕ) (before rest : List (Item C))
        → break_between fillfactor level count (map again before) (map again rest)
        ≡ option_map break_again (break_between fillfactor level count before rest)
    break_between-again count before [] = refl
    break_between-again count before (last ∷ []) = refl
    break_between-again count before (last ∷ item ∷ behind) =
        ap (λ b. if b then Some (record { count = count; last = again last; item = again item }) else None) (breaks-again before last item)
        ∙ some_if-map break_again (breaks fillfactor level before last item) (record { count = count; last = last; item = item })

    break_at-again : (first : Item C) (rest : List (Item C)) (count : ℕ)
        → break_at fillfactor level (again first) (map again rest) count ≡ option_map break_again (break_at fillfactor level first rest count)
    break_at-again first rest count =
        ap (λ before. break_between fillfactor level count (again first ∷ before) (drop count (map again rest))) (take-map again count rest)
        ∙ ap (break_between fillfactor level count (again first ∷ map again (take count rest))) (drop-map again count rest)
        ∙ break_between-again count (first ∷ take count rest) (drop count rest)

    first_break-again : (first : Item C) (rest : List (Item C))
        → first_break fillfactor level (again first) (map again rest) ≡ option_map break_again (first_break fillfactor level first rest)
    first_break-again first rest =
        ap (λ (n : ℕ). least_answer (break_at fillfactor level (again first) (map again rest)) 0 (n - 1)) (length-map rest again)
        ∙ least_answer-map break_again (break_at fillfactor level first rest) (break_at fillfactor level (again first) (map again rest))
        (break_at-again first rest) 0 (length rest - 1)

    cut_within-again : (bound born : ℕ) (first : Item C) (rest : List (Item C))
        → cut_within bound fillfactor level born (again first) (map again rest) ≡ level_again (cut_within bound fillfactor level born first rest)
    cut_within-again zero born first rest = refl
    cut_within-again (suc bound) born first rest =
        go (first_break fillfactor level first rest) refl (λ b. cut_within-again bound b.item.arrival b.last (drop (suc b.count) rest))
      where
        go : (a : Option (Break C)) → first_break fillfactor level first rest ≡ a
            → ((b : Break C)
            → cut_within bound fillfactor level b.item.arrival (again b.last) (map again (drop (suc b.count) rest))
            ≡ level_again (cut_within bound fillfactor level b.item.arrival b.last (drop (suc b.count) rest)))
            → cut_within (suc bound) fillfactor level born (again first) (map again rest)
            ≡ level_again (cut_within (suc bound) fillfactor level born first rest)
        go None is later =
            cut-unbroken fillfactor level (suc bound) born (again first) (map again rest) (first_break-again first rest ∙ ap (option_map break_again) is)
            ∙ ap level_again (sym (cut-unbroken fillfactor level (suc bound) born first rest is))
        go (Some b) is later =
            cut-broken fillfactor level bound born (again first) (map again rest) (break_again b) (first_break-again first rest ∙ ap (option_map break_again) is)
            ∙ ap (λ others. with_page (record { first = again first; others = others; born = born; finished = b.item.arrival })
            (cut_within bound fillfactor level b.item.arrival (again b.last) (drop (suc b.count) (map again rest)))) (take-map again b.count rest)
            ∙ ap (λ behind. with_page (record { first = again first; others = map again (take b.count rest); born = born; finished = b.item.arrival })
            (cut_within bound fillfactor level b.item.arrival (again b.last) behind)) (drop-map again (suc b.count) rest)
            ∙ ap (with_page (record { first = again first; others = map again (take b.count rest); born = born; finished = b.item.arrival })) (later b)
            ∙ ap level_again (sym (cut-broken fillfactor level bound born first rest b is))

    cut-again : (first : Item C) (rest : List (Item C)) → cut fillfactor level (again first) (map again rest) ≡ level_again (cut fillfactor level first rest)
    unfolding cut
    cut-again first rest =
        ap (λ (n : ℕ). cut_within n fillfactor level first.arrival (again first) (map again rest)) (length-map rest again)
        ∙ cut_within-again (length rest) first.arrival first rest

  pages-again : (moment : ℕ) (level : Level C) → pages_of moment (level_again level) ≡ map (retold_page tell) (pages_of moment level)
  pages-again moment level = sym (map-append (retold_page tell) level.full (finished_at moment level.rightmost ∷ []))

  above-again : (pages : List (Page C)) → map item_above (map (retold_page tell) pages) ≡ map again (map item_above pages)
  above-again [] = refl
  above-again (page ∷ pages) = ap (λ l. again (item_above page) ∷ l) (above-again pages)

  abbrev tree_again : List (List (Page C)) → List (List (Page D))
  tree_again = map (map (retold_page tell))

  levels_within-again : (bound fillfactor level moment : ℕ) (items : List (Item C))
      → levels_within bound fillfactor level moment (map again items) ≡ tree_again (levels_within bound fillfactor level moment items)
  levels_within-again zero fillfactor level moment items = refl
  levels_within-again (suc bound) fillfactor level moment [] = refl
  levels_within-again (suc bound) fillfactor level moment (first ∷ rest) =
      go (cut fillfactor level first rest).full refl (levels_within-again bound fillfactor (suc level) (suc moment))
    where
      pages : List (Page C)
      pages = pages_of moment (cut fillfactor level first rest)

      same : pages_of moment (cut fillfactor level (again first) (map again rest)) ≡ map (retold_page tell) pages
      same = ap (pages_of moment) (cut-again fillfactor level first rest) ∙ pages-again moment (cut fillfactor level first rest)

      go : (full : List (Page C)) → (cut fillfactor level first rest).full ≡ full
          → ((items : List (Item C))
          → levels_within bound fillfactor (suc level) (suc moment) (map again items) ≡ tree_again (levels_within bound fillfactor (suc level) (suc moment) items))
          → levels_within (suc bound) fillfactor level moment (map again (first ∷ rest))
          ≡ tree_again (levels_within (suc bound) fillfactor level moment (first ∷ rest))
      go [] is later =
          levels-root fillfactor bound level moment (again first) (map again rest)
          (ap (λ (l : Level D). l.full) (cut-again fillfactor level first rest) ∙ ap (map (retold_page tell)) is)
          ∙ ap (λ l. l ∷ []) same
          ∙ ap tree_again (sym (levels-root fillfactor bound level moment first rest is))
      go (page ∷ others) is later =
          levels-more fillfactor bound level moment (again first) (map again rest) (retold_page tell page) (map (retold_page tell) others)
          (ap (λ (l : Level D). l.full) (cut-again fillfactor level first rest) ∙ ap (map (retold_page tell)) is)
          ∙ ap (λ l. l ∷ levels_within bound fillfactor (suc level) (suc moment) (map item_above l)) same
          ∙ ap (λ l. map (retold_page tell) pages ∷ levels_within bound fillfactor (suc level) (suc moment) l) (above-again pages)
          ∙ ap (λ l. map (retold_page tell) pages ∷ l) (later (map item_above pages))
          ∙ ap tree_again (sym (levels-more fillfactor bound level moment first rest page others is))

  levels-again : (fillfactor : ℕ) (items : List (Item C)) → levels fillfactor (map again items) ≡ tree_again (levels fillfactor items)
  unfolding levels
  levels-again fillfactor items =
      ap (λ (n : ℕ). levels_within n fillfactor 0 (n + 1) (map again items)) (length-map items again)
      ∙ levels_within-again (length items) fillfactor 0 (length items + 1) items

-- ---- leaf items

item-written : (images : Images) (moment : ℕ) (left : Option Group) (group : Group)
    → leaf_item images moment left group
    ≡ retold (written images) (saying {D = Neighbours} (record { left = left; group = group }) (leaf_item images moment left group))
item-written images moment None group = refl
item-written images moment (Some left) group = refl

items-written : (images : Images) (moment : ℕ) (left : Option Group) (groups : List Group)
    → leaf_items_behind images moment left groups ≡ map (retold (written images)) (group_items_behind images moment left groups)
items-written images moment left [] = refl
items-written images moment left (group ∷ groups) =
    ap (λ item. item ∷ leaf_items_behind images (moment + 1) (Some group) groups) (item-written images moment left group)
    ∙ ap (λ items. retold (written images) (saying {D = Neighbours} (record { left = left; group = group }) (leaf_item images moment left group)) ∷ items)
    (items-written images (moment + 1) (Some group) groups)

pub levels_are_told_by_groups : LevelsAreToldByGroups
unfolding leaf_items group_items
levels_are_told_by_groups images shares fillfactor rows =
    ap (levels fillfactor) (items-written images 1 None (leaf_groups (λ row. length (plain_of images row)) shares rows))
    ∙ levels-again (written images) fillfactor (group_items_behind images 1 None (leaf_groups (λ row. length (plain_of images row)) shares rows))
