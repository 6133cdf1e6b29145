-- The open tower: one leaf item more is a step, and closing it gives the levels.
use Rattle.std.proofs.Common.{◌≡◌, ℕ, zero, suc, ◌+◌, ◌-◌, ◌≤◌, List, [], ◌∷◌, ◌++◌, length, map, refl, sym, ap, ◌∙◌, arith, length-append}
use Rattle.std.proofs.lemmas.List.{length-map, map_push}
use Rattle.std.specs.Prelude.{Option, Some, None}
use Rattle.btree_pack.specs.Break.{Item}
use Rattle.btree_pack.specs.Pages.{Page, Level, cut}
use Rattle.btree_pack.specs.Tower.{item_above, finished_at, pages_of, levels_within, levels}
use Rattle.btree_pack.specs.Pass.Open.{Open, opened, finished_by, joined_by, broken_by, tower_within, tower, step, last_page, all_pages, close}
use Rattle.btree_pack.proofs.Cutting.{all_but_last-append, arrived-joins, arrived-breaks, opened-push, full-fewer}

module _ {C : Type 0} (fillfactor : ℕ) where
  -- ---- one item more

  -- the items that the level above has, for the full pages of a level
  abbrev pub above_of : ℕ → Item C → List (Item C) → List (Item C)
  above_of level first rest = map item_above (cut fillfactor level first rest).full

  pub length-above_of : (level : ℕ) (first : Item C) (rest : List (Item C)) → length (above_of level first rest) ≤ length rest - 1
  length-above_of level first rest =
      let same = length-map (cut fillfactor level first rest).full (item_above {C = C}) in
      let few = full-fewer fillfactor level first rest in
      omega arith

  -- a bound above the number of items does as well
  tower-bound : (bound level : ℕ) (items : List (Item C)) → length items ≤ bound
      → tower_within (suc bound) fillfactor level items ≡ tower_within bound fillfactor level items
  tower-bound zero level [] fits = refl
  tower-bound zero level (first ∷ rest) fits = absurd (omega arith)
  tower-bound (suc bound) level [] fits = refl
  tower-bound (suc bound) level (first ∷ rest) fits =
      let few = length-above_of level first rest in
      ap (λ above. opened (cut fillfactor level first rest) ∷ above) (tower-bound bound (suc level) (above_of level first rest) (omega arith))

  pub step-joins : (level : ℕ) (o : Open C) (above : List (Open C)) (x : Item C) → finished_by fillfactor level o x ≡ None
      → step fillfactor level (o ∷ above) x ≡ joined_by o x ∷ above
  step-joins level o above x is = rw (is, step) refl

  pub step-breaks : (level : ℕ) (o : Open C) (above : List (Open C)) (x : Item C) (page : Page C) → finished_by fillfactor level o x ≡ Some page
      → step fillfactor level (o ∷ above) x ≡ broken_by o page x ∷ step fillfactor (suc level) above (item_above page)
  step-breaks level o above x page is = rw (is, step) refl

  pub tower-push : (bound level : ℕ) (items : List (Item C)) (x : Item C) → length items ≤ bound
      → tower_within (suc bound) fillfactor level (items ++ x ∷ []) ≡ step fillfactor level (tower_within bound fillfactor level items) x
  unfolding cut
  tower-push zero level [] x fits = refl
  tower-push zero level (first ∷ rest) x fits = absurd (omega arith)
  tower-push (suc bound) level [] x fits = refl
  tower-push (suc bound) level (first ∷ rest) x fits =
      go (finished_by fillfactor level (opened (cut fillfactor level first rest)) x) refl
      (λ page. tower-push bound (suc level) (above_of level first rest) (item_above page)
      (let few = length-above_of level first rest in omega arith))
    where
      o : Open C
      o = opened (cut fillfactor level first rest)

      with_above : Open C → List (Open C)
      with_above o = o ∷ tower_within (suc bound) fillfactor (suc level) (map item_above o.full)

      go : (f : Option (Page C)) → finished_by fillfactor level o x ≡ f
          → ((page : Page C)
          → tower_within (suc bound) fillfactor (suc level) (above_of level first rest ++ item_above page ∷ [])
          ≡ step fillfactor (suc level) (tower_within bound fillfactor (suc level) (above_of level first rest)) (item_above page))
          → tower_within (suc (suc bound)) fillfactor level (first ∷ rest ++ x ∷ [])
          ≡ step fillfactor level (tower_within (suc bound) fillfactor level (first ∷ rest)) x
      go None is later =
          let few = length-above_of level first rest in
          ap with_above (opened-push fillfactor level first rest x ∙ arrived-joins fillfactor level o x is)
          ∙ ap (λ above. joined_by o x ∷ above) (tower-bound bound (suc level) (above_of level first rest) (omega arith))
          ∙ sym (step-joins level o (tower_within bound fillfactor (suc level) (above_of level first rest)) x is)
      go (Some page) is later =
          ap with_above (opened-push fillfactor level first rest x ∙ arrived-breaks fillfactor level o x page is)
          ∙ ap (λ items. broken_by o page x ∷ tower_within (suc bound) fillfactor (suc level) items) (map_push item_above o.full page)
          ∙ ap (λ above. broken_by o page x ∷ above) (later page)
          ∙ sym (step-breaks level o (tower_within bound fillfactor (suc level) (above_of level first rest)) x page is)

  pub tower_step : (items : List (Item C)) (x : Item C)
      → tower fillfactor (items ++ x ∷ []) ≡ step fillfactor 0 (tower fillfactor items) x
  unfolding tower
  tower_step items x =
      ap (λ (n : ℕ). tower_within n fillfactor 0 (items ++ x ∷ []))
      (let long = length-append items (x ∷ []) in let e : length (items ++ x ∷ []) ≡ suc (length items) = omega arith in e)
      ∙ tower-push (length items) 0 items x (omega arith)

  -- ---- the end

  pub last_page-opened : (moment : ℕ) (full : List (Page C)) (first : Item C) (others : List (Item C)) (born : ℕ)
      → last_page moment (opened (record { full = full; rightmost = record { first = first; others = others; born = born } }))
      ≡ record { first = first; others = others; born = born; finished = moment }
  last_page-opened moment full first [] born = refl
  last_page-opened moment full first (next ∷ others) born =
      ap (λ l. record { first = first; others = l; born = born; finished = moment }) (all_but_last-append next others)

  all_pages-opened : (moment : ℕ) (the_level : Level C) → all_pages moment (opened the_level) ≡ pages_of moment the_level
  all_pages-opened moment l =
      ap (λ page. l.full ++ page ∷ []) (last_page-opened moment l.full l.rightmost.first l.rightmost.others l.rightmost.born)

  pub tower-none : (bound level : ℕ) → tower_within {C = C} bound fillfactor level [] ≡ []
  tower-none zero level = refl
  tower-none (suc bound) level = refl

  close-none : (bound level moment : ℕ) → close {C = C} bound fillfactor level moment [] ≡ []
  close-none zero level moment = refl
  close-none (suc bound) level moment = refl

  pub close-more : (bound level moment : ℕ) (o : Open C) (above : List (Open C)) → 1 ≤ length above
      → close (suc bound) fillfactor level moment (o ∷ above)
      ≡ all_pages moment o ∷ close bound fillfactor (suc level) (suc moment) (step fillfactor (suc level) above (item_above (last_page moment o)))
  close-more bound level moment o [] some = absurd (omega arith)
  close-more bound level moment o (next ∷ above) some = refl

  pub length-tower : (bound level : ℕ) (items : List (Item C)) → length items ≤ bound → 1 ≤ length items
      → 1 ≤ length (tower_within bound fillfactor level items)
  length-tower bound level [] fits some = absurd (omega arith)
  length-tower zero level (first ∷ rest) fits some = absurd (omega arith)
  length-tower (suc bound) level (first ∷ rest) fits some = omega arith

  pub levels-root : (bound level moment : ℕ) (first : Item C) (rest : List (Item C)) → (cut fillfactor level first rest).full ≡ []
      → levels_within (suc bound) fillfactor level moment (first ∷ rest) ≡ pages_of moment (cut fillfactor level first rest) ∷ []
  levels-root bound level moment first rest is = rw (is, levels_within) refl

  pub levels-more : (bound level moment : ℕ) (first : Item C) (rest : List (Item C)) (page : Page C) (others : List (Page C))
      → (cut fillfactor level first rest).full ≡ page ∷ others
      → levels_within (suc bound) fillfactor level moment (first ∷ rest)
      ≡ pages_of moment (cut fillfactor level first rest)
      ∷ levels_within bound fillfactor (suc level) (suc moment) (map item_above (pages_of moment (cut fillfactor level first rest)))
  levels-more bound level moment first rest page others is =
      let pages = pages_of moment (cut fillfactor level first rest) in
      let above = levels_within bound fillfactor (suc level) (suc moment) (map item_above pages) in
      ap (λ (full : List (Page C)). pages ∷ (elim full as (λ full. List (List (Page C))) [ [] ↦ [] | page ∷ others ↦ above ])) is

  close-tower : (bound size level moment : ℕ) (items : List (Item C)) → length items ≤ size
      → close bound fillfactor level moment (tower_within size fillfactor level items) ≡ levels_within bound fillfactor level moment items
  close-tower zero size level moment items fits = refl
  close-tower (suc bound) size level moment [] fits = ap (close (suc bound) fillfactor level moment) (tower-none size level)
  close-tower (suc bound) zero level moment (first ∷ rest) fits = absurd (omega arith)
  close-tower (suc bound) (suc size) level moment (first ∷ rest) fits =
      go (cut fillfactor level first rest).full refl (close-tower bound (suc size) (suc level) (suc moment))
    where
      l : Level C
      l = cut fillfactor level first rest

      o : Open C
      o = opened l

      above : List (Open C)
      above = tower_within size fillfactor (suc level) (map item_above l.full)

      last : Page C
      last = finished_at moment l.rightmost

      go : (full : List (Page C)) → (cut fillfactor level first rest).full ≡ full
          → ((items : List (Item C)) → length items ≤ suc size
          → close bound fillfactor (suc level) (suc moment) (tower_within (suc size) fillfactor (suc level) items)
          ≡ levels_within bound fillfactor (suc level) (suc moment) items)
          → close (suc bound) fillfactor level moment (tower_within (suc size) fillfactor level (first ∷ rest))
          ≡ levels_within (suc bound) fillfactor level moment (first ∷ rest)
      go [] is later =
          ap (λ full. close (suc bound) fillfactor level moment (o ∷ tower_within size fillfactor (suc level) (map item_above full))) is
          ∙ ap (λ opens. close (suc bound) fillfactor level moment (o ∷ opens)) (tower-none size (suc level))
          ∙ ap (λ pages. pages ∷ []) (all_pages-opened moment l)
          ∙ sym (levels-root bound level moment first rest is)
      go (page ∷ others) is later =
          let some : 1 ≤ length (map item_above l.full) =
          let same = length-map l.full (item_above {C = C}) in let count = ap length is in omega arith in
          let few = length-above_of level first rest in
          let all_few : length (map item_above (pages_of moment l)) ≤ suc size =
          let same = length-map (pages_of moment l) (item_above {C = C}) in
          let same' = length-map l.full (item_above {C = C}) in
          let long = length-append l.full (last ∷ []) in
          omega arith in
          close-more bound level moment o above (length-tower size (suc level) (map item_above l.full) (omega arith) some)
          ∙ ap (λ pages. pages ∷ close bound fillfactor (suc level) (suc moment) (step fillfactor (suc level) above (item_above (last_page moment o)))) (all_pages-opened moment l)
          ∙ ap (λ page. pages_of moment l ∷ close bound fillfactor (suc level) (suc moment) (step fillfactor (suc level) above (item_above page)))
          (last_page-opened moment l.full l.rightmost.first l.rightmost.others l.rightmost.born)
          ∙ ap (λ opens. pages_of moment l ∷ close bound fillfactor (suc level) (suc moment) opens)
          (sym (tower-push size (suc level) (map item_above l.full) (item_above last) (omega arith)))
          ∙ ap (λ items. pages_of moment l ∷ close bound fillfactor (suc level) (suc moment) (tower_within (suc size) fillfactor (suc level) items))
          (sym (map_push item_above l.full last))
          ∙ ap (λ levels. pages_of moment l ∷ levels) (later (map item_above (pages_of moment l)) all_few)
          ∙ sym (levels-more bound level moment first rest page others is)

  pub close_tower : (items : List (Item C))
      → close (length items) fillfactor 0 (length items + 1) (tower fillfactor items) ≡ levels fillfactor items
  unfolding tower levels
  close_tower items = close-tower (length items) (length items) 0 (length items + 1) items (omega arith)
