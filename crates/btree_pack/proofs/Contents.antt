-- What the levels hold: their items, each once and in order, and a root.
use Rattle.std.proofs.Common.{◌≡◌, ℕ, zero, suc, ◌+◌, ◌-◌, ◌≤◌, Bool, true, false, List, [], ◌∷◌, ◌++◌, length, map, take, drop, refl, sym, ap, ◌∙◌, subst, arith, length-append, append_assoc, append-nil}
use Rattle.std.proofs.lemmas.List.{length-map, take-append-drop, drop-drop}
use Rattle.std.proofs.lemmas.List.Concat.{flat_map-append}
use Rattle.std.specs.List.{flat_map}
use Rattle.std.specs.Prelude.{Option, Some, None}
use Rattle.btree_pack.specs.Break.{Item, breaks}
use Rattle.btree_pack.specs.Laws.{BeginsWith, EachNamesTheBelow, EndsInRoot}
use Rattle.btree_pack.specs.Pages.{Page, Level, Break, items_of, break_between, break_at, first_break, cut_within, cut}
use Rattle.btree_pack.specs.Tower.{item_above, finished_at, pages_of, levels_within, levels}
use Rattle.btree_pack.proofs.Cutting.{least_answer-All, cut-unbroken, cut-broken, full-fewer}
use Rattle.btree_pack.proofs.Towers.{levels-root, levels-more}

module _ {C : Type 0} (fillfactor level : ℕ) where
  -- where a page breaks, its last item and the one that breaks it stand
  break_between-items : (count : ℕ) (before rest : List (Item C)) (b : Break C)
      → break_between fillfactor level count before rest ≡ Some b
      → (b.count ≡ count) × (rest ≡ b.last ∷ drop 1 rest)
  break_between-items count before [] b e = cc
  break_between-items count before (last ∷ []) b e = cc
  break_between-items count before (last ∷ item ∷ behind) b e = go (breaks fillfactor level before last item) refl
    where
      go : (t : Bool) → breaks fillfactor level before last item ≡ t → (b.count ≡ count) × (last ∷ item ∷ behind ≡ b.last ∷ item ∷ behind)
      go true is =
          let same : Some (record { count = count; last = last; item = item }) ≡ Some b = rw is at e in
          let there : record { count = count; last = last; item = item } ≡ b = cc in
          (sym (ap (λ (x : Break C). x.count) there), ap (λ (x : Break C). x.last ∷ item ∷ behind) there)
      go false is = let none : None ≡ Some b = rw is at e in cc

  pub first_break-last : (first : Item C) (rest : List (Item C)) (b : Break C)
      → first_break fillfactor level first rest ≡ Some b → drop b.count rest ≡ b.last ∷ drop (suc b.count) rest
  first_break-last first rest b e =
      least_answer-All (λ b. drop b.count rest ≡ b.last ∷ drop (suc b.count) rest) (break_at fillfactor level first rest) 0 (length rest - 1)
      (λ k x low high here.
      let parts = break_between-items k (first ∷ take k rest) (drop k rest) x here in
      let behind : drop 1 (drop k rest) ≡ drop (suc k) rest = drop-drop 1 k rest ∙ ap (λ (n : ℕ). drop n rest) (let e : k + 1 ≡ suc k = omega arith in e) in
      subst (λ (n : ℕ). drop n rest ≡ x.last ∷ drop (suc n) rest) (sym parts.0) (parts.1 ∙ ap (λ l. x.last ∷ l) behind))
      b e

  -- the items of the pages are the items
  cut-items : (bound born : ℕ) (first : Item C) (rest : List (Item C))
      → flat_map items_of (cut_within bound fillfactor level born first rest).full
      ++ (cut_within bound fillfactor level born first rest).rightmost.first ∷ (cut_within bound fillfactor level born first rest).rightmost.others
      ≡ first ∷ rest
  cut-items zero born first rest = refl
  cut-items (suc bound) born first rest =
      go (first_break fillfactor level first rest) refl (λ b. cut-items bound b.item.arrival b.last (drop (suc b.count) rest))
    where
      whole : Level C → List (Item C)
      whole l = flat_map items_of l.full ++ l.rightmost.first ∷ l.rightmost.others

      go : (a : Option (Break C)) → first_break fillfactor level first rest ≡ a
          → ((b : Break C) → whole (cut_within bound fillfactor level b.item.arrival b.last (drop (suc b.count) rest)) ≡ b.last ∷ drop (suc b.count) rest)
          → whole (cut_within (suc bound) fillfactor level born first rest) ≡ first ∷ rest
      go None is later = ap whole (cut-unbroken fillfactor level (suc bound) born first rest is)
      go (Some b) is later =
          let page : List (Item C) = first ∷ take b.count rest in
          let behind = cut_within bound fillfactor level b.item.arrival b.last (drop (suc b.count) rest) in
          ap whole (cut-broken fillfactor level bound born first rest b is)
          ∙ append_assoc page (flat_map items_of behind.full) (behind.rightmost.first ∷ behind.rightmost.others)
          ∙ ap (λ l. page ++ l) (later b ∙ sym (first_break-last first rest b is))
          ∙ ap (λ l. first ∷ l) (take-append-drop b.count rest)

  pub pages-items : (moment : ℕ) (first : Item C) (rest : List (Item C))
      → flat_map items_of (pages_of moment (cut fillfactor level first rest)) ≡ first ∷ rest
  unfolding cut
  pages-items moment first rest =
      let l = cut fillfactor level first rest in
      flat_map-append items_of l.full (finished_at moment l.rightmost ∷ [])
      ∙ ap (λ last. flat_map items_of l.full ++ last) (append-nil (l.rightmost.first ∷ l.rightmost.others))
      ∙ cut-items (length rest) first.arrival first rest

module _ {C : Type 0} (fillfactor : ℕ) where
  -- a level that has several pages, and what is above it
  length-pages : (level moment : ℕ) (first : Item C) (rest : List (Item C))
      → length (pages_of moment (cut fillfactor level first rest)) ≡ length (cut fillfactor level first rest).full + 1
  length-pages level moment first rest =
      let l = cut fillfactor level first rest in length-append l.full (finished_at moment l.rightmost ∷ [])

  begins : (bound level moment : ℕ) (items : List (Item C)) → length items ≤ bound
      → BeginsWith items (levels_within bound fillfactor level moment items)
  begins zero level moment [] fits = refl
  begins zero level moment (first ∷ rest) fits = absurd (omega arith)
  begins (suc bound) level moment [] fits = refl
  begins (suc bound) level moment (first ∷ rest) fits = pages-items fillfactor level moment first rest

  -- a level before others
  names-more : (pages : List (Page C)) (above : List (List (Page C))) → BeginsWith (map item_above pages) above → EachNamesTheBelow above
      → EachNamesTheBelow (pages ∷ above)
  names-more pages [] begin names = tt
  names-more pages (above ∷ others) begin names = (begin, names)

  ends-more : (pages : List (Page C)) (above : List (List (Page C))) → 2 ≤ length pages → BeginsWith (map item_above pages) above → EndsInRoot above
      → EndsInRoot (pages ∷ above)
  ends-more [] above many begin ends = absurd (omega arith)
  ends-more (page ∷ pages) [] many begin ends = cc
  ends-more (page ∷ pages) (above ∷ others) many begin ends = (many, ends)

  both : (bound level moment : ℕ) (items : List (Item C)) → length items ≤ bound
      → EachNamesTheBelow (levels_within bound fillfactor level moment items) × EndsInRoot (levels_within bound fillfactor level moment items)
  both zero level moment items fits = (tt, tt)
  both (suc bound) level moment [] fits = (tt, tt)
  both (suc bound) level moment (first ∷ rest) fits =
      go (cut fillfactor level first rest).full refl (both bound (suc level) (suc moment))
    where
      pages : List (Page C)
      pages = pages_of moment (cut fillfactor level first rest)

      go : (full : List (Page C)) → (cut fillfactor level first rest).full ≡ full
          → ((items : List (Item C)) → length items ≤ bound
          → EachNamesTheBelow (levels_within bound fillfactor (suc level) (suc moment) items)
          × EndsInRoot (levels_within bound fillfactor (suc level) (suc moment) items))
          → EachNamesTheBelow (levels_within (suc bound) fillfactor level moment (first ∷ rest))
          × EndsInRoot (levels_within (suc bound) fillfactor level moment (first ∷ rest))
      go [] is later =
          let count = length-pages level moment first rest in
          let none = ap length is in
          let one : length pages ≡ 1 = omega arith in
          let same = sym (levels-root fillfactor bound level moment first rest is) in
          (subst EachNamesTheBelow same tt, subst EndsInRoot same one)
      go (page ∷ others) is later =
          let few = full-fewer fillfactor level first rest in
          let count = length-pages level moment first rest in
          let some = ap length is in
          let mapped = length-map pages (item_above {C = C}) in
          let fit : length (map item_above pages) ≤ bound = omega arith in
          let above = levels_within bound fillfactor (suc level) (suc moment) (map item_above pages) in
          let begin = begins bound (suc level) (suc moment) (map item_above pages) fit in
          let rest' = later (map item_above pages) fit in
          let same = sym (levels-more fillfactor bound level moment first rest page others is) in (
            subst EachNamesTheBelow same (names-more pages above begin rest'.0),
            subst EndsInRoot same (ends-more pages above (omega arith) begin rest'.1),
          )

  pub levels_begin : (items : List (Item C)) → BeginsWith items (levels fillfactor items)
  unfolding levels
  levels_begin items = begins (length items) 0 (length items + 1) items (omega arith)

  pub levels_name : (items : List (Item C)) → EachNamesTheBelow (levels fillfactor items)
  unfolding levels
  levels_name items = (both (length items) 0 (length items + 1) items (omega arith)).0

  pub levels_end : (items : List (Item C)) → EndsInRoot (levels fillfactor items)
  unfolding levels
  levels_end items = (both (length items) 0 (length items + 1) items (omega arith)).1
