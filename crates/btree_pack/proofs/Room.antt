-- No page holds more than fits.
use Rattle.std.proofs.Common.{◌≡◌, ℕ, zero, suc, ◌+◌, ◌-◌, ◌<◌, ◌≤◌, Bool, true, false, ◌||◌, nat_lt, List, [], ◌∷◌, ◌++◌, length, map, take, drop, refl, sym, ap, ◌∙◌, subst, arith, length-drop}
use Rattle.std.proofs.Common.{⊎_elim}
use Rattle.std.proofs.lemmas.Bool.{cases_lt}
use Rattle.std.proofs.lemmas.Bool.Decides.{nat_tests}
use Rattle.std.proofs.lemmas.List.{drop-drop, take-append-drop, nil_from_length}
use Rattle.std.proofs.lemmas.List.Sums.{sum_by-cons, sum_by_push}
use Rattle.std.specs.List.{sum_by}
use Rattle.std.specs.Prelude.{Option, Some, None, All}
use Rattle.btree_pack.specs.Break.{Item, first_size, taken, spare, breaks}
use Rattle.btree_pack.specs.Laws.{FitOnPages, EachLevelFits, IsSmall}
use Rattle.btree_pack.specs.Leaves.{Content}
use Rattle.btree_pack.specs.Pages.{Page, Level, Break, items_of, break_between, break_at, least_answer, first_break, cut_within, cut}
use Rattle.btree_pack.specs.Tower.{item_above, pages_of, levels_within, levels}
use Rattle.btree_pack.proofs.Contents.{first_break-last}
use Rattle.btree_pack.proofs.Cutting.{break_between-count, first_break-count, cut-unbroken, cut-broken}
use Rattle.btree_pack.proofs.Towers.{levels-root, levels-more}

-- before the least answer there is none
least_answer-none : {X : Type 0} (answer : ℕ → Option X) (at more : ℕ) → least_answer answer at more ≡ None
    → (k : ℕ) → at ≤ k → k < at + more → answer k ≡ None
least_answer-none answer at zero none k low high = absurd (omega arith)
least_answer-none {X} answer at (suc more) none k low high =
    go (answer at) refl (λ rest low. least_answer-none answer (suc at) more rest k low (omega arith))
  where
    go : (a : Option X) → answer at ≡ a → (least_answer answer (suc at) more ≡ None → suc at ≤ k → answer k ≡ None) → answer k ≡ None
    go None is later =
        ⊎_elim (λ above. later (rw is at none) above)
        (λ same. subst (λ (n : ℕ). answer n ≡ None) (let e : at ≡ k = omega arith in e) is)
        (cases_lt at k)
    go (Some x) is later = let impossible : Some x ≡ None = rw is at none in cc

least_answer-before : {X : Type 0} (answer : ℕ → Option X) (at more : ℕ) (x : X) → least_answer answer at more ≡ Some x
    → (k : ℕ) × (at ≤ k) × (answer k ≡ Some x) × ((j : ℕ) → at ≤ j → j < k → answer j ≡ None)
least_answer-before answer at zero x some = cc
least_answer-before {X} answer at (suc more) x some = go (answer at) refl (least_answer-before answer (suc at) more x)
  where
    go : (a : Option X) → answer at ≡ a
        → (least_answer answer (suc at) more ≡ Some x → (k : ℕ) × (suc at ≤ k) × (answer k ≡ Some x) × ((j : ℕ) → suc at ≤ j → j < k → answer j ≡ None))
        → (k : ℕ) × (at ≤ k) × (answer k ≡ Some x) × ((j : ℕ) → at ≤ j → j < k → answer j ≡ None)
    go None is later =
        let rest = later (rw is at some) in
        let above = rest.1 in (
          rest.0,
          omega arith,
          rest.2,
          λ j low high.
              ⊎_elim (λ over. rest.3 j over high)
              (λ same. subst (λ (n : ℕ). answer n ≡ None) (let e : at ≡ j = omega arith in e) is)
              (cases_lt at j),
        )
    go (Some y) is later =
        let same : Some y ≡ Some x = rw is at some in
        (at, omega arith, is ∙ same, λ j low high. absurd (omega arith))

-- ---- small items

-- an item that is small on its level
record IsSmallOn {C : Type 0} (level : ℕ) (item : Item C) : Type 0 where
  size : item.size + spare level ≤ 2712
  bound : item.bound ≤ item.size + spare level

AreSmall : {C : Type 0} → ℕ → List (Item C) → Type 0
AreSmall level [] = Unit {0}
AreSmall level (item ∷ items) = IsSmallOn level item × AreSmall level items

AreSmall-drop : {C : Type 0} (level k : ℕ) (items : List (Item C)) → AreSmall level items → AreSmall level (drop k items)
unfolding AreSmall
AreSmall-drop level zero items small = small
AreSmall-drop level (suc k) [] small = tt
AreSmall-drop level (suc k) (item ∷ items) small = AreSmall-drop level k items small.1

-- ---- what a page takes

take-more : {X : Type 0} (k : ℕ) (xs : List X) (y : X) (ys : List X) → drop k xs ≡ y ∷ ys → take (suc k) xs ≡ take k xs ++ y ∷ []
take-more zero [] y ys here = cc
take-more zero (x ∷ xs) y ys here = let same : x ≡ y = cc in ap (λ x. x ∷ []) same
take-more (suc k) [] y ys here = cc
take-more (suc k) (x ∷ xs) y ys here = ap (λ l. x ∷ l) (take-more k xs y ys here)

-- where the page isn't broken, there is room for the item and what it has to leave
room-left : {C : Type 0} (fillfactor level count : ℕ) (before : List (Item C)) (last item : Item C) (behind : List (Item C))
    → break_between fillfactor level count before (last ∷ item ∷ behind) ≡ None
    → taken level (before ++ last ∷ []) + (item.size + spare level) ≤ 8144
room-left {C} fillfactor level count before last item behind none = go (breaks fillfactor level before last item) refl
  where
    go : (t : Bool) → breaks fillfactor level before last item ≡ t → taken level (before ++ last ∷ []) + (item.size + spare level) ≤ 8144
    go true is = let impossible : ◌≡◌ {A = Option (Break C)} (Some (record { count = count; last = last; item = item })) None = rw is at none in cc
    go false is =
        let test : nat_lt 8144 (taken level (before ++ last ∷ []) + (item.size + spare level)) ≡ false = by_case _ _ is in
        grind (arith, nat_tests)
      where
        by_case : (a b : Bool) → (a || b) ≡ false → a ≡ false
        by_case true b e = e
        by_case false b e = refl

module _ {C : Type 0} (fillfactor level : ℕ) where
  -- the item behind so many, and the one behind that
  two-behind : (k : ℕ) (rest : List (Item C)) → k + 2 ≤ length rest
      → (y : Item C) × (z : Item C) × (ys : List (Item C)) × (drop k rest ≡ y ∷ z ∷ ys)
  two-behind k rest long = go (drop k rest) refl
    where
      go : (l : List (Item C)) → drop k rest ≡ l → (y : Item C) × (z : Item C) × (ys : List (Item C)) × (drop k rest ≡ y ∷ z ∷ ys)
      go [] is = let count = length-drop k rest in let none = ap length is in absurd (omega arith)
      go (y ∷ []) is = let count = length-drop k rest in let one = ap length is in absurd (omega arith)
      go (y ∷ z ∷ ys) is = (y, z, ys, is)

  -- a page's front with the item behind it, where that one doesn't break it
  room-at : (first : Item C) (rest : List (Item C)) (k : ℕ) (y z : Item C) (ys : List (Item C)) → drop k rest ≡ y ∷ z ∷ ys
      → break_at fillfactor level first rest k ≡ None
      → taken level (first ∷ take (suc k) rest) + (z.size + spare level) ≤ 8144
  room-at first rest k y z ys here none =
      let whole : break_between fillfactor level k (first ∷ take k rest) (y ∷ z ∷ ys) ≡ None =
      ap (break_between fillfactor level k (first ∷ take k rest)) (sym here) ∙ none in
      subst (λ l. taken level (first ∷ l) + (z.size + spare level) ≤ 8144) (sym (take-more k rest y (z ∷ ys) here))
      (room-left fillfactor level k (first ∷ take k rest) y z ys whole)

  first-small : (first : Item C) → IsSmallOn level first → first_size level first ≤ 2712
  first-small first small = go level small
    where
      go : (level : ℕ) → IsSmallOn level first → first_size level first ≤ 2712
      go zero small = let size = small.size in omega arith
      go (suc level) small = omega arith

  -- a page that is broken has room for its high key
  broken-room : (first : Item C) (rest : List (Item C)) (b : Break C) → IsSmallOn level first → AreSmall level rest
      → first_break fillfactor level first rest ≡ Some b
      → taken level (first ∷ take b.count rest) + (b.last.bound + 4) ≤ 8152
  unfolding AreSmall
  broken-room first rest b small all is = go b.count refl
    where
      last_is : drop b.count rest ≡ b.last ∷ drop (suc b.count) rest
      last_is = first_break-last fillfactor level first rest b is

      last_small : IsSmallOn level b.last
      last_small = (subst (AreSmall level) last_is (AreSmall-drop level b.count rest all)).0

      go : (count : ℕ) → b.count ≡ count → taken level (first ∷ take b.count rest) + (b.last.bound + 4) ≤ 8152
      go zero none =
          let head = first-small first small in
          let size = last_small.size in
          let bound = last_small.bound in
          subst (λ (n : ℕ). taken level (first ∷ take n rest) + (b.last.bound + 4) ≤ 8152) (sym none) (omega arith)
      go (suc k) count =
          let where_ = least_answer-before (break_at fillfactor level first rest) 0 (length rest - 1) b is in
          let same : b.count ≡ where_.0 = (break_between-count fillfactor level where_.0 (first ∷ take where_.0 rest) (drop where_.0 rest) b where_.2).0 in
          let long = first_break-count fillfactor level first rest b is in
          let none : break_at fillfactor level first rest k ≡ None = where_.3 k (omega arith) (omega arith) in
          let two = two-behind k rest (omega arith) in
          let y = two.0 in
          let z = two.1 in
          let behind : drop (suc k) rest ≡ z ∷ two.2 =
          ap (λ (n : ℕ). drop n rest) (let e : suc k ≡ k + 1 = omega arith in e) ∙ sym (drop-drop 1 k rest) ∙ ap (drop 1) two.3 in
          let last_is' : z ∷ two.2 ≡ b.last ∷ drop (suc b.count) rest = sym behind ∙ ap (λ (n : ℕ). drop n rest) (sym count) ∙ last_is in
          let is_last : z ≡ b.last = cc in
          let room = room-at first rest k y z two.2 two.3 none in
          let room' : taken level (first ∷ take (suc k) rest) + (b.last.size + spare level) ≤ 8144 =
          subst (λ (i : Item C). taken level (first ∷ take (suc k) rest) + (i.size + spare level) ≤ 8144) is_last room in
          let bound = last_small.bound in
          subst (λ (n : ℕ). taken level (first ∷ take n rest) + (b.last.bound + 4) ≤ 8152) (sym count) (omega arith)

  -- the last page
  unbroken-room : (first : Item C) (rest : List (Item C)) → IsSmallOn level first → AreSmall level rest
      → first_break fillfactor level first rest ≡ None → taken level (first ∷ rest) ≤ 8152
  unfolding AreSmall
  unbroken-room first [] small all is = let head = first-small first small in omega arith
  unbroken-room first (y ∷ []) small all is =
      let head = first-small first small in
      let size = all.0.size in
      let sum = sum_by-cons (λ (item : Item C). item.size + 4) y [] in
      omega arith
  unbroken-room first (x ∷ y ∷ rest) small all is =
      let k = length rest in
      let whole = x ∷ y ∷ rest in
      let none = least_answer-none (break_at fillfactor level first whole) 0 (length whole - 1) is k (omega arith) (omega arith) in
      let two = two-behind k whole (omega arith) in
      let room = room-at first whole k two.0 two.1 two.2 two.3 none in
      let left = length-drop k whole in
      let end : length (two.0 ∷ two.1 ∷ two.2) ≡ 2 = ap length (sym two.3) ∙ left ∙ omega arith in
      let nothing : two.2 ≡ [] = nil_from_length two.2 (omega arith) in
      let behind : drop (suc k) whole ≡ two.1 ∷ [] =
      ap (λ (n : ℕ). drop n whole) (let e : suc k ≡ k + 1 = omega arith in e) ∙ sym (drop-drop 1 k whole) ∙ ap (drop 1) two.3 ∙ ap (λ l. two.1 ∷ l) nothing in
      let parts : take (suc k) whole ++ two.1 ∷ [] ≡ whole = ap (λ l. take (suc k) whole ++ l) (sym behind) ∙ take-append-drop (suc k) whole in
      let sums : sum_by (λ (item : Item C). item.size + 4) whole ≡ sum_by (λ (item : Item C). item.size + 4) (take (suc k) whole) + (two.1.size + 4) =
      ap (sum_by (λ (item : Item C). item.size + 4)) (sym parts)
      ∙ sum_by_push (λ (item : Item C). item.size + 4) (take (suc k) whole) two.1 in
      omega arith

  -- ---- the pages of a level

  -- the first of the pages begins with an item
  HeadIs : Item C → List (Page C) → Type 0
  HeadIs x [] = ⊥
  HeadIs x (page ∷ pages) = page.first ≡ x

  head-cut : (bound moment born : ℕ) (first : Item C) (rest : List (Item C))
      → HeadIs first (pages_of moment (cut_within bound fillfactor level born first rest))
  unfolding HeadIs
  head-cut zero moment born first rest = refl
  head-cut (suc bound) moment born first rest = go (first_break fillfactor level first rest) refl
    where
      go : (a : Option (Break C)) → first_break fillfactor level first rest ≡ a
          → HeadIs first (pages_of moment (cut_within (suc bound) fillfactor level born first rest))
      go None is = subst (λ (l : Level C). HeadIs first (pages_of moment l)) (sym (cut-unbroken fillfactor level (suc bound) born first rest is)) refl
      go (Some b) is = subst (λ (l : Level C). HeadIs first (pages_of moment l)) (sym (cut-broken fillfactor level bound born first rest b is)) refl

  fit-more : (page : Page C) (pages : List (Page C)) (x : Item C) → HeadIs x pages
      → taken level (items_of page) + (x.bound + 4) ≤ 8152 → FitOnPages level pages → FitOnPages level (page ∷ pages)
  unfolding HeadIs
  fit-more page [] x head room fit = absurd head
  fit-more page (next ∷ others) x head room fit =
      (subst (λ (i : Item C). taken level (items_of page) + (i.bound + 4) ≤ 8152) (sym head) room, fit)

  fit-cut : (bound moment born : ℕ) (first : Item C) (rest : List (Item C)) → length rest ≤ bound → IsSmallOn level first → AreSmall level rest
      → FitOnPages level (pages_of moment (cut_within bound fillfactor level born first rest))
  unfolding AreSmall
  fit-cut zero moment born first [] fits small all = unbroken-room first [] small tt refl
  fit-cut zero moment born first (x ∷ rest) fits small all = absurd (omega arith)
  fit-cut (suc bound) moment born first rest fits small all =
      go (first_break fillfactor level first rest) refl (λ b. fit-cut bound moment b.item.arrival b.last (drop (suc b.count) rest))
    where
      go : (a : Option (Break C)) → first_break fillfactor level first rest ≡ a
          → ((b : Break C) → length (drop (suc b.count) rest) ≤ bound → IsSmallOn level b.last → AreSmall level (drop (suc b.count) rest)
          → FitOnPages level (pages_of moment (cut_within bound fillfactor level b.item.arrival b.last (drop (suc b.count) rest))))
          → FitOnPages level (pages_of moment (cut_within (suc bound) fillfactor level born first rest))
      go None is later =
          subst (λ (l : Level C). FitOnPages level (pages_of moment l)) (sym (cut-unbroken fillfactor level (suc bound) born first rest is))
          (unbroken-room first rest small all is)
      go (Some b) is later =
          let long = first_break-count fillfactor level first rest b is in
          let left = length-drop (suc b.count) rest in
          let behind = subst (AreSmall level) (first_break-last fillfactor level first rest b is) (AreSmall-drop level b.count rest all) in
          let page : Page C = record { first = first; others = take b.count rest; born = born; finished = b.item.arrival } in
          subst (λ (l : Level C). FitOnPages level (pages_of moment l)) (sym (cut-broken fillfactor level bound born first rest b is))
          (fit-more page (pages_of moment (cut_within bound fillfactor level b.item.arrival b.last (drop (suc b.count) rest))) b.last
          (head-cut bound moment b.item.arrival b.last (drop (suc b.count) rest))
          (broken-room first rest b small all is)
          (later b (omega arith) behind.0 behind.1))

  -- the items above are small on their level
  small-above : (page : Page C) → IsSmallOn level page.first → IsSmallOn (suc level) (item_above page)
  small-above page small =
      let size = small.size in
      let bound = small.bound in
      record { size = omega arith; bound = omega arith }

  small-cut : (bound moment born : ℕ) (first : Item C) (rest : List (Item C)) → IsSmallOn level first → AreSmall level rest
      → AreSmall (suc level) (map item_above (pages_of moment (cut_within bound fillfactor level born first rest)))
  unfolding AreSmall
  small-cut zero moment born first rest small all = (small-above (record { first = first; others = rest; born = born; finished = moment }) small, tt)
  small-cut (suc bound) moment born first rest small all =
      go (first_break fillfactor level first rest) refl (λ b. small-cut bound moment b.item.arrival b.last (drop (suc b.count) rest))
    where
      go : (a : Option (Break C)) → first_break fillfactor level first rest ≡ a
          → ((b : Break C) → IsSmallOn level b.last → AreSmall level (drop (suc b.count) rest)
          → AreSmall (suc level) (map item_above (pages_of moment (cut_within bound fillfactor level b.item.arrival b.last (drop (suc b.count) rest)))))
          → AreSmall (suc level) (map item_above (pages_of moment (cut_within (suc bound) fillfactor level born first rest)))
      go None is later =
          subst (λ (l : Level C). AreSmall (suc level) (map item_above (pages_of moment l))) (sym (cut-unbroken fillfactor level (suc bound) born first rest is))
          (small-above (record { first = first; others = rest; born = born; finished = moment }) small, tt)
      go (Some b) is later =
          let behind = subst (AreSmall level) (first_break-last fillfactor level first rest b is) (AreSmall-drop level b.count rest all) in
          let page : Page C = record { first = first; others = take b.count rest; born = born; finished = b.item.arrival } in
          subst (λ (l : Level C). AreSmall (suc level) (map item_above (pages_of moment l))) (sym (cut-broken fillfactor level bound born first rest b is))
          (small-above page small, later b behind.0 behind.1)

module _ {C : Type 0} (fillfactor : ℕ) where
  fit-levels : (bound level moment : ℕ) (items : List (Item C)) → AreSmall level items
      → EachLevelFits level (levels_within bound fillfactor level moment items)
  unfolding AreSmall cut
  fit-levels zero level moment items small = tt
  fit-levels (suc bound) level moment [] small = tt
  fit-levels (suc bound) level moment (first ∷ rest) small =
      go (cut fillfactor level first rest).full refl (fit-levels bound (suc level) (suc moment))
    where
      pages : List (Page C)
      pages = pages_of moment (cut fillfactor level first rest)

      fit : FitOnPages level pages
      fit = fit-cut fillfactor level (length rest) moment first.arrival first rest (omega arith) small.0 small.1

      go : (full : List (Page C)) → (cut fillfactor level first rest).full ≡ full
          → ((items : List (Item C)) → AreSmall (suc level) items → EachLevelFits (suc level) (levels_within bound fillfactor (suc level) (suc moment) items))
          → EachLevelFits level (levels_within (suc bound) fillfactor level moment (first ∷ rest))
      go [] is later = subst (EachLevelFits level) (sym (levels-root fillfactor bound level moment first rest is)) (fit, tt)
      go (page ∷ others) is later =
          subst (EachLevelFits level) (sym (levels-more fillfactor bound level moment first rest page others is))
          (fit, later (map item_above pages) (small-cut fillfactor level (length rest) moment first.arrival first rest small.0 small.1))

all-small : (items : List (Item Content)) → All IsSmall items → AreSmall 0 items
unfolding AreSmall
all-small [] all = tt
all-small (item ∷ items) all =
    let here : IsSmall item = all 0 item (omega arith) in
    let size = here.size in
    let bound = here.bound in
    (record { size = omega arith; bound = omega arith }, all-small items (λ k d inside. all (suc k) d (omega arith)))

pub pages_fit : (fillfactor : ℕ) (items : List (Item Content)) → All IsSmall items → EachLevelFits 0 (levels fillfactor items)
unfolding levels
pages_fit fillfactor items all = fit-levels fillfactor (length items) 0 (length items + 1) items (all-small items all)
