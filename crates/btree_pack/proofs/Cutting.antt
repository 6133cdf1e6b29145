-- One item more, at the end of the items that are cut into pages: it joins the open page or breaks it.
use Rattle.std.proofs.Common.{◌≡◌, ℕ, zero, suc, ◌+◌, ◌-◌, ◌<◌, ◌≤◌, Bool, true, false, List, [], ◌∷◌, ◌++◌, length, take, drop, refl, sym, ap, ◌∙◌, arith, length-append, length-drop}
use Rattle.std.proofs.lemmas.List.{take-append-le, drop-append-le}
use Rattle.std.specs.Prelude.{Option, Some, None}
use Rattle.std.specs.Option.{option_or}
use Rattle.btree_pack.specs.Break.{Item, breaks}
use Rattle.btree_pack.specs.Ends.{all_but_last, last_of}
use Rattle.btree_pack.specs.Pages.{Page, Level, Break, break_between, break_at, least_answer, first_break, with_page, cut_within, cut}
use Rattle.btree_pack.specs.Pass.Open.{Open, opened, finished_by, joined_by, broken_by}

option_or-None : {X : Type 0} (a : Option X) → option_or a None ≡ a
option_or-None None = refl
option_or-None (Some x) = refl

option_or_assoc : {X : Type 0} (a b c : Option X) → option_or a (option_or b c) ≡ option_or (option_or a b) c
option_or_assoc None b c = refl
option_or_assoc (Some x) b c = refl

-- the least answer among one number more
least_answer-more : {X : Type 0} (answer : ℕ → Option X) (at more : ℕ)
    → least_answer answer at (suc more) ≡ option_or (least_answer answer at more) (answer (at + more))
least_answer-more answer at zero = option_or-None (answer at) ∙ ap answer (let e : at ≡ at + 0 = omega arith in e)
least_answer-more answer at (suc more) =
    ap (option_or (answer at)) (least_answer-more answer (suc at) more)
    ∙ ap (λ (n : ℕ). option_or (answer at) (option_or (least_answer answer (suc at) more) (answer n))) (let e : suc at + more ≡ at + suc more = omega arith in e)
    ∙ option_or_assoc (answer at) (least_answer answer (suc at) more) (answer (at + suc more))

-- it looks at these numbers alone
least_answer-same : {X : Type 0} (f g : ℕ → Option X) (at more : ℕ) → ((k : ℕ) → at ≤ k → k < at + more → f k ≡ g k)
    → least_answer f at more ≡ least_answer g at more
least_answer-same f g at zero same = refl
least_answer-same f g at (suc more) same =
    ap (λ a. option_or a (least_answer f (suc at) more)) (same at (omega arith) (omega arith))
    ∙ ap (option_or (g at)) (least_answer-same f g (suc at) more (λ k low high. same k (omega arith) (omega arith)))

-- what all answers have, the least has
pub least_answer-All : {X : Type 0} (P : X → Type 0) (f : ℕ → Option X) (at more : ℕ)
    → ((k : ℕ) (x : X) → at ≤ k → k < at + more → f k ≡ Some x → P x)
    → (x : X) → least_answer f at more ≡ Some x → P x
least_answer-All P f at zero each x e = cc
least_answer-All {X} P f at (suc more) each x e =
    go (f at) refl (λ rest. least_answer-All P f (suc at) more (λ k y low high here. each k y (omega arith) (omega arith) here) x rest)
  where
    go : (a : Option X) → f at ≡ a → (least_answer f (suc at) more ≡ Some x → P x) → P x
    go None is later = later (rw is at e)
    go (Some y) is later =
        let same : Some y ≡ Some x = rw is at e in
        each at x (omega arith) (omega arith) (is ∙ same)

module _ {C : Type 0} (fillfactor level : ℕ) where
  break_between-more : (count : ℕ) (before rest : List (Item C)) (x : Item C) → 2 ≤ length rest
      → break_between fillfactor level count before (rest ++ x ∷ []) ≡ break_between fillfactor level count before rest
  break_between-more count before [] x two = absurd (omega arith)
  break_between-more count before (last ∷ []) x two = absurd (omega arith)
  break_between-more count before (last ∷ item ∷ behind) x two = refl

  break_at-more : (first : Item C) (rest : List (Item C)) (x : Item C) (count : ℕ) → count + 2 ≤ length rest
      → break_at fillfactor level first (rest ++ x ∷ []) count ≡ break_at fillfactor level first rest count
  break_at-more first rest x count within =
      let left = length-drop count rest in
      ap (λ taken. break_between fillfactor level count (first ∷ taken) (drop count (rest ++ x ∷ []))) (take-append-le count rest (x ∷ []) (omega arith))
      ∙ ap (break_between fillfactor level count (first ∷ take count rest)) (drop-append-le count rest (x ∷ []) (omega arith))
      ∙ break_between-more count (first ∷ take count rest) (drop count rest) x (omega arith)

  pub break_between-count : (count : ℕ) (before rest : List (Item C)) (b : Break C)
      → break_between fillfactor level count before rest ≡ Some b → (b.count ≡ count) × (2 ≤ length rest)
  break_between-count count before [] b e = cc
  break_between-count count before (last ∷ []) b e = cc
  break_between-count count before (last ∷ item ∷ behind) b e = go (breaks fillfactor level before last item) refl
    where
      go : (t : Bool) → breaks fillfactor level before last item ≡ t → (b.count ≡ count) × (2 ≤ length (last ∷ item ∷ behind))
      go true is =
          let same : Some (record { count = count; last = last; item = item }) ≡ Some b = rw is at e in
          let there : record { count = count; last = last; item = item } ≡ b = cc in
          (sym (ap (λ (x : Break C). x.count) there), omega arith)
      go false is = let none : None ≡ Some b = rw is at e in cc

  -- a broken page's items end before the last two
  pub first_break-count : (first : Item C) (rest : List (Item C)) (b : Break C)
      → first_break fillfactor level first rest ≡ Some b → b.count + 2 ≤ length rest
  first_break-count first rest b e =
      least_answer-All (λ b. b.count + 2 ≤ length rest) (break_at fillfactor level first rest) 0 (length rest - 1)
      (λ k x low high here.
      let parts = break_between-count k (first ∷ take k rest) (drop k rest) x here in
      let left = length-drop k rest in
      let same = parts.0 in
      let two = parts.1 in
      omega arith)
      b e

  -- the first break once an item more has come: the old one, or one at the new item
  first_break-more : (first : Item C) (rest : List (Item C)) (x : Item C) → 1 ≤ length rest
      → first_break fillfactor level first (rest ++ x ∷ [])
      ≡ option_or (first_break fillfactor level first rest) (break_at fillfactor level first (rest ++ x ∷ []) (length rest - 1))
  first_break-more first rest x some =
      let long = length-append rest (x ∷ []) in
      let tries : length (rest ++ x ∷ []) - 1 ≡ suc (length rest - 1) = omega arith in
      let f = break_at fillfactor level first (rest ++ x ∷ []) in
      ap (least_answer f 0) tries
      ∙ least_answer-more f 0 (length rest - 1)
      ∙ ap (λ (n : ℕ). option_or (least_answer f 0 (length rest - 1)) (f n)) (let e : 0 + (length rest - 1) ≡ length rest - 1 = omega arith in e)
      ∙ ap (λ a. option_or a (f (length rest - 1)))
      (least_answer-same f (break_at fillfactor level first rest) 0 (length rest - 1) (λ k low high. break_at-more first rest x k (omega arith)))

-- ---- the last item, and those before it

pub take-all_but_last : {X : Type 0} (first : X) (rest : List X) (x : X) → take (length rest) (first ∷ rest ++ x ∷ []) ≡ all_but_last first rest
take-all_but_last first [] x = refl
take-all_but_last first (next ∷ rest) x = ap (λ taken. first ∷ taken) (take-all_but_last next rest x)

pub drop-last_of : {X : Type 0} (first : X) (rest : List X) (x : X) → drop (length rest) (first ∷ rest ++ x ∷ []) ≡ last_of first rest ∷ x ∷ []
drop-last_of first [] x = refl
drop-last_of first (next ∷ rest) x = drop-last_of next rest x

pub drop-end : {X : Type 0} (first : X) (rest : List X) (x : X) → drop (suc (length rest)) (first ∷ rest ++ x ∷ []) ≡ x ∷ []
drop-end first [] x = refl
drop-end first (next ∷ rest) x = drop-end next rest x

pub all_but_last-push : {X : Type 0} (first : X) (rest : List X) (x : X) → all_but_last first (rest ++ x ∷ []) ≡ all_but_last first rest ++ last_of first rest ∷ []
all_but_last-push first [] x = refl
all_but_last-push first (next ∷ rest) x = ap (λ l. first ∷ l) (all_but_last-push next rest x)

pub last_of-push : {X : Type 0} (first : X) (rest : List X) (x : X) → last_of first (rest ++ x ∷ []) ≡ x
last_of-push first [] x = refl
last_of-push first (next ∷ rest) x = last_of-push next rest x

pub all_but_last-append : {X : Type 0} (first : X) (rest : List X) → all_but_last first rest ++ last_of first rest ∷ [] ≡ first ∷ rest
all_but_last-append first [] = refl
all_but_last-append first (next ∷ rest) = ap (λ l. first ∷ l) (all_but_last-append next rest)

-- ---- cutting

-- an item comes to an open level
abbrev pub arrived : {C : Type 0} → ℕ → ℕ → Open C → Item C → Open C
arrived fillfactor level o item = elim (finished_by fillfactor level o item) [
  | None ↦ joined_by o item
  | Some page ↦ broken_by o page item
]

-- the same level with one full page more on its left
abbrev pub left_of : {C : Type 0} → Page C → Open C → Open C
left_of page o = record o { full = page ∷ o.full }

module _ {C : Type 0} (fillfactor level : ℕ) where
  pub arrived-joins : (o : Open C) (x : Item C) → finished_by fillfactor level o x ≡ None
      → arrived fillfactor level o x ≡ joined_by o x
  arrived-joins o x is = ap (λ (f : Option (Page C)). elim f as (λ f. Open C) [ None ↦ joined_by o x | Some page ↦ broken_by o page x ]) is

  pub arrived-breaks : (o : Open C) (x : Item C) (page : Page C) → finished_by fillfactor level o x ≡ Some page
      → arrived fillfactor level o x ≡ broken_by o page x
  arrived-breaks o x page is = ap (λ (f : Option (Page C)). elim f as (λ f. Open C) [ None ↦ joined_by o x | Some page ↦ broken_by o page x ]) is

  arrived-left_of : (page : Page C) (o : Open C) (x : Item C)
      → arrived fillfactor level (left_of page o) x ≡ left_of page (arrived fillfactor level o x)
  arrived-left_of page o x = go (finished_by fillfactor level o x) refl
    where
      go : (f : Option (Page C)) → finished_by fillfactor level o x ≡ f
          → arrived fillfactor level (left_of page o) x ≡ left_of page (arrived fillfactor level o x)
      go None is = arrived-joins (left_of page o) x is ∙ ap (left_of page) (sym (arrived-joins o x is))
      go (Some p) is = arrived-breaks (left_of page o) x p is ∙ ap (left_of page) (sym (arrived-breaks o x p is))

  pub cut-unbroken : (bound born : ℕ) (first : Item C) (rest : List (Item C)) → first_break fillfactor level first rest ≡ None
      → cut_within bound fillfactor level born first rest
      ≡ record { full = []; rightmost = record { first = first; others = rest; born = born } }
  cut-unbroken zero born first rest e = refl
  cut-unbroken (suc bound) born first rest e = rw (e, cut_within) refl

  pub cut-broken : (bound born : ℕ) (first : Item C) (rest : List (Item C)) (b : Break C) → first_break fillfactor level first rest ≡ Some b
      → cut_within (suc bound) fillfactor level born first rest
      ≡ with_page
      (record { first = first; others = take b.count rest; born = born; finished = b.item.arrival })
      (cut_within bound fillfactor level b.item.arrival b.last (drop (suc b.count) rest))
  cut-broken bound born first rest b e = rw (e, cut_within) refl

  -- the page of two items, which the second begins to fill
  cut-two : (bound born : ℕ) (first x : Item C)
      → cut_within bound fillfactor level born first (x ∷ [])
      ≡ record { full = []; rightmost = record { first = first; others = x ∷ []; born = born } }
  cut-two bound born first x = cut-unbroken bound born first (x ∷ []) refl

  cut-push : (bound born : ℕ) (first : Item C) (rest : List (Item C)) (x : Item C) → length rest ≤ bound
      → opened (cut_within (suc bound) fillfactor level born first (rest ++ x ∷ []))
      ≡ arrived fillfactor level (opened (cut_within bound fillfactor level born first rest)) x
  cut-push bound born first [] x fits =
      ap opened (cut-two (suc bound) born first x)
      ∙ ap (λ l. arrived fillfactor level (opened l) x) (sym (cut-unbroken bound born first [] refl))
  cut-push zero born first (r ∷ rest) x fits = absurd (omega arith)
  cut-push (suc bound) born first (r ∷ rest) x fits =
      by_break (first_break fillfactor level first (r ∷ rest)) refl
      (λ b here. cut-push bound b.item.arrival b.last (drop (suc b.count) (r ∷ rest)) x
      (let left = length-drop (suc b.count) (r ∷ rest) in omega arith))
    where
      all : List (Item C)
      all = r ∷ rest

      more : first_break fillfactor level first (all ++ x ∷ [])
          ≡ option_or (first_break fillfactor level first all) (break_at fillfactor level first (all ++ x ∷ []) (length rest))
      more = first_break-more fillfactor level first (r ∷ rest) x (omega arith)
          ∙ ap (λ (n : ℕ). option_or (first_break fillfactor level first all) (break_at fillfactor level first (all ++ x ∷ []) n))
          (let e : length (r ∷ rest) - 1 ≡ length rest = omega arith in e)

      at_end : break_at fillfactor level first (all ++ x ∷ []) (length rest)
          ≡ break_between fillfactor level (length rest) (first ∷ all_but_last r rest) (last_of r rest ∷ x ∷ [])
      at_end =
          ap (λ taken. break_between fillfactor level (length rest) (first ∷ taken) (drop (length rest) (all ++ x ∷ []))) (take-all_but_last r rest x)
          ∙ ap (break_between fillfactor level (length rest) (first ∷ all_but_last r rest)) (drop-last_of r rest x)

      by_test : first_break fillfactor level first all ≡ None
          → (t : Bool) → breaks fillfactor level (first ∷ all_but_last r rest) (last_of r rest) x ≡ t
          → opened (cut_within (suc (suc bound)) fillfactor level born first (all ++ x ∷ []))
          ≡ arrived fillfactor level (opened (cut_within (suc bound) fillfactor level born first all)) x
      by_test none true is =
          let broken : first_break fillfactor level first (all ++ x ∷ []) ≡ Some (record { count = length rest; last = last_of r rest; item = x }) =
          more ∙ ap (λ a. option_or a (break_at fillfactor level first (all ++ x ∷ []) (length rest))) none ∙ at_end ∙ rw is refl in
          ap opened (cut-broken (suc bound) born first (all ++ x ∷ []) _ broken)
          ∙ ap (λ l. opened (with_page (record { first = first; others = take (length rest) (all ++ x ∷ []); born = born; finished = x.arrival })
          (cut_within (suc bound) fillfactor level x.arrival (last_of r rest) l))) (drop-end r rest x)
          ∙ ap (λ l. opened (with_page (record { first = first; others = take (length rest) (all ++ x ∷ []); born = born; finished = x.arrival }) l))
          (cut-two (suc bound) x.arrival (last_of r rest) x)
          ∙ ap (λ l. opened (with_page (record { first = first; others = l; born = born; finished = x.arrival })
          (record { full = []; rightmost = record { first = last_of r rest; others = x ∷ []; born = x.arrival } }))) (take-all_but_last r rest x)
          ∙ sym (arrived-breaks (record { full = []; before = all_but_last first all; last = last_of first all; born = born }) x (record { first = first; others = all_but_last r rest; born = born; finished = x.arrival }) (rw is refl))
          ∙ ap (λ l. arrived fillfactor level (opened l) x) (sym (cut-unbroken (suc bound) born first all none))
      by_test none false is =
          let unbroken : first_break fillfactor level first (all ++ x ∷ []) ≡ None =
          more ∙ ap (λ a. option_or a (break_at fillfactor level first (all ++ x ∷ []) (length rest))) none ∙ at_end ∙ rw is refl in
          ap opened (cut-unbroken (suc (suc bound)) born first (all ++ x ∷ []) unbroken)
          ∙ ap (λ l. record { full = []; before = l; last = last_of first (all ++ x ∷ []); born = born }) (all_but_last-push first all x)
          ∙ ap (λ l. record { full = []; before = all_but_last first all ++ last_of first all ∷ []; last = l; born = born }) (last_of-push first all x)
          ∙ sym (arrived-joins (record { full = []; before = all_but_last first all; last = last_of first all; born = born }) x (rw is refl))
          ∙ ap (λ l. arrived fillfactor level (opened l) x) (sym (cut-unbroken (suc bound) born first all none))

      by_break : (a : Option (Break C)) → first_break fillfactor level first all ≡ a
          → ((b : Break C) → b.count + 2 ≤ length all
          → opened (cut_within (suc bound) fillfactor level b.item.arrival b.last (drop (suc b.count) all ++ x ∷ []))
          ≡ arrived fillfactor level (opened (cut_within bound fillfactor level b.item.arrival b.last (drop (suc b.count) all))) x)
          → opened (cut_within (suc (suc bound)) fillfactor level born first (all ++ x ∷ []))
          ≡ arrived fillfactor level (opened (cut_within (suc bound) fillfactor level born first all)) x
      by_break None is later = by_test is (breaks fillfactor level (first ∷ all_but_last r rest) (last_of r rest) x) refl
      by_break (Some b) is later =
          let room = first_break-count fillfactor level first all b is in
          let still : first_break fillfactor level first (all ++ x ∷ []) ≡ Some b =
          more ∙ ap (λ a. option_or a (break_at fillfactor level first (all ++ x ∷ []) (length rest))) is in
          let page : Page C = record { first = first; others = take b.count all; born = born; finished = b.item.arrival } in
          ap opened (cut-broken (suc bound) born first (all ++ x ∷ []) b still)
          ∙ ap (λ l. opened (with_page (record { first = first; others = l; born = born; finished = b.item.arrival })
          (cut_within (suc bound) fillfactor level b.item.arrival b.last (drop (suc b.count) (all ++ x ∷ [])))))
          (take-append-le b.count all (x ∷ []) (omega arith))
          ∙ ap (λ l. opened (with_page page (cut_within (suc bound) fillfactor level b.item.arrival b.last l))) (drop-append-le (suc b.count) all (x ∷ []) (omega arith))
          ∙ ap (left_of page) (later b room)
          ∙ sym (arrived-left_of page (opened (cut_within bound fillfactor level b.item.arrival b.last (drop (suc b.count) all))) x)
          ∙ ap (λ l. arrived fillfactor level (opened l) x) (sym (cut-broken bound born first all b is))

  pub opened-push : (first : Item C) (rest : List (Item C)) (x : Item C)
      → opened (cut fillfactor level first (rest ++ x ∷ [])) ≡ arrived fillfactor level (opened (cut fillfactor level first rest)) x
  unfolding cut
  opened-push first rest x =
      ap (λ (n : ℕ). opened (cut_within n fillfactor level first.arrival first (rest ++ x ∷ [])))
      (let long = length-append rest (x ∷ []) in let e : length (rest ++ x ∷ []) ≡ suc (length rest) = omega arith in e)
      ∙ cut-push (length rest) first.arrival first rest x (omega arith)

  -- a level with several pages has fewer pages than items
  full-few : (bound born : ℕ) (first : Item C) (rest : List (Item C))
      → length (cut_within bound fillfactor level born first rest).full ≤ length rest - 1
  full-few zero born first rest = omega arith
  full-few (suc bound) born first rest =
      go (first_break fillfactor level first rest) refl (λ b. full-few bound b.item.arrival b.last (drop (suc b.count) rest))
    where
      go : (a : Option (Break C)) → first_break fillfactor level first rest ≡ a
          → ((b : Break C) → length (cut_within bound fillfactor level b.item.arrival b.last (drop (suc b.count) rest)).full ≤ length (drop (suc b.count) rest) - 1)
          → length (cut_within (suc bound) fillfactor level born first rest).full ≤ length rest - 1
      go None is later =
          let none = ap (λ (l : Level C). length l.full) (cut-unbroken (suc bound) born first rest is) in
          omega arith
      go (Some b) is later =
          let room = first_break-count fillfactor level first rest b is in
          let one = ap (λ (l : Level C). length l.full) (cut-broken bound born first rest b is) in
          let left = length-drop (suc b.count) rest in
          let rest_few = later b in
          omega arith

  pub full-fewer : (first : Item C) (rest : List (Item C)) → length (cut fillfactor level first rest).full ≤ length rest - 1
  unfolding cut
  full-fewer first rest = full-few (length rest) first.arrival first rest
