-- Block numbers: the births in the order in which the pass makes them are all births, and they ascend.
use Rattle.std.proofs.Common.{◌≡◌, ℕ, zero, suc, ◌+◌, ◌<◌, ◌≤◌, Bool, true, false, cond, List, [], ◌∷◌, ◌++◌, length, map, refl, sym, ap, ◌∙◌, subst, arith, length-append, append-nil, append_assoc}
use Rattle.std.proofs.lemmas.Bool.Decides.{nat_tests}
use Rattle.std.specs.List.{count_by, range_with_len}
use Rattle.std.specs.List.Sorted.{IsPermutation}
use Rattle.std.proofs.lemmas.List.{map_push, length-map}
use Rattle.std.proofs.lemmas.List.Sums.{sum_by-cons}
use Rattle.std.proofs.lemmas.List.Sorted.{IsPermutation-refl, IsPermutation-sym, IsPermutation-trans, IsPermutation-append_left, IsPermutation-append_right, IsPermutation-middle, IsPermutation-map, sum_by-IsPermutation, length_permutation}
use Rattle.std.specs.Prelude.{Option, Some, None}
use Rattle.btree_pack.specs.Births.{Birth, is_earlier, births_from, births_of, block_of}
use Rattle.btree_pack.specs.Break.{Item, breaks}
use Rattle.btree_pack.specs.Pages.{Page, cut}
use Rattle.btree_pack.specs.Tower.{item_above, levels, ArriveInTurn}
use Rattle.btree_pack.specs.Pass.Open.{Open, opened, finished_by, broken_by, tower_within, tower, step, last_page, all_pages, close}
use Rattle.btree_pack.specs.Pass.History.{moments_of, births_in, born_by, born_closing, history_from, history}
use Rattle.btree_pack.proofs.Towers.{tower_step, close_tower, step-joins, step-breaks, above_of, length-above_of, tower-push, tower-none, length-tower}

-- ---- births that ascend

-- a birth is before each of these
unfoldable pub Later : Birth → List Birth → Type 0
Later b [] = Unit {0}
Later b (c ∷ cs) = (is_earlier b c ≡ true) × Later b cs

unfoldable pub Ascends : List Birth → Type 0
Ascends [] = Unit {0}
Ascends (b ∷ bs) = Later b bs × Ascends bs

-- the births are not before a moment
unfoldable pub NotBefore : ℕ → List Birth → Type 0
NotBefore moment [] = Unit {0}
NotBefore moment (b ∷ bs) = (moment ≤ b.moment) × NotBefore moment bs

-- the births are at a moment, on levels from one on
unfoldable pub AreAt : ℕ → ℕ → List Birth → Type 0
AreAt moment level [] = Unit {0}
AreAt moment level (b ∷ bs) = (b.moment ≡ moment) × (level ≤ b.level) × AreAt moment level bs

pub earlier-moment : (b c : Birth) → b.moment < c.moment → is_earlier b c ≡ true
earlier-moment b c below = grind (arith, nat_tests)

pub earlier-level : (b c : Birth) → b.moment ≡ c.moment → b.level < c.level → is_earlier b c ≡ true
earlier-level b c same below = grind (arith, nat_tests)

earlier-not : (b c : Birth) → is_earlier b c ≡ true → is_earlier c b ≡ false
earlier-not b c before = grind (arith, nat_tests)

earlier-itself : (b : Birth) → is_earlier b b ≡ false
earlier-itself b = grind (arith, nat_tests)

pub Later-moment : (b : Birth) (moment : ℕ) (bs : List Birth) → b.moment < moment → NotBefore moment bs → Later b bs
unfolding Later NotBefore
Later-moment b moment [] below from = tt
Later-moment b moment (c ∷ bs) below from =
    let here : moment ≤ c.moment = from.0 in
    (earlier-moment b c (omega arith), Later-moment b moment bs below from.1)

Later-level : (b : Birth) (level : ℕ) (bs : List Birth) → b.level < level → AreAt b.moment level bs → Later b bs
unfolding Later AreAt
Later-level b level [] below at = tt
Later-level b level (c ∷ bs) below at =
    let here : level ≤ c.level = at.1 in
    (earlier-level b c (sym at.0) (omega arith), Later-level b level bs below at.2)

Later-append : (b : Birth) (xs ys : List Birth) → Later b xs → Later b ys → Later b (xs ++ ys)
unfolding Later
Later-append b [] ys first second = second
Later-append b (c ∷ xs) ys first second = (first.0, Later-append b xs ys first.1 second)

NotBefore-append : (moment : ℕ) (xs ys : List Birth) → NotBefore moment xs → NotBefore moment ys → NotBefore moment (xs ++ ys)
unfolding NotBefore
NotBefore-append moment [] ys first second = second
NotBefore-append moment (c ∷ xs) ys first second = (first.0, NotBefore-append moment xs ys first.1 second)

NotBefore-less : (moment later : ℕ) (bs : List Birth) → moment ≤ later → NotBefore later bs → NotBefore moment bs
unfolding NotBefore
NotBefore-less moment later [] less from = tt
NotBefore-less moment later (b ∷ bs) less from =
    let here : later ≤ b.moment = from.0 in
    (omega arith, NotBefore-less moment later bs less from.1)

AreAt-NotBefore : (moment level : ℕ) (bs : List Birth) → AreAt moment level bs → NotBefore moment bs
unfolding AreAt NotBefore
AreAt-NotBefore moment level [] at = tt
AreAt-NotBefore moment level (b ∷ bs) at =
    let here : b.moment ≡ moment = at.0 in
    (omega arith, AreAt-NotBefore moment level bs at.2)

AreAt-above : (moment level : ℕ) (bs : List Birth) → AreAt moment (suc level) bs → AreAt moment level bs
unfolding AreAt
AreAt-above moment level [] at = tt
AreAt-above moment level (b ∷ bs) at =
    let here : suc level ≤ b.level = at.1 in
    (at.0, omega arith, AreAt-above moment level bs at.2)

-- the births of one moment, and behind them later ones
Ascends-append : (moment level : ℕ) (xs ys : List Birth) → AreAt moment level xs → Ascends xs → NotBefore (suc moment) ys → Ascends ys
    → Ascends (xs ++ ys)
unfolding AreAt Ascends
Ascends-append moment level [] ys at first from second = second
Ascends-append moment level (b ∷ xs) ys at first from second =
    let here : b.moment ≡ moment = at.0 in
    (Later-append b xs ys first.0 (Later-moment b (suc moment) ys (omega arith) from), Ascends-append moment level xs ys at.2 first.1 from second)

-- ---- the number of each of them

unfoldable pub number_in : List Birth → Birth → ℕ
number_in births birth = 1 + count_by (λ other. is_earlier other birth) births

pub none-earlier : (b : Birth) (bs : List Birth) → Later b bs → count_by (λ other. is_earlier other b) bs ≡ 0
unfolding Later
none-earlier b [] later = refl
none-earlier b (c ∷ bs) later =
    sum_by-cons (λ other. cond (is_earlier other b) 1 0) c bs
    ∙ ap (λ t. cond t 1 0 + count_by (λ other. is_earlier other b) bs) (earlier-not b c later.0)
    ∙ (let rest = none-earlier b bs later.1 in let e : 0 + count_by (λ other. is_earlier other b) bs ≡ 0 = omega arith in e)

-- one birth more, before all these
numbers-behind : (b : Birth) (bs cs : List Birth) → Later b cs → map (number_in (b ∷ bs)) cs ≡ map suc (map (number_in bs) cs)
unfolding Later number_in
numbers-behind b bs [] later = refl
numbers-behind b bs (c ∷ cs) later =
    let head : 1 + count_by (λ other. is_earlier other c) (b ∷ bs) ≡ suc (1 + count_by (λ other. is_earlier other c) bs) =
    ap (λ (n : ℕ). 1 + n) (sum_by-cons (λ other. cond (is_earlier other c) 1 0) b bs ∙ ap (λ t. cond t 1 0 + count_by (λ other. is_earlier other c) bs) later.0)
    ∙ omega arith in
    ap (λ (n : ℕ). n ∷ map (number_in (b ∷ bs)) cs) head
    ∙ ap (λ l. suc (1 + count_by (λ other. is_earlier other c) bs) ∷ l) (numbers-behind b bs cs later.1)

map-suc : (a n : ℕ) → map suc (range_with_len a n) ≡ range_with_len (a + 1) n
map-suc a zero = refl
map-suc a (suc n) =
    ap (λ (k : ℕ). k ∷ map suc (range_with_len (a + 1) n)) (let e : suc a ≡ a + 1 = omega arith in e)
    ∙ ap (λ l. (a + 1) ∷ l) (map-suc (a + 1) n)

pub numbers-ascending : (bs : List Birth) → Ascends bs → map (number_in bs) bs ≡ range_with_len 1 (length bs)
unfolding Ascends number_in
numbers-ascending [] up = refl
numbers-ascending (b ∷ bs) up =
    let head : 1 + count_by (λ other. is_earlier other b) (b ∷ bs) ≡ 1 =
    ap (λ (n : ℕ). 1 + n) (sum_by-cons (λ other. cond (is_earlier other b) 1 0) b bs
    ∙ ap (λ t. cond t 1 0 + count_by (λ other. is_earlier other b) bs) (earlier-itself b)
    ∙ (let rest = none-earlier b bs up.0 in let e : 0 + count_by (λ other. is_earlier other b) bs ≡ 0 = omega arith in e)) in
    ap (λ (n : ℕ). n ∷ map (number_in (b ∷ bs)) bs) head
    ∙ ap (λ l. 1 ∷ l) (numbers-behind b bs bs up.0 ∙ ap (map suc) (numbers-ascending bs up.1) ∙ map-suc 1 (length bs))

-- ---- the births of the pass

-- a birth that goes over the others
carried : (a b : List Birth) (one : Birth) (steps new : List Birth) → IsPermutation steps (b ++ new)
    → IsPermutation ((a ++ one ∷ []) ++ steps) ((a ++ b) ++ one ∷ new)
carried a b one steps new same =
    let moved : IsPermutation (one ∷ steps) (b ++ one ∷ new) =
    IsPermutation-trans (one ∷ steps) (one ∷ (b ++ new)) (b ++ one ∷ new)
    (IsPermutation-append_right (one ∷ []) steps (b ++ new) same)
    (IsPermutation-sym (b ++ one ∷ new) (one ∷ (b ++ new)) (IsPermutation-middle b one new)) in
    let whole : IsPermutation (a ++ one ∷ steps) (a ++ (b ++ one ∷ new)) = IsPermutation-append_right a (one ∷ steps) (b ++ one ∷ new) moved in
    subst (λ l. IsPermutation l ((a ++ b) ++ one ∷ new)) (sym (append_assoc a (one ∷ []) steps))
    (subst (IsPermutation (a ++ one ∷ steps)) (sym (append_assoc a b (one ∷ new))) whole)

module _ {C : Type 0} (fillfactor : ℕ) where
  -- a page that an item finishes
  finished_by-page : (level : ℕ) (full : List (Page C)) (before : List (Item C)) (last : Item C) (born : ℕ) (x : Item C) (page : Page C)
      → finished_by fillfactor level (record { full = full; before = before; last = last; born = born }) x ≡ Some page
      → (page.born ≡ born) × (page.finished ≡ x.arrival)
  finished_by-page level full [] last born x page e = cc
  finished_by-page level full (first ∷ others) last born x page e = go (breaks fillfactor level (first ∷ others) last x) refl
    where
      go : (t : Bool) → breaks fillfactor level (first ∷ others) last x ≡ t → (page.born ≡ born) × (page.finished ≡ x.arrival)
      go true is =
          let same : Some (record { first = first; others = others; born = born; finished = x.arrival }) ≡ Some page = rw is at e in
          let there : record { first = first; others = others; born = born; finished = x.arrival } ≡ page = cc in
          (sym (ap (λ (p : Page C). p.born) there), sym (ap (λ (p : Page C). p.finished) there))
      go false is = let none : None ≡ Some page = rw is at e in cc

  last_page-made : (moment : ℕ) (full : List (Page C)) (before : List (Item C)) (last : Item C) (born : ℕ)
      → ((last_page moment (record { full = full; before = before; last = last; born = born })).born ≡ born)
      × ((last_page moment (record { full = full; before = before; last = last; born = born })).finished ≡ moment)
  last_page-made moment full [] last born = (refl, refl)
  last_page-made moment full (first ∷ others) last born = (refl, refl)

  born_by-joins : (level : ℕ) (o : Open C) (above : List (Open C)) (x : Item C) → finished_by fillfactor level o x ≡ None
      → born_by fillfactor level (o ∷ above) x ≡ []
  born_by-joins level o above x is = rw (is, born_by) refl

  born_by-breaks : (level : ℕ) (o : Open C) (above : List (Open C)) (x : Item C) (page : Page C) → finished_by fillfactor level o x ≡ Some page
      → born_by fillfactor level (o ∷ above) x
      ≡ record { moment = x.arrival; level = level } ∷ born_by fillfactor (suc level) above (item_above page)
  born_by-breaks level o above x page is = rw (is, born_by) refl

  pub born_by-at : (level : ℕ) (opens : List (Open C)) (x : Item C) → AreAt x.arrival level (born_by fillfactor level opens x)
  unfolding AreAt
  born_by-at level [] x = (refl, omega arith, tt)
  born_by-at level (o ∷ above) x = go (finished_by fillfactor level o x) refl (λ page. born_by-at (suc level) above (item_above page))
    where
      go : (f : Option (Page C)) → finished_by fillfactor level o x ≡ f
          → ((page : Page C) → AreAt page.finished (suc level) (born_by fillfactor (suc level) above (item_above page)))
          → AreAt x.arrival level (born_by fillfactor level (o ∷ above) x)
      go None is later = subst (AreAt x.arrival level) (sym (born_by-joins level o above x is)) tt
      go (Some page) is later =
          let made = finished_by-page level o.full o.before o.last o.born x page is in
          let rest : AreAt x.arrival (suc level) (born_by fillfactor (suc level) above (item_above page)) =
          subst (λ (m : ℕ). AreAt m (suc level) (born_by fillfactor (suc level) above (item_above page))) made.1 (later page) in
          subst (AreAt x.arrival level) (sym (born_by-breaks level o above x page is)) (refl, omega arith, AreAt-above x.arrival level _ rest)

  pub born_by-up : (level : ℕ) (opens : List (Open C)) (x : Item C) → Ascends (born_by fillfactor level opens x)
  unfolding Ascends Later
  born_by-up level [] x = (tt, tt)
  born_by-up level (o ∷ above) x = go (finished_by fillfactor level o x) refl (λ page. born_by-up (suc level) above (item_above page))
    where
      go : (f : Option (Page C)) → finished_by fillfactor level o x ≡ f
          → ((page : Page C) → Ascends (born_by fillfactor (suc level) above (item_above page)))
          → Ascends (born_by fillfactor level (o ∷ above) x)
      go None is later = subst Ascends (sym (born_by-joins level o above x is)) tt
      go (Some page) is later =
          let made = finished_by-page level o.full o.before o.last o.born x page is in
          let rest : AreAt x.arrival (suc level) (born_by fillfactor (suc level) above (item_above page)) =
          subst (λ (m : ℕ). AreAt m (suc level) (born_by fillfactor (suc level) above (item_above page))) made.1 (born_by-at (suc level) above (item_above page)) in
          subst Ascends (sym (born_by-breaks level o above x page is))
          (Later-level (record { moment = x.arrival; level = level }) (suc level) _ (omega arith) rest, later page)

  -- a step's births go before later ones
  step-before : (level moment : ℕ) (opens : List (Open C)) (x : Item C) (later : List Birth) → x.arrival ≡ moment
      → NotBefore (suc moment) later → Ascends later
      → NotBefore moment (born_by fillfactor level opens x ++ later) × Ascends (born_by fillfactor level opens x ++ later)
  step-before level moment opens x later same from up =
      let at : AreAt moment level (born_by fillfactor level opens x) = subst (λ (m : ℕ). AreAt m level (born_by fillfactor level opens x)) same (born_by-at level opens x) in (
        NotBefore-append moment (born_by fillfactor level opens x) later (AreAt-NotBefore moment level _ at) (NotBefore-less moment (suc moment) later (omega arith) from),
        Ascends-append moment level (born_by fillfactor level opens x) later at (born_by-up level opens x) from up,
      )

  closing-up : (bound level moment : ℕ) (opens : List (Open C))
      → NotBefore moment (born_closing bound fillfactor level moment opens) × Ascends (born_closing bound fillfactor level moment opens)
  unfolding NotBefore Ascends
  closing-up zero level moment opens = (tt, tt)
  closing-up (suc bound) level moment [] = (tt, tt)
  closing-up (suc bound) level moment (o ∷ []) = (tt, tt)
  closing-up (suc bound) level moment (o ∷ next ∷ above) =
      let item = item_above (last_page moment o) in
      let rest = closing-up bound (suc level) (suc moment) (step fillfactor (suc level) (next ∷ above) item) in
      step-before (suc level) moment (next ∷ above) item _ (last_page-made moment o.full o.before o.last o.born).1 rest.0 rest.1

  pub history-up : (bound from moment : ℕ) (opens : List (Open C)) (items : List (Item C))
      → map (λ item. item.arrival) items ≡ range_with_len from (length items) → from + length items ≡ moment
      → NotBefore from (history_from bound fillfactor moment opens items) × Ascends (history_from bound fillfactor moment opens items)
  history-up bound from moment opens [] turn end =
      let up = closing-up bound 0 moment opens in
      (NotBefore-less from moment _ (omega arith) up.0, up.1)
  history-up bound from moment opens (x ∷ items) turn end =
      let here : x.arrival ≡ from = cc in
      let behind : map (λ item. item.arrival) items ≡ range_with_len (from + 1) (length items) = cc in
      let rest = history-up bound (from + 1) moment (step fillfactor 0 opens x) items behind (omega arith) in
      let later : NotBefore (suc from) (history_from bound fillfactor moment (step fillfactor 0 opens x) items) =
      NotBefore-less (suc from) (from + 1) _ (omega arith) rest.0 in
      step-before 0 from opens x _ here later rest.1

  -- ---- they are all births

  -- the births of a level that has one page more
  moments-full : (level : ℕ) (o : Open C) (x : Item C) (page : Page C) → finished_by fillfactor level o x ≡ Some page
      → moments_of (broken_by o page x) ≡ moments_of o ++ x.arrival ∷ []
  moments-full level o x page is =
      let made = finished_by-page level o.full o.before o.last o.born x page is in
      ap (λ l. l ++ x.arrival ∷ []) (map_push (λ (page : Page C). page.born) o.full page ∙ ap (λ (m : ℕ). map (λ page. page.born) o.full ++ m ∷ []) made.0)

  pub births-step : (level : ℕ) (opens : List (Open C)) (x : Item C)
      → IsPermutation (births_in level (step fillfactor level opens x)) (births_in level opens ++ born_by fillfactor level opens x)
  births-step level [] x = IsPermutation-refl _
  births-step level (o ∷ above) x = go (finished_by fillfactor level o x) refl (λ page. births-step (suc level) above (item_above page))
    where
      on : ℕ → Birth
      on moment = record { moment = moment; level = level }

      go : (f : Option (Page C)) → finished_by fillfactor level o x ≡ f
          → ((page : Page C) → IsPermutation (births_in (suc level) (step fillfactor (suc level) above (item_above page)))
          (births_in (suc level) above ++ born_by fillfactor (suc level) above (item_above page)))
          → IsPermutation (births_in level (step fillfactor level (o ∷ above) x)) (births_in level (o ∷ above) ++ born_by fillfactor level (o ∷ above) x)
      go None is later =
          subst (λ l. IsPermutation (births_in level l) (births_in level (o ∷ above) ++ born_by fillfactor level (o ∷ above) x)) (sym (step-joins fillfactor level o above x is))
          (subst (λ l. IsPermutation (births_in level (o ∷ above)) (births_in level (o ∷ above) ++ l)) (sym (born_by-joins level o above x is))
          (subst (IsPermutation (births_in level (o ∷ above))) (sym (append-nil (births_in level (o ∷ above)))) (IsPermutation-refl (births_in level (o ∷ above)))))
      go (Some page) is later =
          let rest = step fillfactor (suc level) above (item_above page) in
          let new = born_by fillfactor (suc level) above (item_above page) in
          let here : births_in level (broken_by o page x ∷ rest) ≡ (map on (moments_of o) ++ on x.arrival ∷ []) ++ births_in (suc level) rest =
          ap (λ l. map on l ++ births_in (suc level) rest) (moments-full level o x page is)
          ∙ ap (λ l. l ++ births_in (suc level) rest) (map_push on (moments_of o) x.arrival) in
          subst (λ l. IsPermutation (births_in level l) (births_in level (o ∷ above) ++ born_by fillfactor level (o ∷ above) x)) (sym (step-breaks fillfactor level o above x page is))
          (subst (λ l. IsPermutation (births_in level (broken_by o page x ∷ rest)) (births_in level (o ∷ above) ++ l)) (sym (born_by-breaks level o above x page is))
          (subst (λ l. IsPermutation l (births_in level (o ∷ above) ++ on x.arrival ∷ new)) (sym here)
          (carried (map on (moments_of o)) (births_in (suc level) above) (on x.arrival) (births_in (suc level) rest) new (later page))))

  moments-all : (moment : ℕ) (o : Open C) → map (λ page. page.born) (all_pages moment o) ≡ moments_of o
  moments-all moment o =
      map_push (λ (page : Page C). page.born) o.full (last_page moment o)
      ∙ ap (λ (m : ℕ). map (λ page. page.born) o.full ++ m ∷ []) (last_page-made moment o.full o.before o.last o.born).0

  -- the births of closed levels
  births_closed : ℕ → List (List (Page C)) → List Birth
  births_closed level pages = births_from level (map (map (λ page. page.born)) pages)

  IsClosedFrom : ℕ → ℕ → ℕ → List (Open C) → Type 0
  IsClosedFrom bound level moment opens =
      IsPermutation (births_closed level (close bound fillfactor level moment opens)) (births_in level opens ++ born_closing bound fillfactor level moment opens)

  closing-none : (bound level moment : ℕ) (opens : List (Open C)) → opens ≡ [] → IsClosedFrom bound level moment opens
  unfolding IsClosedFrom births_closed
  closing-none zero level moment [] none = IsPermutation-refl []
  closing-none (suc bound) level moment [] none = IsPermutation-refl []
  closing-none bound level moment (o ∷ above) none = cc

  closing-root : (bound level moment : ℕ) (o : Open C) → IsClosedFrom (suc bound) level moment (o ∷ [])
  unfolding IsClosedFrom births_closed
  closing-root bound level moment o =
      let on : ℕ → Birth = λ moment. record { moment = moment; level = level } in
      let all : List Birth = map on (moments_of o) ++ [] in
      subst (λ l. IsPermutation l (all ++ [])) (ap (λ l. map on l ++ []) (sym (moments-all moment o)))
      (subst (IsPermutation all) (sym (append-nil all)) (IsPermutation-refl all))

  closing-more : (bound level moment : ℕ) (o : Open C) (above : List (Open C)) → 1 ≤ length above
      → IsClosedFrom bound (suc level) (suc moment) (step fillfactor (suc level) above (item_above (last_page moment o)))
      → IsClosedFrom (suc bound) level moment (o ∷ above)
  unfolding IsClosedFrom births_closed
  closing-more bound level moment o [] some rest = absurd (omega arith)
  closing-more bound level moment o (next ∷ more) some rest =
      let item = item_above (last_page moment o) in
      let above = next ∷ more in
      let on : ℕ → Birth = λ moment. record { moment = moment; level = level } in
      let here : List Birth = map on (moments_of o) in
      let there : List Birth = births_in (suc level) above in
      let made = born_by fillfactor (suc level) above item in
      let stepped = step fillfactor (suc level) above item in
      let behind = born_closing bound fillfactor (suc level) (suc moment) stepped in
      let closed : List Birth = births_closed (suc level) (close bound fillfactor (suc level) (suc moment) stepped) in
      let moved : IsPermutation closed ((there ++ made) ++ behind) =
      IsPermutation-trans closed (births_in (suc level) stepped ++ behind) ((there ++ made) ++ behind) rest
      (IsPermutation-append_left behind (births_in (suc level) stepped) (there ++ made) (births-step (suc level) above item)) in
      let whole : IsPermutation (here ++ closed) (here ++ ((there ++ made) ++ behind)) = IsPermutation-append_right here closed ((there ++ made) ++ behind) moved in
      let regroup : here ++ ((there ++ made) ++ behind) ≡ (here ++ there) ++ (made ++ behind) = simp append_assoc in
      subst (λ l. IsPermutation (map on l ++ closed) ((here ++ there) ++ (made ++ behind))) (sym (moments-all moment o))
      (subst (IsPermutation (here ++ closed)) regroup whole)

  closing-births : (bound size level moment : ℕ) (items : List (Item C)) → length items ≤ bound → length items ≤ size
      → IsClosedFrom bound level moment (tower_within size fillfactor level items)
  closing-births bound size level moment [] fits small =
      closing-none bound level moment (tower_within size fillfactor level []) (tower-none fillfactor size level)
  closing-births zero size level moment (first ∷ rest) fits small = absurd (omega arith)
  closing-births (suc bound) zero level moment (first ∷ rest) fits small = absurd (omega arith)
  closing-births (suc bound) (suc size) level moment (first ∷ rest) fits small =
      go (cut fillfactor level first rest).full refl (closing-births bound (suc size) (suc level) (suc moment))
    where
      o : Open C
      o = opened (cut fillfactor level first rest)

      go : (full : List (Page C)) → (cut fillfactor level first rest).full ≡ full
          → ((items : List (Item C)) → length items ≤ bound → length items ≤ suc size
          → IsClosedFrom bound (suc level) (suc moment) (tower_within (suc size) fillfactor (suc level) items))
          → IsClosedFrom (suc bound) level moment (tower_within (suc size) fillfactor level (first ∷ rest))
      go [] is later =
          subst (λ above. IsClosedFrom (suc bound) level moment (o ∷ above))
          (sym (ap (λ full. tower_within size fillfactor (suc level) (map item_above full)) is ∙ tower-none fillfactor size (suc level)))
          (closing-root bound level moment o)
      go (page ∷ others) is later =
          let ups = above_of fillfactor level first rest in
          let x = item_above (last_page moment o) in
          let few = length-above_of fillfactor level first rest in
          let some : 1 ≤ length ups =
          let same = length-map (cut fillfactor level first rest).full (item_above {C = C}) in let count = ap length is in omega arith in
          let long : length (ups ++ x ∷ []) ≡ length ups + 1 = length-append ups (x ∷ []) in
          closing-more bound level moment o (tower_within size fillfactor (suc level) ups) (length-tower fillfactor size (suc level) ups (omega arith) some)
          (subst (IsClosedFrom bound (suc level) (suc moment)) (tower-push fillfactor size (suc level) ups x (omega arith))
          (later (ups ++ x ∷ []) (omega arith) (omega arith)))

  -- all births, in the order in which the pass makes them
  births-behind : (bound moment : ℕ) (done items : List (Item C))
      → IsPermutation (births_in 0 (tower fillfactor (done ++ items)) ++ born_closing bound fillfactor 0 moment (tower fillfactor (done ++ items)))
      (births_in 0 (tower fillfactor done) ++ history_from bound fillfactor moment (tower fillfactor done) items)
  births-behind bound moment done [] =
      subst (λ l. IsPermutation (births_in 0 (tower fillfactor l) ++ born_closing bound fillfactor 0 moment (tower fillfactor l))
      (births_in 0 (tower fillfactor done) ++ born_closing bound fillfactor 0 moment (tower fillfactor done)))
      (sym (append-nil done)) (IsPermutation-refl _)
  births-behind bound moment done (x ∷ items) =
      let now = tower fillfactor done in
      let stepped = step fillfactor 0 now x in
      let behind = history_from bound fillfactor moment stepped items in
      let made = born_by fillfactor 0 now x in
      let whole : IsPermutation (births_in 0 (tower fillfactor (done ++ x ∷ items)) ++ born_closing bound fillfactor 0 moment (tower fillfactor (done ++ x ∷ items)))
      (births_in 0 stepped ++ behind) =
      subst (λ opens. IsPermutation (births_in 0 (tower fillfactor (done ++ x ∷ items)) ++ born_closing bound fillfactor 0 moment (tower fillfactor (done ++ x ∷ items)))
      (births_in 0 opens ++ history_from bound fillfactor moment opens items)) (tower_step fillfactor done x)
      (subst (λ l. IsPermutation (births_in 0 (tower fillfactor l) ++ born_closing bound fillfactor 0 moment (tower fillfactor l))
      (births_in 0 (tower fillfactor (done ++ x ∷ [])) ++ history_from bound fillfactor moment (tower fillfactor (done ++ x ∷ [])) items))
      (append_assoc done (x ∷ []) items) (births-behind bound moment (done ++ x ∷ []) items)) in
      IsPermutation-trans _ (births_in 0 stepped ++ behind) _ whole
      (subst (IsPermutation (births_in 0 stepped ++ behind)) (append_assoc (births_in 0 now) made behind)
      (IsPermutation-append_left behind (births_in 0 stepped) (births_in 0 now ++ made) (births-step 0 now x)))

  -- all births: those in the tower over the first items, and those that come behind them
  pub births-split : (done items : List (Item C))
      → IsPermutation (births_of (levels fillfactor (done ++ items)))
      (births_in 0 (tower fillfactor done) ++ history_from (length (done ++ items)) fillfactor (length (done ++ items) + 1) (tower fillfactor done) items)
  unfolding tower IsClosedFrom births_closed
  births-split done items =
      let all = done ++ items in
      let bound = length all in
      let closed = closing-births bound bound 0 (bound + 1) all (omega arith) (omega arith) in
      IsPermutation-trans _ _ _
      (subst (λ l. IsPermutation (births_of l) (births_in 0 (tower fillfactor all) ++ born_closing bound fillfactor 0 (bound + 1) (tower fillfactor all)))
      (close_tower fillfactor all) closed)
      (births-behind bound (bound + 1) done items)

  pub history_is_births : (items : List (Item C)) → IsPermutation (births_of (levels fillfactor items)) (history fillfactor items)
  unfolding tower history
  history_is_births items = births-split [] items

  block-number : (items : List (Item C)) → block_of (births_of (levels fillfactor items)) ≡ number_in (history fillfactor items)
  unfolding block_of number_in
  block-number items =
      sym (λ i birth. 1 + sum_by-IsPermutation (λ other. cond (is_earlier other birth) 1 0)
      (births_of (levels fillfactor items)) (history fillfactor items) (history_is_births items) i)

  pub numbered_in_turn : (items : List (Item C)) → ArriveInTurn items
      → map (block_of (births_of (levels fillfactor items))) (history fillfactor items) ≡ range_with_len 1 (length (history fillfactor items))
  unfolding history
  numbered_in_turn items turn =
      ap (λ number. map number (history fillfactor items)) (block-number items)
      ∙ numbers-ascending (history fillfactor items) (history-up (length items) 1 (length items + 1) [] items turn (omega arith)).1

  pub blocks_are_exact : (items : List (Item C)) → ArriveInTurn items
      → IsPermutation (map (block_of (births_of (levels fillfactor items))) (births_of (levels fillfactor items)))
      (range_with_len 1 (length (births_of (levels fillfactor items))))
  blocks_are_exact items turn =
      let births = births_of (levels fillfactor items) in
      let same = history_is_births items in
      subst (IsPermutation (map (block_of births) births))
      (numbered_in_turn items turn ∙ ap (range_with_len 1) (length_permutation births (history fillfactor items) same))
      (IsPermutation-map (block_of births) births (history fillfactor items) same)
