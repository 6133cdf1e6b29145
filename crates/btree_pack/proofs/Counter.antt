-- The counter of blocks: a page that is born gets the next number, and no number changes later.
use Rattle.std.proofs.Common.{◌≡◌, ℕ, zero, suc, ◌+◌, ◌<◌, ◌≤◌, Bool, true, false, cond, leb, List, [], ◌∷◌, ◌++◌, length, map, refl, sym, ap, ◌∙◌, subst, arith, length-append, append_assoc, append-nil}
use Rattle.std.proofs.lemmas.Bool.Decides.{nat_tests}
use Rattle.std.specs.List.{count_by, range_with_len}
use Rattle.std.specs.List.Sorted.{IsPermutation}
use Rattle.std.proofs.lemmas.List.Sums.{sum_by-cons, sum_by-append}
use Rattle.std.proofs.lemmas.List.Sorted.{sum_by-IsPermutation}
use Rattle.btree_pack.specs.Births.{Birth, is_earlier, births_of, block_of}
use Rattle.btree_pack.specs.Break.{Item}
use Rattle.btree_pack.specs.Tower.{levels, ArriveInTurn}
use Rattle.btree_pack.specs.Pass.Open.{Open, tower, step}
use Rattle.btree_pack.specs.Pass.History.{births_in, born_by, history_from}
use Rattle.btree_pack.proofs.Towers.{tower_step}
use Rattle.btree_pack.proofs.Numbers.{Later-moment, AreAt, number_in, none-earlier, numbers-ascending, earlier-moment, born_by-at, born_by-up, history-up, births-step, births-split}

-- ---- births before a moment

AreBefore : ℕ → List Birth → Type 0
AreBefore moment [] = Unit {0}
AreBefore moment (b ∷ bs) = (b.moment < moment) × AreBefore moment bs

count_late : ℕ → List Birth → ℕ
count_late moment bs = count_by (λ b. leb moment b.moment) bs

not-late : (moment : ℕ) (bs : List Birth) → AreBefore moment bs → count_late moment bs ≡ 0
unfolding AreBefore count_late
not-late moment [] before = refl
not-late moment (b ∷ bs) before =
    let here : b.moment < moment = before.0 in
    let test : leb moment b.moment ≡ false = grind (arith, nat_tests) in
    let rest = not-late moment bs before.1 in
    sum_by-cons (λ b. cond (leb moment b.moment) 1 0) b bs
    ∙ ap (λ t. cond t 1 0 + count_by (λ b. leb moment b.moment) bs) test
    ∙ (let e : 0 + count_by (λ b. leb moment b.moment) bs ≡ 0 = omega arith in e)

none-late : (moment : ℕ) (bs : List Birth) → count_late moment bs ≡ 0 → AreBefore moment bs
unfolding AreBefore count_late
none-late moment [] none = tt
none-late moment (b ∷ bs) none = go (leb moment b.moment) refl (none-late moment bs)
  where
    go : (t : Bool) → leb moment b.moment ≡ t → (count_late moment bs ≡ 0 → AreBefore moment bs) → AreBefore moment (b ∷ bs)
    go true is later =
        let parts = sum_by-cons (λ b. cond (leb moment b.moment) 1 0) b bs in
        let one : ◌≡◌ {A = ℕ} (cond (leb moment b.moment) 1 0) 1 = ap (λ t. cond t 1 0) is in
        absurd (omega arith)
    go false is later =
        let parts = sum_by-cons (λ b. cond (leb moment b.moment) 1 0) b bs in
        let nought : ◌≡◌ {A = ℕ} (cond (leb moment b.moment) 1 0) 0 = ap (λ t. cond t 1 0) is in
        let below : b.moment < moment = grind (arith, nat_tests) in
        (below, later (omega arith))

AreBefore-more : (moment later : ℕ) (bs : List Birth) → moment ≤ later → AreBefore moment bs → AreBefore later bs
unfolding AreBefore
AreBefore-more moment later [] less before = tt
AreBefore-more moment later (b ∷ bs) less before =
    let here : b.moment < moment = before.0 in
    (omega arith, AreBefore-more moment later bs less before.1)

AreAt-AreBefore : (moment level : ℕ) (bs : List Birth) → AreAt moment level bs → AreBefore (suc moment) bs
unfolding AreAt AreBefore
AreAt-AreBefore moment level [] at = tt
AreAt-AreBefore moment level (b ∷ bs) at =
    let here : b.moment ≡ moment = at.0 in
    (omega arith, AreAt-AreBefore moment level bs at.2)

-- all of them are earlier than a birth at that moment
all-earlier : (birth : Birth) (bs : List Birth) → AreBefore birth.moment bs → count_by (λ other. is_earlier other birth) bs ≡ length bs
unfolding AreBefore
all-earlier birth [] before = refl
all-earlier birth (b ∷ bs) before =
    let rest = all-earlier birth bs before.1 in
    sum_by-cons (λ other. cond (is_earlier other birth) 1 0) b bs
    ∙ ap (λ t. cond t 1 0 + count_by (λ other. is_earlier other birth) bs) (earlier-moment b birth before.0)
    ∙ (let e : 1 + count_by (λ other. is_earlier other birth) bs ≡ suc (length bs) = omega arith in e)

map-plus : (more a n : ℕ) → map (λ k. k + more) (range_with_len a n) ≡ range_with_len (a + more) n
map-plus more a zero = refl
map-plus more a (suc n) =
    ap (λ l. (a + more) ∷ l) (map-plus more (a + 1) n ∙ ap (λ (k : ℕ). range_with_len k n) (let e : a + 1 + more ≡ a + more + 1 = omega arith in e))

-- the numbers of births at one moment, behind earlier ones
numbers-next : (old new : List Birth) (moment level : ℕ) → AreBefore moment old → (some : List Birth) → AreAt moment level some
    → map (number_in (old ++ new)) some ≡ map (λ k. k + length old) (map (number_in new) some)
unfolding AreAt number_in
numbers-next old new moment level before [] at = refl
numbers-next old new moment level before (b ∷ some) at =
    let here : AreBefore b.moment old = subst (λ (m : ℕ). AreBefore m old) (sym at.0) before in
    let whole = sum_by-append (λ other. cond (is_earlier other b) 1 0) old new in
    let earlier = all-earlier b old here in
    let head : 1 + count_by (λ other. is_earlier other b) (old ++ new) ≡ 1 + count_by (λ other. is_earlier other b) new + length old = omega arith in
    ap (λ (n : ℕ). n ∷ map (number_in (old ++ new)) some) head
    ∙ ap (λ l. (1 + count_by (λ other. is_earlier other b) new + length old) ∷ l) (numbers-next old new moment level before some at.2)

-- the first items of those that arrive in turn
turn-front : {C : Type 0} (from : ℕ) (done items : List (Item C))
    → map (λ item. item.arrival) (done ++ items) ≡ range_with_len from (length (done ++ items))
    → map (λ item. item.arrival) done ≡ range_with_len from (length done)
turn-front from [] items turn = refl
turn-front from (x ∷ done) items turn =
    let here : x.arrival ≡ from = cc in
    let behind : map (λ item. item.arrival) (done ++ items) ≡ range_with_len (from + 1) (length (done ++ items)) = cc in
    let rest = turn-front (from + 1) done items behind in
    cc

-- what arrives behind the first items arrives in turn too
turn-behind : {C : Type 0} (from : ℕ) (done items : List (Item C))
    → map (λ item. item.arrival) (done ++ items) ≡ range_with_len from (length (done ++ items))
    → map (λ item. item.arrival) items ≡ range_with_len (from + length done) (length items)
turn-behind from [] items turn = turn ∙ ap (λ (n : ℕ). range_with_len n (length items)) (let e : from ≡ from + 0 = omega arith in e)
turn-behind from (x ∷ done) items turn =
    let behind : map (λ item. item.arrival) (done ++ items) ≡ range_with_len (from + 1) (length (done ++ items)) = cc in
    turn-behind (from + 1) done items behind
    ∙ ap (λ (n : ℕ). range_with_len n (length items)) (let e : from + 1 + length done ≡ from + suc (length done) = omega arith in e)

-- what a list of births has, in another order
block-permutation : (xs ys : List Birth) → IsPermutation xs ys → (birth : Birth) → block_of xs birth ≡ number_in ys birth
unfolding block_of number_in
block-permutation xs ys same birth =
    ap (λ (n : ℕ). 1 + n) (sym (sum_by-IsPermutation (λ other. cond (is_earlier other birth) 1 0) xs ys same))

module _ {C : Type 0} (fillfactor : ℕ) where
  pub numbers_stay : (done items : List (Item C)) (birth : Birth) → ArriveInTurn (done ++ items) → birth.moment ≤ length done
      → block_of (births_of (levels fillfactor (done ++ items))) birth ≡ block_of (births_in 0 (tower fillfactor done)) birth
  unfolding block_of number_in
  numbers_stay done items birth turn early =
      let now : List Birth = births_in 0 (tower fillfactor done) in
      let all : ℕ = length (done ++ items) in
      let behind : List Birth = history_from all fillfactor (all + 1) (tower fillfactor done) items in
      let long = length-append done items in
      let turn' : map (λ item. item.arrival) items ≡ range_with_len (1 + length done) (length items) = turn-behind 1 done items turn in
      let up = history-up fillfactor all (1 + length done) (all + 1) (tower fillfactor done) items turn' (omega arith) in
      let none : count_by (λ other. is_earlier other birth) behind ≡ 0 = none-earlier birth behind (Later-moment birth (1 + length done) behind (omega arith) up.0) in
      let whole = sum_by-append (λ other. cond (is_earlier other birth) 1 0) now behind in
      block-permutation (births_of (levels fillfactor (done ++ items))) (now ++ behind) (births-split fillfactor done items) birth
      ∙ ap (λ (n : ℕ). 1 + n) (let e : count_by (λ other. is_earlier other birth) (now ++ behind) ≡ count_by (λ other. is_earlier other birth) now = omega arith in e)

  step-before : (moment : ℕ) (opens : List (Open C)) (x : Item C) → x.arrival ≡ moment → AreBefore moment (births_in 0 opens)
      → AreBefore (suc moment) (births_in 0 (step fillfactor 0 opens x))
  unfolding count_late
  step-before moment opens x here before =
      let old : List Birth = births_in 0 opens in
      let new : List Birth = born_by fillfactor 0 opens x in
      let none = not-late (suc moment) old (AreBefore-more moment (suc moment) old (omega arith) before) in
      let none' = not-late (suc moment) new (subst (λ (m : ℕ). AreBefore (suc m) new) here (AreAt-AreBefore x.arrival 0 new (born_by-at fillfactor 0 opens x))) in
      let whole = sum_by-append (λ b. cond (leb (suc moment) b.moment) 1 0) old new in
      let same = sum_by-IsPermutation (λ b. cond (leb (suc moment) b.moment) 1 0) (births_in 0 (step fillfactor 0 opens x)) (old ++ new) (births-step fillfactor 0 opens x) in
      none-late (suc moment) (births_in 0 (step fillfactor 0 opens x)) (omega arith)

  tower-before : (done items : List (Item C)) → map (λ item. item.arrival) items ≡ range_with_len (1 + length done) (length items)
      → AreBefore (1 + length done) (births_in 0 (tower fillfactor done))
      → AreBefore (1 + length (done ++ items)) (births_in 0 (tower fillfactor (done ++ items)))
  tower-before done [] turn before =
      subst (λ l. AreBefore (1 + length l) (births_in 0 (tower fillfactor l))) (sym (append-nil done)) before
  tower-before done (x ∷ items) turn before =
      let here : x.arrival ≡ 1 + length done = cc in
      let behind : map (λ item. item.arrival) items ≡ range_with_len (1 + length done + 1) (length items) = cc in
      let long = length-append done (x ∷ []) in
      let count : suc (1 + length done) ≡ 1 + length (done ++ x ∷ []) = omega arith in
      let count' : 1 + length done + 1 ≡ 1 + length (done ++ x ∷ []) = omega arith in
      subst (λ l. AreBefore (1 + length l) (births_in 0 (tower fillfactor l))) (append_assoc done (x ∷ []) items)
      (tower-before (done ++ x ∷ []) items (behind ∙ ap (λ (n : ℕ). range_with_len n (length items)) count')
      (subst (λ opens. AreBefore (1 + length (done ++ x ∷ [])) (births_in 0 opens)) (sym (tower_step fillfactor done x))
      (subst (λ (m : ℕ). AreBefore m (births_in 0 (step fillfactor 0 (tower fillfactor done) x))) count
      (step-before (1 + length done) (tower fillfactor done) x here before))))

  pub next_numbers : (done : List (Item C)) (x : Item C) → ArriveInTurn (done ++ x ∷ [])
      → map (block_of (births_in 0 (tower fillfactor (done ++ x ∷ [])))) (born_by fillfactor 0 (tower fillfactor done) x)
      ≡ range_with_len (1 + length (births_in 0 (tower fillfactor done))) (length (born_by fillfactor 0 (tower fillfactor done) x))
  unfolding tower AreBefore
  next_numbers done x turn =
      let old : List Birth = births_in 0 (tower fillfactor done) in
      let new : List Birth = born_by fillfactor 0 (tower fillfactor done) x in
      let now : List Birth = births_in 0 (tower fillfactor (done ++ x ∷ [])) in
      let here : x.arrival ≡ 1 + length done = let last = turn-behind 1 done (x ∷ []) turn in cc in
      let turn' : map (λ item. item.arrival) done ≡ range_with_len 1 (length done) = turn-front 1 done (x ∷ []) turn in
      let before : AreBefore x.arrival old = subst (λ (m : ℕ). AreBefore m old) (sym here) (tower-before [] done turn' tt) in
      let same : IsPermutation now (old ++ new) =
      subst (λ opens. IsPermutation (births_in 0 opens) (old ++ new)) (sym (tower_step fillfactor done x)) (births-step fillfactor 0 (tower fillfactor done) x) in
      ap (λ number. map number new) (λ i birth. block-permutation now (old ++ new) same birth i)
      ∙ numbers-next old new x.arrival 0 before new (born_by-at fillfactor 0 (tower fillfactor done) x)
      ∙ ap (map (λ k. k + length old)) (numbers-ascending new (born_by-up fillfactor 0 (tower fillfactor done) x))
      ∙ map-plus (length old) 1 (length new)
