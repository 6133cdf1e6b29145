-- Legal claims in the order of their first numbers are what the machine makes.
use Rattle.std.proofs.Common.{◌≡◌, ◌≢◌, ◌⊎◌, inl, inr, ℕ, zero, suc, ◌+◌, ◌<◌, ◌≤◌, ◌&&◌, eqb, ltb, leb, Bool, true, false, cond, List, [], ◌∷◌, ◌++◌, filter, All, Contains, sym, refl, ap, subst, ◌∙◌, arith}
use Rattle.std.specs.List.Sorted.{IsPermutation}
use Rattle.std.proofs.lemmas.List.Sums.{sum_by-cons}
use Rattle.std.proofs.lemmas.List.Sorted.{sum_by-IsPermutation, All-permutation, Contains-permutation, IsPermutation-sym}
use Rattle.std.proofs.lemmas.List.Kept.{AllPairs-filter}
use Rattle.std.proofs.lemmas.Bool.Decides.{nat_tests}
use Rattle.std.proofs.lemmas.Bool.{cases_lt}
use Rattle.block_claim.specs.declared.claim.Claim.{Claim}
use Rattle.block_claim.specs.Ramp.{FollowsRamp, ramp_at_start, ramp_of, after_claim, claims_by}
use Rattle.block_claim.specs.Legal.{lies_in, times_claimed, numbers_of, once_below, AscendsByFirst, IsLegalInSomeOrder}
use Rattle.block_claim.specs.Machine.{Machine, machine_at_start, event_claim, after_event, IsRunFrom}
use Rattle.block_claim.specs.Laws.{LegalClaimsAreARun}
use Rattle.block_claim.proofs.Lists.{all_head, all_tail, all_to}
use Rattle.block_claim.proofs.Ramps.{ramp_snoc, claims_none_by}
use Rattle.block_claim.proofs.Counts.{lies_at}
use Rattle.block_claim.proofs.LegalLaws.{in_filter, filter_has, sizes}

tail_ascends : (c : Claim) (cs : List Claim) → AscendsByFirst (c ∷ cs) → AscendsByFirst cs
tail_ascends c cs up = λ i j d less below. up (suc i) (suc j) d (omega arith) (omega arith)

head_below : (c : Claim) (cs : List Claim) → AscendsByFirst (c ∷ cs) → All (λ d. c.first < d.first) cs
head_below c cs up = λ k d below. up 0 (suc k) d (omega arith) (omega arith)

below_in : (c : Claim) (cs : List Claim) (d : Claim) → AscendsByFirst (c ∷ cs) → Contains cs d → c.first < d.first
below_in c cs d up there = subst (λ (x : Claim). c.first < x.first) there.2 (head_below c cs up there.0 d there.1)

split_in : (y : Claim) (ys : List Claim) (x : Claim) → Contains (y ∷ ys) x → (y ≡ x) ⊎ Contains ys x
split_in y ys x (zero, below, same) = inl same
split_in y ys x (suc k, below, same) = inr (k, omega arith, same)

later_in : (y : Claim) (ys : List Claim) (x : Claim) → Contains ys x → Contains (y ∷ ys) x
later_in y ys x there = (suc there.0, omega (arith, there.1), there.2)

first_in : (y : Claim) (ys : List Claim) → Contains (y ∷ ys) y
first_in y ys = (0, omega arith, refl)

-- two lists that ascend and have the same claims have the same first one
same_first : (x y : Claim) (xs ys : List Claim) → AscendsByFirst (x ∷ xs) → AscendsByFirst (y ∷ ys) → Contains (y ∷ ys) x → Contains (x ∷ xs) y → x ≡ y
same_first x y xs ys up up' there back =
    elim (split_in y ys x there) as (λ _. x ≡ y) [
      | inl same ↦ sym same
      | inr later ↦ elim (split_in x xs y back) as (λ _. x ≡ y) [
        | inl same ↦ same
        | inr later' ↦ (let a = below_in y ys x up' later in let b = below_in x xs y up later' in absurd (omega arith))
      ]
    ]

rest_in : (x y : Claim) (xs ys : List Claim) → x ≡ y → AscendsByFirst (x ∷ xs) → ((c : Claim) → Contains (x ∷ xs) c → Contains (y ∷ ys) c) → (c : Claim) → Contains xs c → Contains ys c
rest_in x y xs ys same up into c there =
    elim (split_in y ys c (into c (later_in x xs c there))) as (λ _. Contains ys c) [
      | inl here ↦ (let a = below_in x xs c up there in let e : x.first ≡ c.first = ap (λ (z : Claim). z.first) (same ∙ here) in absurd (omega arith))
      | inr later ↦ later
    ]

one_list : (xs ys : List Claim) → AscendsByFirst xs → AscendsByFirst ys → ((c : Claim) → Contains xs c → Contains ys c) → ((c : Claim) → Contains ys c → Contains xs c) → xs ≡ ys
one_list [] [] up up' into back = refl
one_list [] (y ∷ ys) up up' into back = absurd (let none = back y (first_in y ys) in omega (arith, none.1))
one_list (x ∷ xs) [] up up' into back = absurd (let none = into x (first_in x xs) in omega (arith, none.1))
one_list (x ∷ xs) (y ∷ ys) up up' into back =
    let same = same_first x y xs ys up up' (into x (first_in x xs)) (back y (first_in y ys)) in
    let tails = one_list xs ys (tail_ascends x xs up) (tail_ascends y ys up') (rest_in x y xs ys same up into) (rest_in y x ys xs (sym same) up' back) in
    ap (λ (z : Claim). z ∷ xs) same ∙ ap (λ (zs : List Claim). y ∷ zs) tails

filter_passes : (p : Claim → Bool) (xs : List Claim) (x : Claim) → Contains (filter p xs) x → p x ≡ true
filter_passes p [] x there = absurd (omega (arith, there.1))
filter_passes p (y ∷ ys) x there = go (p y) refl (filter_passes p ys x)
  where
    front : p y ≡ true → Contains (y ∷ filter p ys) x → (Contains (filter p ys) x → p x ≡ true) → p x ≡ true
    front e (zero, below, same) down = ap p (sym same) ∙ e
    front e (suc k, below, same) down = down (k, omega arith, same)

    go : (b : Bool) → p y ≡ b → (Contains (filter p ys) x → p x ≡ true) → p x ≡ true
    go true e down = front e (rw e at there) down
    go false e down = down (rw e at there)

none_below : (n : ℕ) (claims : List Claim) → All (λ c. n < c.first) claims → times_claimed n claims ≤ 0
none_below n [] h = omega arith
none_below n (c ∷ cs) h =
    let rest = none_below n cs (all_tail (λ (x : Claim). n < x.first) c cs h) in
    let here = all_head (λ (x : Claim). n < x.first) c cs h in
    let none : cond (lies_in n c) 1 0 ≤ 0 = grind (arith, nat_tests) in
    omega (arith, sum_by-cons (λ (x : Claim). cond (lies_in n x) 1 0) c cs)

-- 1 for a number from the start on and below the end
pub once_from : ℕ → ℕ → ℕ → ℕ
once_from start end n = cond (leb start n && ltb n end) 1 0

from_some : (start end n : ℕ) → 1 ≤ once_from start end n → (start ≤ n) × (n < end)
unfolding once_from
from_some start end n h = (grind (arith, nat_tests), grind (arith, nat_tests))

from_here : (start end : ℕ) → start < end → 1 ≤ once_from start end start
unfolding once_from
from_here start end h = grind (arith, nat_tests)

from_less : (start size end n first t : ℕ) → 1 ≤ size → first ≡ start → cond (leb first n && ltb n (first + size)) 1 0 + t ≡ once_from start end n → t ≡ once_from (start + size) end n
unfolding once_from
from_less start size end n first t some same h = grind (arith, nat_tests)

from_zero : (end n : ℕ) → once_below n end ≡ once_from 0 end n
unfolding once_from
from_zero end n = grind (arith, nat_tests)

module _ (blocks seats end : ℕ) where
  -- the claims that are left tile the numbers from the machine's on, and go on down each worker's ramp
  pub record IsLeft (m : Machine) (claims : List Claim) : Type 0 where
    pub workers : All (λ c. c.worker < seats) claims
    pub sizes : All (λ c. 1 ≤ c.size) claims
    pub ascending : AscendsByFirst claims
    pub tiles : (n : ℕ) → times_claimed n claims ≡ once_from m.next end n
    pub ramps : (w : ℕ) → FollowsRamp blocks (ramp_of blocks (m.claims w)) (claims_by w claims)

  begins : (m : Machine) (c : Claim) (cs : List Claim) → IsLeft m (c ∷ cs) → c.first ≡ m.next
  begins m c cs left =
      let size = all_head (λ (x : Claim). 1 ≤ x.size) c cs left.sizes in
      let one = lies_at c.first (c ∷ cs) c (first_in c cs) (omega arith) (omega arith) in
      let tile = left.tiles c.first in
      let within = from_some m.next end c.first (omega arith) in
      elim (cases_lt m.next c.first) as (λ _. c.first ≡ m.next) [
        | inl past ↦ absurd (
            let none = none_below m.next (c ∷ cs) (λ k d below. all_from m c cs left past k d below) in
            let tile' = left.tiles m.next in
            let some = from_here m.next end (omega arith) in
            omega arith)
        | inr here ↦ omega arith
      ]
    where
      all_from : (m : Machine) (c : Claim) (cs : List Claim) → IsLeft m (c ∷ cs) → m.next < c.first → All (λ d. m.next < d.first) (c ∷ cs)
      all_from m c cs left past zero d below = past
      all_from m c cs left past (suc k) d below = let h = head_below c cs left.ascending k d (omega arith) in omega arith

  own_ramp : (m : Machine) (c : Claim) (cs : List Claim) → IsLeft m (c ∷ cs) → FollowsRamp blocks (ramp_of blocks (m.claims c.worker)) (c ∷ claims_by c.worker cs)
  own_ramp m c cs left =
      let mine : eqb c.worker c.worker ≡ true = grind (arith, nat_tests) in
      rw mine at (left.ramps c.worker)

  is_event : (m : Machine) (c : Claim) (cs : List Claim) → IsLeft m (c ∷ cs) → c ≡ event_claim blocks m c.worker
  is_event m c cs left =
      let first = begins m c cs left in
      let ramp = own_ramp m c cs left in
      ap (λ (n : ℕ). record { worker = c.worker; first = n; size = c.size }) first ∙ ap (λ (s : ℕ). record { worker = c.worker; first = m.next; size = s }) ramp.1

  left_after : (m : Machine) (c : Claim) (cs : List Claim) → IsLeft m (c ∷ cs) → IsLeft (after_event blocks m c.worker) cs
  left_after m c cs left =
      let first = begins m c cs left in
      let ramp = own_ramp m c cs left in
      let size = all_head (λ (x : Claim). 1 ≤ x.size) c cs left.sizes in record {
        workers = all_tail (λ (x : Claim). x.worker < seats) c cs left.workers;
        sizes = all_tail (λ (x : Claim). 1 ≤ x.size) c cs left.sizes;
        ascending = tail_ascends c cs left.ascending;
        tiles = λ n.
            let was = sym (sum_by-cons (λ (x : Claim). cond (lies_in n x) 1 0) c cs) ∙ left.tiles n in
            from_less m.next c.size end n c.first (times_claimed n cs) size first was ∙ ap (λ (s : ℕ). once_from (m.next + s) end n) ramp.1;
        ramps = λ w. go w (eqb w c.worker) refl first ramp;
      }
    where
      go : (w : ℕ) (b : Bool) → eqb w c.worker ≡ b → c.first ≡ m.next → FollowsRamp blocks (ramp_of blocks (m.claims c.worker)) (c ∷ claims_by c.worker cs)
          → FollowsRamp blocks (ramp_of blocks ((after_event blocks m c.worker).claims w)) (claims_by w cs)
      go w true e first ramp =
          let same : w ≡ c.worker = grind (arith, nat_tests) in
          rw e (subst (λ (v : ℕ). FollowsRamp blocks (ramp_of blocks (m.claims c.worker ++ event_claim blocks m c.worker ∷ [])) (claims_by v cs)) (sym same)
          (subst (λ r. FollowsRamp blocks r (claims_by c.worker cs)) (sym (ramp_snoc blocks (ramp_at_start blocks) (m.claims c.worker) (event_claim blocks m c.worker)))
          (subst (λ (n : ℕ). FollowsRamp blocks (after_claim blocks (ramp_of blocks (m.claims c.worker)) n) (claims_by c.worker cs)) first ramp.2)))
      go w false e first ramp =
          let other : eqb c.worker w ≡ false = grind (arith, nat_tests) in
          rw e (rw other at (left.ramps w))

  pub runs : (m : Machine) (claims : List Claim) → IsLeft m claims → IsRunFrom blocks seats m claims
  runs m [] left = tt
  runs m (c ∷ cs) left = ((all_head (λ (x : Claim). x.worker < seats) c cs left.workers, (own_ramp m c cs left).0), is_event m c cs left, runs (after_event blocks m c.worker) cs (left_after m c cs left))

module _ (blocks seats : ℕ) (claims ordered : List Claim) (legal : IsLegalInSomeOrder blocks seats claims) (same : IsPermutation claims ordered) (up : AscendsByFirst ordered) where
  workers_of : All (λ c. c.worker < seats) ordered
  workers_of = All-permutation (λ (c : Claim). c.worker < seats) claims ordered same legal.workers

  back : IsPermutation ordered claims
  back = IsPermutation-sym claims ordered same

  by_worker : (w : ℕ) → w < seats → claims_by w ordered ≡ claims_by w claims
  by_worker w below = one_list (claims_by w ordered) (claims_by w claims) (AllPairs-filter (λ (a b : Claim). a.first < b.first) (λ (c : Claim). eqb c.worker w) ordered up) ((legal.ramps w below).ascending)
      (λ c there. moved ordered claims back w c there) (λ c there. moved claims ordered same w c there)
    where
      moved : (xs ys : List Claim) → IsPermutation xs ys → (w : ℕ) (c : Claim) → Contains (claims_by w xs) c → Contains (claims_by w ys) c
      moved xs ys p w c there = filter_has (λ (x : Claim). eqb x.worker w) ys c (filter_passes (λ (x : Claim). eqb x.worker w) xs c there) (Contains-permutation xs ys c p (in_filter (λ (x : Claim). eqb x.worker w) xs c there))

  begun : IsLeft blocks seats (numbers_of claims) machine_at_start ordered
  begun = record {
    workers = workers_of;
    sizes = All-permutation (λ (c : Claim). 1 ≤ c.size) claims ordered same (sizes blocks seats claims legal);
    ascending = up;
    tiles = λ n. sum_by-IsPermutation (λ (c : Claim). cond (lies_in n c) 1 0) claims ordered same ∙ (legal.tiles n ∙ from_zero (numbers_of claims) n);
    ramps = λ w. elim (cases_lt w seats) as (λ _. FollowsRamp blocks (ramp_at_start blocks) (claims_by w ordered)) [
      | inl below ↦ subst (λ (cs : List Claim). FollowsRamp blocks (ramp_at_start blocks) cs) (sym (by_worker w below)) (legal.ramps w below).ramp
      | inr past ↦ (
          let none : claims_by w ordered ≡ [] = claims_none_by w ordered (all_to (λ (c : Claim). c.worker < seats) (λ (c : Claim). c.worker ≢ w) ordered (λ c below e. omega arith) workers_of) in
          subst (λ (cs : List Claim). FollowsRamp blocks (ramp_at_start blocks) cs) (sym none) tt)
    ];
  }

pub run : LegalClaimsAreARun
run blocks seats claims ordered legal same up = runs blocks seats (numbers_of claims) machine_at_start ordered (begun blocks seats claims ordered legal same up)
