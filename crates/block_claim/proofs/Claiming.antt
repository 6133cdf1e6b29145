-- A claim keeps the rule.
use Rattle.std.proofs.Common.{◌≡◌, ℕ, zero, suc, ◌+◌, ◌^◌, ◌<◌, ◌≤◌, eqb, ltb, leb, ◌&&◌, Bool, true, false, cond, List, [], ◌∷◌, ◌++◌, length, set, count_by, All, Contains, sym, refl, ap, subst, append-nil, length-append, arith}
use mathlib.Core.Option.{some}
use lib.ListN.{get_elem?}
use Rattle.std.specs.List.{AllPairs}
use Rattle.std.proofs.lemmas.List.Sums.{sum_by-cons}
use Rattle.std.proofs.lemmas.List.Elements.{All-filter, All-append, All-set, filter-append}
use Rattle.std.proofs.lemmas.List.Kept.{AllPairs-cons}
use Rattle.std.proofs.lemmas.Bool.Decides.{nat_tests}
use Rattle.block_claim.specs.declared.claim.Claim.{Claim}
use Rattle.block_claim.specs.declared.view.View.{View}
use Rattle.block_claim.specs.declared.view.Extent.{Extent}
use Rattle.block_claim.specs.Ramp.{FollowsRamp, ramp_at_start, ramp_of, next_chunk, claims_by, claim_at}
use Rattle.block_claim.specs.Legal.{AscendsByFirst, times_claimed, numbers_of, once_below, lies_in}
use Rattle.block_claim.specs.Views.{times, seat_share, with_claim}
use Rattle.block_claim.specs.Rule.{IsSpent, KeepsToTheRamp, ClaimsTileBelow, Keeps}
use Rattle.block_claim.proofs.Lists.{all_to, all_one, all_head, all_tail, sum_set, sum_snoc}
use Rattle.block_claim.proofs.Counts.{is_past, few_claims}
use Rattle.block_claim.proofs.Ramps.{follows_snoc, blocks_alone, start_in_range, ramp_in_range, next_in_range, claims_all_by}
use Rattle.block_claim.proofs.Floors.{least_set, least_part}
use Rattle.block_claim.proofs.Lists.{set_at}
use Rattle.block_claim.proofs.Whole.{ramp_at, claimed_once, some_size, below_next, same_scan, seen_at}

pub pairs_snoc : {A : Type 0} (R : A → A → Type 0) (xs : List A) (x : A) → AllPairs R xs → All (λ a. R a x) xs → AllPairs R (xs ++ x ∷ [])
pairs_snoc R [] x p h = λ i j d less below. absurd (omega arith)
pairs_snoc R (y ∷ ys) x p h =
    let head : All (R y) ys = λ k d below. p 0 (suc k) d (omega arith) (omega arith) in
    let tail : AllPairs R ys = λ i j d less below. p (suc i) (suc j) d (omega arith) (omega arith) in
    let last : All (R y) (x ∷ []) = all_one (R y) x (h 0 y (omega arith)) in
    AllPairs-cons R y (ys ++ x ∷ []) (All-append (R y) ys (x ∷ []) head last) (pairs_snoc R ys x tail (λ k d below. h (suc k) d (omega arith)))

once_more : (n next size : ℕ) → once_below n next + cond (leb next n && ltb n (next + size)) 1 0 ≡ once_below n (next + size)
once_more n next size = grind (arith, nat_tests)

-- no claim of the list is past the blocks
none_past : (blocks : ℕ) (claims : List Claim) → All (λ c. c.first + c.size ≤ blocks) claims → All (λ c. 1 ≤ c.size) claims → count_by (is_past blocks) claims ≤ 0
none_past blocks [] h sizes = omega arith
none_past blocks (c ∷ cs) h sizes =
    let rest = none_past blocks cs (all_tail (λ (x : Claim). x.first + x.size ≤ blocks) c cs h) (all_tail (λ (x : Claim). 1 ≤ x.size) c cs sizes) in
    let here = all_head (λ (x : Claim). x.first + x.size ≤ blocks) c cs h in
    let size = all_head (λ (x : Claim). 1 ≤ x.size) c cs sizes in
    let none : cond (is_past blocks c) 1 0 ≤ 0 = grind (arith, nat_tests) in
    omega (arith, sum_by-cons (λ (x : Claim). cond (is_past blocks x) 1 0) c cs)

contains_one : (x y : ℕ) → Contains (x ∷ []) y → y ≡ x
contains_one x y (zero, below, same) = sym same
contains_one x y (suc k, below, same) = absurd (omega arith)

-- with a claim more, a worker's claims are followed by it, and others' claims are the same
pub by_more : (worker : ℕ) (claims : List Claim) (c : Claim) (P : List Claim → Type 0)
    → (c.worker ≡ worker → P (claims_by worker claims ++ c ∷ [])) → P (claims_by worker claims) → P (claims_by worker (claims ++ c ∷ []))
by_more worker claims c P mine other =
    subst P (sym (filter-append (λ (x : Claim). eqb x.worker worker) claims (c ∷ []))) (go (eqb c.worker worker) refl)
  where
    go : (b : Bool) → eqb c.worker worker ≡ b → P (claims_by worker claims ++ claims_by worker (c ∷ []))
    go true e = rw e (mine (grind (arith, nat_tests)))
    go false e = rw (e, append-nil) other

-- a worker that is alone in its seat and isn't done
pub record MayClaimAs (worker : ℕ) (v : View) : Type 0 where
  pub alone : v.workers ≡ worker ∷ []
  pub share : seat_share ≤ v.share
  pub blocks : v.blocks ≤ 2 ^ 20
  pub going : (ramp_of v.blocks (claims_by worker v.claims)).done ≡ false

module _ (scan : Extent) (next floor : ℕ) (views : List View) (keeps : Keeps scan next floor views) (i : ℕ) (v : View) (at : get_elem? views i ≡ some v) (worker : ℕ) (may : MayClaimAs worker v) where
  shared : 0 < v.share
  shared = let s = may.share in omega arith

  same_blocks : v.blocks ≡ scan.blocks
  same_blocks = (same_scan scan next floor views keeps i v at shared).0

  going : (ramp_of scan.blocks (claims_by worker v.claims)).done ≡ false
  going = subst (λ (b : ℕ). (ramp_of b (claims_by worker v.claims)).done ≡ false) same_blocks may.going

  abbrev c : Claim
  c = claim_at v.blocks worker v.claims next

  ramp_here : KeepsToTheRamp scan v
  ramp_here = ramp_at scan next floor views keeps i v at

  all_mine : claims_by worker v.claims ≡ v.claims
  all_mine = claims_all_by worker v.claims (all_to (λ (x : Claim). Contains v.workers x.worker) (λ (x : Claim). x.worker ≡ worker) v.claims
      (λ x there. contains_one worker x.worker (subst (λ (ws : List ℕ). Contains ws x.worker) may.alone there)) ramp_here.workers)

  -- while it isn't done, each of its claims has a block of its own
  room : length v.claims < v.share
  room =
      let alone = blocks_alone scan.blocks (ramp_at_start scan.blocks) (claims_by worker v.claims) (ramp_here.ramp worker) going in
      let alone' : All (λ (x : Claim). x.first + x.size ≤ scan.blocks) v.claims = subst (λ (cs : List Claim). All (λ x. x.first + x.size ≤ scan.blocks) cs) all_mine alone in
      let sizes = some_size scan next floor views keeps i v at in
      let none = none_past scan.blocks v.claims alone' sizes in
      let few = few_claims scan.blocks v.claims (claimed_once scan next floor views keeps i v at) sizes in
      let small = may.blocks in
      let share = may.share in
      let same = same_blocks in
      omega arith

  size_in_range : (1 ≤ next_chunk v.blocks (ramp_of v.blocks (claims_by worker v.claims))) × (next_chunk v.blocks (ramp_of v.blocks (claims_by worker v.claims)) ≤ 8192)
  size_in_range = next_in_range v.blocks (ramp_of v.blocks (claims_by worker v.claims)) (ramp_in_range v.blocks (ramp_at_start v.blocks) (claims_by worker v.claims) (start_in_range v.blocks))

  size_is : next_chunk v.blocks (ramp_of v.blocks (claims_by worker v.claims)) ≡ next_chunk scan.blocks (ramp_of scan.blocks (claims_by worker v.claims))
  size_is = ap (λ (b : ℕ). next_chunk b (ramp_of b (claims_by worker v.claims))) same_blocks

  ramp_after : KeepsToTheRamp scan (with_claim v c)
  ramp_after = record {
    room = (let r = room in omega (arith, length-append v.claims (c ∷ [])));
    sizes = All-append (λ (x : Claim). (1 ≤ x.size) × (x.size ≤ 8192)) v.claims (c ∷ []) ramp_here.sizes (all_one (λ (x : Claim). (1 ≤ x.size) × (x.size ≤ 8192)) c size_in_range);
    workers = All-append (λ (x : Claim). Contains v.workers x.worker) v.claims (c ∷ []) ramp_here.workers (all_one (λ (x : Claim). Contains v.workers x.worker) c (subst (λ (ws : List ℕ). Contains ws worker) (sym may.alone) (0, omega arith, refl)));
    ramp = λ w. by_more w v.claims c (λ cs. FollowsRamp scan.blocks (ramp_at_start scan.blocks) cs)
        (λ same. subst (λ (u : ℕ). FollowsRamp scan.blocks (ramp_at_start scan.blocks) (claims_by u v.claims ++ c ∷ [])) same
        (follows_snoc scan.blocks (ramp_at_start scan.blocks) (claims_by worker v.claims) c (ramp_here.ramp worker) going size_is))
        (ramp_here.ramp w);
    ascending = λ w. by_more w v.claims c AscendsByFirst
        (λ same. pairs_snoc (λ (a b : Claim). a.first < b.first) (claims_by w v.claims) c (ramp_here.ascending w)
        (All-filter (λ (x : Claim). eqb x.worker w) (λ (x : Claim). x.first < next) v.claims (below_next scan next floor views keeps i v at)))
        (ramp_here.ascending w);
  }

  tiles_after : ClaimsTileBelow (next + c.size) (set views i (with_claim v c))
  tiles_after = record {
    sum =
        (let all = sum_set (λ (u : View). numbers_of u.claims) views i v (with_claim v c) at in
        let mine = sum_snoc (λ (x : Claim). x.size) v.claims c in
        let was = keeps.tiles.sum in
        omega arith);
    once = λ n.
        let all = sum_set (λ (u : View). times_claimed n u.claims) views i v (with_claim v c) at in
        let mine = sum_snoc (λ (x : Claim). cond (lies_in n x) 1 0) v.claims c in
        let was = keeps.tiles.once n in
        let more = once_more n next c.size in
        omega arith;
  }

  pub claim_keeps : Keeps scan (next + (claim_at v.blocks worker v.claims next).size) floor (set views i (with_claim v (claim_at v.blocks worker v.claims next)))
  claim_keeps = record {
    shares = record {
      whole = (let all = sum_set (λ (u : View). u.share) views i v (with_claim v c) at in let was = keeps.shares.whole in omega arith);
      spent = All-set (λ (u : View). u.share ≡ 0 → IsSpent u) views i (with_claim v c) (λ none. absurd (let s = shared in omega arith)) keeps.shares.spent;
      same = All-set (λ (u : View). 0 < u.share → (u.blocks ≡ scan.blocks) × (u.seats ≡ scan.seats)) views i (with_claim v c) (same_scan scan next floor views keeps i v at) keeps.shares.same;
    };
    numbers = λ w. (let all = sum_set (λ (u : View). times w u.workers) views i v (with_claim v c) at in let was = keeps.numbers w in omega arith);
    ramp = All-set (KeepsToTheRamp scan) views i (with_claim v c) ramp_after keeps.ramp;
    tiles = tiles_after;
    least = record {
      least = (let all = least_set views i v (with_claim v c) at in let part = least_part views i v at in let part' = least_part (set views i (with_claim v c)) i (with_claim v c) (set_at views i v (with_claim v c) at) in let was = keeps.least.least in omega arith);
      seen = All-set (λ (u : View). floor ≤ u.seen) views i (with_claim v c) (seen_at scan next floor views keeps i v at) keeps.least.seen;
    };
  }
