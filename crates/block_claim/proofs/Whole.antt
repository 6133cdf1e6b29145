-- What a seat knows by the rule: of its own view, and of the whole scan where it has the whole share.
use Rattle.std.proofs.Common.{◌≡◌, ℕ, zero, suc, ◌+◌, ◌*◌, ◌^◌, ◌<◌, ◌≤◌, eqb, true, List, [], ◌∷◌, length, get_or, sum_by, count_by, All, Contains, sym, refl, ap, subst, ◌∙◌, arith}
use mathlib.Core.Option.{some}
use lib.ListN.{get_elem?}
use Rattle.std.specs.List.{range_with_len}
use Rattle.std.proofs.lemmas.List.Sums.{sum_by-cons}
use Rattle.std.proofs.lemmas.List.Elements.{All-filter}
use Rattle.std.proofs.lemmas.Bool.Decides.{nat_tests}
use Rattle.block_claim.specs.declared.claim.Claim.{Claim}
use Rattle.block_claim.specs.declared.view.View.{View}
use Rattle.block_claim.specs.declared.view.Extent.{Extent}
use Rattle.block_claim.specs.Ramp.{ramp_at_start, ramp_of, claims_by}
use Rattle.block_claim.specs.Legal.{times_claimed, numbers_of, once_below, TilesBelow, IsLegalInSomeOrder}
use Rattle.block_claim.specs.Views.{times, least_of, unreported, whole_share, AllDone, KnowsTheScan}
use Rattle.block_claim.specs.Rule.{IsSpent, KeepsToTheRamp, Keeps}
use Rattle.block_claim.proofs.Lists.{all_at, all_to, sum_part, sum_only, times_in, in_times}
use Rattle.block_claim.proofs.Counts.{is_past, few_claims, one_each, lies_at}
use Rattle.block_claim.proofs.Ramps.{past_once}
use Rattle.block_claim.proofs.Floors.{least_only}

get_again : {A : Type 0} (xs : List A) (k : ℕ) (d : A) → k < length xs → get_or xs k (get_or xs k d) ≡ get_or xs k d
get_again [] k d h = absurd (omega arith)
get_again (x ∷ xs) zero d h = refl
get_again (x ∷ xs) (suc k) d h = get_again xs k d (omega arith)

-- what holds of each that is in the list holds of all
pub all_in : {A : Type 0} (P : A → Type 0) (xs : List A) → ((x : A) → Contains xs x → P x) → All P xs
all_in P xs h k d below = h (get_or xs k d) (k, below, get_again xs k d below)

pub in_range : (a n k : ℕ) → k < n → Contains (range_with_len a n) (a + k)
in_range a zero k h = absurd (omega arith)
in_range a (suc n) zero h = (0, omega arith, omega arith)
in_range a (suc n) (suc k) h =
    let there : Contains (range_with_len (a + 1) n) ((a + 1) + k) = in_range (a + 1) n k (omega arith) in
    let same : (a + 1) + k ≡ a + suc k = omega arith in
    let there' : Contains (range_with_len (a + 1) n) (a + suc k) = subst (λ (m : ℕ). Contains (range_with_len (a + 1) n) m) same there in
    (suc there'.0, omega (arith, there'.1), there'.2)

pub in_range_zero : (n k : ℕ) → k < n → Contains (range_with_len 0 n) k
in_range_zero n k h =
    let same : 0 + k ≡ k = omega arith in
    subst (λ (m : ℕ). Contains (range_with_len 0 n) m) same (in_range 0 n k h)

pub range_length : (a n : ℕ) → length (range_with_len a n) ≡ n
range_length a zero = refl
range_length a (suc n) = let h = range_length (a + 1) n in omega arith

pub once_most : (n end : ℕ) → once_below n end ≤ 1
once_most n end = grind (arith, nat_tests)

pub once_some : (n end : ℕ) → 1 ≤ once_below n end → n < end
once_some n end h = grind (arith, nat_tests)

pub once_here : (n end : ℕ) → n < end → once_below n end ≡ 1
once_here n end h = grind (arith, nat_tests)

numbers_le : (claims : List Claim) → All (λ c. (1 ≤ c.size) × (c.size ≤ 8192)) claims → numbers_of claims ≤ 8192 * length claims
numbers_le [] h = omega arith
numbers_le (c ∷ cs) h =
    let one = h 0 c (omega arith) in
    let rest = numbers_le cs (λ k d below. h (suc k) d (omega arith)) in
    omega (arith, one.1, sum_by-cons (λ (x : Claim). x.size) c cs)

module _ (scan : Extent) (next floor : ℕ) (views : List View) (keeps : Keeps scan next floor views) where
  module _ (i : ℕ) (v : View) (at : get_elem? views i ≡ some v) where
    pub ramp_at : KeepsToTheRamp scan v
    ramp_at = all_at (KeepsToTheRamp scan) views i v keeps.ramp at

    pub claimed_once : (n : ℕ) → times_claimed n v.claims ≤ 1
    claimed_once n =
        let part = sum_part (λ (u : View). times_claimed n u.claims) views i v at in
        let all = keeps.tiles.once n in
        let one = once_most n next in
        omega arith

    pub worker_once : (worker : ℕ) → times worker v.workers ≤ 1
    worker_once worker =
        let part = sum_part (λ (u : View). times worker u.workers) views i v at in
        let all = keeps.numbers worker in
        let one = once_most worker scan.seats in
        omega arith

    pub worker_below : (worker : ℕ) → Contains v.workers worker → worker < scan.seats
    worker_below worker c =
        let part = sum_part (λ (u : View). times worker u.workers) views i v at in
        let all = keeps.numbers worker in
        let one = times_in worker v.workers c in
        once_some worker scan.seats (omega arith)

    -- a claim begins below the number that the next claim will begin with
    pub below_next : All (λ c. c.first < next) v.claims
    below_next = all_in (λ (c : Claim). c.first < next) v.claims (λ c there.
        let k = there.0 in
        let size : 1 ≤ c.size = subst (λ (x : Claim). 1 ≤ x.size) there.2 ((ramp_at.sizes k c there.1).0) in
        let one = lies_at c.first v.claims c there (omega arith) (omega arith) in
        let part = sum_part (λ (u : View). times_claimed c.first u.claims) views i v at in
        let all = keeps.tiles.once c.first in
        once_some c.first next (omega arith))

    pub some_size : All (λ c. 1 ≤ c.size) v.claims
    some_size = all_to (λ (c : Claim). (1 ≤ c.size) × (c.size ≤ 8192)) (λ (c : Claim). 1 ≤ c.size) v.claims (λ c h. h.0) ramp_at.sizes

    -- a view has no more claims than blocks and seats together
    pub few_in_view : length v.claims ≤ scan.blocks + scan.seats
    few_in_view =
        let workers = range_with_len 0 scan.seats in
        let own : All (λ c. Contains workers c.worker) v.claims = all_to (λ (c : Claim). Contains v.workers c.worker) (λ (c : Claim). Contains workers c.worker) v.claims (λ c there. in_range_zero scan.seats c.worker (worker_below c.worker there)) ramp_at.workers in
        let once : (w : ℕ) → count_by (is_past scan.blocks) (claims_by w v.claims) ≤ 1 = λ w. past_once scan.blocks (ramp_at_start scan.blocks) (claims_by w v.claims) (ramp_at.ramp w) (All-filter (λ (c : Claim). eqb c.worker w) (λ (c : Claim). 1 ≤ c.size) v.claims some_size) in
        let a = few_claims scan.blocks v.claims claimed_once some_size in
        let b = one_each (is_past scan.blocks) workers v.claims own once in
        let l = range_length 0 scan.seats in
        omega arith

    pub same_scan : 0 < v.share → (v.blocks ≡ scan.blocks) × (v.seats ≡ scan.seats)
    same_scan shared = all_at (λ (u : View). 0 < u.share → (u.blocks ≡ scan.blocks) × (u.seats ≡ scan.seats)) views i v keeps.shares.same at shared

    pub seen_at : floor ≤ v.seen
    seen_at = all_at (λ (u : View). floor ≤ u.seen) views i v keeps.least.seen at

    module _ (whole : v.share ≡ whole_share) where
      all_share : sum_by (λ (u : View). u.share) views ≡ v.share
      all_share = keeps.shares.whole ∙ sym whole

      only : (f : View → ℕ) → ((u : View) → IsSpent u → f u ≡ 0) → sum_by f views ≡ f v
      only f none = sum_only (λ (u : View). u.share) f views i v at all_share
          (all_to (λ (u : View). u.share ≡ 0 → IsSpent u) (λ (u : View). u.share ≡ 0 → f u ≡ 0) views (λ u h zero. none u (h zero)) keeps.shares.spent)

      seen_whole : least_of v.reports ≤ v.seen
      seen_whole =
          let none : (u : View) → IsSpent u → least_of u.reports ≡ unreported = λ u spent. ap least_of spent.reports in
          let mine = least_only views i v at all_share
          (all_to (λ (u : View). u.share ≡ 0 → IsSpent u) (λ (u : View). u.share ≡ 0 → least_of u.reports ≡ unreported) views (λ u h zero. none u (h zero)) keeps.shares.spent) in
          let seen = seen_at in
          let least = keeps.least.least in
          omega arith

      tiles_whole : TilesBelow (numbers_of v.claims) v.claims
      tiles_whole n =
          let times = only (λ (u : View). times_claimed n u.claims) (λ u spent. ap (times_claimed n) spent.claims) in
          let all = only (λ (u : View). numbers_of u.claims) (λ u spent. ap numbers_of spent.claims) in
          let same : next ≡ numbers_of v.claims = keeps.tiles.sum ∙ all in
          sym times ∙ (keeps.tiles.once n ∙ ap (once_below n) same)

      has_worker : (worker : ℕ) → worker < scan.seats → Contains v.workers worker
      has_worker worker below =
          let mine = only (λ (u : View). times worker u.workers) (λ u spent. ap (times worker) spent.workers) in
          let all = keeps.numbers worker in
          let one = once_here worker scan.seats below in
          in_times worker v.workers (omega arith)

      legal_of_scan : ((worker : ℕ) → Contains v.workers worker → (ramp_of scan.blocks (claims_by worker v.claims)).done ≡ true) → IsLegalInSomeOrder scan.blocks scan.seats v.claims
      legal_of_scan done = record {
        workers = all_to (λ (c : Claim). Contains v.workers c.worker) (λ (c : Claim). c.worker < scan.seats) v.claims (λ c there. worker_below c.worker there) ramp_at.workers;
        ramps = λ worker below. record { ramp = ramp_at.ramp worker; ascending = ramp_at.ascending worker; done = done worker (has_worker worker below) };
        tiles = tiles_whole;
      }

      legal_whole : AllDone v → IsLegalInSomeOrder v.blocks v.seats v.claims
      legal_whole done =
          let shared : 0 < v.share = omega arith in
          let same = same_scan shared in
          let done' : (worker : ℕ) → Contains v.workers worker → (ramp_of scan.blocks (claims_by worker v.claims)).done ≡ true = λ worker there.
          subst (λ (b : ℕ). (ramp_of b (claims_by worker v.claims)).done ≡ true) same.0 (subst (λ (w : ℕ). (ramp_of v.blocks (claims_by w v.claims)).done ≡ true) there.2 (done there.0 worker there.1)) in
          subst (λ (s : ℕ). IsLegalInSomeOrder v.blocks s v.claims) (sym same.1) (subst (λ (b : ℕ). IsLegalInSomeOrder b scan.seats v.claims) (sym same.0) (legal_of_scan done'))

    pub knows : KnowsTheScan v
    knows = record { seen = seen_whole; legal = legal_whole }

  numbers_by_share : (us : List View) → All (KeepsToTheRamp scan) us → sum_by (λ (u : View). numbers_of u.claims) us ≤ 8192 * sum_by (λ (u : View). u.share) us
  numbers_by_share [] h = omega arith
  numbers_by_share (u ∷ us) h =
      let here : KeepsToTheRamp scan u = h 0 u (omega arith) in
      let rest = numbers_by_share us (λ k d below. h (suc k) d (omega arith)) in
      let one = numbers_le u.claims here.sizes in
      let room = here.room in
      omega (arith, sum_by-cons (λ (x : View). numbers_of x.claims) u us, sum_by-cons (λ (x : View). x.share) u us)

  -- the shares are so few and the chunks so small that the number is far from the end of a word
  pub small_next : next ≤ 2 ^ 53
  small_next =
      let all = numbers_by_share views keeps.ramp in
      let whole = keeps.shares.whole in
      let sum = keeps.tiles.sum in
      omega arith
