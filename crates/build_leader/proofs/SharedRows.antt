-- Legal claims share out the rows of a heap.
use Rattle.std.proofs.Common.{◌≡◌, ℕ, ◌+◌, ◌<◌, eqb, ltb, Bool, true, false, cond, List, [], ◌∷◌, ◌++◌, refl, sym, ap, subst, ◌∙◌, inl, inr, arith, append_assoc, All}
use Rattle.std.specs.List.{flat_map, range_with_len}
use Rattle.std.specs.List.Sorted.{IsPermutation}
use Rattle.std.proofs.lemmas.Bool.{cases_lt}
use Rattle.std.proofs.lemmas.Bool.Decides.{nat_tests}
use Rattle.std.proofs.lemmas.List.Elements.{All-head, All-tail, All-weaker}
use Rattle.std.proofs.lemmas.List.Sums.{sum_by-cons}
use Rattle.std.proofs.lemmas.List.Sorted.{IsPermutation-append_right, IsPermutation-refl, IsPermutation-trans}
use Rattle.pg_bytes.specs.Blocks.{block_count}
use Rattle.opclass.specs.declared.spec.IndexSpec.{IndexSpec}
use Rattle.opclass.specs.declared.table.Table.{Table}
use Rattle.block_claim.specs.declared.claim.Claim.{Claim}
use Rattle.block_claim.specs.Legal.{IsLegalInSomeOrder, lies_in, times_claimed}
use Rattle.block_claim.specs.Ramp.{claims_by}
use Rattle.block_claim.proofs.LegalLaws.{each_once}
use Rattle.shared_tape.specs.declared.stored.Record.{Record}
use Rattle.run_merge.proofs.Moves.{moves, turn_lists}
use Rattle.build_leader.specs.Claimed.{blocks_of_claim, claimed_blocks}
use Rattle.build_leader.specs.HeapRows.{AreRowsOfBlocks}
use Rattle.build_leader.specs.Laws.{AreRowsOfWorkers, ClaimsShareTheRows}
use Rattle.build_leader.proofs.EqualCounts.{permuted, times, times-append, times-below, times-range, times-range_zero}
use Rattle.build_leader.proofs.SameRows.{same_rows_of_blocks}

-- ---- how often the workers have a block

cond_sum : (b : Bool) (x y : ℕ) → cond b x 0 + cond b y 0 ≡ cond b (x + y) 0
cond_sum true x y = refl
cond_sum false x y = omega arith

cond_none : (b : Bool) → ◌≡◌ {A = ℕ} 0 (cond b 0 0)
cond_none true = refl
cond_none false = refl

-- a claim has a block once or not at all
of_claim : (n blocks : ℕ) (claim : Claim)
    → times n (blocks_of_claim blocks claim) ≡ cond (ltb n blocks) (cond (lies_in n claim) 1 0) 0
of_claim n blocks claim =
    times-below n blocks (range_with_len claim.first claim.size)
    ∙ ap (λ (k : ℕ). cond (ltb n blocks) k 0) (times-range n claim.first claim.size)

claimed_more : (n : ℕ) (claim : Claim) (claims : List Claim)
    → times_claimed n (claim ∷ claims) ≡ cond (lies_in n claim) 1 0 + times_claimed n claims
claimed_more n claim claims = sum_by-cons (λ (c : Claim). cond (lies_in n c) 1 0) claim claims

pub of_claims : (n blocks : ℕ) (claims : List Claim)
    → times n (claimed_blocks blocks claims) ≡ cond (ltb n blocks) (times_claimed n claims) 0
of_claims n blocks [] = cond_none (ltb n blocks)
of_claims n blocks (claim ∷ claims) =
    times-append n (blocks_of_claim blocks claim) (claimed_blocks blocks claims)
    ∙ (λ i. of_claim n blocks claim i + of_claims n blocks claims i)
    ∙ cond_sum (ltb n blocks) (cond (lies_in n claim) 1 0) (times_claimed n claims)
    ∙ ap (λ (k : ℕ). cond (ltb n blocks) k 0) (sym (claimed_more n claim claims))

-- the blocks of several workers, worker by worker
abbrev blocks_of_workers : ℕ → List Claim → List ℕ → List ℕ
blocks_of_workers blocks claims workers = flat_map (λ worker. claimed_blocks blocks (claims_by worker claims)) workers

-- in how many claims of these workers a number lies
abbrev times_by : ℕ → List Claim → List ℕ → ℕ
times_by n claims [] = 0
times_by n claims (worker ∷ workers) = times_claimed n (claims_by worker claims) + times_by n claims workers

of_workers : (n blocks : ℕ) (claims : List Claim) (workers : List ℕ)
    → times n (blocks_of_workers blocks claims workers) ≡ cond (ltb n blocks) (times_by n claims workers) 0
of_workers n blocks claims [] = cond_none (ltb n blocks)
of_workers n blocks claims (worker ∷ workers) =
    times-append n (claimed_blocks blocks (claims_by worker claims)) (blocks_of_workers blocks claims workers)
    ∙ (λ i. of_claims n blocks (claims_by worker claims) i + of_workers n blocks claims workers i)
    ∙ cond_sum (ltb n blocks) (times_claimed n (claims_by worker claims)) (times_by n claims workers)

-- a claim counts for its own worker
own_claim : (n : ℕ) (claim : Claim) (claims : List Claim) (mine : Bool)
    → times_claimed n (cond mine (claim ∷ claims) claims) ≡ cond mine (cond (lies_in n claim) 1 0) 0 + times_claimed n claims
own_claim n claim claims true = claimed_more n claim claims
own_claim n claim claims false = omega arith

shared_out : (mine lies : Bool) (here others t : ℕ)
    → (cond mine (cond lies 1 0) 0 + here) + (cond lies t 0 + others)
    ≡ cond lies (cond mine 1 0 + t) 0 + (here + others)
shared_out true true here others t = omega arith
shared_out true false here others t = omega arith
shared_out false true here others t = omega arith
shared_out false false here others t = omega arith

by_more : (n : ℕ) (claim : Claim) (claims : List Claim) (workers : List ℕ)
    → times_by n (claim ∷ claims) workers ≡ cond (lies_in n claim) (times claim.worker workers) 0 + times_by n claims workers
by_more n claim claims [] = let none = cond_none (lies_in n claim) in omega arith
by_more n claim claims (worker ∷ workers) =
    (λ i. own_claim n claim (claims_by worker claims) (eqb claim.worker worker) i + by_more n claim claims workers i)
    ∙ shared_out (eqb claim.worker worker) (lies_in n claim) (times_claimed n (claims_by worker claims))
    (times_by n claims workers) (times claim.worker workers)

by_all : (n : ℕ) (claims : List Claim) (workers : List ℕ) → All (λ (c : Claim). times c.worker workers ≡ 1) claims
    → times_by n claims workers ≡ times_claimed n claims
by_all n [] workers own = by_none workers
  where
    by_none : (workers : List ℕ) → times_by n [] workers ≡ 0
    by_none [] = refl
    by_none (worker ∷ workers) = let rest = by_none workers in omega arith
by_all n (claim ∷ claims) workers own =
    by_more n claim claims workers
    ∙ (λ i. cond (lies_in n claim) (All-head (λ (c : Claim). times c.worker workers ≡ 1) claim claims own i) 0
    + by_all n claims workers (All-tail (λ (c : Claim). times c.worker workers ≡ 1) claim claims own) i)
    ∙ sym (claimed_more n claim claims)

below_once : (n bound : ℕ) → n < bound → ◌≡◌ {A = ℕ} (cond (ltb n bound) 1 0) 1
below_once n bound below = grind (arith, nat_tests)

module _ (blocks seats : ℕ) (claims : List Claim) (some : 0 < seats) (legal : IsLegalInSomeOrder blocks seats claims) where
  own_once : All (λ (c : Claim). times c.worker (range_with_len 0 seats) ≡ 1) claims
  own_once =
      All-weaker (λ (c : Claim). c.worker < seats) (λ (c : Claim). times c.worker (range_with_len 0 seats) ≡ 1)
      (λ c below. times-range_zero c.worker seats ∙ below_once c.worker seats below) claims legal.workers

  pub block_once : (n : ℕ) → cond (ltb n blocks) (times_claimed n claims) 0 ≡ cond (ltb n blocks) 1 0
  block_once n = elim (cases_lt n blocks) [
    | inl below ↦ ap (λ (k : ℕ). cond (ltb n blocks) k 0) (each_once blocks seats claims n some legal below)
    | inr past ↦ grind (arith, nat_tests)
  ]

  -- the workers have each block once
  blocks_shared : IsPermutation (range_with_len 0 blocks) (blocks_of_workers blocks claims (range_with_len 0 seats))
  blocks_shared =
      permuted (range_with_len 0 blocks) (blocks_of_workers blocks claims (range_with_len 0 seats))
      (λ n. times-range_zero n blocks
      ∙ sym (of_workers n blocks claims (range_with_len 0 seats)
      ∙ ap (λ (k : ℕ). cond (ltb n blocks) k 0) (by_all n claims (range_with_len 0 seats) own_once)
      ∙ block_once n))

-- ---- the rows of blocks

module _ (table : Table) (spec : IndexSpec) (heap : List ℕ) where
  pub rows_append : (xs ys : List ℕ) (a b : List Record) → AreRowsOfBlocks table spec heap xs a
      → AreRowsOfBlocks table spec heap ys b → AreRowsOfBlocks table spec heap (xs ++ ys) (a ++ b)
  rows_append [] ys a b p q = subst (λ (l : List Record). AreRowsOfBlocks table spec heap ys (l ++ b)) (sym p) q
  rows_append (x ∷ xs) ys a b p q = (
    p.0,
    (
      p.1.0 ++ b,
      ap (λ (l : List Record). l ++ b) p.1.1 ∙ append_assoc p.0 p.1.0 b,
      p.1.2,
      rows_append xs ys p.1.0 b p.1.3 q,
    ),
  )

  rows_of_workers : (claims : List Claim) (workers : List ℕ) (rows : List Record)
      → AreRowsOfWorkers table spec heap claims workers rows
      → AreRowsOfBlocks table spec heap (blocks_of_workers (block_count heap) claims workers) rows
  rows_of_workers claims [] rows are = are
  rows_of_workers claims (worker ∷ workers) rows are =
      subst (AreRowsOfBlocks table spec heap (blocks_of_workers (block_count heap) claims (worker ∷ workers)))
      (sym are.1.1)
      (rows_append (claimed_blocks (block_count heap) (claims_by worker claims))
      (blocks_of_workers (block_count heap) claims workers) are.0 are.1.0 are.1.2
      (rows_of_workers claims workers are.1.0 are.1.3))

  -- blocks in another order have their rows in another order
  abbrev pub Moved : List ℕ → List ℕ → Type 0
  Moved xs ys =
      (a : List Record) → AreRowsOfBlocks table spec heap xs a
      → (b : List Record) × AreRowsOfBlocks table spec heap ys b × IsPermutation a b

  moved_chain : (xs ys zs : List ℕ) → Moved xs ys → Moved ys zs → Moved xs zs
  moved_chain xs ys zs f g a are =
      let m = f a are in
      let n = g m.0 m.1 in
      (n.0, n.1, IsPermutation-trans a m.0 n.0 m.2 n.2)

  moved_keep : (x : ℕ) (xs ys : List ℕ) → Moved xs ys → Moved (x ∷ xs) (x ∷ ys)
  moved_keep x xs ys f a are =
      let m = f are.1.0 are.1.3 in (
        are.0 ++ m.0,
        (are.0, (m.0, refl, are.1.2, m.1)),
        subst (λ l. IsPermutation l (are.0 ++ m.0)) (sym are.1.1) (IsPermutation-append_right are.0 are.1.0 m.0 m.2),
      )

  moved_turn : (x y : ℕ) (xs : List ℕ) → Moved (x ∷ y ∷ xs) (y ∷ x ∷ xs)
  moved_turn x y xs a are =
      let next = are.1.3 in
      let whole : a ≡ are.0 ++ (next.0 ++ next.1.0) = are.1.1 ∙ ap (λ (l : List Record). are.0 ++ l) next.1.1 in (
        next.0 ++ (are.0 ++ next.1.0),
        (next.0, (are.0 ++ next.1.0, refl, next.1.2, (are.0, (next.1.0, refl, are.1.2, next.1.3)))),
        subst (λ l. IsPermutation l (next.0 ++ (are.0 ++ next.1.0))) (sym whole) (turn_lists are.0 next.0 next.1.0),
      )

  pub moved_rows : (xs ys : List ℕ) → IsPermutation xs ys → Moved xs ys
  moved_rows xs ys p = moves Moved (λ xs a are. (a, are, IsPermutation-refl a)) moved_chain moved_keep moved_turn xs ys p

pub claims_share : ClaimsShareTheRows
claims_share table spec heap seats claims rows shared some legal are shared_are =
    let blocks = block_count heap in
    let moved = moved_rows table spec heap (range_with_len 0 blocks)
    (blocks_of_workers blocks claims (range_with_len 0 seats))
    (blocks_shared blocks seats claims some legal.legal) rows are in
    let same = same_rows_of_blocks table spec heap (blocks_of_workers blocks claims (range_with_len 0 seats)) moved.0 shared
    moved.1 (rows_of_workers table spec heap claims (range_with_len 0 seats) shared shared_are) in
    subst (IsPermutation rows) same moved.2
