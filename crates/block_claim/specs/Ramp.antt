-- How many numbers a worker takes by one claim: large chunks first and small ones near the end, so that no worker is
-- still at a large chunk while the others have nothing left (table_block_parallelscan_startblock_init and
-- table_block_parallelscan_nextpage in tableam.c).
use Rattle.std.specs.Prelude.{◌≡◌, ℕ, zero, suc, ◌+◌, ◌-◌, ◌*◌, ◌/◌, ◌&&◌, Bool, false, ltb, eqb, List, [], ◌∷◌, if◌then◌else◌}
use Rattle.std.specs.List.{fold, filter}
use Rattle.block_claim.specs.declared.claim.Claim.{Claim}

-- the least of p, 2p, 4p, .. that isn't below n, of at most so many doublings
abbrev pub doubled_to : ℕ → ℕ → ℕ → ℕ
doubled_to n zero p = p
doubled_to n (suc doublings) p = if ltb p n then doubled_to n doublings (p + p) else p

-- the first chunk: the least power of two that isn't below a part in 2,048 of the blocks, at most 8,192 = 2^13
-- (PARALLEL_SEQSCAN_NCHUNKS, PARALLEL_SEQSCAN_MAX_CHUNK_SIZE)
unfoldable pub chunk_at_start : ℕ → ℕ
chunk_at_start blocks = doubled_to (blocks / 2048) 13 1

-- where a worker stands on the ramp: its chunk, the last number that it had, and whether its claims reached past the
-- blocks
pub record Ramp : Type 0 where
  pub chunk : ℕ
  pub last : ℕ
  pub done : Bool

abbrev pub ramp_at_start : ℕ → Ramp
ramp_at_start blocks = record { chunk = chunk_at_start blocks; last = 0; done = false }

-- the chunk of the next claim: halved once where fewer than 64 chunks are left (PARALLEL_SEQSCAN_RAMPDOWN_CHUNKS)
unfoldable pub next_chunk : ℕ → Ramp → ℕ
next_chunk blocks r = if ltb 1 r.chunk && ltb (blocks - 64 * r.chunk) r.last then r.chunk / 2 else r.chunk

-- after a claim of the next chunk, whose first number the worker was given
unfoldable pub after_claim : ℕ → Ramp → ℕ → Ramp
after_claim blocks r first = record {
  chunk = next_chunk blocks r;
  last = if ltb blocks (first + next_chunk blocks r) then r.last else first + next_chunk blocks r - 1;
  done = ltb blocks (first + next_chunk blocks r);
}

-- where a worker stands after claims from a place on
abbrev pub ramp_from : ℕ → Ramp → List Claim → Ramp
ramp_from blocks r claims = fold (λ r c. after_claim blocks r c.first) r claims

-- where a worker stands after all its claims
abbrev pub ramp_of : ℕ → List Claim → Ramp
ramp_of blocks claims = ramp_from blocks (ramp_at_start blocks) claims

-- each claim has the chunk of its place on the ramp, and none follows the one that made the worker done
abbrev pub FollowsRamp : ℕ → Ramp → List Claim → Type 0
FollowsRamp blocks r [] = Unit {0}
FollowsRamp blocks r (c ∷ cs) =
    (r.done ≡ false) × (c.size ≡ next_chunk blocks r) × FollowsRamp blocks (after_claim blocks r c.first) cs

-- the claims of one worker, in their order
abbrev pub claims_by : ℕ → List Claim → List Claim
claims_by worker claims = filter (λ c. eqb c.worker worker) claims

-- the claim that a worker makes behind its claims where it is given this number
abbrev pub claim_at : ℕ → ℕ → List Claim → ℕ → Claim
claim_at blocks worker claims first = record {
  worker = worker;
  first = first;
  size = next_chunk blocks (ramp_of blocks (claims_by worker claims));
}
