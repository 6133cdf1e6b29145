-- What follows from the definition of a legal list, whatever the list.
use Rattle.std.specs.Prelude.{◌≡◌, ℕ, ◌+◌, ◌/◌, ◌^◌, ◌<◌, ◌≤◌, List, length}
use Rattle.std.specs.List.Sorted.{IsPermutation}
use Rattle.block_claim.specs.declared.claim.Claim.{Claim}
use Rattle.block_claim.specs.Legal.{IsLegalInSomeOrder, AscendsByFirst, times_claimed}
use Rattle.block_claim.specs.Machine.{IsRun}
use Rattle.block_claim.specs.Ramp.{chunk_at_start}

-- The least power of two that isn't below a part in 2,048 of the blocks, at most 8,192 (pg_nextpower2_32 and Min in
-- table_block_parallelscan_startblock_init).
pub record IsFirstChunk (blocks chunk : ℕ) : Type 0 where
  pub exponent : ℕ
  pub power : chunk ≡ 2 ^ exponent
  pub most : chunk ≤ 8192
  pub enough : chunk < 8192 → blocks / 2048 ≤ chunk
  pub least : (k : ℕ) → blocks / 2048 ≤ 2 ^ k → chunk ≤ 2 ^ k

-- so the first chunk is one of 14 sizes
abbrev pub FirstChunkIsAPowerOfTwo : Type 0
FirstChunkIsAPowerOfTwo = (blocks : ℕ) → IsFirstChunk blocks (chunk_at_start blocks)

-- every block of a scan with a seat lies in exactly one claim
abbrev pub EachBlockIsClaimedOnce : Type 0
EachBlockIsClaimedOnce =
    (blocks seats : ℕ) (claims : List Claim) (block : ℕ) → 0 < seats → IsLegalInSomeOrder blocks seats claims
    → block < blocks → times_claimed block claims ≡ 1

-- legal claims in the order of their first numbers are what the machine makes
abbrev pub LegalClaimsAreARun : Type 0
LegalClaimsAreARun =
    (blocks seats : ℕ) (claims ordered : List Claim) → IsLegalInSomeOrder blocks seats claims
    → IsPermutation claims ordered → AscendsByFirst ordered → IsRun blocks seats ordered

-- there are at most as many claims as blocks and seats together
abbrev pub LegalClaimsAreFew : Type 0
LegalClaimsAreFew =
    (blocks seats : ℕ) (claims : List Claim) → IsLegalInSomeOrder blocks seats claims → length claims ≤ blocks + seats
