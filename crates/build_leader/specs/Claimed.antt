-- The blocks that claims have, and the rows of an index in them (table_block_parallelscan_nextpage of tableam.c).
use Rattle.std.specs.Prelude.{ℕ, nat_lt, List, filter}
use Rattle.std.specs.List.{flat_map, range_with_len}
use Rattle.pg_bytes.specs.Blocks.{block_count}
use Rattle.opclass.specs.declared.spec.IndexSpec.{IndexSpec}
use Rattle.opclass.specs.declared.table.Table.{Table}
use Rattle.block_claim.specs.declared.claim.Claim.{Claim}
use Rattle.block_claim.specs.Ramp.{claims_by}
use Rattle.shared_tape.specs.declared.stored.Record.{Record}
use Rattle.build_leader.specs.HeapRows.{AreRowsOfBlocks}

-- the blocks of a claim on a heap of so many: those of its numbers that are blocks
abbrev pub blocks_of_claim : ℕ → Claim → List ℕ
blocks_of_claim blocks claim = filter (λ number. nat_lt number blocks) (range_with_len claim.first claim.size)

-- the blocks of several claims, claim by claim
abbrev pub claimed_blocks : ℕ → List Claim → List ℕ
claimed_blocks blocks claims = flat_map (blocks_of_claim blocks) claims

-- the rows of an index in the blocks that a worker claimed, in the order of its claims
abbrev pub AreClaimedRows : Table → IndexSpec → List ℕ → List Claim → ℕ → List Record → Type 0
AreClaimedRows table spec heap claims worker records =
    AreRowsOfBlocks table spec heap (claimed_blocks (block_count heap) (claims_by worker claims)) records
