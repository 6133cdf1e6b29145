-- What a scan's fields are to its table.
use Rattle.std.specs.Prelude.{◌≡◌, ◌^◌, ◌≤◌}
use Rattle.block_claim.specs.declared.scan.Scan.TheInside.{Inside}
use Rattle.block_claim.specs.Calls.{ScanState}

abbrev pub scan_state : Inside → ScanState
scan_state s = record { table = s.table.shared.table_id; blocks = s.blocks; seats = s.seats }

-- two words and no slot, for as many blocks and seats as the table was told
pub record IsSoundScan (s : Inside) : Type 0 where
  pub words : s.table.shared.table_id.words ≡ 2
  pub slots : s.table.shared.table_id.slots ≡ 0
  pub extent : s.table.shared.key ≡ record { blocks = s.blocks; seats = s.seats }
  pub blocks_limit : s.blocks ≤ 2 ^ 20
  pub seats_limit : s.seats ≤ 32
