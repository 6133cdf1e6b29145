-- The seats of a scan while they are dealt out, one number after another.
use Rattle.std.specs.Prelude.{◌≡◌, ℕ, ◌-◌, ◌*◌, ◌<◌, List, [], length, get_or}
use Rattle.std.specs.List.{range_with_len, sum_by}
use Rattle.block_claim.specs.declared.view.View.{View}
use Rattle.block_claim.specs.Views.{unreported, whole_share, seat_share}
use Rattle.block_claim.specs.Calls.{ScanState, SeatState, IsFresh}

-- the view that is left when the numbers below one are dealt out
abbrev pub undealt : ScanState → ℕ → View
undealt scan worker = record {
  blocks = scan.blocks;
  seats = scan.seats;
  workers = range_with_len worker (scan.seats - worker);
  share = whole_share - worker * seat_share;
  claims = [];
  reports = [];
  seen = unreported;
}

-- the seats of the numbers below one
pub record AreDealt (scan : ScanState) (worker : ℕ) (seats : List SeatState) : Type 0 where
  pub count : length seats ≡ worker
  pub each : (i : ℕ) (d : SeatState) → i < length seats → IsFresh scan i (get_or seats i d)
  pub share : sum_by (λ seat. seat.view.share) seats ≡ worker * seat_share
