-- What a seat's fields are to its view.
use Rattle.std.specs.Prelude.{◌≡◌, ℕ, ◌+◌, ◌^◌, ◌<◌, ◌≤◌, Bool, true, false, List, [], ◌∷◌, vec_capacity}
use Rattle.std.specs.List.{All, Contains}
use Rattle.atomic_table.specs.Table.{Me}
use Rattle.block_claim.specs.declared.claim.Claim.{Claim}
use Rattle.block_claim.specs.declared.view.View.{View}
use Rattle.block_claim.specs.declared.seat.ScanSeat.TheInside.{Inside}
use Rattle.block_claim.specs.Ramp.{ramp_of, claims_by}
use Rattle.block_claim.specs.Views.{seat_share, AllDone, KnowsTheScan}
use Rattle.block_claim.specs.Calls.{SeatState}

-- what a seat's view is beside its worker and whether that is done: a worker that isn't done is alone, and one that is done
-- is beside others that are
pub record IsViewOf (worker : ℕ) (done : Bool) (v : View) : Type 0 where
  pub blocks : v.blocks ≤ 2 ^ 20
  pub seats : v.seats ≤ 32
  pub share : 0 < v.share
  pub worker_in : Contains v.workers worker
  pub own : All (λ c. Contains v.workers c.worker) v.claims
  pub alone : done ≡ false → (v.workers ≡ worker ∷ []) × (seat_share ≤ v.share)
  pub all_done : done ≡ true → AllDone v
  pub knows : KnowsTheScan v

-- what a seat's fields are to what its token has: the view, and no slot
pub record FieldsFit (me : Me (Unit {0}) View) (worker chunk last : ℕ) (done : Bool) (seen : ℕ) (claims : List Claim)
    (room : ℕ) : Type 0 where
  pub no_slot : me.1 ≡ []
  pub claims_are : claims ≡ me.0.claims
  pub room_is : me.0.blocks + 32 ≤ room
  pub chunk_is : chunk ≡ (ramp_of me.0.blocks (claims_by worker me.0.claims)).chunk
  pub last_is : last ≡ (ramp_of me.0.blocks (claims_by worker me.0.claims)).last
  pub done_is : done ≡ (ramp_of me.0.blocks (claims_by worker me.0.claims)).done
  pub seen_is : seen ≡ me.0.seen
  pub view_is : IsViewOf worker done me.0

abbrev pub seat_state : Inside → SeatState
seat_state s = record { table = s.token.table_id; worker = s.worker; view = s.token.me.0 }

abbrev pub IsSoundSeat : Inside → Type 0
IsSoundSeat s = FieldsFit s.token.me s.worker s.chunk s.last s.done s.seen s.claims.items (vec_capacity s.claims)
