-- The scan as a machine: one number that every claim moves on, and the claims of each worker.
use Rattle.std.specs.Prelude.{◌≡◌, ℕ, ◌+◌, ◌<◌, false, eqb, List, [], ◌∷◌, ◌++◌, if◌then◌else◌}
use Rattle.block_claim.specs.declared.claim.Claim.{Claim}
use Rattle.block_claim.specs.Ramp.{ramp_of, next_chunk}

-- the first number that no claim has yet, and each worker's claims
pub record Machine : Type 0 where
  pub next : ℕ
  pub claims : ℕ → List Claim

abbrev pub machine_at_start : Machine
machine_at_start = record { next = 0; claims = λ worker. [] }

-- the claim that the event makes: the worker's next chunk, from the machine's number on
abbrev pub event_claim : ℕ → Machine → ℕ → Claim
event_claim blocks m worker = record {
  worker = worker;
  first = m.next;
  size = next_chunk blocks (ramp_of blocks (m.claims worker));
}

-- a worker may claim until it is done
abbrev pub MayClaim : ℕ → ℕ → Machine → ℕ → Type 0
MayClaim blocks seats m worker = (worker < seats) × ((ramp_of blocks (m.claims worker)).done ≡ false)

-- after the event the claim stands behind the worker's others, and the number is past it
abbrev pub after_event : ℕ → Machine → ℕ → Machine
after_event blocks m worker = record {
  next = m.next + (event_claim blocks m worker).size;
  claims = λ other. if eqb other worker then m.claims worker ++ event_claim blocks m worker ∷ [] else m.claims other;
}

-- the claims are those that the machine makes, one event after another
abbrev pub IsRunFrom : ℕ → ℕ → Machine → List Claim → Type 0
IsRunFrom blocks seats m [] = Unit {0}
IsRunFrom blocks seats m (c ∷ cs) =
    MayClaim blocks seats m c.worker × (c ≡ event_claim blocks m c.worker)
    × IsRunFrom blocks seats (after_event blocks m c.worker) cs

abbrev pub IsRun : ℕ → ℕ → List Claim → Type 0
IsRun blocks seats claims = IsRunFrom blocks seats machine_at_start claims
