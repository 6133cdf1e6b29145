use Rattle.std.proofs.Common.{◌≡◌, ◌≤◌, [], vec_capacity}
use Rattle.block_claim.specs.Opening.{undealt, AreDealt}
use Rattle.block_claim.proofs.scan.Scan.deal.Given as goal

abbrev pub invariant-loop-worker : goal.invariant-loop-worker
invariant-loop-worker l = record {
  table : l.rest.table_id ≡ l.self.table;
  rest : l.rest.me ≡ (undealt l.self l.worker, []);
  dealt : AreDealt l.self l.worker l.seats.items;
  room : l.self.seats ≤ vec_capacity l.seats;
}
