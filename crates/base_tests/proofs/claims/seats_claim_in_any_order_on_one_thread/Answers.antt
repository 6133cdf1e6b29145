use Rattle.std.proofs.Common.{rules, ◌≡◌, sum_by, vec_len, length, sym, ◌∙◌, arith}
use Rattle.block_claim.specs.Calls.{SeatState}
use Rattle.block_claim.proofs.Lists.{sum_of_none}
use Rattle.base_tests.proofs.claims.seats_claim_in_any_order_on_one_thread.Goals as goal

pub close-claims-requires-clause-whole : goal.close-claims-requires-clause-whole
close-claims-requires-clause-whole g c =
    let short : vec_len c.last_seat-zero.new.seats ≡ 0 = search rules in
    let empty : length c.last_seat-zero.new.seats.items ≡ 0 = sym c.last_seat-zero.new.seats.ok.0 ∙ short in
    let none : sum_by (λ (seat : SeatState). seat.view.share) c.last_seat-zero.new.seats.items ≡ 0 = sum_of_none (λ (seat : SeatState). seat.view.share) c.last_seat-zero.new.seats.items empty in
    let all = c.in_ok-scan.ensures.opened.share in
    omega (arith, c.last_seat-three.ensures.share, c.last_seat-two.ensures.share, c.last_seat-one.ensures.share, c.last_seat-zero.ensures.share)
