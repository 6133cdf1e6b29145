use Rattle.std.proofs.Common.{rules, ℕ, arith, ◌++◌, ◌∷◌, [], sym, subst}
use Rattle.block_claim.specs.Seats.{FieldsFit}
use Rattle.std.proofs.Common.{vec_capacity}
use Rattle.block_claim.proofs.Tables.{reports_as}
use Rattle.block_claim.proofs.Fits.{noted_fits}
use Rattle.block_claim.proofs.scan.Scan.report.Goals as goal

pub fetch_min-floor-requires : goal.fetch_min-floor-requires
fetch_min-floor-requires c = (search rules, omega (arith, c.self.invariant.words), reports_as c.self.inside.table.shared.key _ _ c.from-block.result c.seat.inside.token.me c.seat.invariant.no_slot c.seat.invariant.view_is.share (search rules))

pub invariant_of-seat : goal.invariant_of-seat
invariant_of-seat c =
    subst (λ (k : ℕ). FieldsFit c.fetch_min-floor.new.seat.me c.seat.inside.worker c.seat.inside.chunk c.seat.inside.last c.seat.inside.done k c.seat.inside.claims.items (vec_capacity c.seat.inside.claims))
    (sym c.min-seat-inside.ensures)
    (noted_fits _ _ _ _ _ _ _ _ c.seat.invariant c.fetch_min-floor.new.seat.me (c.seat.inside.token.me.0.reports ++ c.from-block.result ∷ []) _ c.fetch_min-floor.ensures.2.report c.fetch_min-floor.ensures.2.knows)
