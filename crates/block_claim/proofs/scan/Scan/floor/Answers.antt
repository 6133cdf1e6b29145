use Rattle.std.proofs.Common.{rules, arith}
use Rattle.block_claim.proofs.Tables.{sees_as}
use Rattle.block_claim.proofs.Fits.{noted_fits}
use Rattle.block_claim.proofs.scan.Scan.floor.Goals as goal

pub load-floor-requires : goal.load-floor-requires
load-floor-requires c = (search rules, omega (arith, c.self.invariant.words), sees_as c.self.inside.table.shared.key _ _ c.seat.inside.token.me c.seat.invariant.no_slot c.seat.invariant.view_is.share)

pub invariant_of-seat : goal.invariant_of-seat
invariant_of-seat c = noted_fits _ _ _ _ _ _ _ _ c.seat.invariant c.load-floor.new.seat.me c.seat.inside.token.me.0.reports c.load-floor.result c.load-floor.ensures.2.seen c.load-floor.ensures.2.knows
