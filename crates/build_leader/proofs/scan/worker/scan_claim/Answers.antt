use Rattle.std.proofs.Common.{◌≡◌, ◌+◌, ◌≤◌, min, [], ◌∷◌, ◌++◌, length, None, ap, subst, sym, ◌∙◌, arith}
use Rattle.std.proofs.lemmas.Bool.{ltb-false, ltb-true}
use Rattle.std.proofs.lemmas.Result.{on_ok_weaker}
use Rattle.pg_bytes.specs.Blocks.{block_count}
use Rattle.block_claim.specs.declared.claim.Claim.{Claim}
use Rattle.block_claim.specs.Calls.{SeatState}
use Rattle.block_claim.specs.Ramp.{claim_at}
use Rattle.build_leader.proofs.WorkerClaims.{between_none, between_some, claim_told, claimed_worker, none_told}
use Rattle.build_leader.proofs.scan.worker.scan_claim.Goals as goal

pub returns-in_default-clause-between : goal.returns-in_default-clause-between
returns-in_default-clause-between g c =
    let old = c.args.share.now in
    let seat = c.claim.new.seat in
    let event = c.in_default.ensures.event in
    let claim : Claim = claim_at old.seat.view.blocks old.seat.worker old.seat.view.claims event.0 in
    let past = ltb-false event.0 old.seat.view.blocks (none_told _ claim event.2) in
    let blocks = c.requires.between.worker.of_scan.blocks in
    let same = c.requires.scan.blocks in
    between_none c.args.reader.now c.args.heap.now c.args.scan.now old seat claim c.requires.between
    (ap (λ (s : SeatState). s.view.claims) event.1) (ap (λ (s : SeatState). s.view.reports) event.1)
    (let seen = ap (λ (s : SeatState). s.view.seen) event.1 in omega arith) c.claim.ensures.few (omega arith)
    (claimed_worker c.args.reader.now c.args.heap.now c.args.scan.now old seat None c.requires.between.worker event c.claim.ensures.legal c.claim.ensures.seen)

pub returns-clause-between : goal.returns-clause-between
returns-clause-between g c =
    let old = c.args.share.now in
    let claimed = c.claim.new.seat in
    let seat = c.floor.new.seat in
    let event = c.in-Some.ensures.event in
    let at : Claim = claim_at old.seat.view.blocks old.seat.worker old.seat.view.claims event.0 in
    let told = claim_told _ at c.in-Some.claim event.2 in
    let inside = ltb-true event.0 old.seat.view.blocks told.0 in
    let first : c.in-Some.claim.first ≡ event.0 = ap (λ (x : Claim). x.first) told.1 in
    let scan = c.args.scan.now in
    let blocks = c.requires.between.worker.of_scan.blocks in
    let same = c.requires.scan.blocks in
    let looked = c.floor.ensures.noted in
    let claims = ap (λ (s : SeatState). s.view.claims) looked ∙ ap (λ (s : SeatState). s.view.claims) event.1
    ∙ ap (λ (x : Claim). old.seat.view.claims ++ x ∷ []) (sym told.1) in
    let reports = ap (λ (s : SeatState). s.view.reports) looked ∙ ap (λ (s : SeatState). s.view.reports) event.1 in
    let seen = ap (λ (s : SeatState). s.view.seen) looked in
    let before = ap (λ (s : SeatState). s.view.seen) event.1 in
    let falls : seat.view.seen ≤ old.seat.view.seen = omega (arith, c.floor.ensures.falls) in
    let end : c.min-end.result ≡ min (block_count c.args.heap.now) (c.in-Some.claim.first + c.in-Some.claim.size) = omega (arith, c.min-end.ensures, c.from.ensures) in
    on_ok_weaker c.scan_blocks.result
    (λ taken. between_some c.args.reader.now c.args.heap.now c.args.scan.now old c.scan_blocks.new.share seat c.in-Some.claim c.min-end.result
    c.requires.between claims reports falls
    (subst (λ (s : SeatState). length s.view.claims ≤ scan.blocks + scan.seats) (sym looked) c.claim.ensures.few) (omega arith) end c.scan_blocks.ensures.claims c.scan_blocks.ensures.rows c.scan_blocks.ensures.worker taken)
    c.scan_blocks.ensures.taken
