use Rattle.std.proofs.Common.{rules, ◌≡◌, ℕ, ◌+◌, ◌-◌, Bool, false, cond, length, sym, ap, refl, ◌∙◌, subst, length-append, arith}
use Rattle.block_claim.specs.declared.claim.Claim.{Claim}
use Rattle.block_claim.specs.Ramp.{next_chunk}
use Rattle.block_claim.specs.Calls.{ScanState, SeatState, is_done, ClaimsAreLegal}
use Rattle.block_claim.proofs.Tables.{claims_as}
use Rattle.block_claim.proofs.Fits.{may_claim, next_size, some_next, told_fits, legal_by}
use Rattle.block_claim.proofs.scan.Scan.claim.Goals as goal
use Rattle.block_claim.proofs.scan.Scan.claim.Goals.{then-not-seat, else-not-seat}

-- the seat's blocks are the scan's
same_blocks : (scan : ScanState) (seat : SeatState) (blocks own : ℕ) → scan.blocks ≡ blocks → seat.view.blocks ≡ own → seat.view.blocks ≡ scan.blocks → blocks ≡ own
same_blocks scan seat blocks own a b h = sym a ∙ (sym h ∙ b)

pub fetch_add-first-requires : goal.fetch_add-first-requires
fetch_add-first-requires c =
    let f = c.seat.invariant in
    let going : c.seat.inside.done ≡ false = f.done_is ∙ (ap is_done c.seat.view_is ∙ c.requires.going) in
    let same : c.self.inside.blocks ≡ c.seat.inside.token.me.0.blocks = search rules in
    let size : c.from-size.result ≡ next_chunk c.seat.inside.token.me.0.blocks (record { chunk = c.seat.inside.chunk; last = c.seat.inside.last; done = false }) =
    c.from-size.ensures ∙ (c.next_chunk-chunk.ensures ∙ ap (λ (b : ℕ). next_chunk b (record { chunk = c.seat.inside.chunk; last = c.seat.inside.last; done = false })) same) in
    (search rules, omega (arith, c.self.invariant.words), claims_as c.self.inside.table.shared.key _ _ c.seat.inside.worker c.from-size.result c.seat.inside.token.me f.no_slot (may_claim _ _ _ _ _ _ _ _ f going 0 c.from-size.result size) (next_size _ _ _ _ _ _ _ _ f going 0 c.from-size.result size))

pub push_reserved-requires : goal.push_reserved-requires
push_reserved-requires c =
    let f = c.seat.invariant in
    let told = c.fetch_add-first.ensures.2 in
    let few = told.few in
    let grown : length c.fetch_add-first.new.seat.me.0.claims ≡ length c.seat.inside.token.me.0.claims + 1 = ap (λ (m : _). length m.0.claims) told.claim ∙ omega (arith, length-append {A = Claim}) in
    let same : length c.seat.inside.claims.items ≡ length c.seat.inside.token.me.0.claims = ap length f.claims_are in
    omega (arith, f.room_is, f.view_is.seats)

pub overflow_sub-seat : goal.overflow_sub-seat
overflow_sub-seat c =
    let f = c.seat.invariant in
    let going : c.seat.inside.done ≡ false = f.done_is ∙ (ap is_done c.seat.view_is ∙ c.requires.going) in
    let same : c.self.inside.blocks ≡ c.seat.inside.token.me.0.blocks = search rules in
    let size : c.from-size.result ≡ next_chunk c.seat.inside.token.me.0.blocks (record { chunk = c.seat.inside.chunk; last = c.seat.inside.last; done = false }) =
    c.from-size.ensures ∙ (c.next_chunk-chunk.ensures ∙ ap (λ (b : ℕ). next_chunk b (record { chunk = c.seat.inside.chunk; last = c.seat.inside.last; done = false })) same) in
    let some = some_next _ _ _ _ _ _ _ _ f going 0 c.from-size.result size in
    omega arith

pub invariant_of-seat : goal.invariant_of-seat
invariant_of-seat c =
    let f = c.seat.invariant in
    let told = c.fetch_add-first.ensures.2 in
    let going : c.seat.inside.done ≡ false = f.done_is ∙ (ap is_done c.seat.view_is ∙ c.requires.going) in
    let same : c.self.inside.blocks ≡ c.seat.inside.token.me.0.blocks = search rules in
    let size : c.next_chunk-chunk.result ≡ next_chunk c.seat.inside.token.me.0.blocks (record { chunk = c.seat.inside.chunk; last = c.seat.inside.last; done = false }) =
    c.next_chunk-chunk.ensures ∙ ap (λ (b : ℕ). next_chunk b (record { chunk = c.seat.inside.chunk; last = c.seat.inside.last; done = false })) same in
    told_fits _ _ _ _ _ _ _ _ f going c.fetch_add-first.result c.next_chunk-chunk.result size c.fetch_add-first.new.seat.me told.claim told.knows _ c.from-blocks.result c.from-size.result _ _
    (c.from-blocks.ensures ∙ same) c.from-size.ensures c.push_reserved.ensures.items c.push_reserved.ensures.capacity
    (sym (ap (λ (b : Bool). cond b c.seat.inside.last (c.fetch_add-first.result + c.from-size.result - 1)) c.if-not-seat.true))

pub invariant_of-seat-else-not-seat : goal.invariant_of-seat-else-not-seat
invariant_of-seat-else-not-seat c =
    let f = c.seat.invariant in
    let told = c.fetch_add-first.ensures.2 in
    let going : c.seat.inside.done ≡ false = f.done_is ∙ (ap is_done c.seat.view_is ∙ c.requires.going) in
    let same : c.self.inside.blocks ≡ c.seat.inside.token.me.0.blocks = search rules in
    let size : c.next_chunk-chunk.result ≡ next_chunk c.seat.inside.token.me.0.blocks (record { chunk = c.seat.inside.chunk; last = c.seat.inside.last; done = false }) =
    c.next_chunk-chunk.ensures ∙ ap (λ (b : ℕ). next_chunk b (record { chunk = c.seat.inside.chunk; last = c.seat.inside.last; done = false })) same in
    told_fits _ _ _ _ _ _ _ _ f going c.fetch_add-first.result c.next_chunk-chunk.result size c.fetch_add-first.new.seat.me told.claim told.knows _ c.from-blocks.result c.from-size.result _ _
    (c.from-blocks.ensures ∙ same) c.from-size.ensures c.push_reserved.ensures.items c.push_reserved.ensures.capacity
    (sym (ap (λ (b : Bool). cond b c.seat.inside.last (c.fetch_add-first.result + c.from-size.result - 1)) c.if-not-seat.false))

pub returns-clause-legal : goal.returns-clause-legal
returns-clause-legal c =
    let f = c.seat.invariant in
    let told = c.fetch_add-first.ensures.2 in
    let going : c.seat.inside.done ≡ false = f.done_is ∙ (ap is_done c.seat.view_is ∙ c.requires.going) in
    let same : c.self.inside.blocks ≡ c.seat.inside.token.me.0.blocks = search rules in
    let size : c.next_chunk-chunk.result ≡ next_chunk c.seat.inside.token.me.0.blocks (record { chunk = c.seat.inside.chunk; last = c.seat.inside.last; done = false }) =
    c.next_chunk-chunk.ensures ∙ ap (λ (b : ℕ). next_chunk b (record { chunk = c.seat.inside.chunk; last = c.seat.inside.last; done = false })) same in
    let after : SeatState = record { table = c.fetch_add-first.new.seat.table_id; worker = c.seat.inside.worker; view = c.fetch_add-first.new.seat.me.0 } in
    let here : c.if-not-seat.seat ≡ after = elim c.if-not-seat.branch [ then-not-seat w ↦ w.seat-is | else-not-seat w ↦ w.seat-is ] in
    let fit = told_fits _ _ _ _ _ _ _ _ f going c.fetch_add-first.result c.next_chunk-chunk.result size c.fetch_add-first.new.seat.me told.claim told.knows _ c.from-blocks.result c.from-size.result _ _
    (c.from-blocks.ensures ∙ same) c.from-size.ensures c.push_reserved.ensures.items c.push_reserved.ensures.capacity refl in
    subst ClaimsAreLegal (sym here) (legal_by _ _ _ _ _ _ _ _ fit)
