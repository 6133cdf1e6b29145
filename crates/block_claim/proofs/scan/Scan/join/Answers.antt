use Rattle.std.proofs.Common.{rules, ◌≡◌, ℕ, ◌+◌, ◌<◌, ◌≤◌, ◌++◌, min, true, List, sym, ap, ◌∙◌, subst, vec_capacity, arith}
use Rattle.block_claim.specs.declared.claim.Claim.{Claim}
use Rattle.block_claim.specs.Ramp.{ramp_of, claims_by}
use Rattle.block_claim.specs.Calls.{is_done, ramp_of_seat}
use Rattle.block_claim.specs.Seats.{FieldsFit}
use Rattle.block_claim.specs.Views.{times}
use Rattle.block_claim.proofs.Tables.{joins_as, looks_as}
use Rattle.block_claim.proofs.Fits.{joined_fits, joined_ramp, legal_by}
use Rattle.block_claim.proofs.scan.Scan.join.Goals as goal

pub join_seat-requires : goal.join_seat-requires
join_seat-requires c = (search rules, search rules, c.from.invariant.no_slot, omega (arith, c.self.invariant.words), joins_as c.self.inside.table.shared.key c.into.inside.token.id c.from.inside.token.id c.into.inside.token.me c.from.inside.token.me c.into.invariant.view_is.share)

pub load-into-inside-requires : goal.load-into-inside-requires
load-into-inside-requires c =
    let me = c.join_seat.ensures.2 in
    let shared : 0 < c.join_seat.new.seat.me.0.share = (let more : c.join_seat.new.seat.me.0.share ≡ c.into.inside.token.me.0.share + c.from.inside.token.me.0.share = ap (λ (m : _). m.0.share) me in omega (arith, c.into.invariant.view_is.share)) in
    (search rules, omega (arith, c.self.invariant.words), looks_as c.self.inside.table.shared.key _ _ c.join_seat.new.seat.me (ap (λ (m : _). m.1) me ∙ c.into.invariant.no_slot) shared)

pub invariant_of-into : goal.invariant_of-into
invariant_of-into c =
    let f = c.into.invariant in
    let told = c.load-into-inside.ensures.2 in
    let me = c.join_seat.ensures.2 in
    let done : c.into.inside.done ≡ true = f.done_is ∙ (ap is_done c.into.view_is ∙ c.requires.into_done) in
    let done' : c.from.inside.done ≡ true = c.from.invariant.done_is ∙ (ap is_done c.from.view_is ∙ c.requires.from_done) in
    let same : c.from.inside.token.me.0.blocks ≡ c.into.inside.token.me.0.blocks = search rules in
    let once : (n : ℕ) → times n (c.into.inside.token.me.0.workers ++ c.from.inside.token.me.0.workers) ≤ 1 =
    λ n. subst (λ (m : _). times n m.0.workers ≤ 1) me (told.workers n) in
    subst (λ (k : ℕ). FieldsFit c.load-into-inside.new.seat.me c.into.inside.worker c.into.inside.chunk c.into.inside.last c.into.inside.done k c.append.new.self.items (vec_capacity c.append.new.self)) (sym c.min-into-inside.ensures)
    (subst (λ (cs : List Claim). FieldsFit c.load-into-inside.new.seat.me c.into.inside.worker c.into.inside.chunk c.into.inside.last c.into.inside.done (min c.into.inside.seen c.from.inside.seen) cs (vec_capacity c.append.new.self)) (sym c.in-Ok.ensures.items)
    (joined_fits _ _ _ _ _ _ _ _ f done c.from.inside.token.me _ _ _ _ _ _ _ c.from.invariant done' same once c.load-into-inside.new.seat.me (vec_capacity c.append.new.self) (told.same ∙ me) told.knows c.in-Ok.ensures.capacity))

pub returns-clause-legal : goal.returns-clause-legal
returns-clause-legal c = legal_by _ _ _ _ _ _ _ _ (invariant_of-into c)

pub returns-clause-place : goal.returns-clause-place
returns-clause-place c =
    let f = c.into.invariant in
    let told = c.load-into-inside.ensures.2 in
    let me = c.join_seat.ensures.2 in
    let done : c.into.inside.done ≡ true = f.done_is ∙ (ap is_done c.into.view_is ∙ c.requires.into_done) in
    let done' : c.from.inside.done ≡ true = c.from.invariant.done_is ∙ (ap is_done c.from.view_is ∙ c.requires.from_done) in
    let same : c.from.inside.token.me.0.blocks ≡ c.into.inside.token.me.0.blocks = search rules in
    let once : (n : ℕ) → times n (c.into.inside.token.me.0.workers ++ c.from.inside.token.me.0.workers) ≤ 1 =
    λ n. subst (λ (m : _). times n m.0.workers ≤ 1) me (told.workers n) in
    ap (λ (m : _). ramp_of m.0.blocks (claims_by c.into.inside.worker m.0.claims)) (told.same ∙ me)
    ∙ (joined_ramp _ _ _ _ _ _ _ _ f done c.from.inside.token.me _ _ _ _ _ _ _ c.from.invariant done' same once
    ∙ ap ramp_of_seat c.into.view_is)
