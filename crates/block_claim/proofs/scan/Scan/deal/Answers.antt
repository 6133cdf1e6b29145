use Rattle.std.proofs.Common.{rules, ◌≡◌, ◌+◌, [], sym, ap, ◌∙◌, subst, arith}
use Rattle.block_claim.specs.declared.view.View.{View}
use Rattle.block_claim.specs.Calls.{ScanState, SeatState, IsFresh}
use Rattle.block_claim.specs.Views.{handed_out, left_over, IsFreshView}
use Rattle.block_claim.specs.Opening.{undealt}
use Rattle.block_claim.proofs.Opening.{MaySplit}
use Rattle.block_claim.proofs.Tables.{splits}
use Rattle.block_claim.proofs.Dealing.{may_split, left_is, handed_fresh, last_fresh, fresh_seat, dealt_more, dealt_all}
use Rattle.block_claim.proofs.scan.Scan.deal.Goals as goal

pub split_seat-token-requires : goal.split_seat-token-requires
split_seat-token-requires c =
    let seats : c.self.inside.seats ≡ c.args.self.now.seats = ap (λ (s : ScanState). s.seats) c.self.view_is in
    let test = c.loop-worker-test.true in
    let few = c.self.invariant.seats_limit in
    let rest = c.loop-worker.invariant.rest in
    let may : MaySplit c.loop-worker.rest.me.0 = subst MaySplit (sym (ap (λ (m : _). m.0) rest)) (may_split c.args.self.now c.loop-worker.worker (omega arith) (omega arith)) in
    (search rules, omega (arith, c.self.invariant.words), splits c.self.inside.table.shared.key c.loop-worker.rest.id c.loop-worker.rest.me.0 may)

pub loop-worker-preserved : goal.loop-worker-preserved
loop-worker-preserved c =
    let scan = c.args.self.now in
    let worker = c.loop-worker.worker in
    let seats : c.self.inside.seats ≡ scan.seats = ap (λ (s : ScanState). s.seats) c.self.view_is in
    let blocks : c.self.inside.blocks ≡ scan.blocks = ap (λ (s : ScanState). s.blocks) c.self.view_is in
    let test = c.loop-worker-test.true in
    let few = c.self.invariant.seats_limit in
    let small = c.self.invariant.blocks_limit in
    let was = c.loop-worker.invariant in
    let told = c.split_seat-token.ensures in
    let view : c.split_seat-token.result.me.0 ≡ handed_out (undealt scan worker) = ap (λ (m : _). m.0) told.4 ∙ ap (λ (m : _). handed_out m.0) was.rest in
    let made = c.in_ok-new.ensures in
    let fresh : IsFreshView worker scan.blocks c.in_ok-new.field-0.view = subst (λ (v : View). IsFreshView worker scan.blocks v) (sym (ap (λ (s : SeatState). s.view) made)) (handed_fresh scan worker c.split_seat-token.result.me.0 view (omega arith) (omega arith) (omega arith)) in
    let seat : IsFresh scan worker c.in_ok-new.field-0 = fresh_seat scan worker c.in_ok-new.field-0
    (ap (λ (s : SeatState). s.table) made ∙ (told.3 ∙ was.table))
    (ap (λ (s : SeatState). s.worker) made)
    (ap (λ (s : SeatState). s.view.seats) made ∙ ap (λ (v : View). v.seats) view) fresh in record {
      table = told.0 ∙ was.table;
      rest = told.2 ∙ (ap (λ (m : _). (left_over m.0, m.1)) was.rest ∙ ap (λ (v : View). (v, [])) (left_is scan worker (omega arith)));
      dealt = dealt_more scan worker c.loop-worker.seats.items c.push_reserved.new.self.items c.in_ok-new.field-0 c.push_reserved.ensures.items was.dealt seat
          (ap (λ (s : SeatState). s.view.share) made ∙ ap (λ (v : View). v.share) view);
      room = (let r = was.room in omega (arith, c.push_reserved.ensures.capacity));
    }

pub returns : goal.returns
returns c =
    let scan = c.args.self.now in
    let worker = c.loop-worker.worker in
    let seats : c.self.inside.seats ≡ scan.seats = ap (λ (s : ScanState). s.seats) c.self.view_is in
    let blocks : c.self.inside.blocks ≡ scan.blocks = ap (λ (s : ScanState). s.blocks) c.self.view_is in
    let test = c.loop-worker-test.false in
    let end = c.loop-worker.auto.worker-end in
    let few = c.self.invariant.seats_limit in
    let small = c.self.invariant.blocks_limit in
    let some = c.requires.some in
    let was = c.loop-worker.invariant in
    let last : worker + 1 ≡ scan.seats = omega arith in
    let view : c.loop-worker.rest.me.0 ≡ undealt scan worker = ap (λ (m : _). m.0) was.rest in
    let made = c.in_ok-new-2.ensures in
    let number : c.in_ok-new-2.field-0.worker ≡ worker = ap (λ (s : SeatState). s.worker) made ∙ omega arith in
    let fresh : IsFreshView worker scan.blocks c.in_ok-new-2.field-0.view = subst (λ (v : View). IsFreshView worker scan.blocks v) (sym (ap (λ (s : SeatState). s.view) made)) (last_fresh scan worker c.loop-worker.rest.me.0 view last (omega arith) (omega arith)) in
    let seat : IsFresh scan worker c.in_ok-new-2.field-0 = fresh_seat scan worker c.in_ok-new-2.field-0
    (ap (λ (s : SeatState). s.table) made ∙ was.table) number
    (ap (λ (s : SeatState). s.view.seats) made ∙ ap (λ (v : View). v.seats) view) fresh in
    dealt_all scan worker c.loop-worker.seats.items c.push_reserved-2.new.self.items c.in_ok-new-2.field-0 c.push_reserved-2.ensures.items was.dealt seat last (omega arith)
    (ap (λ (s : SeatState). s.view.share) made ∙ ap (λ (v : View). v.share) view)
