use Rattle.std.proofs.Common.{rules, ◌≡◌, ℕ, [], ◌∷◌, length, ◌∙◌, ap, subst, sym, arith}
use Rattle.std.specs.Prelude.{IfOk, nat_eq, vec_len}
use Rattle.std.specs.Result.{result_from_control_flow}
use Rattle.std.proofs.lemmas.Bool.{eqb-true}
use Rattle.std.proofs.lemmas.List.{length-append}
use Rattle.std.proofs.lemmas.Result.{IfOk-weaker}
use Rattle.build_leader.specs.declared.scan.team.Team.{Team}
use Rattle.build_leader.specs.Teams.{IsTeam}
use Rattle.build_leader.proofs.Teams.{both_are_team, last_number, last_seat, rest_fresh}
use Rattle.build_leader.proofs.scan.team.+team.Goals as goal

pub scan_alone-requires-clause-fresh : goal.scan_alone-requires-clause-fresh
scan_alone-requires-clause-fresh g t c =
    last_seat c.args.scan.now c.args.seats.items c.pop.new.self.items c.in-Some.last c.in-Some.ensures.items c.requires.fresh

pub join-one-requires-after_bounds : goal.join-one-requires-after_bounds
join-one-requires-after_bounds g t c κs within =
    let scan = c.args.scan.now in
    let last = last_seat scan c.args.seats.items c.pop.new.self.items c.in-Some.last c.in-Some.ensures.items c.requires.fresh in
    let rest = rest_fresh scan c.args.seats.items c.pop.new.self.items c.in-Some.last c.in-Some.ensures.items c.requires.fresh in
    let count = ap length c.in-Some.ensures.items ∙ length-append c.pop.new.self.items (c.in-Some.last ∷ []) in
    let few = c.requires.few in
    search rules

pub returns-then-is_empty-clause-team : goal.returns-then-is_empty-clause-team
returns-then-is_empty-clause-team g t c =
    let plan = c.args.plan.now in
    let heap = c.args.heap.now in
    let scan = c.args.scan.now in
    let seats = c.args.seats.items in
    let last = c.in-Some.last in
    let number = last_number scan seats c.pop.new.self.items last c.in-Some.ensures.items c.requires.fresh in
    let count = ap length c.in-Some.ensures.items ∙ length-append c.pop.new.self.items (last ∷ []) in
    let empty : c.is_empty.result ≡ nat_eq (vec_len c.pop.new.self) 0 = c.is_empty.ensures in
    let no_seat = eqb-true (vec_len c.pop.new.self) 0 (sym empty ∙ c.if-is_empty.true) in
    let none : length c.pop.new.self.items ≡ 0 = omega (arith, no_seat) in
    IfOk-weaker c.scan_alone.result (IsTeam plan heap scan last.worker 1) (IsTeam plan heap scan 0 (length seats))
    (λ team is. subst (λ (n : ℕ). IsTeam plan heap scan 0 n team) (let e : 1 ≡ length seats = omega (arith, none, count) in e)
    (subst (λ (n : ℕ). IsTeam plan heap scan n 1 team) (number ∙ none) is))
    c.scan_alone.ensures.team

pub returns-clause-team : goal.returns-clause-team
returns-clause-team g t c =
    let plan = c.args.plan.now in
    let heap = c.args.heap.now in
    let scan = c.args.scan.now in
    let seats = c.args.seats.items in
    let last = c.in-Some.last in
    let rest = c.pop.new.self.items in
    let number = last_number scan seats rest last c.in-Some.ensures.items c.requires.fresh in
    let count = ap length c.in-Some.ensures.items ∙ length-append rest (last ∷ []) in
    let front : Team = c.in_ok-team.field-0 in
    let back : Team = c.in_ok-one.field-0 in
    let one : IfOk c.join-one.result.1 (IsTeam plan heap scan 0 (length rest)) = c.join-one.ensures.second.0 in
    let other : IfOk c.join-one.result.0 (IsTeam plan heap scan last.worker 1) = c.join-one.ensures.first.0 in
    let is_front : IsTeam plan heap scan 0 (length rest) front =
    subst (λ r. IfOk r (IsTeam plan heap scan 0 (length rest)))
    (c.branch-team.ensures ∙ ap result_from_control_flow c.in_ok-team.is) one in
    let is_back : IsTeam plan heap scan last.worker 1 back =
    subst (λ r. IfOk r (IsTeam plan heap scan last.worker 1))
    (c.branch-one.ensures ∙ ap result_from_control_flow c.in_ok-one.is) other in
    subst (λ (n : ℕ). IfOk c.joined.result (IsTeam plan heap scan 0 n)) (sym count)
    (both_are_team plan heap scan (length rest) front back c.joined.result is_front
    (subst (λ (n : ℕ). IsTeam plan heap scan n 1 back) number is_back)
    c.joined.ensures.joined c.joined.ensures.place c.joined.ensures.legal c.joined.ensures.missed)
