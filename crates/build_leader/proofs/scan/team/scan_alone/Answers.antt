use Rattle.std.proofs.Common.{ap, subst, sym, ◌∙◌}
use Rattle.std.proofs.lemmas.Result.{IfOk-weaker}
use Rattle.build_leader.specs.declared.scan.worker.Share.{Share}
use Rattle.build_leader.specs.Holding.{IsSinkOf}
use Rattle.build_leader.specs.Reader.{ReaderView}
use Rattle.build_leader.specs.Scanning.{IsBetweenClaims}
use Rattle.build_leader.specs.Teams.{IsAlone, IsTeam, reader_of}
use Rattle.build_leader.proofs.Teams.{begun, is_alone}
use Rattle.build_leader.proofs.scan.team.scan_alone.Goals as goal

pub scan_share-requires-clause-begun : goal.scan_share-requires-clause-begun
scan_share-requires-clause-begun g c =
    let plan = c.args.plan.now in
    let heap = c.args.heap.now in
    let scan = c.args.scan.now in
    let seat = c.args.seat in
    subst (λ (r : ReaderView). IsBetweenClaims r heap scan c.new-begun.result) (sym c.in_ok-reader.ensures)
    (subst (IsBetweenClaims (reader_of plan) heap scan) (sym c.new-begun.ensures)
    (begun (reader_of plan) heap scan seat.worker seat c.in_ok-sink.sink _ c.requires.fresh
    (plan.run_rows, c.in_ok-sink.ensures.sink) c.in_ok-sink.ensures.none))

pub returns-clause-team : goal.returns-clause-team
returns-clause-team g c =
    let plan = c.args.plan.now in
    let heap = c.args.heap.now in
    let scan = c.args.scan.now in
    let share = c.in_ok-share.share in
    let same = c.in_ok-share.ensures.same in
    IfOk-weaker c.of-3.result (IsAlone share) (IsTeam plan heap scan c.args.seat.worker 1)
    (λ team alone. is_alone plan heap scan c.args.seat.worker share team c.requires.scan
    (subst (λ (r : ReaderView). IsBetweenClaims r heap scan share) c.in_ok-reader.ensures c.in_ok-share.ensures.scanned)
    c.in_ok-share.ensures.done (same.worker ∙ ap (λ (s : Share). s.seat.worker) c.new-begun.ensures)
    (same.sink plan.spec plan.run_rows (subst (λ (s : Share). IsSinkOf plan.spec plan.run_rows s.sink) (sym c.new-begun.ensures) c.in_ok-sink.ensures.sink)) alone)
    c.of-3.ensures
