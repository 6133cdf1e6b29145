use Rattle.std.proofs.lemmas.Result.{IfOk-weaker}
use Rattle.build_leader.specs.Calls.{IsScanFault, IsScanned}
use Rattle.build_leader.specs.Teams.{HandsOver, TellsFault}
use Rattle.build_leader.proofs.ScanOutcomes.{err_then, few_seats, is_scan_fault, is_scanned, scan_of, some_seats, whole_team}
use Rattle.build_leader.proofs.scan.scan_heap.Goals as goal

pub scan_team-requires-clause-scan : goal.scan_team-requires-clause-scan
scan_team-requires-clause-scan g c κs within =
    scan_of c.args.plan.now c.args.heap.now c.args.scan.now c.args.seats.items c.requires.plan c.requires.opened

pub scan_team-requires-clause-some : goal.scan_team-requires-clause-some
scan_team-requires-clause-some g c κs within =
    some_seats c.args.plan.now c.args.heap.now c.args.scan.now c.args.seats.items c.requires.plan c.requires.opened

pub scan_team-requires-clause-few : goal.scan_team-requires-clause-few
scan_team-requires-clause-few g c κs within =
    few_seats c.args.plan.now c.args.heap.now c.args.scan.now c.args.seats.items c.requires.plan c.requires.opened

pub returns-clause-scanned : goal.returns-clause-scanned
returns-clause-scanned g c =
    let plan = c.args.plan.now in
    let heap = c.args.heap.now in
    let scan = c.args.scan.now in
    let team = c.in_ok-team.team in
    IfOk-weaker c.hand_over.result (HandsOver team) (IsScanned plan heap scan)
    (is_scanned plan heap scan team
    (whole_team plan heap scan c.args.seats.items c.requires.plan c.requires.opened team c.in_ok-team.ensures.team c.in_ok-team.ensures.share))
    c.hand_over.ensures.scanned

pub returns-clause-refused : goal.returns-clause-refused
returns-clause-refused g c =
    let plan = c.args.plan.now in
    let heap = c.args.heap.now in
    let scan = c.args.scan.now in
    let team = c.in_ok-team.team in
    err_then (TellsFault team) (IsScanFault plan heap) c.hand_over.result
    (is_scan_fault plan heap scan team
    (whole_team plan heap scan c.args.seats.items c.requires.plan c.requires.opened team c.in_ok-team.ensures.team c.in_ok-team.ensures.share))
    c.hand_over.ensures.refused
