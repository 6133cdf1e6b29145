use Rattle.std.proofs.Common.{ℕ, List, Some, ap, refl, subst, arith}
use Rattle.block_claim.specs.Calls.{SeatState}
use Rattle.build_leader.specs.declared.scan.worker.Share.{Share}
use Rattle.build_leader.specs.HeapRows.{IsBlockFault, IsSoundBlock}
use Rattle.build_leader.specs.Scanning.{IsPageError, TakesPage}
use Rattle.build_leader.proofs.WorkerBlocks.{was_reported, was_taken, worker_reported, worker_took}
use Rattle.build_leader.proofs.scan.worker.scan_one.Goals as goal

pub returns-in-Ok-clause-taken : goal.returns-in-Ok-clause-taken
returns-in-Ok-clause-taken c =
    let reader = c.args.reader.now in
    let share = c.args.share.now in
    let sink = c.scan_block.new.sink in
    was_taken reader c.args.heap.now share sink c.scan_block.new.slot c.args.block _ c.in-Ok.rows
    (subst (λ (page : List ℕ). IsSoundBlock reader.table reader.spec page) c.page_at-page.ensures c.in-Ok.ensures.sound)
    (subst (λ (page : List ℕ). TakesPage reader.table reader.spec page c.args.block share.sink c.in-Ok.rows sink) c.page_at-page.ensures c.in-Ok.ensures.rows)
    refl

pub returns-in-Err-Fault-clause-taken : goal.returns-in-Err-Fault-clause-taken
returns-in-Err-Fault-clause-taken c =
    let reader = c.args.reader.now in
    let share = c.args.share.now in
    let noted = c.report.ensures.noted in
    let told = subst (IsPageError reader.table reader.spec c.page_at-page.result) c.in-Err-Fault.field-0-is c.in-Err-Fault.ensures.refused in
    let fault = subst (λ (page : List ℕ). IsBlockFault reader.table reader.spec page c.in-Err-Fault.item c.in-Err-Fault.cause) c.page_at-page.ensures told in
    let new : Share = record {
      seat = c.report.new.seat;
      sink = c.scan_block.new.sink;
      slot = c.scan_block.new.slot;
      rows = share.rows;
      fault = Some (record { block = c.args.block; item = c.in-Err-Fault.item; cause = c.in-Err-Fault.cause });
    } in
    was_reported reader c.args.heap.now share new c.args.block c.in-Err-Fault.item c.in-Err-Fault.cause noted.0 c.requires.block (omega arith)
    (omega (arith, c.from.ensures, c.seen.ensures)) noted.1 fault
    (ap (λ (seat : SeatState). seat.view.reports) noted.2) (ap (λ (seat : SeatState). seat.view.seen) noted.2) refl

pub returns-in-Ok-clause-worker : goal.returns-in-Ok-clause-worker
returns-in-Ok-clause-worker c =
    worker_took c.args.reader.now c.args.heap.now c.args.scan.now c.args.share.now c.scan_block.new.sink c.scan_block.new.slot _ c.requires.worker c.in-Ok.ensures.same

pub returns-in-Err-Memory-clause-worker : goal.returns-in-Err-Memory-clause-worker
returns-in-Err-Memory-clause-worker c =
    worker_took c.args.reader.now c.args.heap.now c.args.scan.now c.args.share.now c.scan_block.new.sink c.scan_block.new.slot _ c.requires.worker
    c.in-Err-Memory.ensures.same

pub returns-in-Err-Fault-clause-worker : goal.returns-in-Err-Fault-clause-worker
returns-in-Err-Fault-clause-worker c =
    worker_reported c.args.reader.now c.args.heap.now c.args.scan.now c.args.share.now c.report.new.seat c.scan_block.new.sink c.scan_block.new.slot _ c.args.block
    c.requires.worker c.in-Err-Fault.ensures.same c.report.ensures.noted c.report.ensures.legal c.report.ensures.seen
