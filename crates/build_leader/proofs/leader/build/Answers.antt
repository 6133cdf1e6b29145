use Rattle.build_leader.proofs.ScannedRows.{built_of, have_heap_rows}
use Rattle.build_leader.proofs.SharedRows.{claims_share}
use Rattle.build_leader.proofs.leader.build.Goals as goal

pub pack_taken-requires-clause-rows : goal.pack_taken-requires-clause-rows
pack_taken-requires-clause-rows g c κs within =
    have_heap_rows c.args.plan.now c.args.heap.now c.args.scan.now c.in_ok-tapes.field-0 c.in_ok-tapes.ensures.scanned
    claims_share c.args.seats.items c.requires.opened

pub returns-clause-built : goal.returns-clause-built
returns-clause-built g c =
    built_of c.args.plan.now c.args.heap.now c.args.scan.now c.in_ok-tapes.field-0 c.in_ok-tapes.ensures.scanned
    c.in_ok-packed.packed c.in_ok-packed.ensures.packed
