use Rattle.std.proofs.Common.{ℕ, List, length, sym, subst}
use Rattle.heap_page.specs.Fault.{IsSoundPage}
use Rattle.build_leader.proofs.scan.block.scan_block.Goals as goal

pub add_rows-requires-clause-sound : goal.add_rows-requires-clause-sound
add_rows-requires-clause-sound c =
    subst (λ (bytes : List ℕ). IsSoundPage bytes (length c.args.reader.now.table.columns)) (sym c.in_ok-view.ensures.bytes)
    c.in_ok-view.ensures.sound
