use Rattle.brin_summary.proofs.PageWrites.{written-next, written-revmap_page}
use Rattle.brin_summary.proofs.page.revmap_page.Goals as goal

pub loop-at-init : goal.loop-at-init
loop-at-init c = rw (c.put_slice.ensures, c.in_ok-page.ensures) (written-revmap_page c.special_space.result c.special_space.ensures)

pub loop-at-preserved : goal.loop-at-preserved
loop-at-preserved c = rw (c.put_slice-in-loop-at.ensures, c.loop-at.invariant, c.bytes.ensures)
    (written-next c.args.pointers.now c.loop-at.at (record { block = 0; offset = 0 }) c.loop-at-test.true c.requires)
