use Rattle.std.proofs.lemmas.Result.{err_from_is_err_and}
use Rattle.heap_page.proofs.Least.{least-fault, sound-more}
use Rattle.heap_page.proofs.check.check_items.Goals as goal

pub returns-in_err-check_one-clause-refused : goal.returns-in_err-check_one-clause-refused
returns-in_err-check_one-clause-refused c =
    let p = err_from_is_err_and c.from_residual.result c.from_residual.ensures.1 in
    rw (p.1, p.2)
    (least-fault c.args.page.now.bytes c.args.page.now.columns c.loop-item.item c.in_err-check_one.field-0.0 c.args.page.now.used c.loop-item.invariant.sound
    c.in_err-check_one.ensures.refused)

pub loop-item-preserved : goal.loop-item-preserved
loop-item-preserved c = record {
  sound = sound-more c.args.page.now.bytes c.args.page.now.columns c.loop-item.item c.loop-item.invariant.sound c.in_ok-check_one.ensures.sound;
  map = c.in_ok-check_one.ensures.map;
}
