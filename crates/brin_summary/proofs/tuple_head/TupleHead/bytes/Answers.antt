use Rattle.brin_summary.proofs.Headers.{kept-image}
use Rattle.brin_summary.proofs.tuple_head.TupleHead.bytes.Goals as goal

pub returns : goal.returns
returns c =
    rw c.in_a_row.ensures
    (kept-image c.args.self.now.first c.args.columns c.args.self.now.bits c.args.self.now.has_rows c.info.result c.requires.columns c.requires.bits c.info.ensures)
