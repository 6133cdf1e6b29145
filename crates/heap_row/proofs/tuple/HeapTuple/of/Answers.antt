use Rattle.heap_row.proofs.Contents.{data_short}
use Rattle.heap_row.proofs.tuple.HeapTuple.of.Goals as goal

pub returns-clause-size : goal.returns-clause-size
returns-clause-size c = rw (c.from_place-2.ensures, c.item-bytes.ensures.value) (data_short _ _ _)
