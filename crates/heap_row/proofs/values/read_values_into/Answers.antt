use Rattle.heap_row.proofs.Needed.{all_ahead}
use Rattle.heap_row.proofs.ReadValues.{are_read}
use Rattle.heap_row.proofs.values.read_values_into.Goals as goal

pub read_columns-requires : goal.read_columns-requires
read_columns-requires c = rw (c.as_slice.ensures, c.as_slice-2.ensures) (all_ahead c.args.table.now.columns c.args.needed.now c.requires.needed)

pub returns-clause-typed : goal.returns-clause-typed
returns-clause-typed c =
    let read = rw (c.as_slice.ensures, c.as_slice-2.ensures) at c.in_ok-read_columns.ensures.values in
    are_read _ _ _ _ _ c.of-tuple.ensures.bytes c.of-tuple.ensures.size c.requires.needed read
