use Rattle.btree_item.proofs.TupleReads.{data-only, data-small}
use Rattle.btree_item.proofs.tuple_reading.read_present.Goals as goal

pub returns-clause-small : goal.returns-clause-small
returns-clause-small c = data-small c.args.kinds.now c.args.present c.args.bytes.now c.read_data.result c.requires.size c.read_data.ensures

pub returns-clause-only : goal.returns-clause-only
returns-clause-only c = data-only c.args.kinds.now c.args.present c.args.bytes.now c.read_data.result c.requires.stored c.requires.size c.read_data.ensures
