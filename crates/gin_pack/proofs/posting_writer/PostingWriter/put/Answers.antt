use Rattle.gin_pack.proofs.Gatherings.{gathering-columns, gathers}
use Rattle.gin_pack.proofs.posting_writer.PostingWriter.put.Goals as goal

pub take-requires : goal.take-requires
take-requires c = gathering-columns c.args.self.now c.requires

pub returns : goal.returns
returns c = gathers c.args.self.now c.take.new.self c.args.row.now c.in_ok-take.ensures
