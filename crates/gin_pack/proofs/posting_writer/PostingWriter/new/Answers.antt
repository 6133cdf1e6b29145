use Rattle.std.proofs.Common.{refl}
use Rattle.gin_pack.proofs.Gatherings.{none-gathered}
use Rattle.gin_pack.proofs.posting_writer.PostingWriter.new.Goals as goal

pub returns : goal.returns
returns c = λ kind. none-gathered kind _ (refl, c.new.ensures, c.new-2.ensures.items)
