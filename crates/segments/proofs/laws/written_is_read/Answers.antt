use Rattle.segments.proofs.RelationLaws.{written_is_read}
use Rattle.segments.proofs.laws.written_is_read.Goals as goal

pub returns : goal.returns
returns c = written_is_read
