use Rattle.segments.proofs.RelationLaws.{relations_are_one}
use Rattle.segments.proofs.laws.relations_are_one.Goals as goal

pub returns : goal.returns
returns c = relations_are_one
