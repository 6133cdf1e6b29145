use Rattle.brin_summary.proofs.PageLaws.{pointers_lead}
use Rattle.brin_summary.proofs.laws.pointers_lead_to_the_tuples.Goals as goal

pub returns : goal.returns
returns c = pointers_lead
