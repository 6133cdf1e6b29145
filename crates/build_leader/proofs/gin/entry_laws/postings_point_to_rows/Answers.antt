use Rattle.build_leader.proofs.EntryLeads.{point_to_rows}
use Rattle.build_leader.proofs.gin.entry_laws.postings_point_to_rows.Goals as goal

pub returns : goal.returns
returns c = point_to_rows
