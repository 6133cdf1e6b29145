use Rattle.build_leader.proofs.EntryLeads.{nulls_lead}
use Rattle.build_leader.proofs.gin.entry_laws.nulls_lead_to_their_rows.Goals as goal

pub returns : goal.returns
returns c = nulls_lead
