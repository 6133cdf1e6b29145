use Rattle.build_leader.proofs.EntryLeads.{elements_lead}
use Rattle.build_leader.proofs.gin.entry_laws.elements_lead_to_their_rows.Goals as goal

pub returns : goal.returns
returns c = elements_lead
