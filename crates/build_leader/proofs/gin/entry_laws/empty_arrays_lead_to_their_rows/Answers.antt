use Rattle.build_leader.proofs.EntryLeads.{empty_arrays_lead}
use Rattle.build_leader.proofs.gin.entry_laws.empty_arrays_lead_to_their_rows.Goals as goal

pub returns : goal.returns
returns c = empty_arrays_lead
