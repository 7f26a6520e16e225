use Rattle.walrus_theorem.proofs.EditLeads.{leads_live}
use Rattle.walrus_theorem.proofs.edits.leads_live.Goals as goal

pub returns : goal.returns
returns c = leads_live
