use Rattle.pickle_doc.proofs.Swaps.{leads_on}
use Rattle.pickle_doc.proofs.laws.records_lead_on.Goals as goal

pub returns : goal.returns
returns c = leads_on
