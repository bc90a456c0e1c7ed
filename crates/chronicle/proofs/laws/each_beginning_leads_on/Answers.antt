use Rattle.chronicle.proofs.Legal.{leads_on}
use Rattle.chronicle.proofs.laws.each_beginning_leads_on.Goals as goal

pub returns : goal.returns
returns c = leads_on
