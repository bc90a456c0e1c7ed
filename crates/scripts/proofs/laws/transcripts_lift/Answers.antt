use Rattle.scripts.proofs.Lifts.{lines-lift}
use Rattle.scripts.proofs.laws.transcripts_lift.Goals as goal

pub returns : goal.returns
returns g c = lines-lift g.L.Lifting.outcome g.L.Lifting.known g.L.Lifting.at g.L.Lifting.Inv g.L.Lifting.Good g.row.A.Denot
