use Rattle.checkpoints.proofs.Alike.{runs-of-one-table-are-alike}
use Rattle.checkpoints.proofs.laws.runs_of_one_table_are_alike.Goals as goal

pub returns : goal.returns
returns c = runs-of-one-table-are-alike
