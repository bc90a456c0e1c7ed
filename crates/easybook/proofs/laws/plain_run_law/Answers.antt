use Rattle.easybook.proofs.Unrefusals.{plain_runs_are_scripts}
use Rattle.easybook.proofs.laws.plain_run_law.Goals as goal

pub returns : goal.returns
returns g c = plain_runs_are_scripts g.row.A.Denot
