use Rattle.scripts.proofs.FirstSchedules.{schedules_first}
use Rattle.scripts.proofs.laws.the_first_schedule.Goals as goal

pub returns : goal.returns
returns g c = schedules_first g.row.A.Denot
