use Rattle.checkpoints.proofs.EachRow.{each-job-has-a-row}
use Rattle.checkpoints.proofs.laws.each_job_has_a_row.Goals as goal

pub returns : goal.returns
returns c = each-job-has-a-row
