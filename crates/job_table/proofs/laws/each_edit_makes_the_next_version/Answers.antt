use Rattle.job_table.proofs.Versions.{next-version}
use Rattle.job_table.proofs.laws.each_edit_makes_the_next_version.Goals as goal

pub returns-clause-next : goal.returns-clause-next
returns-clause-next c = next-version
