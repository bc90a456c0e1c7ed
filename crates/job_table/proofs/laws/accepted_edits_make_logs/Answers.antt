use Rattle.job_table.proofs.Accepted.{accepted-sound, versions-sound}
use Rattle.job_table.proofs.laws.accepted_edits_make_logs.Goals as goal

pub returns-clause-edit : goal.returns-clause-edit
returns-clause-edit c = accepted-sound

pub returns-clause-versions : goal.returns-clause-versions
returns-clause-versions c = versions-sound
