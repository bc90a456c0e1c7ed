use Rattle.std.proofs.Common.{◌∙◌, refl}
use Rattle.easy_rule.specs.Rule.{first_from, shadow_time, decided, decisions}
use Rattle.easy_rule.proofs.Runs.{sim-run_from, run_from}
use Rattle.easy_rule.proofs.examples.four_jobs.Goals as goal

pub returns : goal.returns
unfolding run_from first_from shadow_time decided decisions
returns c = sim-run_from _ ∙ refl
