use Rattle.std.proofs.Common.{◌∙◌, refl}
use Rattle.easy_rule.specs.Rule.{first_from, shadow_time, decided, decisions}
use Rattle.easy_rule.proofs.Runs.{sim-run_from, run_from}
use Rattle.easy_rule.proofs.examples.ends_at_its_estimate.Goals as goal

pub returns : goal.returns
unfolding run_from first_from shadow_time decided decisions
returns c = sim-run_from _ ∙ refl
