use Rattle.easy_rule.proofs.EasyLaws.{easy-is-a-rule}
use Rattle.easy_rule.proofs.laws.easy_is_a_rule.Goals as goal

pub returns : goal.returns
returns c = easy-is-a-rule
