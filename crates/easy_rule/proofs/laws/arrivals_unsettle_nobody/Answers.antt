use Rattle.easy_rule.proofs.Decisions.{arrivals-unsettle-nobody}
use Rattle.easy_rule.proofs.laws.arrivals_unsettle_nobody.Goals as goal

pub returns : goal.returns
returns c = arrivals-unsettle-nobody
