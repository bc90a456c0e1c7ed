use Rattle.std.proofs.Common.{subst}
use Rattle.easy_rule.specs.First.{IsFirstStart}
use Rattle.easy_rule.specs.declared.first.FirstStart.{FirstStart}
use Rattle.easy_rule.proofs.Begun.{begun-done, begun-none}
use Rattle.easy_rule.proofs.first.start_from.Goals as goal

pub returns-in-Nobody-clause-decided : goal.returns-in-Nobody-clause-decided
returns-in-Nobody-clause-decided g c =
    let v = c.args.cluster.now in
    let items = c.args.chosen.now.items in
    begun-done v v c.args.now items (subst (λ (f : FirstStart). IsFirstStart v c.args.now f) c.in-Nobody.is c.requires.first).0 (begun-none v c.args.now items c.requires.none)
