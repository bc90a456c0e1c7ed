use Rattle.std.proofs.Common.{rules, ◌≡◌}
use Rattle.std.specs.Arc.{arc_value}
use Rattle.tasks.proofs.Making.{rejoined-of}
use Rattle.tasks.proofs.task.made_again.Goals as goal

pub returns-clause-rejoined : goal.returns-clause-rejoined
returns-clause-rejoined g c =
    let base : c.deref.result.now ≡ c.args.base.now.run = search rules in
    let log : arc_value c.in_ok-table.table ≡ c.args.plan.now.log = search rules in
    rejoined-of c.args.base.now.run _ _ _ c.args.spacing _ _ _ _ base log c.in_ok-new.ensures.ok c.in-Ok.ensures.rejoined
