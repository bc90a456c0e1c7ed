use Rattle.std.proofs.Common.{rules, ◌≡◌}
use Rattle.std.specs.Prelude.{None}
use Rattle.std.specs.Arc.{arc_value}
use Rattle.tasks.proofs.Making.{made-anew}
use Rattle.tasks.proofs.task.Task.work.Goals as goal

pub returns-in_ok-run-in-None-clause-made : goal.returns-in_ok-run-in-None-clause-made
returns-in_ok-run-in-None-clause-made g c =
    let none : c.self.inside.base ≡ None = search rules in
    made-anew (arc_value c.in_ok-run-in-None.run') c.self.view_is none c.in_ok-run-in-None.ensures.cut
