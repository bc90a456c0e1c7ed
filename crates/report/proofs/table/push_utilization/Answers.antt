use Rattle.std.specs.Prelude.{codes}
use Rattle.report.specs.Pieces.{percent}
use Rattle.report.proofs.Joins.{three}
use Rattle.report.proofs.table.push_utilization.Goals as goal

pub returns : goal.returns
returns g c = three c.args.text.now.items (codes "utilization ") (percent 0 c.args.all.now.utilization) (codes "\n") c.in_ok-extend_from_slice.ensures.items c.in_ok-push_percent.ensures c.in_ok-push.ensures.items
