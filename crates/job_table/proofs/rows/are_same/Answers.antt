use Rattle.job_table.proofs.Lookups.{same-end}
use Rattle.job_table.proofs.rows.are_same.Goals as goal

pub returns : goal.returns
returns g c = same-end c.entries.some c.entries.others c.args.some c.args.others c.peek.result c.is_none.result c.in_default.ensures.steps.0 c.peek.ensures c.is_none.ensures c.entries.invariant
