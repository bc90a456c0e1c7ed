use Rattle.std.proofs.Common.{◌∙◌}
use Rattle.std.specs.Prelude.{codes}
use Rattle.scenarios.specs.Names.{skip_name}
use Rattle.report.proofs.Joins.{three, begun}
use Rattle.report.proofs.entries.push_skip.Goals as goal

pub returns : goal.returns
returns g c =
    three c.args.text.now.items (codes " skipped ") (skip_name c.args.skip) (codes "\n") c.in_ok-extend_from_slice.ensures.items (begun _ _ c.in_ok-extend_from_slice-2.ensures.items (c.as_bytes.ensures.value ∙ c.name.ensures)) c.in_ok-push.ensures.items
