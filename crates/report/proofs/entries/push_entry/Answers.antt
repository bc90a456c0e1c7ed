use Rattle.std.proofs.Common.{ap}
use Rattle.std.specs.Fmt.{decimal}
use Rattle.report.specs.Pieces.{right}
use Rattle.report.specs.Entries.{job_or_reason}
use Rattle.report.proofs.Joins.{begun, joined_as}
use Rattle.report.proofs.entries.push_entry.Goals as goal

pub returns : goal.returns
returns g c = joined_as c.args.text.now.items _ _ (begun _ _ c.in_ok-push_aligned.ensures (ap (λ n. right 8 (decimal n)) c.number.ensures.number)) c.in_ok-push_job_or_reason.ensures (ap job_or_reason c.effective.ensures.job)
