use Rattle.std.proofs.Common.{ℕ, ap}
use Rattle.easy_rule.specs.declared.start.Start.{Start}
use Rattle.checkpoints.proofs.Known.{noted-job}
use Rattle.checkpoints.proofs.noting.Noting.note_jobs.Goals as goal

pub loop-job-preserved : goal.loop-job-preserved
loop-job-preserved g c = λ n.
    noted-job n c.loop-job.job-index c.args.second c.args.jobs.now c.job-item.result _ _ _ _ c.loop-job-test.true c.job-item.is
    (ap (λ (k : ℕ). let x : Start = record { number = k; at = c.args.second } in x) c.number.ensures.value) (c.loop-job.invariant n) (c.in_ok-note.ensures n)
