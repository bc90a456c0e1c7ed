use Rattle.std.proofs.Common.{◌+◌, ◌∙◌, sym}
use Rattle.timeline.proofs.Lemmas.{absent-item}
use Rattle.oracle_runs.proofs.simulation.arrive_at.Goals as goal

pub arrive-requires-clause-absent : goal.arrive-requires-clause-absent
arrive-requires-clause-absent g c =
    rw c.loop-job.invariant (absent-item c.args.state.now c.args.t c.loop-job.job-index c.job-item.result c.args.jobs.now c.loop-job-test.true c.job-item.is (sym c.submit.ensures.value ∙ c.if-submit-t.true) (c.requires.sound (c.loop-job.job-index + 1)))
