use Rattle.std.proofs.Common.{arith, append-nil}
use Rattle.std.proofs.lemmas.List.{take_all}
use Rattle.oracle_runs.proofs.Collected.{collected-none, collected-more}
use Rattle.oracle_runs.proofs.plan.jobs_of.Goals.{in-Some+in_ok-push, in_default}
use Rattle.oracle_runs.proofs.plan.jobs_of.Goals as goal

pub loop-entry-init : goal.loop-entry-init
loop-entry-init g c = rw c.new-jobs.ensures.items (collected-none c.args.scenario.now)

pub loop-entry-preserved : goal.loop-entry-preserved
loop-entry-preserved g c =
    let more = collected-more c.args.entries.now c.args.scenario.now c.loop-entry.jobs.items c.loop-entry.entry-index c.entry-item.result c.job_of.result c.loop-entry-test.true c.entry-item.is c.job_of.ensures.job c.job_of.ensures.limits c.job_of.ensures.numbered c.loop-entry.invariant in
    elim c.match-job_of.branch [ in-Some+in_ok-push w ↦ rw (w.jobs-is, w.in_ok-push.ensures.items) (rw w.in-Some.is at more) | in_default w ↦ rw w.jobs-is (rw append-nil at (rw w.in_default.is at more)) ]

pub returns-clause-jobs : goal.returns-clause-jobs
returns-clause-jobs g c = (rw (take_all c.loop-entry.entry-index c.args.entries.now (omega arith)) at c.loop-entry.invariant).are

pub returns-clause-limits : goal.returns-clause-limits
returns-clause-limits g c = c.loop-entry.invariant.limits

pub returns-clause-numbered : goal.returns-clause-numbered
returns-clause-numbered g c = (rw (take_all c.loop-entry.entry-index c.args.entries.now (omega arith)) at c.loop-entry.invariant).numbered
