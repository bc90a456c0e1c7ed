use Rattle.std.proofs.Common.{◌≡◌, arith, subst, map, take, List}
use Rattle.std.proofs.lemmas.List.{take_all}
use Rattle.swf_text.specs.declared.packed.PackedLine.{PackedLine}
use Rattle.parallel_reader.specs.Jobs.{AddsJobs, job_of}
use Rattle.parallel_reader.proofs.Jobs.{extends_then, jobs_next}
use Rattle.parallel_reader.proofs.rising.add_jobs.Goals as goal

pub loop-job-preserved : goal.loop-job-preserved
loop-job-preserved g c =
    let h = c.loop-job.invariant in
    record {
      kept = extends_then c.args.entries.now.items c.loop-job.entries.items c.add_job.new.entries.items h.kept c.add_job.ensures.kept;
      below = c.in_ok-next.ensures.below;
      added = jobs_next c.args.entries.now.items c.loop-job.entries.items c.add_job.new.entries.items c.args.jobs.now c.loop-job.job-index _ (omega (arith, c.loop-job-test.true)) h.added c.in_ok-next.ensures.added;
    }

pub returns-clause-added : goal.returns-clause-added
returns-clause-added g c =
    let whole : take c.loop-job.job-index c.args.jobs.now ≡ c.args.jobs.now = take_all c.loop-job.job-index c.args.jobs.now (omega (arith, c.loop-job-test.false)) in
    subst (λ (js : List PackedLine). AddsJobs c.args.entries.now.items (map job_of js) c.loop-job.entries.items) whole c.loop-job.invariant.added
