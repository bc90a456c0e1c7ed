use Rattle.std.proofs.Common.{map, take}
use Rattle.parallel_reader.specs.Jobs.{Below, AddsJobs, Extends, job_of}
use Rattle.parallel_reader.proofs.rising.add_jobs.Given as goal

abbrev pub invariant-loop-job : goal.invariant-loop-job
invariant-loop-job g l = record {
  kept : Extends l.fn.entries.items l.entries.items;
  below : Below l.next l.entries.items;
  added : AddsJobs l.fn.entries.items (map job_of (take l.job-index l.jobs)) l.entries.items;
}
