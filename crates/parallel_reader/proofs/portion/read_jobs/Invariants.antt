use Rattle.std.proofs.Common.{◌≡◌, ℕ, ◌+◌, ◌≤◌, List, ◌++◌, length, map, take}
use Rattle.swf_text.specs.Text.{lines}
use Rattle.parallel_reader.specs.Jobs.{AreJobs, job_of}
use Rattle.parallel_reader.proofs.portion.read_jobs.Given as goal

abbrev pub invariant-lines : goal.invariant-lines
invariant-lines l = record {
  front : List (List ℕ);
  whole : lines l.bytes ≡ front ++ lines l.rest;
  read : AreJobs front (map job_of (take l.count l.jobs));
  within : l.count ≤ length l.jobs;
  same : length l.jobs ≡ length l.fn.jobs;
  counted : l.lines ≡ length front;
  bound : l.lines + length l.rest ≤ length l.bytes;
}

abbrev pub decreases-lines : goal.decreases-lines
decreases-lines l = length l.rest
