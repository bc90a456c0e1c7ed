use Rattle.std.proofs.Common.{◌≡◌, ◌≤◌, max, drop}
use Rattle.swf_text.specs.Limits.{whole_limit}
use Rattle.easy_rule.specs.Simulation.{last_submit}
use Rattle.oracle_runs.proofs.last_second.last_submit.Given as goal

abbrev pub invariant-loop-job : goal.invariant-loop-job
invariant-loop-job l = record {
  value : max l.last (last_submit (drop l.job-index l.jobs)) ≡ last_submit l.jobs;
  limit : l.last ≤ whole_limit;
}
