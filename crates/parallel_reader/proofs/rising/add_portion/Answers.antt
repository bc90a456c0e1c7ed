use Rattle.std.proofs.Common.{List, arith, ap, subst, map, take, length}
use Rattle.std.specs.Prelude.{IfSome}
use Rattle.swf_text.specs.declared.packed.PackedLine.{PackedLine}
use Rattle.parallel_reader.specs.Jobs.{AddsJobs, job_of}
use Rattle.parallel_reader.proofs.Jobs.{portion_read}
use Rattle.parallel_reader.proofs.rising.add_portion.Goals as goal

pub returns-in-Some-clause-added : goal.returns-in-Some-clause-added
returns-in-Some-clause-added g c = portion_read c.args.entries.now.items c.add_jobs.new.entries.items c.args.jobs.now.jobs c.args.jobs.now.count c.in-Some.counts c.add_jobs.result c.in-Some.is _ (λ le. omega (arith, le, c.min.ensures, ap length c.as_slice-read.ensures)) (subst (λ (js : List PackedLine). IfSome c.add_jobs.result (λ later. AddsJobs c.args.entries.now.items (map job_of (take c.min.result js)) c.add_jobs.new.entries.items)) c.as_slice-read.ensures c.add_jobs.ensures.added)
