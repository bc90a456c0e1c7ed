use Rattle.std.proofs.Common.{arith}
use Rattle.parallel_reader.proofs.Jobs.{all_none, extends_none, extends_then, portions_all, portions_at}
use Rattle.parallel_reader.proofs.rising.add_portions.Goals as goal

pub loop-portion-init : goal.loop-portion-init
loop-portion-init g c = record { kept = extends_none c.args.entries.now.items; below = c.requires; added = λ ps count read. all_none c.args.entries.now.items }

pub loop-portion-preserved : goal.loop-portion-preserved
loop-portion-preserved g c =
    let h = c.loop-portion.invariant in
    record {
      kept = extends_then c.args.entries.now.items c.loop-portion.entries.items c.add_portion.new.entries.items h.kept c.add_portion.ensures.kept;
      below = c.in_ok-next.ensures.below;
      added = portions_at c.args.entries.now.items c.loop-portion.entries.items c.add_portion.new.entries.items c.args.jobs.now c.loop-portion.portion-index _ (omega (arith, c.loop-portion-test.true)) h.added c.in_ok-next.ensures.added;
    }

pub returns-in_err-next-clause-kept : goal.returns-in_err-next-clause-kept
returns-in_err-next-clause-kept g c = extends_then c.args.entries.now.items c.loop-portion.entries.items c.add_portion.new.entries.items c.loop-portion.invariant.kept c.add_portion.ensures.kept

pub returns-clause-added : goal.returns-clause-added
returns-clause-added g c = portions_all c.args.entries.now.items c.loop-portion.entries.items c.args.jobs.now c.loop-portion.portion-index (omega (arith, c.loop-portion-test.false)) c.loop-portion.invariant.added
