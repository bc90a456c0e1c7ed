use Rattle.parallel_reader.proofs.Jobs.{portion_taken}
use Rattle.parallel_reader.proofs.piece.portions_of.Goals as goal

pub portions-preserved : goal.portions-preserved
portions-preserved g c = portion_taken c.portions.portions.items c.push.new.self.items c.split_portion.result.0 c.portions.rest.now c.split_portion.result.1.now c.args.bytes.now c.in_ok-push.ensures.items c.split_portion.ensures.lines c.portions.invariant
