use Rattle.checkpoints.proofs.Worked.{piece-run, piece-spans, piece-noted}
use Rattle.checkpoints.proofs.cutting.next_piece.Goals as goal

pub returns-clause-run : goal.returns-clause-run
returns-clause-run g c =
    piece-run c.args.engine.now c.work.new.engine c.new.result c.position-first.result c.in_ok-before.before c.in_ok-starts.field-0.starts.items c.in_ok-starts.field-0.placed.items c.in_ok-part.part c.new.ensures c.in_ok-starts.ensures.stretch

pub returns-clause-spans : goal.returns-clause-spans
returns-clause-spans g c =
    piece-spans c.args.engine.now c.work.new.engine c.new.result c.position-first.result c.in_ok-before.before c.in_ok-starts.field-0.starts.items c.in_ok-starts.field-0.placed.items c.as_slice.result.now c.in_ok-part.part c.new.ensures
    c.in_ok-starts.ensures.stretch c.position-first.ensures c.as_slice.ensures.value c.in_ok-part.ensures

pub returns-clause-noted : goal.returns-clause-noted
returns-clause-noted g c =
    piece-noted c.args.engine.now.plan c.args.engine.now.position c.new.result c.position-first.result c.in_ok-before.before c.in_ok-starts.field-0.starts.items c.in_ok-part.part c.new.ensures c.position-first.ensures c.in_ok-before.ensures.noted
