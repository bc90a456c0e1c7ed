use Rattle.std.proofs.Common.{arith, ◌∙◌}
use Rattle.parallel_reader.proofs.Fronts.{filled_on, filled_same, front_kept}
use Rattle.parallel_reader.proofs.filling.fill_behind.Goals as goal

pub reads-preserved-in-Ok : goal.reads-preserved-in-Ok
reads-preserved-in-Ok g c =
    let h = c.reads.invariant in
    let front = c.read_at.ensures.front in
    record {
      same = c.read_at.ensures.same ∙ h.same;
      front = front_kept c.reads.buffer c.read_at.new.buffer c.args.at c.reads.filled h.low front ∙ h.front;
      low = omega (arith, h.low);
      high = c.in-Ok.ensures.fits;
      given = filled_on _ _ _ c.reads.buffer c.read_at.new.buffer c.args.at c.reads.filled c.in-Ok.more h.low (omega (arith, h.high, c.read_at.ensures.same)) front h.given c.in-Ok.ensures.given;
      few = h.few;
    }

pub returns-then-ne-clause-front : goal.returns-then-ne-clause-front
returns-then-ne-clause-front g c = front_kept c.reads.buffer c.read_at.new.buffer c.args.at c.reads.filled c.reads.invariant.low c.read_at.ensures.front ∙ c.reads.invariant.front

pub reads-preserved : goal.reads-preserved
reads-preserved g c =
    let h = c.reads.invariant in
    record {
      same = c.read_at.ensures.same ∙ h.same;
      front = front_kept c.reads.buffer c.read_at.new.buffer c.args.at c.reads.filled h.low c.read_at.ensures.front ∙ h.front;
      low = h.low;
      high = omega (arith, h.high, c.read_at.ensures.same);
      given = filled_same _ _ _ c.reads.buffer c.read_at.new.buffer c.args.at c.reads.filled c.read_at.ensures.front h.given c.in-Err.ensures.kept;
      few = omega (arith, c.if-interrupts-ge-MOST_INTERRUPTS.false);
    }
