use Rattle.std.proofs.Common.{arith, subst}
use Rattle.scripts.specs.Hearing.{Reads}
use Rattle.scripts.specs.declared.hearing.LineEnd.{LineEnd}
use Rattle.scripts.proofs.Hearings.{grown}
use Rattle.scripts.proofs.hearing.next_line.Goals as goal

pub loop-preserved : goal.loop-preserved
loop-preserved g c =
    let more = grown (g.R.Read.remaining c.args.reader.now) (g.R.Read.remaining c.loop.reader) (g.R.Read.remaining c.read_part.new.reader) c.loop.line.bytes.items c.read_part.new.line.bytes.items c.in_ok-end.end c.loop.invariant.read c.loop.invariant.one_line c.in_ok-end.ensures in
    record {
      read = subst (λ (end : LineEnd). Reads (g.R.Read.remaining c.args.reader.now) (g.R.Read.remaining c.read_part.new.reader) c.read_part.new.line.bytes.items end) c.in-Open.is more.is_read;
      one_line = more.one_line;
      short = omega (arith, c.spare.ensures, c.if-spare-eq0.false);
    }
