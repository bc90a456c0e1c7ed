use Rattle.std.proofs.Common.{◌≤◌, length, arith}
use Rattle.std.specs.Fmt.{decimal}
use Rattle.std.proofs.lemmas.Fmt.{length-decimal-le}
use Rattle.report.proofs.Lines.{right-blank, right-put}
use Rattle.report.proofs.line.put_right.Goals as goal

pub write_digits-start-requires : goal.write_digits-start-requires
write_digits-start-requires c =
    let short : length (decimal c.args.number) ≤ 20 = length-decimal-le 20 c.args.number (omega arith) (omega (arith, c.ranges.number.fits)) c.ranges.number.fits in
    (omega (arith, short, c.requires.capacity), omega (arith, c.fits-line, c.requires.within))

pub returns-clause-least : goal.returns-clause-least
returns-clause-least c =
    let short : length (decimal c.args.number) ≤ 20 = length-decimal-le 20 c.args.number (omega arith) (omega (arith, c.ranges.number.fits)) c.ranges.number.fits in
    omega (arith, short, c.write_digits-start.ensures.start, c.min.ensures, c.requires.narrow)

pub returns-clause-written : goal.returns-clause-written
returns-clause-written c =
    right-put c.args.line.now c.write_digits-start.new.buf (decimal c.args.number) c.write_digits-start.result c.args.end c.args.width c.min.result
    c.write_digits-start.ensures.start c.write_digits-start.ensures.written c.write_digits-start.ensures.before c.requires.blank c.min.ensures (omega (arith, c.requires.narrow, c.requires.capacity))

pub returns-clause-blank : goal.returns-clause-blank
returns-clause-blank c =
    right-blank c.args.line.now c.write_digits-start.new.buf (decimal c.args.number) c.write_digits-start.result c.args.end c.min.result
    c.write_digits-start.ensures.start (omega (arith, c.min.ensures)) c.write_digits-start.ensures.before c.requires.blank
