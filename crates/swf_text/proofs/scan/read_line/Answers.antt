use Rattle.std.proofs.Common.{sym, subst, ◌∙◌}
use Rattle.swf_text.specs.Line.{IsReadAs}
use Rattle.swf_text.proofs.Lines.{IsReadAs-line_of, line_of-IsReadAs, short_line}
use Rattle.swf_text.proofs.scan.read_line.Goals as goal

pub returns-clause-read : goal.returns-clause-read
returns-clause-read c = subst (IsReadAs c.args.line.now) (short_line c.args.line.now c.if-line-gt-LINE_LIMIT.false ∙ sym c.line_within.ensures) (IsReadAs-line_of c.args.line.now)

pub returns-clause-only : goal.returns-clause-only
returns-clause-only c read is = c.line_within.ensures ∙ sym (short_line c.args.line.now c.if-line-gt-LINE_LIMIT.false) ∙ line_of-IsReadAs c.args.line.now read is
