use Rattle.std.proofs.Common.{arith}
use Rattle.easybook.proofs.Beguns.{begun-past, begun-within}
use Rattle.easybook.proofs.input.begin_input.Goals as goal

pub returns-then-saturating_add-limit-clause-fault : goal.returns-then-saturating_add-limit-clause-fault
returns-then-saturating_add-limit-clause-fault g c =
    let begun = c.in_ok-begun.begun in
    begun-past (g.R.Read.remaining c.args.reader) c.args.limit begun.front begun.rest.items c.in_ok-begun.ensures.front (omega (arith, c.if-saturating_add-limit.true, c.saturating_add.ensures, c.bytes.ensures, c.len.ensures, begun.rest.ok.0))

pub returns-clause-whole : goal.returns-clause-whole
returns-clause-whole g c =
    let begun = c.in_ok-begun.begun in
    begun-within (g.R.Read.remaining c.args.reader) c.args.limit begun.front begun.rest.items c.in_ok-begun.ensures.front (omega (arith, c.requires, c.if-saturating_add-limit.false, c.saturating_add.ensures, c.bytes.ensures, c.len.ensures, begun.rest.ok.0))
