use Rattle.std.proofs.Common.{◌∙◌}
use Rattle.swf_text.proofs.Seens.{greater_absent, searched_any}
use Rattle.swf_text.proofs.seen.is_among.Goals as goal

pub returns-then-is_greater : goal.returns-then-is_greater
returns-then-is_greater c = greater_absent c.args.rising.now c.args.number (c.is_greater.ensures c.if-is_greater.true)

pub returns : goal.returns
returns c = c.is_ok.ensures.value ∙ searched_any c.args.rising.now c.args.number c.binary_search.result c.requires c.binary_search.ensures.position
