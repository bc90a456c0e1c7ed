use Rattle.swf_text.proofs.Headers.{first_found, found_first}
use Rattle.swf_text.proofs.header.header_number.Goals as goal

pub returns-clause-first : goal.returns-clause-first
returns-clause-first g c = first_found c.args.label.now c.args.text.now.comments c.first_number.result c.first_number.ensures

pub returns-clause-only : goal.returns-clause-only
returns-clause-only g c n h = found_first c.args.label.now c.args.text.now.comments c.first_number.result c.first_number.ensures n h
