use Rattle.swf_text.specs.Text.{lines}
use Rattle.swf_text.proofs.Outcomes.{gives_text, gives_only, gives_fault}
use Rattle.swf_text.proofs.Kept.{gives_comments}
use Rattle.swf_text.proofs.assembly.assemble.Goals as goal

pub returns-clause-text : goal.returns-clause-text
returns-clause-text g c = gives_text c.add_all.result (lines c.args.bytes.now) c.add_all.ensures.exact

pub returns-clause-only : goal.returns-clause-only
returns-clause-only g c = gives_only c.add_all.result (lines c.args.bytes.now) c.add_all.ensures.exact

pub returns-clause-fault : goal.returns-clause-fault
returns-clause-fault g c = gives_fault c.add_all.result (lines c.args.bytes.now) c.add_all.ensures.exact

pub returns-clause-comments : goal.returns-clause-comments
returns-clause-comments g c = gives_comments c.args.bytes.now c.add_all.result (gives_text c.add_all.result (lines c.args.bytes.now) c.add_all.ensures.exact)
