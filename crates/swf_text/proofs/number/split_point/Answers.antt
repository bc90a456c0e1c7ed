use Rattle.swf_text.proofs.Numbers.{whole_found, fraction_found, whole_none, fraction_none}
use Rattle.swf_text.proofs.number.split_point.Goals as goal

pub returns-in-Some-clause-whole : goal.returns-in-Some-clause-whole
returns-in-Some-clause-whole c = whole_found c.args.bytes.now _ c.in-Some.ensures

pub returns-in-Some-clause-fraction : goal.returns-in-Some-clause-fraction
returns-in-Some-clause-fraction c = fraction_found c.args.bytes.now _ c.in-Some.ensures

pub returns-in-None-clause-whole : goal.returns-in-None-clause-whole
returns-in-None-clause-whole c = whole_none c.args.bytes.now c.in-None.ensures

pub returns-in-None-clause-fraction : goal.returns-in-None-clause-fraction
returns-in-None-clause-fraction c = fraction_none c.args.bytes.now _ _ c.in-None.ensures
