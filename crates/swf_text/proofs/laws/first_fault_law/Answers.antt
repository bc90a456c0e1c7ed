use Rattle.swf_text.proofs.Faults.{one_of_two, no_text, least, unique}
use Rattle.swf_text.proofs.laws.first_fault_law.Goals as goal

pub returns-clause-either : goal.returns-clause-either
returns-clause-either c = one_of_two

pub returns-clause-not_both : goal.returns-clause-not_both
returns-clause-not_both c = no_text

pub returns-clause-least : goal.returns-clause-least
returns-clause-least c = least

pub returns-clause-unique : goal.returns-clause-unique
returns-clause-unique c = unique
