use Rattle.easybook.proofs.Unrefusals.{it_is_an_answer, there_is_one_answer}
use Rattle.easybook.proofs.laws.script_law.Goals as goal

pub returns-clause-one : goal.returns-clause-one
returns-clause-one g c = there_is_one_answer g.row.A.Denot

pub returns-clause-answer : goal.returns-clause-answer
returns-clause-answer g c = it_is_an_answer g.row.A.Denot
