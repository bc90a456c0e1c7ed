use Rattle.std.proofs.Common.{arith}
use Rattle.book_machine.specs.Machine.{opened}
use Rattle.book_machine.proofs.Given.{tickets_rise}
use Rattle.book_machine.proofs.laws.no_ticket_is_given_twice.Goals as goal

pub returns : goal.returns
returns c = λ log notes legal. tickets_rise (opened log) notes 0 legal (omega arith)
