use Rattle.std.proofs.Common.{refl}
use Rattle.job_table.specs.Edit.{edit_of}
use Rattle.job_table.specs.Names.{edit_fault_name}
use Rattle.book_machine.specs.declared.reply.Reply.TheVariants as reply
use Rattle.book_machine.specs.Call.{Edit}
use Rattle.scripts.specs.Answers.{edit_says}
use Rattle.scripts.proofs.CallAnswers.{call-refused}
use Rattle.scripts.proofs.calls.edit.Goals as goal

pub returns-in-Err : goal.returns-in-Err
returns-in-Err g c = call-refused g.S.Analyst.rules c.args.analyst.now c.edit.new.self (Edit (edit_of c.args.edit.now)) edit_says reply.Edited reply.EditRefused edit_fault_name (λ fault. refl) c.in-Err.refusal _ c.in-Err.ensures c.refused.ensures
