use Rattle.job_table.proofs.Lookups.{next-table}
use Rattle.job_table.proofs.cursor.CursorIterator.next.Goals as goal

pub invariant_of-self-2 : goal.invariant_of-self-2
invariant_of-self-2 g c = next-table c.self.inside.rest c.next.new.self c.in_ok-entry.entry.now c.in_ok-entry.ensures.steps c.self.invariant
