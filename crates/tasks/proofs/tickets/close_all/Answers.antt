use Rattle.std.proofs.Common.{rules}
use Rattle.std.proofs.lemmas.Fn.{filter_same}
use Rattle.tasks.proofs.tickets.close_all.Goals as goal

pub returns-clause-tickets : goal.returns-clause-tickets
returns-clause-tickets g c = filter_same _ _ _ (λ x b f' k. search rules) _ _ c.retain.ensures.filtered
