use Rattle.std.proofs.Common.{rules}
use Rattle.std.proofs.lemmas.Fn.{filter_same}
use Rattle.version_book.proofs.lookups.hide.Goals as goal

pub returns-clause-shown : goal.returns-clause-shown
returns-clause-shown g c = filter_same _ _ _ (λ x b f' k. search rules) _ _ c.retain.ensures.filtered
