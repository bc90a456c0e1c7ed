use Rattle.std.proofs.Common.{map}
use Rattle.easybook.proofs.Choices.{rows-found}
use Rattle.easybook.proofs.words.matched.Goals as goal

pub returns-in-Ok-clause-rows : goal.returns-in-Ok-clause-rows
returns-in-Ok-clause-rows c = rows-found _ (map (λ w. w.now) c.args.words.now) c.in-Ok.matches c.in_ok-command.ensures c.in-Ok.ensures.matches
