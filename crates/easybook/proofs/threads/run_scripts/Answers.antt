use Rattle.std.proofs.Common.{◌≡◌, List, ℕ, length, map, arith}
use Rattle.std.proofs.lemmas.Bool.Decides.{nat_tests}
use Rattle.std.proofs.lemmas.List.{length-map}
use Rattle.easybook.proofs.Histories.{all_along, along_as}
use Rattle.easybook.proofs.threads.run_scripts.Goals as goal

pub returns-in-Ok-clause-along : goal.returns-in-Ok-clause-along
returns-in-Ok-clause-along g c =
    let texts : List (List ℕ) = map (λ t. t.items) c.in_ok-sessions.field-0.texts.items in
    let count : length texts ≡ length g.J.Works.scripts = grind (arith, nat_tests, length-map c.in_ok-sessions.field-0.texts.items (λ t. t.items), c.in_ok-sessions.field-0.texts.ok, c.len.ensures, c.count-else-not-are_started.ensures, c.if-len-count.false) in
    along_as g.row.A.Denot _ _ _ _ _ _ texts c.requires.comments c.requires.opening c.requires.scripts
    (all_along g.row.A.Denot g.J.Works.comments g.J.Works.scripts g.J.Naming.opening _ texts _ _ _ c.in_ok-sessions.ensures.outputs c.in_ok-callers.ensures c.in-Ok.ensures.history c.in-Ok.ensures.outcome count)
