use Rattle.std.proofs.Common.{rules, ◌≡◌, List, length, map, ap, ◌∙◌}
use Rattle.std.proofs.lemmas.List.{length-map, map_push}
use Rattle.easybook.proofs.Histories.{one_more_of}
use Rattle.easybook.proofs.threads.take_output.Goals as goal

pub returns-clause-outputs : goal.returns-clause-outputs
returns-clause-outputs g c =
    let texts : List (List _) = map (λ t. t.items) c.args.texts.now.items in
    let number : c.into_both-session.result.0.number ≡ length texts = search (rules, length-map c.args.texts.now.items (λ t. t.items)) in
    one_more_of g.row.A.Denot g.J.Naming.opening g.J.Works.comments g.J.Works.scripts c.args.sessions.now.items texts _ _ _ _ c.requires number c.into_both-session.ensures c.in_ok-push.ensures.items (ap (map (λ t. t.items)) c.in_ok-push-2.ensures.items ∙ map_push (λ t. t.items) c.args.texts.now.items c.into_both-session.result.1)
