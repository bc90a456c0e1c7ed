use Rattle.std.proofs.Common.{rules, ◌≡◌, true, false, refl}
use Rattle.workers.proofs.Closed.{opened_all}
use Rattle.workers.proofs.roster.are_opened.Goals as goal

pub returns-then-not-is_kept : goal.returns-then-not-is_kept
returns-then-not-is_kept g c =
    let no : c.is_kept.result ≡ false = search rules in
    ((λ t kept. let k : c.args.shared.now.history.kept ≡ true = kept in let is = c.is_kept.ensures.kept in cc), (λ o. refl))

pub returns : goal.returns
returns g c =
    let kept : c.args.shared.now.history.kept ≡ true = search rules in
    let one = c.is_kept.ensures.tied kept in
    let both = opened_all c.args.sessions.now c.args.workers.now _ _ _ _ one.sessions one.workers in
    ((λ t k. both.1 (c.are_all.ensures.0 t)), (λ o. c.are_all.ensures.1 (both.0 (o kept))))
