use Rattle.std.proofs.Common.{rules, ◌≡◌, false, IsTrue}
use Rattle.workers.proofs.Portions.{refuses}
use Rattle.workers.proofs.listing.is_answered.Goals as goal

pub returns-then-not-sessions_tell : goal.returns-then-not-sessions_tell
returns-then-not-sessions_tell g c =
    let no : c.sessions_tell.result ≡ false = search rules in
    refuses c.sessions_tell.result _ _ c.sessions_tell.ensures no (λ t. t.by_sessions)

pub returns-then-not-workers_tell : goal.returns-then-not-workers_tell
returns-then-not-workers_tell g c =
    let no : c.workers_tell.result ≡ false = search rules in
    refuses c.workers_tell.result _ _ c.workers_tell.ensures no (λ t. t.by_workers)

pub returns : goal.returns
returns g c =
    let sessions : IsTrue c.sessions_tell.result = search rules in
    let workers : IsTrue c.workers_tell.result = search rules in (
      (λ known. record { by_sessions = c.sessions_tell.ensures.0 sessions; by_workers = c.workers_tell.ensures.0 workers; known = c.are_known.ensures.0 known }),
      (λ t. c.are_known.ensures.1 t.known),
    )
