use Rattle.std.proofs.Common.{rules, ◌≡◌, map, sym, ◌∙◌, ap, ℕ, IsTrue}
use Rattle.book_machine.specs.declared.caller.Caller.TheVariants as caller
use Rattle.book_machine.specs.Noted.{noted_of}
use Rattle.workers.specs.Callers.{SessionView}
use Rattle.workers.specs.Lists.{part_of}
use Rattle.workers.proofs.Portions.{more}
use Rattle.workers.proofs.listing.sessions_tell.Goals as goal

pub loop-session-preserved : goal.loop-session-preserved
loop-session-preserved g c =
    let notes = map noted_of c.args.notes.now in
    let yes : IsTrue c.is_part.result = search rules in
    let here = sym c.list.ensures ∙ (c.is_part.ensures.0 yes ∙ ap (λ (n : ℕ). part_of (caller.Session n) notes) c.number.ensures) in
    more (λ (s : SessionView). s.list ≡ part_of (caller.Session s.number) notes) c.args.sessions.now c.loop-session.session-index c.session-item.result c.loop-session.invariant c.loop-session-test.true c.session-item.is here
