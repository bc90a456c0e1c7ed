use Rattle.std.proofs.Common.{rules, ◌≡◌, ◌∙◌, true, false, IsTrue, List, ap, drop, map, sym, subst}
use Rattle.book_machine.specs.History.{Noted}
use Rattle.book_machine.specs.Noted.{noted_of}
use Rattle.chronicle.specs.Events.{notes_of}
use Rattle.workers.specs.Closing.{IsAnswered}
use Rattle.workers.proofs.Portions.{later, refuses}
use Rattle.workers.proofs.closing.is_theirs.Goals as goal

pub returns-then-not-is_kept : goal.returns-then-not-is_kept
returns-then-not-is_kept g c =
    let no : c.is_kept.result ≡ false = search rules in
    ((λ f. cc), (λ t. let kept : c.args.shared.now.history.kept ≡ true = t.kept in let is = c.is_kept.ensures.kept in cc))

pub returns-then-not-sessions_begin : goal.returns-then-not-sessions_begin
returns-then-not-sessions_begin g c =
    let no : c.sessions_begin.result ≡ false = search rules in
    rw (← c.shared.view_is) (refuses c.sessions_begin.result _ _ c.sessions_begin.ensures no (λ t. t.sessions_begin))

pub returns-then-not-workers_begin : goal.returns-then-not-workers_begin
returns-then-not-workers_begin g c =
    let no : c.workers_begin.result ≡ false = search rules in
    rw (← c.shared.view_is) (refuses c.workers_begin.result _ _ c.workers_begin.ensures no (λ t. t.workers_begin))

pub returns : goal.returns
returns g c =
    let kept : c.args.shared.now.history.kept ≡ true = search rules in
    let sessions : IsTrue c.sessions_begin.result = search rules in
    let workers : IsTrue c.workers_begin.result = search rules in
    let one = c.is_kept.ensures.tied kept in
    let journal : map noted_of c.journal.result.now ≡ c.args.shared.now.book.journal = rw (← c.shared.view_is) c.journal.ensures in
    let notes = later c.journal.result.now c.later_notes.result.now c.args.opening c.args.shared.now.book.journal c.later_notes.ensures journal in
    let same : map noted_of c.later_notes.result.now ≡ notes_of c.args.shared.now.history.events =
    notes ∙ (ap (λ n. drop n c.args.shared.now.book.journal) c.requires ∙ sym one.notes) in (
      (λ outcome. record { kept = kept; sessions_begin = rw (← c.shared.view_is) (c.sessions_begin.ensures.0 sessions); workers_begin = rw (← c.shared.view_is) (c.workers_begin.ensures.0 workers); lists = subst (λ (ns : List Noted). IsAnswered c.args.sessions.now c.args.workers.now ns) same (c.is_answered.ensures.0 outcome) }),
      (λ t. c.is_answered.ensures.1 (subst (λ (ns : List Noted). IsAnswered c.args.sessions.now c.args.workers.now ns) (sym same) t.lists)),
    )
