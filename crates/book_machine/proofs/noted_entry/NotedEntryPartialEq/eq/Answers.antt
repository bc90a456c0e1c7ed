use Rattle.std.proofs.Common.{◌≡◌, ap, ◌∙◌}
use Rattle.swf_text.specs.Entry.{LogEntry}
use Rattle.book_machine.proofs.Same.{entry-compared}
use Rattle.book_machine.proofs.noted_entry.NotedEntryPartialEq.eq.Goals as goal

pub returns-then-eq : goal.returns-then-eq
returns-then-eq g c =
    let one : c.deref.result.now ≡ c.args.self.now = c.deref.ensures ∙ c.self.view_is in
    let two : c.deref-2.result.now ≡ c.args.other.now = c.deref-2.ensures ∙ c.other.view_is in
    let parts : c.deref-then-eq.result.now ≡ c.args.self.now = c.deref-then-eq.ensures ∙ c.self.view_is in
    let others : c.deref-then-eq-2.result.now ≡ c.args.other.now = c.deref-then-eq-2.ensures ∙ c.other.view_is in
    entry-compared c.args.self.now c.args.other.now c.main.result.now c.main-2.result.now c.parts.result.now c.parts-then-eq.result.now c.eq-then-eq.result
    (c.main.ensures.main ∙ ap (λ (e : LogEntry). e.main) one)
    (c.main-2.ensures.main ∙ ap (λ (e : LogEntry). e.main) two)
    (c.parts.ensures ∙ ap (λ (e : LogEntry). e.parts) parts)
    (c.parts-then-eq.ensures ∙ ap (λ (e : LogEntry). e.parts) others)
    c.if-eq.ensures
    c.eq-then-eq.ensures
