use Rattle.std.proofs.Common.{◌∙◌, ap, sym, refl}
use Rattle.event_loop.specs.Events.{Progress}
use Rattle.event_loop.proofs.engine.Engine.step_into.Goals as goal

pub returns-in_default-clause-none : goal.returns-in_default-clause-none
returns-in_default-clause-none g c =
    let f = sym (ap (λ (p : Progress). p.failed) c.self.view_is) ∙ c.if-self.false in
    (f, c.in_default.ensures.going f, refl)

pub work-requires-clause-next : goal.work-requires-clause-next
work-requires-clause-next g c = c.in-Some.ensures.going (sym (ap (λ (p : Progress). p.failed) c.self.view_is) ∙ c.if-self.false)

pub returns-clause-some : goal.returns-clause-some
returns-clause-some g c =
    let f = sym (ap (λ (p : Progress). p.failed) c.self.view_is) ∙ c.if-self.false in
    (f, c.in-Some.ensures.going f, c.in_ok-work.ensures.ok)
