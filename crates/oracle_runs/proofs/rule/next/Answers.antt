use Rattle.std.proofs.Common.{◌≡◌, ◌≤◌, ◌<◌, ◌∷◌, ◌∙◌, sym}
use Rattle.std.proofs.lemmas.List.Elements.{All-head}
use Rattle.scenarios.specs.Job.{EffectiveJob}
use Rattle.scenarios.specs.declared.order.Order.TheVariants.{Arrival, Shortest}
use Rattle.cluster_state.specs.State.{State, free}
use Rattle.easy_rule.proofs.Lemmas.{shadow_time-IsLeast}
use Rattle.oracle_runs.proofs.Choice.{next-later}
use Rattle.oracle_runs.proofs.rule.next.Goals as goal

pub overflow_sub-gap : goal.overflow_sub-gap
overflow_sub-gap g c =
    let s : State = c.args.state.now in
    let head : EffectiveJob = c.in-Some.head.now in
    let queue : s.waiting ≡ head ∷ c.in-Some.later.now = sym c.waiting.ensures.jobs ∙ c.in-Some.ensures.cases.0 in
    let fits : head.size ≤ s.procs = All-head (λ (j : EffectiveJob). j.size ≤ s.procs) head c.in-Some.later.now (rw queue at c.waiting.ensures.sound.waiting_fit) in
    rw (c.available.ensures, c.shadow_time-shadow.ensures, c.size-2.ensures.value, c.size-3.ensures.value) (shadow_time-IsLeast s head.size c.waiting.ensures.sound.fits fits).holds

pub returns-in-Arrival-clause-next : goal.returns-in-Arrival-clause-next
returns-in-Arrival-clause-next g c =
    let s : State = c.args.state.now in
    let head : EffectiveJob = c.in-Some.head.now in
    let queue : s.waiting ≡ head ∷ c.in-Some.later.now = sym c.waiting.ensures.jobs ∙ c.in-Some.ensures.cases.0 in
    let waits : free s < head.size = rw (c.size.ensures.value, c.free-free.ensures.value) at c.if-size-free.false in
    rw (c.first.ensures, c.available.ensures, c.shadow_time-shadow.ensures, c.free-free.ensures.value, c.size-2.ensures.value, c.size-3.ensures.value)
    (sym (next-later s c.args.now head c.in-Some.later.now Arrival queue waits (sym c.order.ensures ∙ c.in-Arrival.is)))

pub returns-in-Shortest-clause-next : goal.returns-in-Shortest-clause-next
returns-in-Shortest-clause-next g c =
    let s : State = c.args.state.now in
    let head : EffectiveJob = c.in-Some.head.now in
    let queue : s.waiting ≡ head ∷ c.in-Some.later.now = sym c.waiting.ensures.jobs ∙ c.in-Some.ensures.cases.0 in
    let waits : free s < head.size = rw (c.size.ensures.value, c.free-free.ensures.value) at c.if-size-free.false in
    rw (c.shortest.ensures, c.available.ensures, c.shadow_time-shadow.ensures, c.free-free.ensures.value, c.size-2.ensures.value, c.size-3.ensures.value)
    (sym (next-later s c.args.now head c.in-Some.later.now Shortest queue waits (sym c.order.ensures ∙ c.in-Shortest.is)))
