use Rattle.std.proofs.Common.{rules, ◌≡◌, ◌∙◌, ap, refl, subst, sym}
use Rattle.std.specs.Prelude.{Ok, Err}
use Rattle.workers.specs.declared.worker.WorkerEnd.TheVariants as ends
use Rattle.workers.specs.declared.worker.WorkerEnd.{WorkerEnd}
use Rattle.workers.specs.Callers.{WorkerView}
use Rattle.workers.specs.History.{Leaves, Works}
use Rattle.workers.specs.Work.{WorksOn, WorksThrough}
use Rattle.workers.proofs.Ending.{leaves, leaves_stopped, works_on, works_same}
use Rattle.workers.proofs.Works.{on_after_through, through_after_through, through_stays}
use Rattle.workers.proofs.worker.Worker.run.Goals as goal

pub returns-then-eq-clause-list : goal.returns-then-eq-clause-list
returns-then-eq-clause-list g c = on_after_through _ _ _ c.loop.invariant.2 c.round.ensures.on

pub returns-then-eq-clause-stopped : goal.returns-then-eq-clause-stopped
returns-then-eq-clause-stopped g c = λ e.
    let stopped : c.round.result ≡ Err ends.Stopped = search rules in
    through_after_through _ _ _ c.loop.invariant.2 (c.round.ensures.stopped stopped)

pub returns-then-eq-clause-history : goal.returns-then-eq-clause-history
returns-then-eq-clause-history g c =
    let stopped : c.in-Err.end ≡ ends.Stopped = search rules in
    let works = works_on g.J.Naming.opening _ c.loop.self.front c.round.new.self.front (Err c.in-Err.end) c.loop.invariant.4 c.in-Err.ensures.history in
    subst (λ (end : WorkerEnd). Leaves g.J.Naming.opening c.args.self.now.front end c.round.new.self.front) (sym stopped)
    (leaves_stopped g.J.Naming.opening _ _ (subst (λ (end : WorkerEnd). Works g.J.Naming.opening c.args.self.now.front (Err end) c.round.new.self.front) stopped works))

pub returns-in-Err-clause-list : goal.returns-in-Err-clause-list
returns-in-Err-clause-list g c = subst (WorksOn c.args.self.now.list) (sym (ap (λ (w : WorkerView). w.list) c.stop.ensures.same)) (on_after_through _ _ _ c.loop.invariant.2 c.round.ensures.on)

pub returns-in-Err-clause-stopped : goal.returns-in-Err-clause-stopped
returns-in-Err-clause-stopped g c = λ e.
    let stopped : c.round.result ≡ Err ends.Stopped = search rules in
    subst (WorksThrough c.args.self.now.list) (sym (ap (λ (w : WorkerView). w.list) c.stop.ensures.same)) (through_after_through _ _ _ c.loop.invariant.2 (c.round.ensures.stopped stopped))

pub returns-in-Err-clause-history : goal.returns-in-Err-clause-history
returns-in-Err-clause-history g c =
    let works = works_on g.J.Naming.opening _ c.loop.self.front c.round.new.self.front (Err c.in-Err.end) c.loop.invariant.4 c.in-Err.ensures.history in
    leaves g.J.Naming.opening _ c.round.new.self.front c.stop.new.self.front c.in-Err.end works c.stop.ensures.front

pub loop-init : goal.loop-init
loop-init g c = (tt, tt, through_stays _ _ refl, refl, works_same g.J.Naming.opening _)

pub loop-preserved : goal.loop-preserved
loop-preserved g c =
    let through : WorksThrough c.loop.self.list c.round.new.self.list = c.in_default.ensures.through in
    let on = works_on g.J.Naming.opening _ c.loop.self.front c.round.new.self.front (Ok tt) c.loop.invariant.4 c.in_default.ensures.history in
    (tt, tt, through_after_through _ _ _ c.loop.invariant.2 through, c.round.ensures.number ∙ c.loop.invariant.3, on)
