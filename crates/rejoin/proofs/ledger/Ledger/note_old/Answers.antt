use Rattle.std.proofs.Common.{◌↔◌, ◌≤◌, subst}
use Rattle.scenarios.specs.Plan.{Plan}
use Rattle.rejoin.specs.Started.{EachHasEnded}
use Rattle.rejoin.proofs.ledger.Ledger.note_old.Goals as goal

pub returns-clause-others : goal.returns-clause-others
returns-clause-others g c = c.in_ok-note_all.ensures

pub returns-clause-ended : goal.returns-clause-ended
returns-clause-ended g c early t =
    let change = c.args.change.now in
    subst (λ (p : Plan). (c.note_touched.new.ended ≤ t) ↔ ((c.args.self.now.ended ≤ t) × EachHasEnded change.touched p.jobs c.args.starts.now t)) c.old_plan-plan.ensures.plan (c.note_touched.ensures.ended early t)
