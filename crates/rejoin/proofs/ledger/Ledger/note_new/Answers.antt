use Rattle.timeline.proofs.Lemmas.{ledgers-swap}
use Rattle.rejoin.specs.Started.{among, EachHasEnded}
use Rattle.rejoin.proofs.Keeping.{keeps-swapped}
use Rattle.std.proofs.Common.{◌↔◌, ◌≤◌, ◌++◌, subst}
use Rattle.scenarios.specs.Plan.{Plan}
use Rattle.rejoin.proofs.ledger.Ledger.note_new.Goals as goal

pub returns-clause-others : goal.returns-clause-others
returns-clause-others g c from new others ok early k =
    let change = c.args.change.now in
    keeps-swapped ledgers-swap (among change.touched) change.is.jobs (new ++ c.args.starts.now) others from _ _ _
    (c.in_ok-note_all.ensures from new others ok early (keeps-swapped ledgers-swap (among change.touched) change.is.jobs others new from c.args.self.now.was c.args.self.now.is c.args.self.now.until k))

pub returns-clause-ended : goal.returns-clause-ended
returns-clause-ended g c early t =
    let change = c.args.change.now in
    subst (λ (p : Plan). (c.note_touched.new.ended ≤ t) ↔ ((c.args.self.now.ended ≤ t) × EachHasEnded change.touched p.jobs c.args.starts.now t)) c.plan-plan.ensures.plan (c.note_touched.ensures.ended early t)
