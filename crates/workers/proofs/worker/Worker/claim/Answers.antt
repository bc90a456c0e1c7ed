use Rattle.std.proofs.Common.{rules, ◌≡◌}
use Rattle.std.specs.Prelude.{Err}
use Rattle.workers.specs.declared.worker.WorkerEnd.TheVariants as ends
use Rattle.workers.proofs.Ending.{works_nothing}
use Rattle.workers.proofs.worker.Worker.claim.Goals as goal

pub returns-in_err-reserve_call-clause-history : goal.returns-in_err-reserve_call-clause-history
returns-in_err-reserve_call-clause-history g c =
    let e : c.from_residual.result ≡ Err ends.Memory = search rules in
    rw (← c.self.view_is, e) (works_nothing g.J.Naming.opening _)
