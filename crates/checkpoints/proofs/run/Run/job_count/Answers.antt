use Rattle.std.proofs.Common.{length, ap, ◌∙◌, arith}
use Rattle.metrics.specs.Tables.{TableRows}
use Rattle.scenarios.specs.Plan.{jobs_of}
use Rattle.checkpoints.specs.RunView.{RunView}
use Rattle.checkpoints.proofs.Counting.{kept-counted}
use Rattle.checkpoints.proofs.run.Run.job_count.Goals as goal

pub kept_of-requires : goal.kept_of-requires
kept_of-requires g c =
    let skips = ap (λ o. o.skips) c.overall.ensures ∙ ap (λ (t : TableRows). t.overall.skips) c.self.invariant.0.tables.2 in
    omega (arith, kept-counted c.self.inside.plan.log c.self.inside.plan.scenario _ _ skips (c.len.ensures.count ∙ ap length (c.deref.ensures ∙ c.table.ensures.table)))

pub returns : goal.returns
returns g c =
    let skips = ap (λ o. o.skips) c.overall.ensures ∙ ap (λ (t : TableRows). t.overall.skips) c.self.invariant.0.tables.2 in
    let counted = kept-counted c.self.inside.plan.log c.self.inside.plan.scenario _ _ skips (c.len.ensures.count ∙ ap length (c.deref.ensures ∙ c.table.ensures.table)) in
    omega (arith, counted, c.kept_of.ensures, ap (λ (r : RunView). length (jobs_of r.log r.scenario)) c.self.view_is)
