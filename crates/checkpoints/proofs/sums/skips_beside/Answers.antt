use Rattle.std.proofs.Common.{length, sym, ◌∙◌, ap}
use Rattle.metrics.specs.declared.totals.Totals.{Totals}
use Rattle.checkpoints.proofs.Totals.{none-skipped}
use Rattle.checkpoints.proofs.sums.skips_beside.Goals as goal

pub returns-then-totals-len : goal.returns-then-totals-len
returns-then-totals-len g c =
    sym (none-skipped c.args.plan.now.log c.args.plan.now.scenario c.args.total.now c.table.ensures.sound c.requires (sym (ap (λ (t : Totals). t.count) c.totals.ensures.value) ∙ c.if-totals-len.true ∙ c.len.ensures.count ∙ ap length (c.deref.ensures ∙ c.table.ensures.table)))
