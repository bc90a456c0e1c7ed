use Rattle.std.proofs.Common.{◌∙◌, sym}
use Rattle.cluster_state.proofs.Lemmas.{without-none, without-some}
use Rattle.oracle_runs.proofs.state.take_out.Goals as goal

pub returns-in-None : goal.returns-in-None
returns-in-None g c = sym (without-none c.args.number c.args.jobs.now.items (rw c.deref.ensures.value at (sym c.in-None.ensures)))

pub returns-in-Some : goal.returns-in-Some
returns-in-Some g c = c.remove.ensures.items ∙ sym (without-some c.args.number c.in-Some.place c.args.jobs.now.items (rw c.deref.ensures.value at (sym c.in-Some.ensures)))
