use Rattle.std.proofs.Common.{◌∙◌, sym, ap, List, Some, slice_get, option_copied}
use Rattle.scenarios.specs.declared.placed.Placed.{Placed}
use Rattle.blocks.specs.Rows.{flat}
use Rattle.cluster_state.proofs.NumberLemmas.{runners-is}
use Rattle.cluster_state.proofs.running_set.RunningSet.at.Goals as goal

pub returns-in_err-runner : goal.returns-in_err-runner
returns-in_err-runner g c =
    let runners = flat c.self.inside.runners.blocks in
    rw (← c.self.view_is, c.from_residual.ensures)
    (ap option_copied (sym c.in_err-runner.was) ∙ c.at.ensures ∙ ap (λ (l : List Placed). slice_get l c.args.place) (runners-is runners c.self.invariant.rises c.self.invariant.once))

pub returns : goal.returns
returns g c =
    let runners = flat c.self.inside.runners.blocks in
    rw (← c.self.view_is)
    (ap Some c.runner.view_is ∙ ap option_copied (sym c.in_ok-runner.was) ∙ c.at.ensures ∙ ap (λ (l : List Placed). slice_get l c.args.place) (runners-is runners c.self.invariant.rises c.self.invariant.once))
