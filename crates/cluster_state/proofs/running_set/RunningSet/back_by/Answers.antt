use Rattle.std.proofs.Common.{◌+◌, ◌∙◌, ℕ, ap, arith, sym, take}
use Rattle.std.proofs.lemmas.List.Sums.{sum_by-take-le}
use Rattle.blocks.specs.Rows.{flat, place_in}
use Rattle.scenarios.specs.declared.placed.Placed.{Placed}
use Rattle.scenarios.specs.Placed.{expected_end}
use Rattle.cluster_state.specs.Capacities.{RunningView}
use Rattle.cluster_state.specs.State.{back_by, busy}
use Rattle.cluster_state.proofs.NumberLemmas.{sum_by-by_number}
use Rattle.cluster_state.proofs.PastLemmas.{ended-weigh}
use Rattle.cluster_state.proofs.running_set.RunningSet.back_by.Goals as goal

pub overflow_cast-result : goal.overflow_cast-result
overflow_cast-result g c =
    let size : Placed → ℕ = λ r. r.job.size in
    let rs = flat c.self.inside.runners.blocks in
    let most = sum_by-take-le size rs (place_in expected_end (λ r. r.job.number) (c.from.result + 1) 0 rs) in
    let all = sum_by-by_number size rs in
    let same = ap (λ (v : RunningView). busy v.running) c.self.view_is in
    omega (arith, c.weight_before.ensures, most, all, same, c.requires)

pub returns-clause-value : goal.returns-clause-value
returns-clause-value g c =
    let rs = flat c.self.inside.runners.blocks in
    rw (← c.self.view_is)
    (c.weight_before.ensures ∙ ap (λ (n : ℕ). busy (take (place_in expected_end (λ r. r.job.number) (n + 1) 0 rs) rs)) c.from.ensures ∙ ended-weigh c.args.t rs c.self.invariant.rises ∙ sym (sum_by-by_number (back_by c.args.t) rs))

pub returns-clause-most : goal.returns-clause-most
returns-clause-most g c =
    let size : Placed → ℕ = λ r. r.job.size in
    let rs = flat c.self.inside.runners.blocks in
    let most = sum_by-take-le size rs (place_in expected_end (λ r. r.job.number) (c.from.result + 1) 0 rs) in
    rw (← c.self.view_is) (omega (arith, c.weight_before.ensures, most, sum_by-by_number size rs))
