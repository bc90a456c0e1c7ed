-- Who starts first at a second.
use Rattle.std.specs.Prelude.{◌≡◌, ◌≢◌, ℕ, ◌≤◌, None, IsSomeAnd, slice_get}
use Rattle.cluster_state.specs.State.{ClusterView, free}
use Rattle.easy_rule.specs.Rule.{next}
use Rattle.easy_rule.specs.Pass.{IsPass, candidates_from}
use Rattle.easy_rule.specs.Decision.{IsAnswered}
use Rattle.easy_rule.specs.declared.first.FirstStart.{FirstStart}
use Rattle.easy_rule.specs.declared.first.FirstStart.TheVariants.{Nobody, Head, Later}

-- Nobody may start, and the state's shadow is answered. Or the first waiting job fits. Or a later one may start, and no job
-- before its place in the candidates.
abbrev pub IsFirstStart : ClusterView → ℕ → FirstStart → Type 0
IsFirstStart c now (Nobody outcome) = (next c.state now ≡ None) × IsAnswered c.state outcome
IsFirstStart c now Head = IsSomeAnd (slice_get c.state.waiting 0) (λ head. head.size ≤ free c.state)
IsFirstStart c now (Later w place) = (next c.state now ≢ None) × IsPass c.state now w (candidates_from c place)
