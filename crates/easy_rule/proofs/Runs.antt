-- The starts of many seconds, each from the state that the last one left.
use Rattle.std.proofs.Common.{◌≡◌, ℕ, zero, suc, ◌+◌, List, [], ◌++◌, sym, ◌∙◌, ap, arith}
use Rattle.cluster_state.specs.State.{State, empty}
use Rattle.easy_rule.specs.declared.start.Start.{Start}
use Rattle.easy_rule.specs.Rule.{starts_at}
use Rattle.scenarios.specs.Plan.{Plan}
use Rattle.easy_rule.specs.Simulation.{ready, second, before, starts_before, bound, sim}

-- these starts and those of n seconds from t on
unfoldable pub run_from : Plan → ℕ → ℕ → State → List Start → List Start
run_from plan zero t s starts = starts
run_from plan (suc n) t s starts = run_from plan n (suc t) (second plan s t) (starts ++ starts_at (ready plan s t) t)

pub run_from-before : (plan : Plan) (n t : ℕ) → run_from plan n t (before plan t) (starts_before plan t) ≡ starts_before plan (n + t)
unfolding run_from before starts_before
run_from-before plan zero t = ap (starts_before plan) (let e : t ≡ 0 + t = omega arith in e)
run_from-before plan (suc n) t = run_from-before plan n (suc t) ∙ ap (starts_before plan) (let e : n + suc t ≡ suc n + t = omega arith in e)

-- a simulation is all its seconds run one after another, from an empty machine on
pub sim-run_from : (plan : Plan) → sim plan ≡ run_from plan (bound plan + 1) 0 (empty plan.procs plan.order) []
unfolding before starts_before
sim-run_from plan = ap (starts_before plan) (let e : bound plan + 1 ≡ bound plan + 1 + 0 = omega arith in e) ∙ sym (run_from-before plan (bound plan + 1) 0)
