-- The seconds of all starts.
use Rattle.std.proofs.Common.{◌≡◌, ℕ, zero, suc, ◌+◌, ◌^◌, ◌≤◌, ◌<◌, List, length, All, arith, subst, sym}
use Rattle.std.proofs.lemmas.List.Elements.{All-nil, All-append, All-weaker}
use Rattle.scenarios.specs.Plan.{Plan}
use Rattle.easy_rule.specs.declared.start.Start.{Start}
use Rattle.easy_rule.specs.Simulation.{before, starts_before, starts_in, ready, bound, sim}
use Rattle.scenarios.specs.SoundPlan.{IsPlan}
use Rattle.timeline.specs.Laws.{AllStartByTheBound}
use Rattle.timeline.proofs.Short.{short-plan}
use Rattle.easy_rule.proofs.Lemmas.{starts-now}

-- the starts of the seconds before t come before t
pub starts-below : (plan : Plan) (t : ℕ) → All (λ (x : Start). x.at < t) (starts_before plan t)
unfolding starts_before
starts-below plan zero = All-nil (λ (x : Start). x.at < 0)
starts-below plan (suc t) =
    All-append (λ (x : Start). x.at < suc t) (starts_before plan t) (starts_in plan t)
    (All-weaker (λ (x : Start). x.at < t) (λ (x : Start). x.at < suc t) (λ x lt. omega arith) (starts_before plan t) (starts-below plan t))
    (All-weaker (λ (x : Start). x.at ≡ t) (λ (x : Start). x.at < suc t) (λ x e. omega arith) (starts_in plan t) (starts-now (length (ready plan (before plan t) t).waiting) (ready plan (before plan t) t) t))

-- no job starts after the bound
pub all-start-by-the-bound : AllStartByTheBound
all-start-by-the-bound plan h =
    All-weaker (λ (x : Start). x.at < bound plan + 1) (λ (x : Start). x.at ≤ bound plan) (λ x lt. omega arith) (sim plan) (starts-below plan (bound plan + 1))

-- all starts of a plan come before second 2^49
pub all-start-early : (plan : Plan) (starts : List Start) → IsPlan plan → starts ≡ sim plan → All (λ (x : Start). x.at < 2 ^ 49) starts
all-start-early plan starts h same =
    let short = short-plan plan h in
    subst (λ (xs : List Start). All (λ (x : Start). x.at < 2 ^ 49) xs) (sym same)
    (All-weaker (λ (x : Start). x.at ≤ bound plan) (λ (x : Start). x.at < 2 ^ 49) (λ x le. omega (arith, short)) (sim plan) (all-start-by-the-bound plan h))
