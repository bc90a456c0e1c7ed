-- Those that end leave.
use Rattle.std.proofs.Common.{◌≡◌, ℕ, ◌^◌, ◌<◌, ◌≤◌, Bool, cond, not, nat_eq, All, arith, subst, sym, ◌∙◌}
use Rattle.std.proofs.lemmas.List.Elements.{All-filter}
use Rattle.scenarios.specs.Job.{IsWithinLimits}
use Rattle.scenarios.specs.declared.placed.Placed.{Placed}
use Rattle.scenarios.specs.Placed.{real_end}
use Rattle.cluster_state.specs.State.{State, IsSound, ended_until}
use Rattle.cluster_state.proofs.Lemmas.{sum_by-filter-le}
use Rattle.easy_rule.specs.Simulation.{before, ended}
use Rattle.scenarios.specs.Plan.{Plan}
use Rattle.scenarios.specs.SoundPlan.{IsPlan}
use Rattle.timeline.proofs.Lemmas.{run-before, ended-is}

-- a sound state stays sound when those leave that end at a second
pub sound-ended : (s : State) (t : ℕ) → IsSound s → IsSound (ended s t)
sound-ended s t h =
    let keeps : Placed → Bool = λ r. not (nat_eq (real_end r) t) in
    record {
      limited = h.limited;
      fits = omega (arith, h.fits, sum_by-filter-le (λ (r : Placed). r.job.size) keeps s.running);
      once = λ n. omega (arith, h.once n, sum_by-filter-le (λ (r : Placed). cond (nat_eq r.job.number n) 1 0) keeps s.running);
      waiting_fit = h.waiting_fit;
      waiting_limits = h.waiting_limits;
      running_limits = All-filter keeps (λ r. IsWithinLimits r.job) s.running h.running_limits;
      started = All-filter keeps (λ r. r.start < 2 ^ 49) s.running h.started;
    }

-- of the state before t, to let go those that end at t is to let go those that end by t
pub ended-until-is : (plan : Plan) (s s' : State) (t : ℕ) → t ≤ 2 ^ 49 → IsPlan plan → s ≡ before plan t → s' ≡ ended s t → s' ≡ ended_until s t
ended-until-is plan s s' t small p e f =
    f ∙ sym (ended-is s t (subst (λ (z : State). All (λ r. t ≤ real_end r) z.running) (sym e) (run-before plan t small p).lasting))
