use Rattle.std.proofs.Common.{◌≡◌, ◌+◌, ◌-◌, ◌≤◌, ◌<◌, ◌^◌, ◌↔◌, ℕ, min, All, take}
use Rattle.scenarios.specs.PlanView.{plan_in}
use Rattle.rejoin.specs.Started.{starts_of, EachHasEnded}
use Rattle.rejoin.proofs.own_starts.note_touched.Given as goal

abbrev pub invariant-loop-start : goal.invariant-loop-start
invariant-loop-start g l = record {
  started : l.started ≡ min (l.fn.started + starts_of l.change.touched (take l.start-index l.new)) (2 ^ 64 - 1);
  ended : All (λ x. x.at < 2 ^ 49) l.new → (t : ℕ) → (l.ended ≤ t) ↔ ((l.fn.ended ≤ t) × EachHasEnded l.change.touched (plan_in l.plan).jobs (take l.start-index l.new) t);
}
